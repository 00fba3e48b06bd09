use Rattle.std.proofs.Common.{sym}
use Rattle.rif_script.proofs.SentLeafLemmas.{left_count}
use Rattle.rif_script.proofs.sent_tokens.SentTokens.len.Goals as goal

pub returns : goal.returns
returns c =
    let self = c.args.self in sym (left_count self.prefixes.now self.bytes.now self.tokens.now self.at)
