use Rattle.std.proofs.lemmas.Bool.Decides.{nat_tests}
use Rattle.std.proofs.Common.{arith}
use Rattle.rif_script.proofs.SentLeafLemmas.{all_read, none_left}
use Rattle.rif_script.proofs.sent_tokens.SentTokens.is_empty.Goals as goal

pub returns : goal.returns
returns c =
    let self = c.args.self in (
      λ test. none_left self.prefixes.now self.bytes.now self.tokens.now self.at (grind (arith, nat_tests)),
      λ none. (let same = all_read self.prefixes.now self.bytes.now self.tokens.now self.at self.within none in
          grind (arith, nat_tests)),
    )
