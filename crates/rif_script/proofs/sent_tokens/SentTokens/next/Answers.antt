use Rattle.prd_leaves.proofs.CallerLemmas.{token_at}
use Rattle.rif_script.proofs.sent_tokens.SentTokens.next.Goals as goal

pub leaf_at-requires : goal.leaf_at-requires
leaf_at-requires c =
    let self = c.args.self in token_at self.bytes.now self.tokens.now self.at _ self.lexed c.requires
