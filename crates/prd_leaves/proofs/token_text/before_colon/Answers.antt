use Rattle.prd_leaves.proofs.TokenLemmas.{colon_front}
use Rattle.prd_leaves.proofs.token_text.before_colon.Goals as goal

pub returns : goal.returns
returns c = rw c.colon_of.ensures.is (colon_front c.args.text.now)
