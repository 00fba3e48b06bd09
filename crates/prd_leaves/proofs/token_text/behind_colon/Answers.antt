use Rattle.std.proofs.Common.{◌∙◌}
use Rattle.prd_leaves.proofs.TokenLemmas.{past_colon}
use Rattle.prd_leaves.proofs.token_text.behind_colon.Goals as goal

pub returns : goal.returns
returns c = c.behind_sign.ensures ∙ past_colon c.args.text.now c.colon_of.result c.colon_of.ensures.is
