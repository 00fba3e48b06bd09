use Rattle.rif_lex.proofs.FollowLemmas.{forms_are_tokens}
use Rattle.rif_lex.proofs.laws.forms_are_tokens.Goals as goal

pub returns : goal.returns
returns c = forms_are_tokens
