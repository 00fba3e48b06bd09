use Rattle.prd_relation.proofs.DisposeLemmas.{disposed_by_dispose}
use Rattle.prd_relation.proofs.laws.a_session_is_disposed_by_a_dispose.Goals as goal

pub returns : goal.returns
returns c = disposed_by_dispose
