use Rattle.rif_match.proofs.BoundRowLemmas.{rows_bind}
use Rattle.rif_match.proofs.laws.rows_bind_the_forall_variables.Goals as goal

pub returns : goal.returns
returns c = rows_bind
