use Rattle.rif_builtins.proofs.FormLemmas.{is_one_by_one}
use Rattle.rif_builtins.proofs.laws.rows_are_taken_one_by_one.Goals as goal

pub returns : goal.returns
returns c = is_one_by_one
