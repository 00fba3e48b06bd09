use Rattle.rif_builtins.proofs.NumberLawLemmas.{not_undone}
use Rattle.rif_builtins.proofs.laws.not_is_undone_by_itself.Goals as goal

pub returns : goal.returns
returns c = not_undone
