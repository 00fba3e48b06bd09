use Rattle.rif_builtins.proofs.NumberLawLemmas.{comparisons_opposite}
use Rattle.rif_builtins.proofs.laws.comparisons_are_opposite.Goals as goal

pub returns : goal.returns
returns c = comparisons_opposite
