use Rattle.rif_builtins.proofs.TruthLawLemmas.{settled_by_truth}
use Rattle.rif_builtins.proofs.laws.truth_settles_extensions.Goals as goal

pub returns : goal.returns
returns c = settled_by_truth
