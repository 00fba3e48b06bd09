use Rattle.rif_builtins.proofs.TruthLawLemmas.{truth_of_free}
use Rattle.rif_builtins.proofs.laws.truth_goes_by_free_variables.Goals as goal

pub returns : goal.returns
returns c = truth_of_free
