use Rattle.rif_builtins.proofs.TruthLawLemmas.{true_by_form}
use Rattle.rif_builtins.proofs.laws.truth_goes_by_form.Goals as goal

pub returns : goal.returns
returns c = true_by_form
