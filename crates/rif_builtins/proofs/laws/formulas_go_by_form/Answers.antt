use Rattle.rif_builtins.proofs.FormLemmas.{goes_by_form}
use Rattle.rif_builtins.proofs.laws.formulas_go_by_form.Goals as goal

pub returns : goal.returns
returns c = goes_by_form
