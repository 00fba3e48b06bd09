use Rattle.rif_builtins.proofs.FormLemmas.{is_set_of_extensions}
use Rattle.rif_builtins.proofs.laws.extensions_are_a_set.Goals as goal

pub returns : goal.returns
returns c = is_set_of_extensions
