use Rattle.rif_builtins.proofs.TruthLawLemmas.{extension_true}
use Rattle.rif_builtins.proofs.laws.extensions_are_where_it_is_true.Goals as goal

pub returns : goal.returns
returns c = extension_true
