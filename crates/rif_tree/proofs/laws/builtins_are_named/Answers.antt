use Rattle.rif_tree.proofs.NamesLemmas.{builtins_named}
use Rattle.rif_tree.proofs.laws.builtins_are_named.Goals as goal

pub returns : goal.returns
returns c = builtins_named
