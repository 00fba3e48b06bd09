use Rattle.rif_builtins.proofs.EqualLemmas.{equality_exact}
use Rattle.rif_builtins.proofs.laws.an_equality_is_the_one_binding.Goals as goal

pub returns : goal.returns
returns c = equality_exact
