use Rattle.rif_builtins.proofs.NumberLawLemmas.{divisions_exact}
use Rattle.rif_builtins.proofs.laws.divisions_are_exact.Goals as goal

pub returns : goal.returns
returns c = divisions_exact
