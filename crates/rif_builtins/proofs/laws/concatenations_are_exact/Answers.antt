use Rattle.rif_builtins.proofs.StringLawLemmas.{concats_exact}
use Rattle.rif_builtins.proofs.laws.concatenations_are_exact.Goals as goal

pub returns : goal.returns
returns c = concats_exact
