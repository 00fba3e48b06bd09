use Rattle.rif_builtins.proofs.BindingLemmas.{evaluation_binds}
use Rattle.rif_builtins.proofs.laws.evaluation_binds.Goals as goal

pub returns : goal.returns
returns c = evaluation_binds
