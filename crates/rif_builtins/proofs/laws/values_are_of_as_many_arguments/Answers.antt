use Rattle.rif_builtins.proofs.CountedLemmas.{all_counted}
use Rattle.rif_builtins.proofs.laws.values_are_of_as_many_arguments.Goals as goal

pub returns : goal.returns
returns c = all_counted
