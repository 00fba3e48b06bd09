use Rattle.rif_builtins.proofs.FormLemmas.{is_of_both}
use Rattle.rif_builtins.proofs.laws.lists_are_taken_together.Goals as goal

pub returns : goal.returns
returns c = is_of_both
