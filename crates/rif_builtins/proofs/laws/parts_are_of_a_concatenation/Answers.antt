use Rattle.rif_builtins.proofs.StringLawLemmas.{parts_of_concat}
use Rattle.rif_builtins.proofs.laws.parts_are_of_a_concatenation.Goals as goal

pub returns : goal.returns
returns c = parts_of_concat
