use Rattle.rif_script.proofs.LawLemmas.{cut_ends_batches}
use Rattle.rif_script.proofs.laws.cut_ends_batches.Goals as goal

pub returns : goal.returns
returns c = cut_ends_batches
