use Rattle.prd_limits.proofs.CountingDocumentLemmas.{counts}
use Rattle.prd_limits.proofs.laws.counts_are_of_trees.Goals as goal

pub returns : goal.returns
returns c = counts
