use Rattle.rif_match.proofs.BoundRowLemmas.{go_by_truth}
use Rattle.rif_match.proofs.laws.instances_go_by_truth.Goals as goal

pub returns : goal.returns
returns c = go_by_truth
