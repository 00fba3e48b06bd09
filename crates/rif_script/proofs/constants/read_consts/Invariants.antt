use Rattle.std.proofs.Common.{◌≡◌, length}
use Rattle.rif_script.specs.ReadingItems.{consts_after, consts_from}
use Rattle.rif_script.specs.SentLeaves.{seen}
use Rattle.rif_script.proofs.constants.read_consts.Given as goal

abbrev pub invariant-loop-left : goal.invariant-loop-left
invariant-loop-left l =
    consts_after l.found (consts_from l.left (seen l.rest)) ≡ consts_from (length (seen l.at)) (seen l.at)

abbrev pub decreases-loop-left : goal.decreases-loop-left
decreases-loop-left l = l.left
