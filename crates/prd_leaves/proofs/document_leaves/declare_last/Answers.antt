use Rattle.std.proofs.Common.{[]}
use Rattle.prd_leaves.specs.LeafSteps.{front_from}
use Rattle.prd_leaves.proofs.LeafLemmas.{front_last}
use Rattle.prd_leaves.proofs.document_leaves.declare_last.Goals as goal

pub returns-in-Some : goal.returns-in-Some
returns-in-Some c =
    rw (front_last c.args.found.now c.in-Some.field-0-1.now c.in-Some.last.now c.in-Some.ensures.cases.0)
    (c.declare_word.ensures (front_from [] c.in-Some.field-0-1.now))
