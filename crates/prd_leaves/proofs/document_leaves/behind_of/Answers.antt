use Rattle.std.proofs.Common.{◌∙◌, ap, sym}
use Rattle.prd_leaves.specs.LeafSteps.{behind}
use Rattle.prd_leaves.proofs.LeafLemmas.{front_last}
use Rattle.prd_leaves.proofs.document_leaves.behind_of.Goals as goal

pub returns-in-Some : goal.returns-in-Some
returns-in-Some c =
    c.behind_last.ensures
    ∙ sym (ap behind (front_last c.args.found.now c.in-Some.before.now c.in-Some.last.now c.in-Some.ensures.cases.0))
