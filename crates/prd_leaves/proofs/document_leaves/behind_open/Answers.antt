use Rattle.std.proofs.Common.{◌∙◌, ap, sym, List, [], ◌∷◌}
use Rattle.prd_grammar.specs.declared.leaf.Leaf.{Leaf}
use Rattle.prd_grammar.specs.declared.leaf.Leaf.TheVariants.{Open}
use Rattle.prd_leaves.specs.LeafSteps.{behind, front_from}
use Rattle.prd_leaves.proofs.LeafLemmas.{front_last}
use Rattle.prd_leaves.proofs.document_leaves.behind_open.Goals as goal

pub returns-in-Some : goal.returns-in-Some
returns-in-Some c =
    c.behind_word.ensures (front_from [] c.in-Some.field-0-1.now)
    ∙ sym (ap (λ (front : List Leaf). behind (Open ∷ front))
    (front_last c.args.before.now c.in-Some.field-0-1.now c.in-Some.word.now c.in-Some.ensures.cases.0))
