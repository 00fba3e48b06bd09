use Rattle.std.proofs.Common.{List, map, ◌∙◌, ap, sym}
use Rattle.std.specs.List.{list_all}
use Rattle.rif_tree.specs.declared.tree.Formula.{Formula}
use Rattle.ready_order.specs.Conjuncts.{conjuncts_of}
use Rattle.ready_order.specs.Shapes.{Shape, shape_of}
use Rattle.ready_order.proofs.OwnLemmas.{own_members}
use Rattle.ready_order.proofs.flattening.last_conjuncts.Goals as goal

pub returns-then-are_alone : goal.returns-then-are_alone
returns-then-are_alone c =
    let alone = ap (λ (fs : List Formula). list_all Shape.alone (map shape_of fs)) (sym c.as_slice.ensures)
    ∙ sym c.are_alone.ensures ∙ c.if-are_alone.true in
    own_members c.in-And.members alone ∙ ap conjuncts_of (sym c.in-And.is)
