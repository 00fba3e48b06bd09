use Rattle.std.proofs.Common.{List, map, ◌∙◌, ap, sym}
use Rattle.std.specs.List.{list_all}
use Rattle.rif_tree.specs.declared.tree.Formula.{Formula}
use Rattle.ready_order.specs.Shapes.{Shape, shape_of}
use Rattle.ready_order.proofs.OwnLemmas.{own_before}
use Rattle.ready_order.proofs.flattening.members_conjuncts.Goals as goal

pub returns-in_ok-push_last-in-Some : goal.returns-in_ok-push_last-in-Some
returns-in_ok-push_last-in-Some c =
    let before = c.pop.new.self in
    let alone = ap (λ (fs : List Formula). list_all Shape.alone (map shape_of fs)) (sym c.as_slice.ensures)
    ∙ sym c.are_alone.ensures ∙ c.if-are_alone.true in
    c.in_ok-push_last-in-Some.ensures
    ∙ own_before before c.args.members c.in-Some.last c.in-Some.ensures alone
