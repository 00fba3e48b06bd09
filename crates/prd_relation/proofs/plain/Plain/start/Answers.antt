use Rattle.std.proofs.Common.{◌∙◌, List, [], ◌∷◌, ◌++◌, None, map, ap, sym, subst, take_all}
use Rattle.rif_values.specs.InstanceOrder.{instance_cmp}
use Rattle.rif_values.specs.Sets.{IsSet}
use Rattle.rif_match.proofs.CallerLemmas.{conflict_set_is_set}
use Rattle.prd_relation.specs.declared.moment.Moment.{Moment}
use Rattle.prd_relation.specs.Layout.{next_mark}
use Rattle.prd_relation.proofs.PlainLemmas.{marks_pushed}
use Rattle.prd_relation.proofs.plain.Plain.start.Goals as goal

pub invariant_of-result : goal.invariant_of-result
invariant_of-result c =
    let first : Moment = record { conflict_set = c.in_ok-conflict_set.conflict_set; pick = None } in
    marks_pushed [] c.push-2.new.self.items first c.loop.marks.items
    (subst (IsSet instance_cmp) (sym c.in_ok-conflict_set.ensures) (conflict_set_is_set c.args.doc.now _))
    (c.in_ok-push-2.ensures.items ∙ ap (λ (ms : List Moment). ms ++ first ∷ []) c.new-moments.ensures.items)
    (c.loop.invariant ∙ ap (map (next_mark None []))
    (take_all c.loop.index c.as_slice-items.result.now c.loop-test.false ∙ c.as_slice-items.ensures))
