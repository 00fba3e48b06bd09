use Rattle.std.proofs.Common.{◌∙◌, List, map, reverse, ap, sym, subst}
use Rattle.rif_values.specs.InstanceOrder.{instance_cmp}
use Rattle.rif_values.specs.Sets.{IsSet}
use Rattle.rif_match.proofs.CallerLemmas.{conflict_set_is_set}
use Rattle.prd_relation.specs.declared.moment.Moment.{Moment}
use Rattle.prd_relation.specs.Layout.{next_mark}
use Rattle.prd_relation.proofs.PlainLemmas.{marks_pushed}
use Rattle.prd_relation.proofs.plain.Plain.push.Goals as goal

pub invariant_of-self-2 : goal.invariant_of-self-2
invariant_of-self-2 c =
    let old = c.self.inside.moments.items in
    let next : Moment = record { conflict_set = c.in_ok-conflict_set.conflict_set; pick = c.args.pick } in
    marks_pushed old c.push.new.self.items next c.in_ok-marks.marks.items
    (subst (IsSet instance_cmp) (sym c.in_ok-conflict_set.ensures)
    (conflict_set_is_set c.args.doc.now c.args.facts.now.list))
    c.in_ok-push.ensures.items
    (c.in_ok-marks.ensures
    ∙ ap (λ (ms : List Moment). map (next_mark c.args.pick ms) c.as_slice.result.now) (sym c.self.view_is)
    ∙ ap (map (next_mark c.args.pick (reverse old))) c.as_slice.ensures)
