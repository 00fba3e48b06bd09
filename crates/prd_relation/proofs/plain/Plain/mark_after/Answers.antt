use Rattle.std.proofs.Common.{◌∙◌, false, List, map, length, slice_get, ap, sym, arith}
use Rattle.std.proofs.lemmas.List.{length-reverse}
use Rattle.rif_values.specs.declared.instance.Instance.{Instance}
use Rattle.prd_relation.specs.declared.mark.Mark.{Mark}
use Rattle.prd_relation.specs.declared.moment.Moment.{Moment}
use Rattle.prd_relation.specs.History.{newest_conflict_set}
use Rattle.prd_relation.specs.Layout.{mark_of}
use Rattle.prd_relation.proofs.PlainLemmas.{next_refracted, next_fired, age_within, mark_there}
use Rattle.prd_relation.proofs.plain.Plain.mark_after.Goals as goal

abbrev none : Mark
none = record { age = 0; refracted = false }

abbrev marks_of : List Moment → List Mark
marks_of ms = map (mark_of ms) (newest_conflict_set ms)

pub overflow_add-result : goal.overflow_add-result
overflow_add-result c =
    let ms = c.args.self.now in
    let at = sym (ap (λ (is : List Instance). slice_get is c.in-Some.place) c.conflict_set.ensures.instances)
    ∙ c.in-Some.ensures.some in
    let are = c.as_slice.ensures.value ∙ c.self.invariant.1 ∙ ap marks_of c.self.view_is in
    let age = ap (λ (m : Mark). m.age)
    (mark_there c.args.pick.now ms c.args.instance.now c.in-Some.place none at c.as_slice.result.now are) in
    let up = age_within ms c.args.instance.now in
    let long = ap length (sym c.self.view_is) ∙ length-reverse c.self.inside.moments.items in
    let small = c.self.inside.moments.small in
    let same = c.self.inside.moments.ok.0 in
    let room = c.self.inside.moments.ok.1 in
    omega (arith, age, up, long, small, same, room)

pub returns-then-before : goal.returns-then-before
returns-then-before c =
    let at = sym (ap (λ (is : List Instance). slice_get is c.in-Some.place) c.conflict_set.ensures.instances)
    ∙ c.in-Some.ensures.some in
    let are = c.as_slice.ensures.value ∙ c.self.invariant.1 ∙ ap marks_of c.self.view_is in
    next_refracted c.args.pick.now c.args.self.now c.args.instance.now c.in-Some.place none at c.as_slice.result.now
    are c.if-before.true

pub returns-else-before : goal.returns-else-before
returns-else-before c =
    let at = sym (ap (λ (is : List Instance). slice_get is c.in-Some.place) c.conflict_set.ensures.instances)
    ∙ c.in-Some.ensures.some in
    let are = c.as_slice.ensures.value ∙ c.self.invariant.1 ∙ ap marks_of c.self.view_is in
    next_fired c.args.pick.now c.args.self.now c.args.instance.now c.in-Some.place none at c.as_slice.result.now are
    c.has_fired.result
    c.if-before.false c.has_fired.ensures

pub place_in-requires : goal.place_in-requires
place_in-requires c = c.conflict_set.ensures.ordered
