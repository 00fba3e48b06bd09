use Rattle.std.proofs.Common.{Some, None}
use Rattle.prd_relation.specs.RuleSystem.{system_of}
use Rattle.prd_relation.proofs.PassLemmas.{goes_on, stays, ends, chosen_is_best, none_is_chosen}
use Rattle.prd_relation.proofs.choosing.best_place.Goals as goal
use Rattle.prd_relation.proofs.choosing.best_place.Goals.{then-not-mark, else-not-mark}

pub loop-place-preserved : goal.loop-place-preserved
loop-place-preserved c =
    elim c.if-not-mark.branch [
      | then-not-mark w ↦
          goes_on (system_of c.args.doc.now) c.args.history.now _ c.conflict_set-instances.ensures.instances _
          c.marks-marks.ensures c.loop-place.place c.loop-place.best _ _ c.loop-place-test.true
          c.index-instances-place.is c.loop-place.invariant _ _ _ w.rank_at-rank.ensures w.better_of.ensures w.best-is
          w.if-not-mark.true
      | else-not-mark w ↦
          stays (system_of c.args.doc.now) c.args.history.now _ c.conflict_set-instances.ensures.instances _
          c.marks-marks.ensures c.loop-place.place c.loop-place.best _ _ c.loop-place-test.true
          c.index-instances-place.is c.loop-place.invariant _ w.best-is w.if-not-mark.false
    ]

pub returns-in-Some-clause-some : goal.returns-in-Some-clause-some
returns-in-Some-clause-some c =
    chosen_is_best (system_of c.args.doc.now) c.args.history.now c.in-Some.best
    (ends (system_of c.args.doc.now) c.args.history.now _ c.conflict_set-instances.ensures.instances _
    c.marks-marks.ensures c.loop-place.place c.loop-place.best _ c.loop-place-test.false c.in-Some.is
    c.loop-place.invariant)

pub returns-in-None-clause-none : goal.returns-in-None-clause-none
returns-in-None-clause-none c =
    none_is_chosen (system_of c.args.doc.now) c.args.history.now
    (ends (system_of c.args.doc.now) c.args.history.now _ c.conflict_set-instances.ensures.instances _
    c.marks-marks.ensures c.loop-place.place c.loop-place.best _ c.loop-place-test.false c.in-None.is
    c.loop-place.invariant)
