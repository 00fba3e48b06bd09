use Rattle.std.proofs.Common.{◌≡◌, [], ◌<◌, ◌+◌, ◌^◌, length, sym, arith}
use Rattle.prd_recognition.proofs.BoundLemmas.{has_rooms}
use Rattle.prd_recognition.proofs.HaltingLemmas.{StandsAt, stands_at, clear_more, followed_more, halts_refused}
use Rattle.prd_recognition.proofs.HaltingLemmas.{halts_unexpected, named_more, passes, seen_more}
use Rattle.prd_recognition.proofs.recognizing.recognize_from.Goals as goal

pub returns-then-not-branch : goal.returns-then-not-branch
returns-then-not-branch c =
    let l = c.loop-place in
    let inside : l.place < length c.args.leaves.now = omega arith in
    let at : StandsAt c.args.leaves.now l.place c.index-leaves-place.result =
    stands_at c.args.leaves.now l.place _ _ inside c.index-leaves-place.is in
    rw c.unexpected-cause.ensures
    (halts_unexpected c.args.leaves.now l.place _ l.stack.items inside at l.invariant.followed l.invariant.clear
    (rw c.if-not-branch.true at c.in_ok-advance.ensures))

pub returns-in-Some : goal.returns-in-Some
returns-in-Some c =
    let l = c.loop-place in
    let inside : l.place < length c.args.leaves.now = omega arith in
    let at : StandsAt c.args.leaves.now l.place c.index-leaves-place.result =
    stands_at c.args.leaves.now l.place _ _ inside c.index-leaves-place.is in
    halts_refused c.args.leaves.now l.place _ l.stack.items _ _ _ inside at l.invariant.followed l.invariant.clear
    (rw c.if-not-branch.false at c.in_ok-advance.ensures) l.invariant.seen (sym c.in-Some.ensures)

pub loop-place-preserved : goal.loop-place-preserved
loop-place-preserved c =
    let l = c.loop-place in
    let inside : l.place < length c.args.leaves.now = omega arith in
    let at : StandsAt c.args.leaves.now l.place c.index-leaves-place.result =
    stands_at c.args.leaves.now l.place _ _ inside c.index-leaves-place.is in
    record {
      followed = followed_more c.args.leaves.now l.place _ l.stack.items _ inside at l.invariant.followed
          (rw c.if-not-branch.false at c.in_ok-advance.ensures);
      seen = seen_more c.args.leaves.now l.place _ _ _ inside at l.invariant.seen c.in_ok-ended.ensures.0;
      clear = clear_more c.args.leaves.now l.place _ _ at l.invariant.clear l.invariant.seen
          (sym c.in_default.ensures);
      read = named_more c.args.leaves.now l.place _ _ _ _ _ inside at l.invariant.seen l.invariant.read
          c.in_ok-ended.ensures.1 c.in_ok-put_ended.ensures;
    }

pub go_on-requires-clause-arguments : goal.go_on-requires-clause-arguments
go_on-requires-clause-arguments c =
    let fits : c.loop-place.place + 1 < 2 ^ 64 = omega arith in
    (has_rooms c.args.leaves.now c.loop-place.place _ (omega arith) fits c.loop-place.invariant.seen).arguments

pub go_on-requires-clause-rules : goal.go_on-requires-clause-rules
go_on-requires-clause-rules c =
    let fits : c.loop-place.place + 1 < 2 ^ 64 = omega arith in
    (has_rooms c.args.leaves.now c.loop-place.place _ (omega arith) fits c.loop-place.invariant.seen).rules

pub go_on-requires-clause-rule : goal.go_on-requires-clause-rule
go_on-requires-clause-rule c =
    let fits : c.loop-place.place + 1 < 2 ^ 64 = omega arith in
    (has_rooms c.args.leaves.now c.loop-place.place _ (omega arith) fits c.loop-place.invariant.seen).rule

pub returns-then-is_done : goal.returns-then-is_done
returns-then-is_done c =
    let none : c.loop-place.stack.items ≡ [] = rw c.if-is_done.true at c.is_done.ensures in
    passes c.args.leaves.now c.loop-place.place c.loop-place.stack.items c.loop-place.names (omega arith)
    c.loop-place.invariant.followed c.loop-place.invariant.clear none c.loop-place.invariant.read
