use Rattle.std.proofs.Common.{◌≡◌, List, [], length, ap, ◌∙◌, arith}
use Rattle.session_states.specs.declared.item.Entry.{Entry}
use Rattle.prop_list.specs.Lists.{ListId}
use Rattle.prop_list.specs.SegViews.{sum_over, pushes, taker_in}
use Rattle.prop_list.specs.declared.seg.views.ClientView.{ClientView}
use Rattle.prop_list.proofs.SegEnds.{onto_empty, onto_length, onto_sum, all_left, all_named, all_of_any}
use Rattle.prop_list.proofs.seg.calls.ListPropagation.finish.Goals as goal

pub drain-requires-clause-all : goal.drain-requires-clause-all
drain-requires-clause-all g c =
    let joined = onto_empty _ _ c.args.seats.items c.args.taker.own.1 c.join_all.ensures.joined in
    let lengths = ap (λ (l : List ClientView). length l) joined in
    let count = onto_length [] c.args.seats.items in
    let same : c.args.taker.seats ≡ c.args.self.seats = ap (λ (id : ListId). id.seats) c.requires.taker in
    omega (arith, lengths, count, c.requires.all, c.join_all.ensures.same.1, c.args.taker.own.2, same)

pub drain-requires-clause-room : goal.drain-requires-clause-room
drain-requires-clause-room g c =
    let joined = onto_empty _ _ c.args.seats.items c.args.taker.own.1 c.join_all.ensures.joined in
    let sums = ap (sum_over pushes) joined in
    let pushed = onto_sum c.args.seats.items in
    let room = rw c.as_slice.ensures.value at c.in-Ok.ensures in
    let taken = ap (λ (l : List Entry). length l) c.join_all.ensures.same.0 in
    (room.0, omega (arith, sums, pushed, room.1, taken, c.args.taker.own.0))

pub returns-clause-left : goal.returns-clause-left
returns-clause-left g c =
    let joined = onto_empty _ _ c.args.seats.items c.args.taker.own.1 c.join_all.ensures.joined in
    all_left (taker_in c.drain.new.pass.me.view.client) (taker_in c.args.taker.pass.me.view.client).taken
    c.drain.new.left.items c.args.seats.items c.drain.ensures.settled (c.drain.ensures.same.0 ∙ joined)
    (rw c.join_all.ensures.same.0 at c.drain.ensures.left)

pub returns-clause-named : goal.returns-clause-named
returns-clause-named g c =
    all_named (taker_in c.drain.new.pass.me.view.client) (taker_in c.args.taker.pass.me.view.client).taken
    c.drain.new.left.items c.args.self.seats c.drain.ensures.settled
    (rw c.join_all.ensures.same.0 at c.drain.ensures.left)
    (c.drain.ensures.same.1 ∙ (c.join_all.ensures.same.1
    ∙ (c.args.taker.own.2 ∙ ap (λ (id : ListId). id.seats) c.requires.taker)))

pub returns-clause-refused : goal.returns-clause-refused
returns-clause-refused g c = all_of_any _ c.args.seats.items (λ seat. tt)

pub returns-clause-saw : goal.returns-clause-saw
returns-clause-saw g c = all_of_any _ c.args.seats.items (λ seat no. cc (no))
