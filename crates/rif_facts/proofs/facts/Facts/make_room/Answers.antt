use Rattle.std.proofs.Common.{◌∙◌, ap}
use Rattle.rif_facts.proofs.ReadyLemmas.{absent_before, list_made, ready_made, list_back}
use Rattle.rif_facts.proofs.facts.Facts.make_room.Goals as goal

pub put_all-requires-clause-new : goal.put_all-requires-clause-new
put_all-requires-clause-new c =
    absent_before c.self.inside.indexed c.self.inside.ready c.args.ready c.as_slice.result.now c.args.self.now.list
    c.self.invariant (ap (λ v. v.room) c.self.view_is ∙ c.requires.none)
    (c.as_slice.ensures ∙ ap (λ d. d.added) c.ready.view_is) (ap (λ v. v.list) c.self.view_is) c.requires.change

pub invariant_of-self : goal.invariant_of-self
invariant_of-self c =
    ready_made c.self.inside.indexed c.self.inside.ready c.args.ready c.as_slice.result.now c.args.self.now.list
    c.self.invariant (ap (λ v. v.room) c.self.view_is ∙ c.requires.none)
    (c.as_slice.ensures ∙ ap (λ d. d.added) c.ready.view_is) (ap (λ v. v.list) c.self.view_is) c.requires.change
    c.put_all.new.self c.in-Ok.ensures.marked c.in-Ok.ensures.ok

pub returns-in-Ok-clause-list : goal.returns-in-Ok-clause-list
returns-in-Ok-clause-list c =
    list_made c.self.inside.indexed c.self.inside.ready c.args.ready c.as_slice.result.now c.args.self.now.list
    c.self.invariant (ap (λ v. v.room) c.self.view_is ∙ c.requires.none)
    (c.as_slice.ensures ∙ ap (λ d. d.added) c.ready.view_is) (ap (λ v. v.list) c.self.view_is) c.requires.change
    c.put_all.new.self c.in-Ok.ensures.marked c.in-Ok.ensures.ok

pub returns-in-Err-clause-list : goal.returns-in-Err-clause-list
returns-in-Err-clause-list c =
    let added = ap (λ d. d.added) c.ready.view_is in
    list_back c.self.inside.indexed c.self.inside.ready c.args.ready c.as_slice.result.now c.args.self.now.list
    c.self.invariant (ap (λ v. v.room) c.self.view_is ∙ c.requires.none) (c.as_slice.ensures ∙ added)
    (ap (λ v. v.list) c.self.view_is) c.requires.change c.take_all.new.self c.take_all.ensures.marked
    c.put_all.new.self c.as_slice-in-Err.result.now (c.as_slice-in-Err.ensures ∙ added) c.in-Err.ensures.err
    c.take_all.ensures.marks
