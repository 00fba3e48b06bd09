use Rattle.std.proofs.Common.{◌∙◌, ap, sym}
use Rattle.rif_facts.proofs.ReadyLemmas.{dropped}
use Rattle.rif_facts.proofs.facts.Facts.drop_room.Goals as goal

pub returns-in-Some : goal.returns-in-Some
returns-in-Some c =
    let list =
    dropped c.self.inside.indexed c.take_all.new.self c.self.inside.ready c.in-Some.ready c.as_slice.result.now
    c.args.self.now.list c.self.invariant (sym c.in-Some.ensures.value)
    (c.as_slice.ensures ∙ ap (λ d. d.added) c.ready.view_is) (ap (λ v. v.list) c.self.view_is)
    c.take_all.ensures.marked c.take_all.ensures.marks in
    λ i. record { list = list i; room = c.take.ensures.after i }
