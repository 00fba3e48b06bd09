use Rattle.std.proofs.Common.{◌∙◌, ap, unwrap_or}
use Rattle.rif_facts.proofs.ReadyLemmas.{done}
use Rattle.rif_facts.proofs.facts.Facts.commit.Goals as goal

pub returns-in-Some : goal.returns-in-Some
returns-in-Some c =
    let room = ap (λ v. v.room) c.self.view_is ∙ c.requires in
    let delta = c.ready.view_is ∙ ap (λ o. unwrap_or o c.in-Some.ready) (c.in-Some.ensures.value ∙ room) in
    let list =
    done c.self.inside.indexed c.count_all.new.self c.take_all.new.self c.self.inside.ready c.args.room
    c.as_slice.result.now c.as_slice-in-Some.result.now c.args.self.now.list c.self.invariant room
    (c.as_slice.ensures ∙ ap (λ d. d.added) delta) (c.as_slice-in-Some.ensures ∙ ap (λ d. d.removed) delta)
    (ap (λ v. v.list) c.self.view_is) c.take_all.ensures.marked c.count_all.ensures.marks
    c.take_all.ensures.marks in
    λ i. record { list = list i; room = c.take.ensures.after i }
