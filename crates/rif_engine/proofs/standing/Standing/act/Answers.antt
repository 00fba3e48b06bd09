use Rattle.std.proofs.Common.{◌≡◌, ◌∙◌, sym, ap, refl, subst, OnOk, Some}
use Rattle.prd_relation.specs.RuleSystem.{system_of}
use Rattle.prd_relation.specs.Choice.{chosen_instance}
use Rattle.prd_relation.specs.History.{moments_of}
use Rattle.prd_relation.specs.Turns.{Outcome}
use Rattle.rif_engine.specs.Standing.{Shows}
use Rattle.rif_engine.proofs.TurnLemmas.{outcome_firing, outcome_until, shows_listed}
use Rattle.rif_engine.proofs.standing.Standing.act.Goals as goal

pub returns-in-Some-clause-ok : goal.returns-in-Some-clause-ok
returns-in-Some-clause-ok c = λ s shown.
    let system = system_of c.args.doc.now in
    let chosen : chosen_instance system (moments_of system s.history) ≡ Some c.in-Some.instance =
    ap (chosen_instance system) (sym shown.moments) ∙ sym c.in_ok-instance-in-Firing.ensures.chosen ∙ c.in-Some.is in
    subst (λ (o : Outcome). OnOk c.fire.result (Shows system c.fire.new.self o.session))
    (sym (outcome_firing system s c.in-Firing.left c.in-Some.instance _ _ (sym shown.state ∙ c.in-Firing.is) chosen
    c.if-left-gt0.true))
    (c.fire.ensures.ok s (shows_listed system c.args.self.now _ s refl refl refl c.in_ok-instance-in-Firing.ensures.kept
    shown))

pub returns-in-Some-3-clause-ok : goal.returns-in-Some-3-clause-ok
returns-in-Some-3-clause-ok c = λ s shown.
    let system = system_of c.args.doc.now in
    let chosen : chosen_instance system (moments_of system s.history) ≡ Some c.in-Some-3.instance =
    ap (chosen_instance system) (sym shown.moments) ∙ sym c.in_ok-instance-in-UntilHalt.ensures.chosen
    ∙ c.in-Some-3.is in
    subst (λ (o : Outcome). OnOk c.fire-in-Some-3.result (Shows system c.fire-in-Some-3.new.self o.session))
    (sym (outcome_until system s c.in-UntilHalt.budget c.in-Some-3.instance _ _ (sym shown.state ∙ c.in-UntilHalt.is)
    chosen c.if-budget-gt0.true))
    (c.fire-in-Some-3.ensures.ok s (shows_listed system c.args.self.now _ s refl refl refl
    c.in_ok-instance-in-UntilHalt.ensures.kept shown))
