use Rattle.prd_building.specs.Signs.{closes, term_sign}
use Rattle.prd_building.specs.Building.{term_at, terms_at, with_rest, called}
use Rattle.prd_building.proofs.BuildingLists.{items_step, items_none, after_is}
use Rattle.std.proofs.Common.{drop, refl, ◌≡◌, sym, ◌∙◌, ap, Some}
use Rattle.prd_building.specs.declared.signs.TermSign.TheVariants.{Call}
use Rattle.prd_building.proofs.terms.+term.Goals as goal

pub terms-returns-in-None : goal.terms-returns-in-None
terms-returns-in-None t c =
    items_none closes (term_at c.args.names.now c.args.most) c.loop-left.all c.args.leaves.now c.loop-left.at
    c.loop-left.left c.in_ok-term.field-0 c.closes.result _
    c.loop-left.invariant c.loop-left-test.true c.closes.ensures c.if-closes.false c.in-None.is c.in_ok-term.ensures

pub terms-loop-left-preserved : goal.terms-loop-left-preserved
terms-loop-left-preserved t c =
    items_step closes (term_at c.args.names.now c.args.most) c.loop-left.all c.push.new.self c.args.leaves.now
    c.loop-left.at c.loop-left.left c.in-Some.next _ c.in-Some.one c.in_ok-term.field-0 c.closes.result _
    c.loop-left.invariant c.loop-left-test.true refl c.closes.ensures c.if-closes.false c.in-Some.is
    c.in_ok-term.ensures c.in_ok-push-in-Some.ensures.ok

pub term_within-returns-in-Some : goal.term_within-returns-in-Some
term_within-returns-in-Some t c =
    let sign : term_sign (drop c.args.at c.args.leaves.now) ≡ Call c.in-Call.func = sym c.term_sign.ensures
    ∙ c.in-Call.is in
    let given : Some (c.in-Some.arguments, drop c.in-Some.end c.args.leaves.now)
    ≡ terms_at c.args.names.now c.args.left (drop 4 (drop c.args.at c.args.leaves.now)) =
    ap (with_rest c.args.leaves.now) (sym c.in-Some.is)
    ∙ (c.in_ok-terms-in-Call.ensures ∙ ap (terms_at c.args.names.now c.args.left) c.past-in-Call.ensures) in
    rw (sign, term_at) (rw c.past-in-Some.ensures
    (after_is (terms_at c.args.names.now c.args.left (drop 4 (drop c.args.at c.args.leaves.now)))
    c.in-Some.arguments (drop c.in-Some.end c.args.leaves.now) (called c.in-Call.func) given))
