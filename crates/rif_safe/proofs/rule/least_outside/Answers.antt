use Rattle.std.proofs.Common.{◌≡◌, ◌∙◌, ℕ, ◌-◌, suc, sym, ap, subst}
use Rattle.rif_tree.specs.Variables.{without}
use Rattle.ready_order.specs.Arranging.{least_of}
use Rattle.safe_rules.specs.Numbers.{numbers_below, numbers_from}
use Rattle.rif_safe.proofs.LeastLemmas.{all_of_it, least_found, least_passed, none_left, numbers_step}
use Rattle.rif_safe.proofs.LeastLemmas.{one_more}
use Rattle.rif_safe.proofs.rule.least_outside.Goals as goal

pub returns-then-not-has_variable : goal.returns-then-not-has_variable
returns-then-not-has_variable c =
    let v = c.loop-var.var in
    let count = c.args.count in
    sym (c.loop-var.invariant ∙ ap (λ ns. least_of (without c.args.bound.now ns))
    (numbers_step v count c.loop-var-test.true)
    ∙ least_found c.args.bound.now v (count - suc v)
    (sym c.has_variable.ensures ∙ c.if-not-has_variable.true))

pub loop-var-preserved : goal.loop-var-preserved
loop-var-preserved c =
    let v = c.loop-var.var in
    let count = c.args.count in
    subst (λ (k : ℕ). least_of (without c.args.bound.now (numbers_below count))
    ≡ least_of (without c.args.bound.now (numbers_from k (count - k)))) (one_more v)
    (c.loop-var.invariant ∙ ap (λ ns. least_of (without c.args.bound.now ns))
    (numbers_step v count c.loop-var-test.true)
    ∙ least_passed c.args.bound.now v (count - suc v)
    (sym c.has_variable.ensures ∙ c.if-not-has_variable.false))

pub loop-var-init : goal.loop-var-init
loop-var-init c =
    ap (λ k. least_of (without c.args.bound.now (numbers_from 0 k))) (all_of_it c.args.count)

pub returns : goal.returns
returns c =
    sym (c.loop-var.invariant
    ∙ ap (λ k. least_of (without c.args.bound.now (numbers_from c.loop-var.var k)))
    (none_left c.args.count c.loop-var.var c.loop-var-test.false))
