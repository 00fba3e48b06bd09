use Rattle.std.proofs.Common.{◌∙◌, ap, sym}
use Rattle.std.specs.List.{list_all}
use Rattle.std.proofs.lemmas.List.{take_all}
use Rattle.std.proofs.lemmas.List.Folds.{list_all_at}
use Rattle.ready_order.proofs.BoundLemmas.{bound_each, is_term_bound}
use Rattle.ready_order.proofs.readiness.+bound.Goals as goal

pub are_bound-returns-then-not-is_bound : goal.are_bound-returns-then-not-is_bound
are_bound-returns-then-not-is_bound t c =
    let bound = c.args.bound.now in
    let terms = c.args.terms.now in
    let term = c.term-item.result in
    sym (bound_each bound terms
    ∙ list_all_at (is_term_bound bound) terms c.loop-term.term-index term c.loop-term-test.true
    (ap (is_term_bound bound) (sym c.term-item.is) ∙ sym c.is_bound.ensures ∙ c.if-not-is_bound.true))

pub are_bound-returns : goal.are_bound-returns
are_bound-returns t c =
    let bound = c.args.bound.now in
    let terms = c.args.terms.now in
    let all = list_all (is_term_bound bound) in
    sym (bound_each bound terms ∙ ap all (sym (take_all c.loop-term.term-index terms c.loop-term-test.false))
    ∙ c.loop-term.invariant)
