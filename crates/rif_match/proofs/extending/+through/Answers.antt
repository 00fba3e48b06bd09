use Rattle.std.proofs.Common.{◌≡◌, ◌∙◌, ◌==◌, List, [], ◌∷◌, length, filter, IfOk, ap, ap₂, sym, subst}
use Rattle.rif_values.specs.Bindings.{Row}
use Rattle.rif_tree.specs.declared.tree.Formula.{Formula}
use Rattle.rif_tree.specs.declared.tree.Term.{Term}
use Rattle.rif_builtins.specs.Extensions.{base_of, holds_at, through}
use Rattle.rif_builtins.specs.Values.{values_of}
use Rattle.rif_builtins.proofs.CallerLemmas.{through_holds, through_or}
use Rattle.rif_values.proofs.CallerLemmas.{kept_step}
use Rattle.rif_match.proofs.extending.+through.Goals as goal

pub rows_through-returns-in-Or : goal.rows_through-returns-in-Or
rows_through-returns-in-Or t c =
    rw (c.in-Or.is, through_or, ← c.as_slice-in-Or.ensures, ← c.as_slice-in-Or-2.ensures.value)
    c.rows_through_any.ensures

pub rows_through-returns-in-Holds : goal.rows_through-returns-in-Holds
rows_through-returns-in-Holds t c =
    let base = base_of c.args.facts.now.list in
    let pred = c.in-Holds.pred in
    let rows = c.args.rows.items in
    subst (λ (all : List Row). IfOk c.rows_where.result (λ found. found.items ≡ all))
    (ap₂ (λ (ts : List Term) (some : List Row). filter (λ row. holds_at pred (values_of row ts)) some)
    c.as_slice-in-Holds.ensures c.as_slice-in-Holds-2.ensures.value
    ∙ sym (through_holds base pred c.in-Holds.terms rows)
    ∙ ap (λ (f : Formula). through base f rows) (sym c.in-Holds.is))
    c.rows_where.ensures

pub rows_outside-loop-row-preserved : goal.rows_outside-loop-row-preserved
rows_outside-loop-row-preserved t c =
    kept_step (λ row. length (through (base_of c.args.facts.now.list) c.args.inner.now (row ∷ [])) == 0)
    c.args.rows.now
    c.loop-row.row-index c.row-item.result
    c.in_ok-kept.kept c.loop-row.all.items c.push_kept.new.all.items c.loop-row-test.true c.row-item.is
    c.in_ok-kept.ensures
    c.loop-row.invariant c.in_ok-push_kept.ensures
