use Rattle.std.proofs.Common.{◌++◌, ◌∙◌, ◌∷◌}
use Rattle.rif_lex.specs.Spelling.{spelled_text, gap_text, joined}
use Rattle.prd_writing.specs.Canonical.{opening, closing, formula_spelling}
use Rattle.prd_writing.proofs.WritingLemmas.{item_written, items_written}
use Rattle.prd_writing.proofs.formula.+formula_writing.Goals as goal

pub push_formulas-loop-formula-preserved : goal.push_formulas-loop-formula-preserved
push_formulas-loop-formula-preserved t c = λ rest.
    item_written (formula_spelling c.args.names.now) c.args.formulas.now c.loop-formula.formula-index
    c.formula-item.result c.loop-formula.is_first
    c.loop-formula.out.items c.push_space.new.out.items c.push_formula.new.out.items c.loop-formula-test.true
    c.formula-item.is
    c.in_ok-push_space.ensures c.in_ok-push_formula.ensures rest
    ∙ c.loop-formula.invariant rest

pub push_formulas-returns : goal.push_formulas-returns
push_formulas-returns t c = λ rest.
    items_written (formula_spelling c.args.names.now) c.args.formulas.now c.loop-formula.formula-index
    c.loop-formula.is_first
    c.args.out.now.items c.loop-formula.out.items c.loop-formula-test.false rest (c.loop-formula.invariant rest)

pub push_members-returns : goal.push_members-returns
push_members-returns t c = λ gap rest.
    c.in_ok-push_bytes-3.ensures (gap_text gap ++ spelled_text rest)
    ∙ (c.in_ok-push_formulas.ensures (closing gap ∷ rest)
    ∙ (c.in_ok-push_bytes-2.ensures _ ∙ c.in_ok-push_bytes.ensures _))

pub push_not-returns : goal.push_not-returns
push_not-returns t c = λ gap rest.
    c.in_ok-push_bytes-2.ensures (gap_text gap ++ spelled_text rest)
    ∙ (c.in_ok-push_formula.ensures joined (closing gap ∷ rest) ∙ c.in_ok-push_bytes.ensures _)

pub push_exists-returns : goal.push_exists-returns
push_exists-returns t c = λ gap rest.
    c.in_ok-push_bytes-3.ensures (gap_text gap ++ spelled_text rest)
    ∙ (c.in_ok-push_formula.ensures joined (closing gap ∷ rest)
    ∙ (c.in_ok-push_bytes-2.ensures _
    ∙ (c.in_ok-push_vars.ensures
    (opening ∷ formula_spelling c.args.names.now c.args.inner.now joined (closing gap ∷ rest))
    ∙ c.in_ok-push_bytes.ensures _)))
