use Rattle.std.proofs.Common.{◌∙◌}
use Rattle.prd_writing.specs.Canonical.{formula_spelling}
use Rattle.prd_writing.proofs.WritingLemmas.{spaced_written, all_spaced_written}
use Rattle.prd_writing.proofs.formula.push_such_that.Goals as goal

pub loop-formula-preserved : goal.loop-formula-preserved
loop-formula-preserved c = λ rest.
    spaced_written (formula_spelling c.args.names.now) c.args.formulas.now c.loop-formula.formula-index
    c.formula-item.result c.formula-item.result
    c.loop-formula.out.items c.push_formula.new.out.items c.push_bytes.new.out.items c.loop-formula-test.true
    c.formula-item.is
    c.in_ok-push_formula.ensures c.in_ok-push_bytes.ensures rest
    ∙ c.loop-formula.invariant rest

pub returns : goal.returns
returns c = λ rest.
    all_spaced_written (formula_spelling c.args.names.now) c.args.formulas.now c.loop-formula.formula-index
    c.args.out.now.items c.loop-formula.out.items c.loop-formula-test.false rest (c.loop-formula.invariant rest)
