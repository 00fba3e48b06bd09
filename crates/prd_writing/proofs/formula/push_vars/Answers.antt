use Rattle.std.proofs.Common.{◌∙◌}
use Rattle.prd_writing.specs.Canonical.{var_spelling}
use Rattle.prd_writing.proofs.WritingLemmas.{spaced_written, all_spaced_written}
use Rattle.std.proofs.Common.{get_or, refl}
use Rattle.prd_writing.proofs.formula.push_vars.Goals as goal

pub loop-var-preserved : goal.loop-var-preserved
loop-var-preserved c = λ rest.
    spaced_written (var_spelling c.args.names.now) c.args.vars.now c.loop-var.var-index
    (get_or c.args.vars.now c.loop-var.var-index 0) 0
    c.loop-var.out.items c.push_var.new.out.items c.push_bytes.new.out.items c.loop-var-test.true refl
    c.in_ok-push_var.ensures c.in_ok-push_bytes.ensures rest
    ∙ c.loop-var.invariant rest

pub returns : goal.returns
returns c = λ rest.
    all_spaced_written (var_spelling c.args.names.now) c.args.vars.now c.loop-var.var-index
    c.args.out.now.items c.loop-var.out.items c.loop-var-test.false rest (c.loop-var.invariant rest)
