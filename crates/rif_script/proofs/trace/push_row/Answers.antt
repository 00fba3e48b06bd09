use Rattle.rif_script.specs.Trace.{text_of_variable}
use Rattle.rif_script.proofs.RowLemmas.{shown_with}
use Rattle.rif_script.proofs.trace.push_row.Goals as goal

pub loop-var-preserved : goal.loop-var-preserved
loop-var-preserved c =
    shown_with (text_of_variable c.args.rule.now c.args.row.now) c.args.out.now.items _ _ c.loop-var.var
    c.loop-var.invariant c.in_ok-push_variable.ensures
