use Rattle.std.proofs.Common.{◌∙◌, ap, sym}
use Rattle.std.specs.Prelude.{bytes_eq}
use Rattle.rif_tree.specs.declared.builtin.Pred.TheVariants.{NumericEqual}
use Rattle.rif_tree.specs.BuiltinNames.{pred_name, preds}
use Rattle.rif_tree.proofs.NamesLemmas.{find_next}
use Rattle.rif_tree.proofs.builtin.Pred.named.Goals as goal

pub loop-pred-preserved : goal.loop-pred-preserved
loop-pred-preserved c =
    find_next (λ pred. bytes_eq c.args.name.now (pred_name pred)) preds c.loop-pred.pred-index NumericEqual
    c.loop-pred-test.true (ap (bytes_eq c.args.name.now) (sym c.name.ensures) ∙ sym c.eq.ensures ∙ c.if-eq.false)
    ∙ c.loop-pred.invariant
