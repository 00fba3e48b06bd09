use Rattle.std.proofs.Common.{◌≡◌, drop}
use Rattle.std.specs.List.{find}
use Rattle.std.specs.Prelude.{bytes_eq}
use Rattle.rif_tree.specs.BuiltinNames.{pred_name, pred_named, preds}
use Rattle.rif_tree.proofs.builtin.Pred.named.Given as goal

abbrev pub invariant-loop-pred : goal.invariant-loop-pred
invariant-loop-pred l = find (λ pred. bytes_eq l.name (pred_name pred)) (drop l.pred-index preds) ≡ pred_named l.name
