use Rattle.std.proofs.Common.{◌≡◌, drop}
use Rattle.std.specs.List.{find}
use Rattle.std.specs.Prelude.{bytes_eq}
use Rattle.rif_tree.specs.BuiltinNames.{func_name, func_named, funcs}
use Rattle.rif_tree.proofs.builtin.Func.named.Given as goal

abbrev pub invariant-loop-func : goal.invariant-loop-func
invariant-loop-func l = find (λ func. bytes_eq l.name (func_name func)) (drop l.func-index funcs) ≡ func_named l.name
