use Rattle.std.proofs.Common.{length, ◌-◌, ◌≡◌, ◌≤◌, ◌++◌, take, drop}
use Rattle.rif_values.specs.declared.constant.Const.{Const}
use Rattle.rif_values.specs.Bindings.{bound}
use Rattle.rif_values.proofs.rows.place_of.Given as goal

abbrev pub invariant-loop-place : goal.invariant-loop-place
invariant-loop-place l = record {
  within : l.place ≤ length l.pairs;
  so_far : (c : Const) → bound l.pairs l.var c ≡ take l.place l.pairs ++ bound (drop l.place l.pairs) l.var c;
}

abbrev pub decreases-loop-place : goal.decreases-loop-place
decreases-loop-place l = length l.pairs - l.place
