-- Values of terms under a row.
--     value_of row t        a term's value, where it has one
--     values_of row ts      the values of some terms, where each has one
-- Source: RIF-PRD, "Terms" and "Matching substitution".
use Rattle.std.specs.Prelude.{List, [], ◌∷◌, map, Some, None}
use Rattle.std.specs.Option.{option_map}
use Rattle.std.specs.declared.option.Option.{Option}
use Rattle.rif_tree.specs.declared.builtin.Func.{Func}
use Rattle.rif_values.specs.declared.constant.Const.{Const}
use Rattle.rif_tree.specs.declared.tree.Term.{Term}
use Rattle.rif_tree.specs.declared.tree.Term.TheOpen.{Term-F, Const as ConstLayer, Var as VarLayer, Call as CallLayer}
use Rattle.rif_tree.specs.declared.tree.Term.TheFolds.{fold-Term}
use Rattle.rif_values.specs.Bindings.{Row, value_at}
use Rattle.rif_builtins.specs.Builtins.{func_value}

-- the list of these, where each is there
abbrev pub all_of : {A : Type 0} → List (Option A) → Option (List A)
all_of [] = Some []
all_of (None ∷ os) = None
all_of (Some x ∷ os) = option_map (λ xs. x ∷ xs) (all_of os)

abbrev pub call_value : Func → Option (List Const) → Option Const
call_value func None = None
call_value func (Some arguments) = func_value func arguments

-- a constant is its own value, a variable has that of the row, and a call that of its function at its arguments'
-- values
abbrev pub value_step : Row → Term-F (Option Const) → Option Const
value_step row (ConstLayer c) = Some c
value_step row (VarLayer v) = value_at row v
value_step row (CallLayer func arguments) = call_value func (all_of arguments)

abbrev pub value_of : Row → Term → Option Const
value_of row = fold-Term (Option Const) (value_step row)

abbrev pub values_of : Row → List Term → Option (List Const)
values_of row terms = all_of (map (value_of row) terms)
