-- The values of variables.
--     Row                       the values of some variables, as pairs of a variable and its value: what contracts
--                               see a `Binding` as
--     IsBinding row             the variables of the row rise
--     value_at row var          the value of a variable, where it has one
--     bound row var c           the row with one more variable, at its place
--     without_variables vs row  the row without some variables
-- Source: RIF-PRD, "Matching substitution".
use Rattle.std.specs.Prelude.{ℕ, ◌<◌, ◌==◌, not, nat_lt, List, [], ◌∷◌, Some, None, filter, if◌then◌else◌}
use Rattle.std.specs.List.{list_any}
use Rattle.std.specs.declared.option.Option.{Option}
use Rattle.rif_values.specs.declared.constant.Const.{Const}

abbrev pub Row : Type 0
Row = List (ℕ × Const)

-- each variable of the row is above the one before it
abbrev pub RisesFrom : ℕ → Row → Type 0
RisesFrom var [] = Unit {0}
RisesFrom var (pair ∷ row) = (var < pair.0) × RisesFrom pair.0 row

abbrev pub IsBinding : Row → Type 0
IsBinding [] = Unit {0}
IsBinding (pair ∷ row) = RisesFrom pair.0 row

abbrev pub value_at : Row → ℕ → Option Const
value_at [] var = None
value_at (pair ∷ row) var = if pair.0 == var then Some pair.1 else value_at row var

abbrev pub bound : Row → ℕ → Const → Row
bound [] var c = (var, c) ∷ []
bound (pair ∷ row) var c = if nat_lt var pair.0 then (var, c) ∷ pair ∷ row else pair ∷ bound row var c

abbrev pub without_variables : List ℕ → Row → Row
without_variables vs row = filter (λ pair. not (list_any (λ v. v == pair.0) vs)) row
