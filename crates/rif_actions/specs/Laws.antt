-- What the words of blocks promise: the statements of the laws in src/laws.rt.
--     IsLeastValue    of which value the least value of an object's slot is
-- Source: the least value of a declared slot is the project's own (docs/PROFILE.md, "Actions").
use Rattle.std.specs.Prelude.{◌≡◌, ◌≢◌, ◌↔◌, true, List, Some}
use Rattle.std.specs.declared.cmp.Ordering.TheVariants.{Less}
use Rattle.rif_values.specs.declared.constant.Const.{Const}
use Rattle.rif_values.specs.declared.fact.Fact.{Fact}
use Rattle.rif_values.specs.declared.fact.Fact.TheVariants.{Frame}
use Rattle.rif_values.specs.Facts.{IsFacts, has_fact}
use Rattle.rif_values.specs.Order.{const_cmp}
use Rattle.rif_actions.specs.Blocks.{least_value}

-- in a state of facts a value is the least one of an object's slot exactly where the slot has it, and each other
-- value of the slot is above it
abbrev pub IsLeastValue : Type 0
IsLeastValue = (w : List Fact) (o s v : Const) → IsFacts w
    → (least_value w o s ≡ Some v)
    ↔ ((has_fact w (Frame o s v) ≡ true)
    × ((u : Const) → has_fact w (Frame o s u) ≡ true → u ≢ v → const_cmp v u ≡ Less))
