-- The words of the clauses by which a block is evaluated. No clause of another crate cites this module.
--     fact_change use f        what an action does with a fact, as a change
--     frame_change use o s v   what an action does with an object's slot and a value, as a change
--     slot_change              one change for a pair of a slot and its value, where they have values
--     value_of_first frames       the value of the first of some frames
--     HasMadeAtMost n block    the block tells of at most n objects
-- Source: RIF-PRD, "Action blocks".
use Rattle.std.specs.Prelude.{ℕ, ◌≤◌, List, [], ◌∷◌, Some, None}
use Rattle.std.specs.Option.{option_and_then}
use Rattle.std.specs.declared.option.Option.{Option}
use Rattle.rif_values.specs.declared.constant.Const.{Const}
use Rattle.rif_values.specs.declared.fact.Fact.{Fact}
use Rattle.rif_values.specs.declared.fact.Fact.TheVariants.{Atom, Frame, Member}
use Rattle.rif_values.specs.declared.change.Change.{Change}
use Rattle.rif_values.specs.declared.change.Change.TheVariants.{Assert as AssertChange, Retract as RetractChange}
use Rattle.rif_values.specs.declared.change.Change.TheVariants.{Modify as ModifyChange}
use Rattle.rif_tree.specs.declared.tree.Term.{Term}
use Rattle.rif_actions.specs.declared.changes.Block.{Block}
use Rattle.rif_actions.specs.declared.changes.Block.TheVariants.{Void, Changes}
use Rattle.rif_actions.specs.declared.uses.FactUse.{FactUse}
use Rattle.rif_actions.specs.declared.uses.FactUse.TheVariants.{Assert, Retract}
use Rattle.rif_actions.specs.declared.uses.FrameUse.{FrameUse}
use Rattle.rif_actions.specs.declared.uses.FrameUse.TheVariants.{Fact as FactFrame, Modify}
use Rattle.rif_builtins.specs.Values.{value_of}
use Rattle.rif_values.specs.Bindings.{Row}
use Rattle.rif_actions.specs.Blocks.{of_both}

abbrev pub fact_change : FactUse → Fact → Change
fact_change Assert fact = AssertChange fact
fact_change Retract fact = RetractChange fact

abbrev pub frame_change : FrameUse → Const → Const → Const → Change
frame_change (FactFrame way) o s v = fact_change way (Frame o s v)
frame_change Modify o s v = ModifyChange o s v

abbrev pub slot_change : (Const → Const → Const → Change) → Row → Term → Term × Term → Option Change
slot_change change row object pair =
    option_and_then (λ o. of_both (value_of row pair.0) (value_of row pair.1) (λ s v. Some (change o s v)))
    (value_of row object)

abbrev pub value_of_first : List Fact → Option Const
value_of_first [] = None
value_of_first (Atom p cs ∷ facts) = None
value_of_first (Frame o s v ∷ facts) = Some v
value_of_first (Member o c ∷ facts) = None

abbrev pub HasMadeAtMost : ℕ → Block → Type 0
HasMadeAtMost most Void = Unit {0}
HasMadeAtMost most (Changes list made) = made ≤ most
