-- What a rule's block does to a state of facts: the changes of its actions, in order.
--     after_decls w decls s     the row and the number of objects made, after some declarations
--     changes_of row actions    the changes of some actions, where every term has a value
--     block_of rule row w k     the block at the state w, where k objects were made before: void, or its changes
-- Source: RIF-PRD, "Action blocks" and "Operational semantics of atomic actions"; the objects that `New` makes, the
-- least value of a declared slot and void blocks are the project's own (docs/PROFILE.md, "Actions").
use Rattle.std.specs.Prelude.{ℕ, ◌+◌, ◌^◌, ◌&&◌, List, [], ◌∷◌, map, slice_get, nat_lt, Some, None, if◌then◌else◌}
use Rattle.std.specs.List.{filter_map, flat_map}
use Rattle.std.specs.Option.{option_map, option_and_then}
use Rattle.std.specs.declared.option.Option.{Option}
use Rattle.rif_values.specs.declared.constant.Const.{Const}
use Rattle.rif_values.specs.declared.constant.Const.TheVariants.{Fresh}
use Rattle.rif_values.specs.declared.fact.Fact.{Fact}
use Rattle.rif_values.specs.declared.fact.Fact.TheVariants.{Atom, Frame, Member}
use Rattle.rif_values.specs.declared.change.Change.{Change}
use Rattle.rif_values.specs.declared.change.Change.TheVariants.{Assert as AssertChange, Retract as RetractChange}
use Rattle.rif_values.specs.declared.change.Change.TheVariants.{RetractSlot as RetractSlotChange}
use Rattle.rif_values.specs.declared.change.Change.TheVariants.{RetractObject as RetractObjectChange}
use Rattle.rif_values.specs.declared.change.Change.TheVariants.{Modify as ModifyChange}
use Rattle.rif_tree.specs.declared.tree.Term.{Term}
use Rattle.rif_tree.specs.declared.rule.Target.{Target}
use Rattle.rif_tree.specs.declared.rule.Target.TheVariants.{Atom as AtomTarget, Frame as FrameTarget}
use Rattle.rif_tree.specs.declared.rule.Target.TheVariants.{Member as MemberTarget}
use Rattle.rif_tree.specs.declared.rule.Action.{Action}
use Rattle.rif_tree.specs.declared.rule.Action.TheVariants.{Assert, Retract, RetractSlot, RetractObject, Modify}
use Rattle.rif_tree.specs.declared.rule.Decl.{Decl}
use Rattle.rif_tree.specs.declared.rule.Decl.TheVariants.{Slot, New}
use Rattle.safe_rules.specs.declared.safe_rule.SafeRule.{SafeRule}
use Rattle.rif_values.specs.Facts.{same_const}
use Rattle.rif_actions.specs.declared.changes.Block.{Block}
use Rattle.rif_actions.specs.declared.changes.Block.TheVariants.{Void, Changes}
use Rattle.rif_actions.specs.declared.scope.Scope.{Scope}
use Rattle.rif_builtins.specs.Values.{all_of, value_of, values_of}
use Rattle.rif_values.specs.Bindings.{Row, bound}

-- the value, where the fact is a frame of the object and slot
abbrev pub slot_value : Const → Const → Fact → Option Const
slot_value o s (Atom p cs) = None
slot_value o s (Frame p t v) = if same_const o p && same_const s t then Some v else None
slot_value o s (Member p c) = None

-- the least value of an object's slot: the frames of one object and slot stand in order of their values
abbrev pub least_value : List Fact → Const → Const → Option Const
least_value w o s = slice_get (filter_map (slot_value o s) w) 0

-- f of two values, where both are there
abbrev pub of_both : {A : Type 0} → Option Const → Option Const → (Const → Const → Option A) → Option A
of_both None d f = None
of_both (Some c) None f = None
of_both (Some c) (Some d) f = f c d

abbrev pub after_decl : List Fact → Decl → Scope → Option Scope
after_decl w (Slot var object slot) scope =
    option_map (λ c. record { row = bound scope.row var c; made = scope.made })
    (of_both (value_of scope.row object) (value_of scope.row slot) (least_value w))
after_decl w (New var) scope =
    if nat_lt scope.made (2 ^ 63)
    then Some (record { row = bound scope.row var (Fresh scope.made); made = scope.made + 1 })
    else None

abbrev pub after_decls : List Fact → List Decl → Scope → Option Scope
after_decls w [] scope = Some scope
after_decls w (decl ∷ decls) scope = option_and_then (after_decls w decls) (after_decl w decl scope)

-- one change for each pair of a slot and its value
abbrev pub slot_changes : (Const → Const → Const → Change) → Row → Term → List (Term × Term) → Option (List Change)
slot_changes change row object pairs =
    all_of (map (λ pair. option_and_then
    (λ o. of_both (value_of row pair.0) (value_of row pair.1) (λ s v. Some (change o s v))) (value_of row object))
    pairs)

-- one change for each fact that a target stands for
abbrev pub target_changes : (Fact → Change) → Row → Target → Option (List Change)
target_changes change row (AtomTarget p ts) = option_map (λ cs. change (Atom p cs) ∷ []) (values_of row ts)
target_changes change row (FrameTarget object pairs) = slot_changes (λ o s v. change (Frame o s v)) row object pairs
target_changes change row (MemberTarget object class) =
    of_both (value_of row object) (value_of row class) (λ o c. Some (change (Member o c) ∷ []))

abbrev pub action_changes : Row → Action → Option (List Change)
action_changes row (Assert target) = target_changes AssertChange row target
action_changes row (Retract target) = target_changes RetractChange row target
action_changes row (RetractSlot object slot) =
    of_both (value_of row object) (value_of row slot) (λ o s. Some (RetractSlotChange o s ∷ []))
action_changes row (RetractObject object) = option_map (λ o. RetractObjectChange o ∷ []) (value_of row object)
action_changes row (Modify object pairs) = slot_changes ModifyChange row object pairs

abbrev pub changes_of : Row → List Action → Option (List Change)
changes_of row actions = option_map (flat_map (λ changes. changes)) (all_of (map (action_changes row) actions))

-- a block is void where a term that it needs has no value
abbrev pub block_in : List Action → Option Scope → Block
block_in actions None = Void
block_in actions (Some scope) = elim (changes_of scope.row actions) [
  | None ↦ Void
  | Some changes ↦ Changes changes scope.made
]

abbrev pub block_of : SafeRule → Row → List Fact → ℕ → Block
block_of rule row w made = block_in rule.actions (after_decls w rule.decls (record { row = row; made = made }))
