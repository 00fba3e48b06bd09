-- The variables of a block, and whether each holds where it is used.
--     frame_variables o pairs           the variables of an object with pairs of a slot and its value, in the order
--                                       of the text
--     decl_variable decl                the variable that a declaration declares
--     decl_uses decl                    the variables that it uses: those of the terms by which it gets its value
--     target_variables target           the variables of what an action asserts or retracts
--     action_variables action           the variables of an action
--     is_block_scoped held ds actions   whether, where these variables hold around a block, each variable that one of
--                                       its declarations uses holds there, none of them declares a variable that
--                                       holds already, and each variable of its actions holds. What is declared holds
--                                       in the later declarations and in the actions
-- Source: RIF-PRD, "Action blocks"; that no variable is declared where it holds is our own (docs/FORMATS.md,
-- "Refusals").
use Rattle.std.specs.Prelude.{ℕ, Bool, not, ◌&&◌, List, [], ◌∷◌, ◌++◌}
use Rattle.std.specs.List.{list_all, flat_map}
use Rattle.rif_tree.specs.declared.tree.Term.{Term}
use Rattle.rif_tree.specs.declared.rule.Action.{Action}
use Rattle.rif_tree.specs.declared.rule.Action.TheVariants.{Assert, Retract, RetractSlot, RetractObject, Modify}
use Rattle.rif_tree.specs.declared.rule.Decl.{Decl}
use Rattle.rif_tree.specs.declared.rule.Decl.TheVariants.{Slot, New}
use Rattle.rif_tree.specs.declared.rule.Target.{Target}
use Rattle.rif_tree.specs.declared.rule.Target.TheVariants.{Atom, Frame, Member}
use Rattle.rif_tree.specs.Variables.{has_variable, has_all, variables_of, variables_of_pair}

abbrev pub frame_variables : Term → List (Term × Term) → List ℕ
frame_variables o pairs = variables_of o ++ flat_map variables_of_pair pairs

abbrev pub decl_variable : Decl → ℕ
decl_variable (Slot v o s) = v
decl_variable (New v) = v

abbrev pub decl_uses : Decl → List ℕ
decl_uses (Slot v o s) = variables_of o ++ variables_of s
decl_uses (New v) = []

abbrev pub target_variables : Target → List ℕ
target_variables (Atom p ts) = flat_map variables_of ts
target_variables (Frame o pairs) = frame_variables o pairs
target_variables (Member o c) = variables_of o ++ variables_of c

abbrev pub action_variables : Action → List ℕ
action_variables (Assert target) = target_variables target
action_variables (Retract target) = target_variables target
action_variables (RetractSlot o s) = variables_of o ++ variables_of s
action_variables (RetractObject o) = variables_of o
action_variables (Modify o pairs) = frame_variables o pairs

abbrev pub is_block_scoped : List ℕ → List Decl → List Action → Bool
is_block_scoped held [] actions = list_all (λ action. has_all held (action_variables action)) actions
is_block_scoped held (decl ∷ decls) actions =
    (has_all held (decl_uses decl) && not (has_variable held (decl_variable decl)))
    && is_block_scoped (held ++ decl_variable decl ∷ []) decls actions
