-- Whether the variables of a rule with numbers have names.
--     all_variables_of f               all variables that stand in a formula, those that an `Exists` declares too
--     block_variables decls actions    all variables that stand in a block, those that it declares too
--     are_below n vs                   whether these numbers are below n
-- Source: RIF-PRD, "Formulas" and "Action blocks".
use Rattle.std.specs.Prelude.{ℕ, Bool, List, ◌∷◌, ◌++◌, nat_lt}
use Rattle.std.specs.List.{list_all, flat_map}
use Rattle.rif_tree.specs.declared.tree.Formula.{Formula}
use Rattle.rif_tree.specs.declared.tree.Formula.TheOpen.{Formula-F, And as AndLayer, Or as OrLayer, Not as NotLayer}
use Rattle.rif_tree.specs.declared.tree.Formula.TheOpen.{Exists as ExistsLayer, Equal as EqualLayer}
use Rattle.rif_tree.specs.declared.tree.Formula.TheOpen.{Member as MemberLayer, Frame as FrameLayer}
use Rattle.rif_tree.specs.declared.tree.Formula.TheOpen.{Atom as AtomLayer, Holds as HoldsLayer}
use Rattle.rif_tree.specs.declared.tree.Formula.TheFolds.{fold-Formula}
use Rattle.rif_tree.specs.declared.rule.Action.{Action}
use Rattle.rif_tree.specs.declared.rule.Decl.{Decl}
use Rattle.rif_tree.specs.Variables.{variables_of, together}
use Rattle.safe_rules.specs.BlockScope.{frame_variables, decl_variable, decl_uses, action_variables}

abbrev pub all_step : Formula-F (List ℕ) → List ℕ
all_step (AndLayer members) = together members
all_step (OrLayer branches) = together branches
all_step (NotLayer inner) = inner
all_step (ExistsLayer vs inner) = vs ++ inner
all_step (EqualLayer a b) = variables_of a ++ variables_of b
all_step (MemberLayer o c) = variables_of o ++ variables_of c
all_step (FrameLayer o pairs) = frame_variables o pairs
all_step (AtomLayer p ts) = flat_map variables_of ts
all_step (HoldsLayer pred ts) = flat_map variables_of ts

abbrev pub all_variables_of : Formula → List ℕ
all_variables_of = fold-Formula (List ℕ) all_step

abbrev pub block_variables : List Decl → List Action → List ℕ
block_variables decls actions =
    flat_map (λ decl. decl_variable decl ∷ decl_uses decl) decls ++ flat_map action_variables actions

abbrev pub are_below : ℕ → List ℕ → Bool
are_below n vs = list_all (λ v. nat_lt v n) vs
