-- Where the variables of a rule are declared and used, in the order of the text, and what holds there.
--     Occurrence                     one such place: its variable, whether it declares it, and the variables that
--                                    hold there
--     uses held vs                   places that use these variables, where held hold
--     declared held vs               a list of declarations, of which each holds from the next one on
--     occurrences_in held f          those of a formula around which held hold: what an `Exists` declares holds in
--                                    its formula
--     levels_occurrences held ls     those of some `Forall`s, outermost first: what one declares holds in its
--                                    `such that` formulas and in those inside it
--     block_occurrences held ds as   those of a block: what a declaration declares holds in the later ones and in the
--                                    actions, and not in its own terms. Its variable stands before these in the text;
--                                    that the text has it again behind them is no use of it
--     rule_occurrences rule          those of a rule: the `Forall`s, the `If` formula and the block
--     first_undeclared rule          the variable of the first use, in the text, of one that doesn't hold there; as
--                                    its place in the rule's names
--     first_repeated rule            the variable of the first declaration, in the text, of one that holds already:
--                                    inside the reach of one of the same name, or behind it in the same list
-- Two `Exists` side by side declare different variables, whatever their names.
-- Source: RIF-PRD, "Rules", "Formulas" and "Action blocks"; which place is told, and that nothing is declared where
-- it holds, is our own (docs/FORMATS.md, "Refusals").
use Rattle.std.specs.Prelude.{ℕ, Bool, true, false, not, ◌&&◌, List, [], ◌∷◌, ◌++◌, map}
use Rattle.std.specs.List.{flat_map, find}
use Rattle.std.specs.Option.{option_map, option_to_list}
use Rattle.std.specs.declared.option.Option.{Option}
use Rattle.rif_tree.specs.declared.tree.Formula.{Formula}
use Rattle.rif_tree.specs.declared.tree.Formula.TheOpen.{Formula-F, And as AndLayer, Or as OrLayer, Not as NotLayer}
use Rattle.rif_tree.specs.declared.tree.Formula.TheOpen.{Exists as ExistsLayer, Equal as EqualLayer}
use Rattle.rif_tree.specs.declared.tree.Formula.TheOpen.{Member as MemberLayer, Frame as FrameLayer}
use Rattle.rif_tree.specs.declared.tree.Formula.TheOpen.{Atom as AtomLayer, Holds as HoldsLayer}
use Rattle.rif_tree.specs.declared.tree.Formula.TheFolds.{fold-Formula}
use Rattle.rif_tree.specs.declared.tree.Level.{Level}
use Rattle.rif_tree.specs.declared.rule.Action.{Action}
use Rattle.rif_tree.specs.declared.rule.Decl.{Decl}
use Rattle.rif_tree.specs.declared.rule.Rule.{Rule}
use Rattle.rif_tree.specs.Rules.{forall_variables}
use Rattle.rif_tree.specs.Variables.{has_variable, variables_of}
use Rattle.safe_rules.specs.BlockScope.{frame_variables, decl_variable, decl_uses, action_variables}

pub record Occurrence : Type 0 where
  pub variable : ℕ
  pub declares : Bool
  pub holding : List ℕ

abbrev pub uses : List ℕ → List ℕ → List Occurrence
uses held vs = map (λ v. record { variable = v; declares = false; holding = held }) vs

abbrev pub declared : List ℕ → List ℕ → List Occurrence
declared held [] = []
declared held (v ∷ vs) = record { variable = v; declares = true; holding = held } ∷ declared (held ++ v ∷ []) vs

abbrev pub occurrences_step : Formula-F (List ℕ → List Occurrence) → List ℕ → List Occurrence
occurrences_step (AndLayer members) held = flat_map (λ member. member held) members
occurrences_step (OrLayer branches) held = flat_map (λ branch. branch held) branches
occurrences_step (NotLayer inner) held = inner held
occurrences_step (ExistsLayer vs inner) held = declared held vs ++ inner (held ++ vs)
occurrences_step (EqualLayer a b) held = uses held (variables_of a ++ variables_of b)
occurrences_step (MemberLayer o c) held = uses held (variables_of o ++ variables_of c)
occurrences_step (FrameLayer o pairs) held = uses held (frame_variables o pairs)
occurrences_step (AtomLayer p ts) held = uses held (flat_map variables_of ts)
occurrences_step (HoldsLayer pred ts) held = uses held (flat_map variables_of ts)

abbrev pub occurrences_in : List ℕ → Formula → List Occurrence
occurrences_in held f = fold-Formula (List ℕ → List Occurrence) occurrences_step f held

abbrev pub level_occurrences : List ℕ → Level → List Occurrence
level_occurrences held level =
    declared held level.vars ++ flat_map (occurrences_in (held ++ level.vars)) level.such_that

abbrev pub levels_occurrences : List ℕ → List Level → List Occurrence
levels_occurrences held [] = []
levels_occurrences held (level ∷ inner) =
    level_occurrences held level ++ levels_occurrences (held ++ level.vars) inner

abbrev pub decl_occurrences : List ℕ → Decl → List Occurrence
decl_occurrences held decl = declared held (decl_variable decl ∷ []) ++ uses held (decl_uses decl)

abbrev pub block_occurrences : List ℕ → List Decl → List Action → List Occurrence
block_occurrences held [] actions = flat_map (λ action. uses held (action_variables action)) actions
block_occurrences held (decl ∷ decls) actions =
    decl_occurrences held decl ++ block_occurrences (held ++ decl_variable decl ∷ []) decls actions

abbrev pub rule_occurrences : Rule → List Occurrence
rule_occurrences rule =
    let head = forall_variables rule in
    levels_occurrences [] rule.levels
    ++ (flat_map (occurrences_in head) (option_to_list rule.condition)
    ++ block_occurrences head rule.decls rule.actions)

abbrev pub is_undeclared : Occurrence → Bool
is_undeclared o = not o.declares && not (has_variable o.holding o.variable)

abbrev pub is_repeated : Occurrence → Bool
is_repeated o = o.declares && has_variable o.holding o.variable

abbrev pub first_undeclared : Rule → Option ℕ
first_undeclared rule = option_map Occurrence.variable (find is_undeclared (rule_occurrences rule))

abbrev pub first_repeated : Rule → Option ℕ
first_repeated rule = option_map Occurrence.variable (find is_repeated (rule_occurrences rule))
