-- A rule whose variables are numbers, in place of places in its names. The `Forall` variables have the first
-- numbers, in the order of the text, then come those of `Exists` in the order of the text of the condition, and then
-- those that the block declares. So no two variables of a rule share a number, also where they share a name.
--     Scope                         variables that hold, each with its number; the innermost declaration is the last
--     number_in scope v             the number of the innermost declaration of v, and 0 where v doesn't hold
--     namings_from next vs          a list of declarations, which have the numbers from next on
--     numbered_term scope t         a term with numbers; so _pair, _target and _action
--     Numbering                     how a formula gets numbers: the variables that its `Exists` declare, in the order
--                                   of the text, and what it is with numbers where a scope is around it and its first
--                                   declaration has the number next
--     numbering_of f                that of a formula: the formulas of an `And` or `Or` have their numbers one behind
--                                   the other
--     declared_in f                 the variables that the `Exists` of a formula declare, in the order of the text
--     numbered_decls scope next ds  declarations with numbers, of which the first declares next
--     conditions_of rule            the condition of a rule as a list: the `such that` formulas of its `Forall`s,
--                                   outermost first, and then its `If` formula
--     declared_by rule              all variables that a rule declares, each at the place of its number
--     numbered_rule rule            a rule with numbers: its condition is one `And`, and its names are by number
-- Source: RIF-PRD, "Rules", for the condition; the numbers are our own (docs/FORMATS.md, "The document's tree").
use Rattle.std.specs.Prelude.{ℕ, suc, ◌+◌, ◌==◌, List, [], ◌∷◌, ◌++◌, map, length, Some, None}
use Rattle.std.specs.Prelude.{if◌then◌else◌, unwrap_or}
use Rattle.std.specs.List.{flat_map}
use Rattle.std.specs.Option.{option_to_list}
use Rattle.std.specs.declared.option.Option.{Option}
use Rattle.rif_tree.specs.declared.tree.Term.{Term}
use Rattle.rif_tree.specs.declared.tree.Term.TheOpen.{Term-F, Const as ConstLayer, Var as VarLayer, Call as CallLayer}
use Rattle.rif_tree.specs.declared.tree.Term.TheFolds.{fold-Term}
use Rattle.rif_tree.specs.declared.tree.Term.TheVariants.{Const, Var, Call}
use Rattle.rif_tree.specs.declared.tree.Formula.{Formula}
use Rattle.rif_tree.specs.declared.tree.Formula.TheVariants.{And, Or, Not, Exists, Equal, Member, Frame, Atom, Holds}
use Rattle.rif_tree.specs.declared.tree.Formula.TheOpen.{Formula-F, And as AndLayer, Or as OrLayer, Not as NotLayer}
use Rattle.rif_tree.specs.declared.tree.Formula.TheOpen.{Exists as ExistsLayer, Equal as EqualLayer}
use Rattle.rif_tree.specs.declared.tree.Formula.TheOpen.{Member as MemberLayer, Frame as FrameLayer}
use Rattle.rif_tree.specs.declared.tree.Formula.TheOpen.{Atom as AtomLayer, Holds as HoldsLayer}
use Rattle.rif_tree.specs.declared.tree.Formula.TheFolds.{fold-Formula}
use Rattle.rif_tree.specs.declared.rule.Action.{Action}
use Rattle.rif_tree.specs.declared.rule.Action.TheVariants.{Assert, Retract, RetractSlot, RetractObject, Modify}
use Rattle.rif_tree.specs.declared.rule.Decl.{Decl}
use Rattle.rif_tree.specs.declared.rule.Decl.TheVariants.{Slot, New}
use Rattle.rif_tree.specs.declared.rule.Rule.{Rule}
use Rattle.rif_tree.specs.declared.rule.Target.{Target}
use Rattle.rif_tree.specs.declared.rule.Target.TheVariants.{Atom as AtomTarget, Frame as FrameTarget}
use Rattle.rif_tree.specs.declared.rule.Target.TheVariants.{Member as MemberTarget}
use Rattle.rif_tree.specs.Rules.{forall_variables, name_of}
use Rattle.rule_scopes.specs.declared.naming.Naming.{Naming}
use Rattle.rule_scopes.specs.declared.numbered_rule.NumberedRule.{NumberedRule}
use Rattle.safe_rules.specs.BlockScope.{decl_variable}

abbrev pub Scope : Type 0
Scope = List Naming

abbrev pub numbers_of : Scope → List ℕ
numbers_of scope = map Naming.number scope

-- inner declarations come before outer ones
abbrev pub innermost : Scope → ℕ → Option ℕ
innermost [] v = None
innermost (outer ∷ inner) v =
    elim (innermost inner v) [ Some n ↦ Some n | None ↦ if outer.var == v then Some outer.number else None ]

abbrev pub number_in : Scope → ℕ → ℕ
number_in scope v = unwrap_or (innermost scope v) 0

abbrev pub namings_from : ℕ → List ℕ → Scope
namings_from next [] = []
namings_from next (v ∷ vs) = record { var = v; number = next } ∷ namings_from (suc next) vs

abbrev pub numbered_step : Term-F (Scope → Term) → Scope → Term
numbered_step (ConstLayer c) scope = Const c
numbered_step (VarLayer v) scope = Var (number_in scope v)
numbered_step (CallLayer func arguments) scope = Call func (map (λ argument. argument scope) arguments)

abbrev pub numbered_term : Scope → Term → Term
numbered_term scope t = fold-Term (Scope → Term) numbered_step t scope

abbrev pub numbered_pair : Scope → Term × Term → Term × Term
numbered_pair scope pair = (numbered_term scope pair.0, numbered_term scope pair.1)

pub record Numbering : Type 0 where
  pub declared : List ℕ
  pub form : Scope → ℕ → Formula

abbrev pub each_form : List Numbering → Scope → ℕ → List Formula
each_form [] scope next = []
each_form (one ∷ more) scope next = one.form scope next ∷ each_form more scope (next + length one.declared)

abbrev pub exists_form : List ℕ → Numbering → Scope → ℕ → Formula
exists_form vs inner scope next =
    let namings = namings_from next vs in
    Exists (numbers_of namings) (inner.form (scope ++ namings) (next + length vs))

abbrev pub numbering_step : Formula-F Numbering → Numbering
numbering_step (AndLayer members) =
    record {
      declared = flat_map Numbering.declared members;
      form = λ scope next. And (each_form members scope next);
    }
numbering_step (OrLayer branches) =
    record {
      declared = flat_map Numbering.declared branches;
      form = λ scope next. Or (each_form branches scope next);
    }
numbering_step (NotLayer inner) =
    record { declared = inner.declared; form = λ scope next. Not (inner.form scope next) }
numbering_step (ExistsLayer vs inner) =
    record { declared = vs ++ inner.declared; form = exists_form vs inner }
numbering_step (EqualLayer a b) =
    record { declared = []; form = λ scope next. Equal (numbered_term scope a) (numbered_term scope b) }
numbering_step (MemberLayer o c) =
    record { declared = []; form = λ scope next. Member (numbered_term scope o) (numbered_term scope c) }
numbering_step (FrameLayer o pairs) =
    record { declared = []; form = λ scope next. Frame (numbered_term scope o) (map (numbered_pair scope) pairs) }
numbering_step (AtomLayer p ts) =
    record { declared = []; form = λ scope next. Atom p (map (numbered_term scope) ts) }
numbering_step (HoldsLayer pred ts) =
    record { declared = []; form = λ scope next. Holds pred (map (numbered_term scope) ts) }

abbrev pub numbering_of : Formula → Numbering
numbering_of = fold-Formula Numbering numbering_step

abbrev pub declared_in : Formula → List ℕ
declared_in f = (numbering_of f).declared

abbrev pub numbered_decl : Scope → ℕ → Decl → Decl
numbered_decl scope next (Slot v o s) = Slot next (numbered_term scope o) (numbered_term scope s)
numbered_decl scope next (New v) = New next

abbrev pub numbered_decls : Scope → ℕ → List Decl → List Decl
numbered_decls scope next [] = []
numbered_decls scope next (decl ∷ decls) =
    numbered_decl scope next decl
    ∷ numbered_decls (scope ++ namings_from next (decl_variable decl ∷ [])) (suc next) decls

abbrev pub numbered_target : Scope → Target → Target
numbered_target scope (AtomTarget p ts) = AtomTarget p (map (numbered_term scope) ts)
numbered_target scope (FrameTarget o pairs) = FrameTarget (numbered_term scope o) (map (numbered_pair scope) pairs)
numbered_target scope (MemberTarget o c) = MemberTarget (numbered_term scope o) (numbered_term scope c)

abbrev pub numbered_action : Scope → Action → Action
numbered_action scope (Assert target) = Assert (numbered_target scope target)
numbered_action scope (Retract target) = Retract (numbered_target scope target)
numbered_action scope (RetractSlot o s) = RetractSlot (numbered_term scope o) (numbered_term scope s)
numbered_action scope (RetractObject o) = RetractObject (numbered_term scope o)
numbered_action scope (Modify o pairs) = Modify (numbered_term scope o) (map (numbered_pair scope) pairs)

abbrev pub conditions_of : Rule → List Formula
conditions_of rule = flat_map (λ level. level.such_that) rule.levels ++ option_to_list rule.condition

-- those that its condition declares
abbrev pub exists_variables : Rule → List ℕ
exists_variables rule = flat_map declared_in (conditions_of rule)

abbrev pub declared_by : Rule → List ℕ
declared_by rule = (forall_variables rule ++ exists_variables rule) ++ map decl_variable rule.decls

abbrev pub numbered_rule : Rule → NumberedRule
numbered_rule rule =
    let head = forall_variables rule in
    let scope = namings_from 0 head in
    let next = length (head ++ exists_variables rule) in
    record {
      names = map (name_of rule.names) (declared_by rule);
      head_vars = length head;
      condition = And (each_form (map numbering_of (conditions_of rule)) scope (length head));
      decls = numbered_decls scope next rule.decls;
      actions = map (numbered_action (scope ++ namings_from next (map decl_variable rule.decls))) rule.actions;
    }
