-- The variables of terms and formulas, as lists in order of occurrence, with repeats.
--     has_variable vs v          whether v is among the variables vs
--     has_all vs us              whether each of us is among vs
--     without vs us              those of us that aren't among vs
--     variable_of t              the variable that a term is, where it is one
--     variables_of t             a term's variables
--     called_variables_of t      those of them that stand inside a function term
--     variables_of_pair pair     the variables of a slot and its value
--     slots_free o pairs         a frame's variables: a frame stands for its slots one by one, so its object comes
--                                with each of them, and a frame without slots has none
--     free_of f                  a formula's free variables: all but those that an `Exists` declares, inside it
-- Source: RIF-PRD, "Terms" and "Formulas".
use Rattle.std.specs.Prelude.{ℕ, Bool, ◌==◌, not, List, [], ◌∷◌, ◌++◌, filter, Some, None}
use Rattle.std.specs.List.{list_any, list_all, flat_map}
use Rattle.std.specs.declared.option.Option.{Option}
use Rattle.rif_tree.specs.declared.tree.Term.{Term}
use Rattle.rif_tree.specs.declared.tree.Term.TheOpen.{Term-F, Const as ConstLayer, Var as VarLayer, Call as CallLayer}
use Rattle.rif_tree.specs.declared.tree.Term.TheFolds.{fold-Term}
use Rattle.rif_tree.specs.declared.tree.Formula.{Formula}
use Rattle.rif_tree.specs.declared.tree.Formula.TheOpen.{Formula-F, And as AndLayer, Or as OrLayer, Not as NotLayer}
use Rattle.rif_tree.specs.declared.tree.Formula.TheOpen.{Exists as ExistsLayer, Equal as EqualLayer}
use Rattle.rif_tree.specs.declared.tree.Formula.TheOpen.{Member as MemberLayer, Frame as FrameLayer}
use Rattle.rif_tree.specs.declared.tree.Formula.TheOpen.{Atom as AtomLayer, Holds as HoldsLayer}
use Rattle.rif_tree.specs.declared.tree.Formula.TheFolds.{fold-Formula}

abbrev pub has_variable : List ℕ → ℕ → Bool
has_variable vs v = list_any (λ u. u == v) vs

abbrev pub has_all : List ℕ → List ℕ → Bool
has_all vs us = list_all (has_variable vs) us

abbrev pub without : List ℕ → List ℕ → List ℕ
without vs us = filter (λ u. not (has_variable vs u)) us

-- lists, end to end
abbrev pub together : List (List ℕ) → List ℕ
together lists = flat_map (λ vs. vs) lists

abbrev pub variable_step : Term-F (Option ℕ) → Option ℕ
variable_step (ConstLayer c) = None
variable_step (VarLayer v) = Some v
variable_step (CallLayer func arguments) = None

abbrev pub variable_of : Term → Option ℕ
variable_of = fold-Term (Option ℕ) variable_step

abbrev pub variables_step : Term-F (List ℕ) → List ℕ
variables_step (ConstLayer c) = []
variables_step (VarLayer v) = v ∷ []
variables_step (CallLayer func arguments) = together arguments

abbrev pub variables_of : Term → List ℕ
variables_of = fold-Term (List ℕ) variables_step

-- a variable stands inside no function term; in every other term each variable stands inside one
abbrev pub called_variables_of : Term → List ℕ
called_variables_of t = elim (variable_of t) [ Some v ↦ [] | None ↦ variables_of t ]

abbrev pub variables_of_pair : Term × Term → List ℕ
variables_of_pair pair = variables_of pair.0 ++ variables_of pair.1

abbrev pub slots_free : Term → List (Term × Term) → List ℕ
slots_free o pairs = flat_map (λ pair. variables_of o ++ variables_of_pair pair) pairs

abbrev pub free_step : Formula-F (List ℕ) → List ℕ
free_step (AndLayer members) = together members
free_step (OrLayer branches) = together branches
free_step (NotLayer inner) = inner
free_step (ExistsLayer vs inner) = without vs inner
free_step (EqualLayer a b) = variables_of a ++ variables_of b
free_step (MemberLayer o c) = variables_of o ++ variables_of c
free_step (FrameLayer o pairs) = slots_free o pairs
free_step (AtomLayer p ts) = flat_map variables_of ts
free_step (HoldsLayer pred ts) = flat_map variables_of ts

abbrev pub free_of : Formula → List ℕ
free_of = fold-Formula (List ℕ) free_step
