-- Which formulas are ready, as they stand, for the variables that are bound: each conjunct is ready in its turn.
--     is_ready bound f           whether a formula is ready where these variables are bound. What is ready binds all
--                                its free variables, so that behind it they are bound as well
--     pattern_ready bound ts     the terms of an atom, a membership or a slot: all variables inside function terms are
--                                bound
--     equal_ready bound a b      an equality: all its variables are bound, or one side is a variable that isn't bound,
--                                and all variables of the other side are
--     slots_ready o pairs bound  a frame: it stands for its slots one by one, each a pattern of its own, which binds
--                                its variables for the slots behind it
--     each_ready parts bound     an `And`: each member, for what those before it leave bound
--     branch_ready bound all p   a branch of an `Or`: it is ready, and then all free variables of the `Or` are bound
--     part_of f                  a formula as a part of another: its free variables, and whether it is ready
-- A predicate is ready where all its variables are bound, and a `Not` where all its free variables are and its formula
-- is ready. An `Exists` is ready where its formula is: that none of its variables is bound outside is said by
-- `is_scoped`.
-- Source: RIF-PRD, "Safeness"; that readiness goes by the order of the conjuncts is our own (docs/PROFILE.md, "Ready
-- order").
use Rattle.std.specs.Prelude.{ℕ, Bool, true, false, not, ◌&&◌, ◌||◌, List, [], ◌∷◌, ◌++◌, Some, None}
use Rattle.std.specs.List.{list_all, flat_map}
use Rattle.std.specs.declared.option.Option.{Option}
use Rattle.rif_tree.specs.declared.tree.Term.{Term}
use Rattle.rif_tree.specs.declared.tree.Formula.{Formula}
use Rattle.rif_tree.specs.declared.tree.Formula.TheOpen.{Formula-F, And as AndLayer, Or as OrLayer, Not as NotLayer}
use Rattle.rif_tree.specs.declared.tree.Formula.TheOpen.{Exists as ExistsLayer, Equal as EqualLayer}
use Rattle.rif_tree.specs.declared.tree.Formula.TheOpen.{Member as MemberLayer, Frame as FrameLayer}
use Rattle.rif_tree.specs.declared.tree.Formula.TheOpen.{Atom as AtomLayer, Holds as HoldsLayer}
use Rattle.rif_tree.specs.declared.tree.Formula.TheFolds.{fold-Formula}
use Rattle.rif_tree.specs.Variables.{has_variable, has_all, without, variable_of, variables_of, called_variables_of}
use Rattle.rif_tree.specs.Variables.{variables_of_pair, slots_free}

abbrev pub pattern_ready : List ℕ → List Term → Bool
pattern_ready bound ts = list_all (λ t. has_all bound (called_variables_of t)) ts

abbrev pub is_unbound_in : List ℕ → Option ℕ → Bool
is_unbound_in bound None = false
is_unbound_in bound (Some v) = not (has_variable bound v)

-- whether a term is a variable that isn't bound
abbrev pub is_unbound_variable : List ℕ → Term → Bool
is_unbound_variable bound t = is_unbound_in bound (variable_of t)

abbrev pub equal_ready : List ℕ → Term → Term → Bool
equal_ready bound a b =
    (has_all bound (variables_of a) && has_all bound (variables_of b))
    || ((is_unbound_variable bound a && has_all bound (variables_of b))
    || (is_unbound_variable bound b && has_all bound (variables_of a)))

abbrev pub slots_ready : Term → List (Term × Term) → List ℕ → Bool
slots_ready o [] bound = true
slots_ready o (pair ∷ pairs) bound =
    pattern_ready bound (o ∷ pair.0 ∷ pair.1 ∷ [])
    && slots_ready o pairs (bound ++ (variables_of o ++ variables_of_pair pair))

pub record Part : Type 0 where
  pub free : List ℕ
  pub is_ready : List ℕ → Bool

abbrev pub free_in : List Part → List ℕ
free_in parts = flat_map Part.free parts

abbrev pub each_ready : List Part → List ℕ → Bool
each_ready [] bound = true
each_ready (part ∷ parts) bound = part.is_ready bound && each_ready parts (bound ++ part.free)

abbrev pub branch_ready : List ℕ → List ℕ → Part → Bool
branch_ready bound all part = part.is_ready bound && has_all (bound ++ part.free) all

abbrev pub branches_ready : List Part → List ℕ → Bool
branches_ready branches bound = list_all (branch_ready bound (free_in branches)) branches

abbrev pub part_step : Formula-F Part → Part
part_step (AndLayer members) = record { free = free_in members; is_ready = each_ready members }
part_step (OrLayer branches) = record { free = free_in branches; is_ready = branches_ready branches }
part_step (NotLayer inner) =
    record { free = inner.free; is_ready = λ bound. has_all bound inner.free && inner.is_ready bound }
part_step (ExistsLayer vs inner) = record { free = without vs inner.free; is_ready = inner.is_ready }
part_step (EqualLayer a b) =
    record { free = variables_of a ++ variables_of b; is_ready = λ bound. equal_ready bound a b }
part_step (MemberLayer o c) =
    record { free = variables_of o ++ variables_of c; is_ready = λ bound. pattern_ready bound (o ∷ c ∷ []) }
part_step (FrameLayer o pairs) = record { free = slots_free o pairs; is_ready = slots_ready o pairs }
part_step (AtomLayer p ts) = record { free = flat_map variables_of ts; is_ready = λ bound. pattern_ready bound ts }
part_step (HoldsLayer pred ts) =
    record { free = flat_map variables_of ts; is_ready = λ bound. has_all bound (flat_map variables_of ts) }

abbrev pub part_of : Formula → Part
part_of = fold-Formula Part part_step

abbrev pub is_ready : List ℕ → Formula → Bool
is_ready bound f = (part_of f).is_ready bound
