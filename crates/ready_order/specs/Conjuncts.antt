-- The conjuncts of a formula: what is put into a ready order.
--     conjuncts_of f      the members of an `And`, those of an `And` inside it in its place; the slots of a frame,
--                         each a frame of its own; any other formula alone. Inside `Or`, `Not` and `Exists` each
--                         formula stands as the `And` of its own conjuncts
--     slots_of o pairs    the frames that a frame stands for, one a slot
-- Source: RIF-PRD, "Formulas"; that a frame's slots are conjuncts of their own is our own (docs/PROFILE.md, "Ready
-- order").
use Rattle.std.specs.Prelude.{List, [], ◌∷◌, map}
use Rattle.std.specs.List.{flat_map}
use Rattle.rif_tree.specs.declared.tree.Term.{Term}
use Rattle.rif_tree.specs.declared.tree.Formula.{Formula}
use Rattle.rif_tree.specs.declared.tree.Formula.TheVariants.{And, Or, Not, Exists, Equal, Member, Frame, Atom, Holds}
use Rattle.rif_tree.specs.declared.tree.Formula.TheOpen.{Formula-F, And as AndLayer, Or as OrLayer, Not as NotLayer}
use Rattle.rif_tree.specs.declared.tree.Formula.TheOpen.{Exists as ExistsLayer, Equal as EqualLayer}
use Rattle.rif_tree.specs.declared.tree.Formula.TheOpen.{Member as MemberLayer, Frame as FrameLayer}
use Rattle.rif_tree.specs.declared.tree.Formula.TheOpen.{Atom as AtomLayer, Holds as HoldsLayer}
use Rattle.rif_tree.specs.declared.tree.Formula.TheFolds.{fold-Formula}

abbrev pub slots_of : Term → List (Term × Term) → List Formula
slots_of o pairs = map (λ pair. Frame o (pair ∷ [])) pairs

abbrev pub conjuncts_step : Formula-F (List Formula) → List Formula
conjuncts_step (AndLayer members) = flat_map (λ conjuncts. conjuncts) members
conjuncts_step (OrLayer branches) = Or (map (λ conjuncts. And conjuncts) branches) ∷ []
conjuncts_step (NotLayer inner) = Not (And inner) ∷ []
conjuncts_step (ExistsLayer vs inner) = Exists vs (And inner) ∷ []
conjuncts_step (EqualLayer a b) = Equal a b ∷ []
conjuncts_step (MemberLayer o c) = Member o c ∷ []
conjuncts_step (FrameLayer o pairs) = slots_of o pairs
conjuncts_step (AtomLayer p ts) = Atom p ts ∷ []
conjuncts_step (HoldsLayer pred ts) = Holds pred ts ∷ []

abbrev pub conjuncts_of : Formula → List Formula
conjuncts_of = fold-Formula (List Formula) conjuncts_step
