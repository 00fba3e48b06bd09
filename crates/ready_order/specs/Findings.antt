-- How the code tests whether a formula may be arranged, and remembers what it finds. No public clause cites this
-- module.
--     places_of f            how many places a formula takes: one, and those of the formulas inside it
--     starts_of first fs     where the places of each of some formulas start, the first at `first`
--     plain_ready bound f    whether a conjunct without formulas inside it is ready; no other is
--     marked_of cs marks     the conjuncts that are marked
-- Source: our own (docs/PROFILE.md, "Ready order").
use Rattle.std.specs.Prelude.{ℕ, suc, ◌+◌, Bool, true, false, List, [], ◌∷◌, sum}
use Rattle.rif_tree.specs.declared.tree.Formula.{Formula}
use Rattle.rif_tree.specs.declared.tree.Formula.TheOpen.{Formula-F, And as AndLayer, Or as OrLayer, Not as NotLayer}
use Rattle.rif_tree.specs.declared.tree.Formula.TheOpen.{Exists as ExistsLayer, Equal as EqualLayer}
use Rattle.rif_tree.specs.declared.tree.Formula.TheOpen.{Member as MemberLayer, Frame as FrameLayer}
use Rattle.rif_tree.specs.declared.tree.Formula.TheOpen.{Atom as AtomLayer, Holds as HoldsLayer}
use Rattle.rif_tree.specs.declared.tree.Formula.TheFolds.{fold-Formula}
use Rattle.rif_tree.specs.Ready.{pattern_ready, equal_ready, slots_ready}
use Rattle.rif_tree.specs.Variables.{has_all, variables_of}
use Rattle.std.specs.List.{flat_map}

abbrev pub places_step : Formula-F ℕ → ℕ
places_step (AndLayer members) = suc (sum members)
places_step (OrLayer branches) = suc (sum branches)
places_step (NotLayer inner) = suc inner
places_step (ExistsLayer vs inner) = suc inner
places_step (EqualLayer a b) = 1
places_step (MemberLayer o c) = 1
places_step (FrameLayer o pairs) = 1
places_step (AtomLayer p ts) = 1
places_step (HoldsLayer pred ts) = 1

abbrev pub places_of : Formula → ℕ
places_of = fold-Formula ℕ places_step

abbrev pub starts_of : ℕ → List Formula → List ℕ
starts_of first [] = []
starts_of first (f ∷ fs) = first ∷ starts_of (first + places_of f) fs

abbrev pub plain_step : Formula-F (List ℕ → Bool) → List ℕ → Bool
plain_step (AndLayer members) bound = false
plain_step (OrLayer branches) bound = false
plain_step (NotLayer inner) bound = false
plain_step (ExistsLayer vs inner) bound = false
plain_step (EqualLayer a b) bound = equal_ready bound a b
plain_step (MemberLayer o c) bound = pattern_ready bound (o ∷ c ∷ [])
plain_step (FrameLayer o pairs) bound = slots_ready o pairs bound
plain_step (AtomLayer p ts) bound = pattern_ready bound ts
plain_step (HoldsLayer pred ts) bound = has_all bound (flat_map variables_of ts)

abbrev pub plain_ready : List ℕ → Formula → Bool
plain_ready bound f = fold-Formula (List ℕ → Bool) plain_step f bound

abbrev pub marked_of : List Formula → List Bool → List Formula
marked_of [] marks = []
marked_of (c ∷ cs) [] = []
marked_of (c ∷ cs) (true ∷ marks) = c ∷ marked_of cs marks
marked_of (c ∷ cs) (false ∷ marks) = marked_of cs marks
