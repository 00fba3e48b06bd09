-- What the words of the ready order promise.
--     AreUnready bound pieces   none of them is ready where these variables are bound
--     Arranges bound pieces taken left last
--                               the first piece that is ready is taken, and behind it the same is done with the
--                               others, until none is ready. So these were taken, in order, those are left, and
--                               these variables are bound at last
--     IsArrangementTaking       an arrangement is what comes of this, and nothing else comes of it
--     IsArrangedReady           what is arranged is ready as it stands, and has the same variables free
--     AreTakenReady             what is taken of formulas is ready in its order, and so is the `And` of it; the
--                               variables that it has free are those that are bound behind it
--     AreConjunctsScoped        a formula's conjuncts together have the scope that it has
--     AreTakenScoped            what is taken of scoped formulas is scoped
--     IsArrangementScoped       and so is the `And` of what is taken of a scoped condition's conjuncts
--     IsNothingLost             a formula's conjuncts have the variables that it has: those free, and those that
--                               occur. What is bound behind those taken, and what those left have free, are what it
--                               has free; so where none is left, those taken have it
--     AreDeclarationsKept       where all of a condition's conjuncts are taken, they declare what it declares
--     IsArrangementShaped       what is taken of a condition's conjuncts has the shape of arranged conditions
--     IsLeftUnbound             where conjuncts are left, some variable occurs in them that isn't bound, so that
--                               there is a least one
--     IsLeastLeft               and that one occurs in them and isn't bound, and no less one is so
--     IsArrangingGrowing        what can be arranged can be where more variables are bound
--     IsReadyArranged           what stands ready is arranged as it stands
--     IsArrangedStaying         a condition that has the shape of arranged conditions and stands ready is left as it
--                               is: its conjuncts are taken in their order, and none is left
-- Source: our own (docs/PROFILE.md, "Ready order").
use Rattle.std.specs.Prelude.{◌≡◌, ℕ, ◌≤◌, true, false, List, [], ◌∷◌, ◌++◌, map, Some, None}
use Rattle.std.specs.List.{list_all}
use Rattle.std.specs.Option.{IsSome}
use Rattle.rif_tree.specs.declared.tree.Formula.{Formula}
use Rattle.rif_tree.specs.declared.tree.Formula.TheVariants.{And}
use Rattle.rif_tree.specs.Laws.{AreSame, AreAmong}
use Rattle.rif_tree.specs.Ready.{part_of, each_ready, is_ready}
use Rattle.rif_tree.specs.Scoped.{is_scoped}
use Rattle.rif_tree.specs.Variables.{has_variable, has_all, free_of}
use Rattle.ready_order.specs.Arranging.{Piece, Arrangement, piece_of, arrangement, arranged, arrangement_of}
use Rattle.ready_order.specs.Arranging.{free_in_pieces, occurring_in_pieces, least_unbound}
use Rattle.ready_order.specs.Conjuncts.{conjuncts_of}
use Rattle.ready_order.specs.Declarations.{declared_of}
use Rattle.ready_order.specs.Shapes.{is_shaped}

abbrev pub AreUnready : List ℕ → List Piece → Type 0
AreUnready bound [] = Unit {0}
AreUnready bound (piece ∷ pieces) = (piece.at bound ≡ None) × AreUnready bound pieces

pub data Arranges : List ℕ → List Piece → List Formula → List Piece → List ℕ → Type 0 where
  ends : (bound : List ℕ) (pieces : List Piece) → AreUnready bound pieces → Arranges bound pieces [] pieces bound
  takes : (bound : List ℕ) (before : List Piece) (piece : Piece) (behind : List Piece) (f : Formula)
      (taken : List Formula) (left : List Piece) (last : List ℕ) → AreUnready bound before → piece.at bound ≡ Some f
      → Arranges (bound ++ piece.free) (before ++ behind) taken left last
      → Arranges bound (before ++ piece ∷ behind) (f ∷ taken) left last

pub record IsArrangementTaking : Type 0 where
  pub so : (bound : List ℕ) (pieces : List Piece)
      → let a = arrangement bound pieces in Arranges bound pieces a.taken a.left a.bound
  pub alone : (bound : List ℕ) (pieces : List Piece) (taken : List Formula) (left : List Piece) (last : List ℕ)
      → Arranges bound pieces taken left last
      → let a : Arrangement = record { taken = taken; left = left; bound = last } in arrangement bound pieces ≡ a

abbrev pub IsArrangedReady : Type 0
IsArrangedReady = (bound : List ℕ) (f g : Formula) → arranged bound f ≡ Some g
    → (is_ready bound g ≡ true) × AreSame (free_of g) (free_of f)

pub record IsTakenReady (bound : List ℕ) (a : Arrangement) : Type 0 where
  pub in_turn : each_ready (map part_of a.taken) bound ≡ true
  pub together : is_ready bound (And a.taken) ≡ true
  pub binds : AreSame (bound ++ free_of (And a.taken)) a.bound

abbrev pub AreTakenReady : Type 0
AreTakenReady = (bound : List ℕ) (fs : List Formula) → IsTakenReady bound (arrangement bound (map piece_of fs))

abbrev pub AreConjunctsScoped : Type 0
AreConjunctsScoped = (f : Formula) (held : List ℕ) → is_scoped held (And (conjuncts_of f)) ≡ is_scoped held f

abbrev pub AreTakenScoped : Type 0
AreTakenScoped = (held bound : List ℕ) (fs : List Formula) → list_all (is_scoped held) fs ≡ true
    → list_all (is_scoped held) (arrangement bound (map piece_of fs)).taken ≡ true

abbrev pub IsArrangementScoped : Type 0
IsArrangementScoped = (held : List ℕ) (f : Formula) → is_scoped held f ≡ true
    → is_scoped held (And (arrangement_of f).taken) ≡ true

pub record IsNothingLost : Type 0 where
  pub conjuncts : (f : Formula) → free_of (And (conjuncts_of f)) ≡ free_of f
  pub occurring : (f : Formula) → occurring_in_pieces (map piece_of (conjuncts_of f)) ≡ (piece_of f).occurring
  pub parts : (f : Formula)
      → let a = arrangement_of f in AreSame (a.bound ++ free_in_pieces a.left) (free_of f)
  pub taken : (f : Formula) → (arrangement_of f).left ≡ []
      → AreSame (free_of (And (arrangement_of f).taken)) (free_of f)

abbrev pub AreDeclarationsKept : Type 0
AreDeclarationsKept = (f : Formula) → (arrangement_of f).left ≡ []
    → AreSame (declared_of (And (arrangement_of f).taken)) (declared_of f)

abbrev pub IsArrangementShaped : Type 0
IsArrangementShaped = (f : Formula) → is_shaped (And (arrangement_of f).taken) ≡ true

pub record IsLeftNamed (a : Arrangement) : Type 0 where
  pub unbound : has_all a.bound (occurring_in_pieces a.left) ≡ true → a.left ≡ []
  pub named : least_unbound a ≡ None → a.left ≡ []

abbrev pub IsLeftUnbound : Type 0
IsLeftUnbound = (bound : List ℕ) (fs : List Formula) → IsLeftNamed (arrangement bound (map piece_of fs))

pub record IsLeastUnbound (a : Arrangement) (v : ℕ) : Type 0 where
  pub occurs : has_variable (occurring_in_pieces a.left) v ≡ true
  pub unbound : has_variable a.bound v ≡ false
  pub least : (u : ℕ) → has_variable (occurring_in_pieces a.left) u ≡ true → has_variable a.bound u ≡ false → v ≤ u

abbrev pub IsLeastLeft : Type 0
IsLeastLeft = (a : Arrangement) (v : ℕ) → least_unbound a ≡ Some v → IsLeastUnbound a v

abbrev pub IsArrangingGrowing : Type 0
IsArrangingGrowing = (f : Formula) (fewer more : List ℕ) → AreAmong fewer more → IsSome (arranged fewer f)
    → IsSome (arranged more f)

abbrev pub IsReadyArranged : Type 0
IsReadyArranged = (bound : List ℕ) (f : Formula) → is_ready bound f ≡ true → arranged bound f ≡ Some f

pub record IsLeftAlone (f : Formula) (a : Arrangement) : Type 0 where
  pub taken : And a.taken ≡ f
  pub left : a.left ≡ []

abbrev pub IsArrangedStaying : Type 0
IsArrangedStaying = (f : Formula) → is_shaped f ≡ true → is_ready [] f ≡ true → IsLeftAlone f (arrangement_of f)
