-- What can be arranged can be where more variables are bound.
use Rattle.std.proofs.Common.{◌≡◌, ℕ, List, [], ◌∷◌, ◌++◌, Some, None, map, ap}
use Rattle.std.proofs.Common.{◌∙◌}
use Rattle.std.proofs.Common.{sym, refl, subst}
use Rattle.std.specs.Option.{option_map}
use Rattle.rif_tree.specs.declared.tree.Formula.{Formula}
use Rattle.rif_tree.specs.declared.tree.Formula.TheVariants.{And, Or, Not, Exists}
use Rattle.rif_tree.specs.Laws.{AreAmong, IsReadinessGrowing}
use Rattle.rif_tree.specs.Ready.{Part}
use Rattle.rif_tree.specs.Variables.{has_all}
use Rattle.rif_tree.proofs.CallerLemmas.{has_all_more, among_front, among_back, among_append, among_more}
use Rattle.ready_order.specs.Arranging.{Piece, piece_of, arranged, arrangement, free_in_pieces}
use Rattle.ready_order.specs.Arranging.{members_at, branch_at, branches_at}
use Rattle.ready_order.specs.Laws.{AreUnready, Arranges, ends, takes, IsArrangingGrowing}
use Rattle.ready_order.proofs.ArrangesLemmas.{arrangement_arranges}
use Rattle.ready_order.proofs.ListLemmas.{IsThere, is_there, is_some_there, there_same, there_unready, map_there}
use Rattle.ready_order.proofs.ListLemmas.{there_map, test_there, there_test, both_there, there_both, none_there}
use Rattle.ready_order.proofs.ListLemmas.{there_none, Each}
use Rattle.ready_order.proofs.InductionLemmas.{EachPiece, IsClosed, piece_induction}

-- a conjunct that stays ready
abbrev pub IsGrowing : Piece → Type 0
IsGrowing piece = (fewer more : List ℕ) → AreAmong fewer more → IsThere (piece.at fewer) → IsThere (piece.at more)

-- ---- one of some pieces, and the others

pub data Removes : Piece → List Piece → List Piece → Type 0 where
  at_front : (piece : Piece) (pieces : List Piece) → Removes piece (piece ∷ pieces) pieces
  further : (piece other : Piece) (pieces left : List Piece) → Removes piece pieces left
      → Removes piece (other ∷ pieces) (other ∷ left)

pub removes_at : (before : List Piece) (piece : Piece) (behind : List Piece)
    → Removes piece (before ++ piece ∷ behind) (before ++ behind)
removes_at [] piece behind = at_front piece behind
removes_at (other ∷ before) piece behind =
    further piece other (before ++ piece ∷ behind) (before ++ behind) (removes_at before piece behind)

pub removed_one : (P : Piece → Type 0) (piece : Piece) (pieces left : List Piece) → Removes piece pieces left
    → Each P pieces → P piece
removed_one P piece pieces left (at_front _ _) all = all.0
removed_one P piece pieces left (further _ other more rest removes) all = removed_one P piece more rest removes all.1

pub removed_other : (P : Piece → Type 0) (piece : Piece) (pieces left : List Piece) → Removes piece pieces left
    → Each P pieces → Each P left
removed_other P piece pieces left (at_front _ _) all = all.1
removed_other P piece pieces left (further _ other more rest removes) all =
    (all.0, removed_other P piece more rest removes all.1)

none_removed : (piece : Piece) (left : List Piece) → Removes piece [] left → ⊥
none_removed piece left removes = elim removes [ ]

-- two that are removed are the same one, or each is among the others of the other
data Meets (p q : Piece) (ps qs : List Piece) : Type 0 where
  same : p ≡ q → ps ≡ qs → Meets p q ps qs
  apart : (others : List Piece) → Removes q ps others → Removes p qs others → Meets p q ps qs

meets_behind : (other p q : Piece) (ps qs : List Piece) → Meets p q ps qs → Meets p q (other ∷ ps) (other ∷ qs)
meets_behind other p q ps qs (same one rest) = same one (ap (λ (pieces : List Piece). other ∷ pieces) rest)
meets_behind other p q ps qs (apart others first second) =
    apart (other ∷ others) (further q other ps others first) (further p other qs others second)

meets : (p q : Piece) (all ps qs : List Piece) → Removes p all ps → Removes q all qs → Meets p q ps qs
meets p q all ps qs (at_front _ _) (at_front _ _) = same refl refl
meets p q all ps qs (at_front _ _) (further _ _ _ left removes) = apart left removes (at_front p left)
meets p q all ps qs (further _ _ _ left removes) (at_front _ _) = apart left (at_front q left) removes
meets p q all ps qs (further _ other more left removes) (further _ _ _ left' removes') =
    meets_behind other p q left left' (meets p q more left left' removes removes')

-- ---- pieces that can all be taken, in some order

pub data CanTake : List ℕ → List Piece → Type 0 where
  done : (bound : List ℕ) → CanTake bound []
  take : (bound : List ℕ) (piece : Piece) (pieces left : List Piece) → IsThere (piece.at bound)
      → Removes piece pieces left → CanTake (bound ++ piece.free) left → CanTake bound pieces

pub can_grow : (fewer : List ℕ) (pieces : List Piece) → CanTake fewer pieces → (more : List ℕ) → AreAmong fewer more
    → Each IsGrowing pieces → CanTake more pieces
can_grow fewer pieces (done _) more among grow = done more
can_grow fewer pieces (take _ piece _ left at removes later) more among grow =
    take more piece pieces left (removed_one IsGrowing piece pieces left removes grow fewer more among at) removes
    (can_grow (fewer ++ piece.free) left later (more ++ piece.free) (among_more fewer more piece.free among)
    (removed_other IsGrowing piece pieces left removes grow))

among_turned : (bound us ws : List ℕ) → AreAmong ((bound ++ us) ++ ws) ((bound ++ ws) ++ us)
among_turned bound us ws =
    among_append (bound ++ us) ws ((bound ++ ws) ++ us)
    (among_more bound (bound ++ ws) us (among_front bound ws))
    (λ v has. among_front (bound ++ ws) us v (among_back bound ws v has))

take_meets : (bound : List ℕ) (p q : Piece) (pieces ps qs : List Piece) → Meets p q ps qs → Each IsGrowing pieces
    → Removes p pieces ps → Removes q pieces qs → IsThere (p.at bound) → CanTake (bound ++ p.free) ps
    → ((others : List Piece) → Removes q ps others → CanTake ((bound ++ p.free) ++ q.free) others)
    → CanTake (bound ++ q.free) qs
take_meets bound p q pieces ps qs (same one rest) grow first second at now later =
    subst (λ (left : List Piece). CanTake (bound ++ q.free) left) rest
    (subst (λ (piece : Piece). CanTake (bound ++ piece.free) ps) one now)
take_meets bound p q pieces ps qs (apart others outer inner) grow first second at now later =
    take (bound ++ q.free) p qs others
    (removed_one IsGrowing p pieces ps first grow bound (bound ++ q.free) (among_front bound q.free) at) inner
    (can_grow ((bound ++ p.free) ++ q.free) others (later others outer) ((bound ++ q.free) ++ p.free)
    (among_turned bound p.free q.free)
    (removed_other IsGrowing q ps others outer (removed_other IsGrowing p pieces ps first grow)))

-- one may be taken out, whether it is ready or not, where what it binds is bound then
pub take_out : (bound : List ℕ) (pieces : List Piece) → CanTake bound pieces → (q : Piece) (qs : List Piece)
    → Removes q pieces qs → Each IsGrowing pieces → CanTake (bound ++ q.free) qs
take_out bound pieces (done _) q qs removes grow = absurd (none_removed q qs removes)
take_out bound pieces (take _ p _ ps at first now) q qs removes grow =
    take_meets bound p q pieces ps qs (meets p q pieces ps qs first removes) grow first removes at now
    (λ others outer. take_out (bound ++ p.free) ps now q others outer
    (removed_other IsGrowing p pieces ps first grow))

-- ---- arrangements take all that can be taken

removed_unready : (bound : List ℕ) (piece : Piece) (pieces left : List Piece) → Removes piece pieces left
    → AreUnready bound pieces → piece.at bound ≡ None
removed_unready bound piece pieces left (at_front _ _) unready = unready.0
removed_unready bound piece pieces left (further _ other more rest removes) unready =
    removed_unready bound piece more rest removes unready.1

none_can : (bound : List ℕ) (pieces : List Piece) → CanTake bound pieces → AreUnready bound pieces → pieces ≡ []
none_can bound pieces (done _) unready = refl
none_can bound pieces (take _ piece _ left at removes later) unready =
    absurd (there_unready (piece.at bound) at (removed_unready bound piece pieces left removes unready))

all_taken : (bound : List ℕ) (pieces : List Piece) (taken : List Formula) (left : List Piece) (last : List ℕ)
    → Arranges bound pieces taken left last → Each IsGrowing pieces → CanTake bound pieces → left ≡ []
all_taken bound pieces taken left last (ends _ _ unready) grow can = none_can bound pieces can unready
all_taken bound pieces taken left last (takes _ before piece behind f more _ _ unready is later) grow can =
    let removes = removes_at before piece behind in
    all_taken (bound ++ piece.free) (before ++ behind) more left last later
    (removed_other IsGrowing piece (before ++ piece ∷ behind) (before ++ behind) removes grow)
    (take_out bound (before ++ piece ∷ behind) can piece (before ++ behind) removes grow)

taken_can : (bound : List ℕ) (pieces : List Piece) (taken : List Formula) (left : List Piece) (last : List ℕ)
    → Arranges bound pieces taken left last → left ≡ [] → CanTake bound pieces
taken_can bound pieces taken left last (ends _ _ unready) none = subst (CanTake bound) (sym none) (done bound)
taken_can bound pieces taken left last (takes _ before piece behind f more _ _ unready is later) none =
    take bound piece (before ++ piece ∷ behind) (before ++ behind) (there_same (piece.at bound) f is)
    (removes_at before piece behind)
    (taken_can (bound ++ piece.free) (before ++ behind) more left last later none)

pub there_can : (bound : List ℕ) (pieces : List Piece) → IsThere (members_at bound pieces) → CanTake bound pieces
there_can bound pieces there =
    let a = arrangement bound pieces in
    taken_can bound pieces a.taken a.left a.bound (arrangement_arranges bound pieces)
    (there_none a.left a.taken there)

pub can_there : (bound : List ℕ) (pieces : List Piece) → Each IsGrowing pieces → CanTake bound pieces
    → IsThere (members_at bound pieces)
can_there bound pieces grow can =
    let a = arrangement bound pieces in
    none_there a.left a.taken
    (all_taken bound pieces a.taken a.left a.bound (arrangement_arranges bound pieces) grow can)

pub members_grow : (pieces : List Piece) → Each IsGrowing pieces → (fewer more : List ℕ) → AreAmong fewer more
    → IsThere (members_at fewer pieces) → IsThere (members_at more pieces)
members_grow pieces grow fewer more among there =
    can_there more pieces grow (can_grow fewer pieces (there_can fewer pieces there) more among grow)

-- ---- all conjuncts

abbrev GrowingFormula : Formula → Piece → Type 0
GrowingFormula f piece = IsGrowing piece

pub each_growing : (fs : List Formula) → EachPiece GrowingFormula fs → Each IsGrowing (map piece_of fs)
each_growing [] all = tt
each_growing (f ∷ fs) all = (all.0, each_growing fs all.1)

branches_grow : (all : List ℕ) (pieces : List Piece) → Each IsGrowing pieces → (fewer more : List ℕ)
    → AreAmong fewer more → IsThere (branches_at fewer all pieces) → IsThere (branches_at more all pieces)
branches_grow all [] grow fewer more among there = tt
branches_grow all (piece ∷ pieces) grow fewer more among there =
    let both = there_both (branch_at fewer all piece) (branches_at fewer all pieces) there in
    let one = there_test (has_all (fewer ++ piece.free) all) (piece.at fewer) both.0 in
    both_there (branch_at more all piece) (branches_at more all pieces)
    (test_there (has_all (more ++ piece.free) all) (piece.at more)
    (has_all_more (fewer ++ piece.free) (more ++ piece.free) all (among_more fewer more piece.free among) one.0)
    (grow.0 fewer more among one.1))
    (branches_grow all pieces grow.1 fewer more among both.1)

growing_closed : IsReadinessGrowing → IsClosed GrowingFormula
growing_closed growing = record {
  conjunction = λ fs all fewer more among there.
      let pieces = map piece_of fs in
      map_there (λ gs. And gs) (members_at more pieces) (members_grow pieces (each_growing fs all) fewer more among
      (there_map (λ gs. And gs) (members_at fewer pieces) there));
  disjunction = λ fs all fewer more among there.
      let pieces = map piece_of fs in
      let vs = free_in_pieces pieces in
      map_there (λ gs. Or gs) (branches_at more vs pieces) (branches_grow vs pieces (each_growing fs all) fewer more
      among (there_map (λ gs. Or gs) (branches_at fewer vs pieces) there));
  negation = λ f all fewer more among there.
      let piece = piece_of f in
      let one = there_test (has_all fewer piece.free) (option_map (λ g. Not g) (piece.at fewer)) there in
      test_there (has_all more piece.free) (option_map (λ g. Not g) (piece.at more))
      (has_all_more fewer more piece.free among one.0)
      (map_there (λ g. Not g) (piece.at more) (all fewer more among
      (there_map (λ g. Not g) (piece.at fewer) one.1)));
  existence = λ vs f all fewer more among there.
      let piece = piece_of f in
      map_there (λ g. Exists vs g) (piece.at more) (all fewer more among
      (there_map (λ g. Exists vs g) (piece.at fewer) there));
  plain = λ f vs is_ready plain fewer more among there.
      let one = there_test (is_ready fewer) (Some f) there in
      test_there (is_ready more) (Some f)
      (sym (ap (λ (p : Part). p.is_ready more) plain.part)
      ∙ growing f fewer more among (ap (λ (p : Part). p.is_ready fewer) plain.part ∙ one.0)) tt;
}

pub formula_grows : IsReadinessGrowing → (f : Formula) → IsGrowing (piece_of f)
formula_grows growing = piece_induction GrowingFormula (growing_closed growing)

pub growing_law : IsReadinessGrowing → IsArrangingGrowing
growing_law growing f fewer more among is =
    is_some_there (arranged more f) (formula_grows growing f fewer more among (is_there (arranged fewer f) is))
