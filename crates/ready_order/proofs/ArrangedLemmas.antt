-- Arrangements step by step, and what can be arranged at each form.
use Rattle.std.proofs.Common.{◌≡◌, ℕ, zero, suc, ◌<◌, List, [], ◌∷◌, ◌++◌, length, Some, None, map, ap, ◌∙◌, sym}
use Rattle.std.proofs.Common.{refl, arith, drop, get_or, append_assoc}
use Rattle.std.specs.Option.{option_map}
use Rattle.std.specs.declared.option.Option.{Option}
use Rattle.rif_tree.specs.declared.tree.Formula.{Formula}
use Rattle.rif_tree.specs.declared.tree.Formula.TheVariants.{And, Or}
use Rattle.ready_order.specs.Arranging.{Piece, Taking, Arrangement, piece_of, arranged, free_in_pieces, left_before}
use Rattle.ready_order.specs.Arranging.{taken_or, first_ready, taking_on, taking_up_to, arrangement, members_at}
use Rattle.ready_order.specs.Arranging.{both_at, branch_at, branches_at}
use Rattle.ready_order.specs.Marks.{behind}
use Rattle.ready_order.proofs.PieceLemmas.{piece_and, piece_or}

pub arranged_and : (bound : List ℕ) (fs : List Formula)
    → arranged bound (And fs) ≡ option_map (λ gs. And gs) (members_at bound (map piece_of fs))
arranged_and bound fs = ap (λ (p : Piece). p.at bound) (piece_and fs)

pub arranged_or : (bound : List ℕ) (fs : List Formula) → arranged bound (Or fs)
    ≡ option_map (λ gs. Or gs) (branches_at bound (free_in_pieces (map piece_of fs)) (map piece_of fs))
arranged_or bound fs = ap (λ (p : Piece). p.at bound) (piece_or fs)

-- ---- one conjunct is taken

-- what is taken is one less that is left
abbrev pub IsOneLess : ℕ → Option Taking → Type 0
IsOneLess n None = Unit {0}
IsOneLess n (Some taking) = n ≡ suc (length taking.left)

less_behind : (piece : Piece) (n : ℕ) (later : Option Taking) → IsOneLess n later
    → IsOneLess (suc n) (option_map (left_before (piece ∷ [])) later)
less_behind piece n None less = tt
less_behind piece n (Some taking) less = ap suc less

less_or : (piece : Piece) (pieces : List Piece) (found : Option Formula) (later : Option Taking)
    → IsOneLess (length pieces) later → IsOneLess (suc (length pieces)) (taken_or piece pieces found later)
less_or piece pieces None later less = less_behind piece (length pieces) later less
less_or piece pieces (Some f) later less = refl

pub one_less : (bound : List ℕ) (pieces : List Piece) → IsOneLess (length pieces) (first_ready bound pieces)
one_less bound [] = tt
one_less bound (piece ∷ pieces) =
    less_or piece pieces (piece.at bound) (first_ready bound pieces) (one_less bound pieces)

step_at : (n : ℕ) (bound : List ℕ) (pieces : List Piece) (found : Option Taking) → IsOneLess (suc n) found
    → taking_on (taking_up_to n) bound pieces found ≡ taking_on arrangement bound pieces found
step_at n bound pieces None less = refl
step_at n bound pieces (Some taking) less =
    let same : n ≡ length taking.left = omega (arith, less) in
    ap (λ (k : ℕ). taking_on (taking_up_to k) bound pieces (Some taking)) same

pub arrangement_step : (bound : List ℕ) (pieces : List Piece)
    → arrangement bound pieces ≡ taking_on arrangement bound pieces (first_ready bound pieces)
arrangement_step bound [] = refl
arrangement_step bound (piece ∷ pieces) =
    step_at (length pieces) bound (piece ∷ pieces) (first_ready bound (piece ∷ pieces))
    (one_less bound (piece ∷ pieces))

-- where none is ready, all are left
pub arrangement_stops : (bound : List ℕ) (pieces : List Piece) → first_ready bound pieces ≡ None
    → arrangement bound pieces ≡ record { taken = []; left = pieces; bound = bound }
arrangement_stops bound pieces none = arrangement_step bound pieces ∙ ap (taking_on arrangement bound pieces) none

front : List Formula → Formula → Arrangement → Arrangement
front before taken more =
    record { taken = before ++ taken ∷ more.taken; left = more.left; bound = more.bound }

front_joined : (before : List Formula) (taken : Formula) (more : Arrangement)
    → front before taken more ≡ behind (before ++ taken ∷ []) more
unfolding front
front_joined before taken more =
    ap (λ (fs : List Formula).
    let a : Arrangement = record { taken = fs; left = more.left; bound = more.bound } in a)
    (sym (append_assoc before (taken ∷ []) more.taken))

-- where one is, the others are arranged behind it
pub arrangement_next : (bound : List ℕ) (pieces : List Piece) (before : List Formula) (taking : Taking)
    → first_ready bound pieces ≡ Some taking → behind before (arrangement bound pieces)
    ≡ behind (before ++ taking.taken ∷ []) (arrangement (bound ++ taking.binds) taking.left)
unfolding front
arrangement_next bound pieces before taking some =
    ap (behind before) (arrangement_step bound pieces ∙ ap (taking_on arrangement bound pieces) some)
    ∙ front_joined before taking.taken (arrangement (bound ++ taking.binds) taking.left)

-- ---- the first that is ready, in two lists

twice_before : (piece : Piece) (pieces : List Piece) (later : Option Taking)
    → option_map (left_before (piece ∷ [])) (option_map (left_before pieces) later)
    ≡ option_map (left_before (piece ∷ pieces)) later
twice_before piece pieces None = refl
twice_before piece pieces (Some taking) = refl

none_before : (later : Option Taking) → later ≡ option_map (left_before []) later
none_before None = refl
none_before (Some taking) = refl

nothing_mapped : (piece : Piece) (later : Option Taking) → option_map (left_before (piece ∷ [])) later ≡ None
    → later ≡ None
nothing_mapped piece None none = refl
nothing_mapped piece (Some taking) none = absurd (cc none)

split_at : (piece : Piece) (first behind_it : List Piece) (found : Option Formula) (one later both : Option Taking)
    → taken_or piece first found one ≡ None → (one ≡ None → both ≡ option_map (left_before first) later)
    → taken_or piece behind_it found both ≡ option_map (left_before (piece ∷ first)) later
split_at piece first behind_it None one later both none rest =
    ap (option_map (left_before (piece ∷ []))) (rest (nothing_mapped piece one none)) ∙ twice_before piece first later
split_at piece first behind_it (Some f) one later both none rest = absurd (cc none)

-- where none of the first is ready, it is one of the others or none
pub none_of_first : (bound : List ℕ) (first others : List Piece) → first_ready bound first ≡ None
    → first_ready bound (first ++ others) ≡ option_map (left_before first) (first_ready bound others)
none_of_first bound [] others none = none_before (first_ready bound others)
none_of_first bound (piece ∷ first) others none =
    split_at piece first (first ++ others) (piece.at bound) (first_ready bound first) (first_ready bound others)
    (first_ready bound (first ++ others)) none (none_of_first bound first others)

-- ---- branches

-- what comes behind the branches that were kept
abbrev pub kept_before : List Formula → Option (List Formula) → Option (List Formula)
kept_before kept more = option_map (λ fs. kept ++ fs) more

branches_from : (bound all : List ℕ) (cs : List Formula) (i : ℕ) (d : Formula) → i < length cs
    → branches_at bound all (map piece_of (drop i cs)) ≡ both_at (branch_at bound all (piece_of (get_or cs i d)))
    (branches_at bound all (map piece_of (drop (suc i) cs)))
branches_from bound all [] i d below = let no : ⊥ = omega (arith, below) in absurd no
branches_from bound all (c ∷ cs) zero d below = refl
branches_from bound all (c ∷ cs) (suc i) d below =
    let lower : i < length cs = omega (arith, below) in branches_from bound all cs i d lower

kept_one : (kept : List Formula) (f : Formula) (more : Option (List Formula))
    → kept_before kept (both_at (Some f) more) ≡ kept_before (kept ++ f ∷ []) more
kept_one kept f None = refl
kept_one kept f (Some fs) = ap Some (sym (append_assoc kept (f ∷ []) fs))

-- a branch that can't be arranged
pub branch_missing : (bound all : List ℕ) (kept : List Formula) (cs : List Formula) (i : ℕ) (d : Formula)
    → i < length cs → branch_at bound all (piece_of (get_or cs i d)) ≡ None
    → branches_at bound all (map piece_of cs) ≡ kept_before kept (branches_at bound all (map piece_of (drop i cs)))
    → branches_at bound all (map piece_of cs) ≡ None
branch_missing bound all kept cs i d below none so_far =
    so_far ∙ ap (kept_before kept) (branches_from bound all cs i d below
    ∙ ap (λ (o : Option Formula). both_at o (branches_at bound all (map piece_of (drop (suc i) cs)))) none)

-- one that can
pub branch_kept : (bound all : List ℕ) (kept more : List Formula) (f : Formula) (cs : List Formula) (i : ℕ)
    (d : Formula) → i < length cs → branch_at bound all (piece_of (get_or cs i d)) ≡ Some f → more ≡ kept ++ f ∷ []
    → branches_at bound all (map piece_of cs) ≡ kept_before kept (branches_at bound all (map piece_of (drop i cs)))
    → branches_at bound all (map piece_of cs)
    ≡ kept_before more (branches_at bound all (map piece_of (drop (suc i) cs)))
branch_kept bound all kept more f cs i d below some pushed so_far =
    let rest = branches_at bound all (map piece_of (drop (suc i) cs)) in
    so_far
    ∙ ap (kept_before kept) (branches_from bound all cs i d below ∙ ap (λ (o : Option Formula). both_at o rest) some)
    ∙ kept_one kept f rest ∙ ap (λ (fs : List Formula). kept_before fs rest) (sym pushed)
