-- The conjuncts that aren't marked, and how an arrangement goes on over them.
use Rattle.std.proofs.Common.{◌≡◌, ℕ, zero, suc, ◌<◌, ◌≤◌, Bool, true, false, List, [], ◌∷◌, ◌++◌, length}
use Rattle.std.proofs.Common.{Some, None, cond, map, ap, ◌∙◌, sym, refl, subst, arith, set, replicate, take, drop}
use Rattle.std.proofs.Common.{get_or, append-nil}
use Rattle.std.proofs.lemmas.List.{length-map, length-replicate, map-append, length-set}
use Rattle.std.specs.List.{list_all}
use Rattle.std.specs.Option.{option_map}
use Rattle.std.specs.declared.option.Option.{Option}
use Rattle.rif_tree.specs.declared.tree.Formula.{Formula}
use Rattle.ready_order.specs.declared.progress.Progress.{Progress}
use Rattle.ready_order.specs.declared.progress.Found.{Found}
use Rattle.ready_order.specs.Arranging.{Piece, Taking, Arrangement, piece_of, arranged, arrangement, first_ready}
use Rattle.ready_order.specs.Arranging.{left_before, taken_or, where_none_left}
use Rattle.ready_order.specs.Marks.{left_of, pieces_left, untaken, taking_told, progress_told, behind, IsUnderway}
use Rattle.ready_order.proofs.ArrangedLemmas.{IsOneLess, one_less, arrangement_stops, arrangement_next, none_of_first}

-- ---- marks

-- a conjunct, unless it is marked
abbrev pub unless_marked : Bool → Formula → List Formula
unless_marked mark c = cond mark [] (c ∷ [])

pub left_next : (cs : List Formula) (marks : List Bool) (i : ℕ) (d : Formula) → i < length cs
    → length marks ≡ length cs → left_of (take (suc i) cs) (take (suc i) marks)
    ≡ left_of (take i cs) (take i marks) ++ unless_marked (get_or marks i false) (get_or cs i d)
left_next [] marks i d below same = let no : ⊥ = omega (arith, below) in absurd no
left_next (c ∷ cs) [] i d below same = let no : ⊥ = omega (arith, same) in absurd no
left_next (c ∷ cs) (true ∷ marks) zero d below same = refl
left_next (c ∷ cs) (false ∷ marks) zero d below same = refl
left_next (c ∷ cs) (true ∷ marks) (suc i) d below same =
    let lower : i < length cs = omega (arith, below) in
    let rest : length marks ≡ length cs = omega (arith, same) in
    left_next cs marks i d lower rest
left_next (c ∷ cs) (false ∷ marks) (suc i) d below same =
    let lower : i < length cs = omega (arith, below) in
    let rest : length marks ≡ length cs = omega (arith, same) in
    ap (λ (ds : List Formula). c ∷ ds) (left_next cs marks i d lower rest)

left_split : (cs : List Formula) (marks : List Bool) (i : ℕ) (d : Formula) → i < length cs
    → length marks ≡ length cs → left_of cs marks ≡ left_of (take i cs) (take i marks)
    ++ (unless_marked (get_or marks i false) (get_or cs i d) ++ left_of (drop (suc i) cs) (drop (suc i) marks))
left_split [] marks i d below same = let no : ⊥ = omega (arith, below) in absurd no
left_split (c ∷ cs) [] i d below same = let no : ⊥ = omega (arith, same) in absurd no
left_split (c ∷ cs) (true ∷ marks) zero d below same = refl
left_split (c ∷ cs) (false ∷ marks) zero d below same = refl
left_split (c ∷ cs) (true ∷ marks) (suc i) d below same =
    let lower : i < length cs = omega (arith, below) in
    let rest : length marks ≡ length cs = omega (arith, same) in
    left_split cs marks i d lower rest
left_split (c ∷ cs) (false ∷ marks) (suc i) d below same =
    let lower : i < length cs = omega (arith, below) in
    let rest : length marks ≡ length cs = omega (arith, same) in
    ap (λ (ds : List Formula). c ∷ ds) (left_split cs marks i d lower rest)

left_marked : (cs : List Formula) (marks : List Bool) (i : ℕ) → i < length cs → length marks ≡ length cs
    → left_of cs (set marks i true)
    ≡ left_of (take i cs) (take i marks) ++ left_of (drop (suc i) cs) (drop (suc i) marks)
left_marked [] marks i below same = let no : ⊥ = omega (arith, below) in absurd no
left_marked (c ∷ cs) [] i below same = let no : ⊥ = omega (arith, same) in absurd no
left_marked (c ∷ cs) (mark ∷ marks) zero below same = refl
left_marked (c ∷ cs) (true ∷ marks) (suc i) below same =
    let lower : i < length cs = omega (arith, below) in
    let rest : length marks ≡ length cs = omega (arith, same) in
    left_marked cs marks i lower rest
left_marked (c ∷ cs) (false ∷ marks) (suc i) below same =
    let lower : i < length cs = omega (arith, below) in
    let rest : length marks ≡ length cs = omega (arith, same) in
    ap (λ (ds : List Formula). c ∷ ds) (left_marked cs marks i lower rest)

left_all : (cs : List Formula) → left_of cs (replicate (length cs) false) ≡ cs
left_all [] = refl
left_all (c ∷ cs) = ap (λ (ds : List Formula). c ∷ ds) (left_all cs)

-- all are taken exactly where none is left
pub all_taken : (cs : List Formula) (marks : List Bool) (taken : List Formula) → length marks ≡ length cs
    → cond (list_all (λ mark. mark) marks) (Some taken) None ≡ where_none_left (pieces_left cs marks) taken
all_taken [] [] taken same = refl
all_taken [] (mark ∷ marks) taken same = let no : ⊥ = omega (arith, same) in absurd no
all_taken (c ∷ cs) [] taken same = let no : ⊥ = omega (arith, same) in absurd no
all_taken (c ∷ cs) (true ∷ marks) taken same =
    let rest : length marks ≡ length cs = omega (arith, same) in all_taken cs marks taken rest
all_taken (c ∷ cs) (false ∷ marks) taken same = refl

-- ---- tries

one_is_none : (bound : List ℕ) (mark : Bool) (c : Formula) → untaken mark (arranged bound c) ≡ None
    → first_ready bound (map piece_of (unless_marked mark c)) ≡ None
one_is_none bound true c none = refl
one_is_none bound false c none = ap (λ (o : Option Formula). taken_or (piece_of c) [] o None) none

-- one more that isn't ready
pub none_yet : (bound : List ℕ) (cs : List Formula) (marks : List Bool) (i : ℕ) (d : Formula) → i < length cs
    → length marks ≡ length cs → untaken (get_or marks i false) (arranged bound (get_or cs i d)) ≡ None
    → first_ready bound (pieces_left (take i cs) (take i marks)) ≡ None
    → first_ready bound (pieces_left (take (suc i) cs) (take (suc i) marks)) ≡ None
none_yet bound cs marks i d below same none before =
    let one = unless_marked (get_or marks i false) (get_or cs i d) in
    let first = left_of (take i cs) (take i marks) in
    ap (λ (ds : List Formula). first_ready bound (map piece_of ds)) (left_next cs marks i d below same)
    ∙ ap (first_ready bound) (map-append piece_of first one)
    ∙ none_of_first bound (map piece_of first) (map piece_of one) before
    ∙ ap (option_map (left_before (map piece_of first)))
    (one_is_none bound (get_or marks i false) (get_or cs i d) none)

one_is_ready : (bound : List ℕ) (mark : Bool) (c f : Formula) (behind_it : List Piece)
    → untaken mark (arranged bound c) ≡ Some f → first_ready bound (map piece_of (unless_marked mark c) ++ behind_it)
    ≡ Some (record { taken = f; binds = (piece_of c).free; left = behind_it })
one_is_ready bound true c f behind_it some = absurd (cc some)
one_is_ready bound false c f behind_it some =
    ap (λ (o : Option Formula). taken_or (piece_of c) behind_it o (first_ready bound behind_it)) some

-- the first that is
pub found_at : (bound : List ℕ) (cs : List Formula) (marks : List Bool) (i : ℕ) (d f : Formula) → i < length cs
    → length marks ≡ length cs → untaken (get_or marks i false) (arranged bound (get_or cs i d)) ≡ Some f
    → first_ready bound (pieces_left (take i cs) (take i marks)) ≡ None
    → first_ready bound (pieces_left cs marks)
    ≡ Some (taking_told cs marks (record { place = i; taken = f; binds = (piece_of (get_or cs i d)).free }))
found_at bound cs marks i d f below same some before =
    let c = get_or cs i d in
    let one = unless_marked (get_or marks i false) c in
    let first = left_of (take i cs) (take i marks) in
    let last = left_of (drop (suc i) cs) (drop (suc i) marks) in
    ap (λ (ds : List Formula). first_ready bound (map piece_of ds)) (left_split cs marks i d below same)
    ∙ ap (first_ready bound) (map-append piece_of first (one ++ last))
    ∙ none_of_first bound (map piece_of first) (map piece_of (one ++ last)) before
    ∙ ap (λ (ps : List Piece). option_map (left_before (map piece_of first)) (first_ready bound ps))
    (map-append piece_of one last)
    ∙ ap (option_map (left_before (map piece_of first)))
    (one_is_ready bound (get_or marks i false) c f (map piece_of last) some)
    ∙ ap (λ (ps : List Piece).
    let taking : Taking = record { taken = f; binds = (piece_of c).free; left = ps } in Some taking)
    (sym (map-append piece_of first last) ∙ ap (map piece_of) (sym (left_marked cs marks i below same)))

-- ---- turns

abbrev pub begun : List ℕ → List Formula → Progress
begun bound cs = record { taken = []; is_taken = replicate (length cs) false; bound = bound }

pub underway_first : (bound : List ℕ) (cs : List Formula) (progress : Progress) → progress ≡ begun bound cs
    → IsUnderway bound cs 0 progress
underway_first bound cs progress is =
    let count : length (pieces_left cs (replicate (length cs) false)) ≡ length cs =
    length-map (left_of cs (replicate (length cs) false)) piece_of ∙ ap length (left_all cs) in
    subst (IsUnderway bound cs 0) (sym is)
    (record {
      goes_on = ap (λ (ds : List Formula). behind [] (arrangement bound (map piece_of ds))) (left_all cs);
      turns = omega (arith, count);
      marks = length-replicate (length cs) false;
    })

abbrev pub taken_on : Progress → Found → Progress
taken_on progress found = record {
  taken = progress.taken ++ found.taken ∷ [];
  is_taken = set progress.is_taken found.place true;
  bound = progress.bound ++ found.binds;
}

pub underway_next : (bound : List ℕ) (cs : List Formula) (turn : ℕ) (progress next : Progress) (found : Found)
    → IsUnderway bound cs turn progress
    → first_ready progress.bound (pieces_left cs progress.is_taken) ≡ Some (taking_told cs progress.is_taken found)
    → next ≡ taken_on progress found → IsUnderway bound cs (suc turn) next
underway_next bound cs turn progress next found underway some is =
    let taking = taking_told cs progress.is_taken found in
    let less : IsOneLess (length (pieces_left cs progress.is_taken)) (Some taking) =
    subst (IsOneLess (length (pieces_left cs progress.is_taken))) some
    (one_less progress.bound (pieces_left cs progress.is_taken)) in
    subst (IsUnderway bound cs (suc turn)) (sym is)
    (record {
      goes_on = sym (arrangement_next progress.bound (pieces_left cs progress.is_taken) progress.taken taking some)
          ∙ underway.goes_on;
      turns = omega (arith, less, underway.turns);
      marks = length-set progress.is_taken found.place true ∙ underway.marks;
    })

pub underway_stops : (bound : List ℕ) (cs : List Formula) (turn : ℕ) (progress : Progress)
    → IsUnderway bound cs turn progress → first_ready progress.bound (pieces_left cs progress.is_taken) ≡ None
    → progress_told cs progress ≡ arrangement bound (map piece_of cs)
underway_stops bound cs turn progress underway none =
    let left = pieces_left cs progress.is_taken in
    ap (λ (fs : List Formula).
    let a : Arrangement = record { taken = fs; left = left; bound = progress.bound } in a)
    (sym (append-nil progress.taken))
    ∙ ap (behind progress.taken) (sym (arrangement_stops progress.bound left none)) ∙ underway.goes_on

none_ready : (bound : List ℕ) (pieces : List Piece) → length pieces ≡ 0 → first_ready bound pieces ≡ None
none_ready bound [] none = refl
none_ready bound (piece ∷ pieces) none = let no : ⊥ = omega (arith, none) in absurd no

pub underway_ends : (bound : List ℕ) (cs : List Formula) (turn : ℕ) (progress : Progress)
    → IsUnderway bound cs turn progress → length cs ≤ turn
    → progress_told cs progress ≡ arrangement bound (map piece_of cs)
underway_ends bound cs turn progress underway ended =
    let none : length (pieces_left cs progress.is_taken) ≡ 0 = omega (arith, ended, underway.turns) in
    underway_stops bound cs turn progress underway
    (none_ready progress.bound (pieces_left cs progress.is_taken) none)
