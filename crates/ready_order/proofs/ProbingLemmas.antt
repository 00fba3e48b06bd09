-- What a test of a formula rules out: where members of an `And` are found ready one after the other, and then none of
-- the others is, the `And` can't be arranged.
use Rattle.std.proofs.Common.{◌≡◌, ℕ, zero, suc, ◌<◌, Bool, true, false, List, [], ◌∷◌, ◌++◌, length, Some, None, ◌||◌}
use Rattle.std.proofs.Common.{cond, map, ap, ◌∙◌, sym, refl, subst, arith, take, get_or, append_assoc, append-nil}
use Rattle.std.specs.List.{list_all}
use Rattle.std.specs.Option.{option_map}
use Rattle.std.specs.declared.option.Option.{Option}
use Rattle.rif_tree.specs.declared.tree.Formula.{Formula}
use Rattle.rif_tree.specs.declared.tree.Formula.TheVariants.{And, Or}
use Rattle.rif_tree.specs.Laws.{AreAmong, IsReadinessGrowing}
use Rattle.rif_tree.proofs.CallerLemmas.{among_front, among_back, among_append}
use Rattle.ready_order.specs.Arranging.{Piece, piece_of, arranged, first_ready, members_at, both_at, branch_at}
use Rattle.ready_order.specs.Arranging.{branches_at, free_in_pieces}
use Rattle.ready_order.specs.Findings.{marked_of}
use Rattle.ready_order.specs.Laws.{AreUnready}
use Rattle.ready_order.specs.Marks.{pieces_left}
use Rattle.ready_order.proofs.ArrangedLemmas.{arranged_and, arranged_or}
use Rattle.ready_order.proofs.ArrangesLemmas.{none_unready}
use Rattle.ready_order.proofs.GrowingLemmas.{IsGrowing, Removes, at_front, further, CanTake, done, take as takes}
use Rattle.ready_order.proofs.GrowingLemmas.{removed_one, removed_other, there_can, formula_grows}
use Rattle.ready_order.proofs.ListLemmas.{IsThere, there_unready, Each, each_formula}

pub neither : (a b : Bool) → (a || b) ≡ false → (a ≡ false) × (b ≡ false)
neither true b is = absurd (cc is)
neither false b is = (refl, is)

-- ---- at each form

pub and_may : (bound : List ℕ) (fs : List Formula) → members_at bound (map piece_of fs) ≡ None
    → arranged bound (And fs) ≡ None
and_may bound fs none = arranged_and bound fs ∙ ap (option_map (λ gs. And gs)) none

pub or_may : (bound : List ℕ) (fs : List Formula)
    → branches_at bound (free_in_pieces (map piece_of fs)) (map piece_of fs) ≡ None → arranged bound (Or fs) ≡ None
or_may bound fs none = arranged_or bound fs ∙ ap (option_map (λ gs. Or gs)) none

-- an `Or` can't be arranged where one of its branches can't
none_behind : (first : Option Formula) → both_at first None ≡ None
none_behind None = refl
none_behind (Some f) = refl

pub branch_missing : (bound all : List ℕ) (cs : List Formula) (i : ℕ) (d : Formula) → i < length cs
    → branch_at bound all (piece_of (get_or cs i d)) ≡ None → branches_at bound all (map piece_of cs) ≡ None
branch_missing bound all [] i d below none = let no : ⊥ = omega (arith, below) in absurd no
branch_missing bound all (c ∷ cs) zero d below none =
    ap (λ (o : Option Formula). both_at o (branches_at bound all (map piece_of cs))) none
branch_missing bound all (c ∷ cs) (suc i) d below none =
    let lower : i < length cs = omega (arith, below) in
    ap (both_at (branch_at bound all (piece_of c))) (branch_missing bound all cs i d lower none)
    ∙ none_behind (branch_at bound all (piece_of c))

-- ---- the members that are marked

-- what a member has free, where it is marked
abbrev pub free_where : Bool → Formula → List ℕ
free_where mark c = cond mark (piece_of c).free []

abbrev free_marked : List Formula → List Bool → List ℕ
free_marked cs marks = free_in_pieces (map piece_of (marked_of cs marks))

marked_next : (cs : List Formula) (marks : List Bool) (i : ℕ) (d : Formula) → i < length cs
    → length marks ≡ length cs → free_marked (take (suc i) cs) (take (suc i) marks)
    ≡ free_marked (take i cs) (take i marks) ++ free_where (get_or marks i false) (get_or cs i d)
marked_next [] marks i d below same = let no : ⊥ = omega (arith, below) in absurd no
marked_next (c ∷ cs) [] i d below same = let no : ⊥ = omega (arith, same) in absurd no
marked_next (c ∷ cs) (true ∷ marks) zero d below same = append-nil (piece_of c).free
marked_next (c ∷ cs) (false ∷ marks) zero d below same = refl
marked_next (c ∷ cs) (true ∷ marks) (suc i) d below same =
    let lower : i < length cs = omega (arith, below) in
    let rest : length marks ≡ length cs = omega (arith, same) in
    let one = free_where (get_or marks i false) (get_or cs i d) in
    ap (λ (vs : List ℕ). (piece_of c).free ++ vs) (marked_next cs marks i d lower rest)
    ∙ sym (append_assoc (piece_of c).free (free_marked (take i cs) (take i marks)) one)
marked_next (c ∷ cs) (false ∷ marks) (suc i) d below same =
    let lower : i < length cs = omega (arith, below) in
    let rest : length marks ≡ length cs = omega (arith, same) in
    marked_next cs marks i d lower rest

-- what is held behind one more
pub held_next : (bound held more : List ℕ) (cs : List Formula) (marks : List Bool) (i : ℕ) (d : Formula)
    → i < length cs → length marks ≡ length cs → held ≡ bound ++ free_marked (take i cs) (take i marks)
    → more ≡ held ++ free_where (get_or marks i false) (get_or cs i d)
    → more ≡ bound ++ free_marked (take (suc i) cs) (take (suc i) marks)
held_next bound held more cs marks i d below same before is =
    let one = free_where (get_or marks i false) (get_or cs i d) in
    is ∙ ap (λ (vs : List ℕ). vs ++ one) before
    ∙ append_assoc bound (free_marked (take i cs) (take i marks)) one
    ∙ ap (λ (vs : List ℕ). bound ++ vs) (sym (marked_next cs marks i d below same))

-- ---- where none of the others is ready

-- a member that is ready where these variables are held has its own among them
abbrev IsHeld : List ℕ → Piece → Type 0
IsHeld held piece = IsThere (piece.at held) → AreAmong piece.free held

abbrev IsReadyAt : List ℕ → Piece → Type 0
IsReadyAt held piece = IsThere (piece.at held)

removed_back : (P : Piece → Type 0) (piece : Piece) (pieces left : List Piece) → Removes piece pieces left → P piece
    → Each P left → Each P pieces
removed_back P piece pieces left (at_front _ _) one all = (one, all)
removed_back P piece pieces left (further _ other more rest removes) one all =
    (all.0, removed_back P piece more rest removes one all.1)

-- pieces that can all be taken are all ready, where what is held has all that is bound, and what each binds
all_ready : (bound held : List ℕ) (pieces : List Piece) → CanTake bound pieces → AreAmong bound held
    → Each IsGrowing pieces → Each (IsHeld held) pieces → Each (IsReadyAt held) pieces
all_ready bound held pieces (done _) among grow all = tt
all_ready bound held pieces (takes _ piece _ left at removes later) among grow all =
    let ready = removed_one IsGrowing piece pieces left removes grow bound held among at in
    let own = removed_one (IsHeld held) piece pieces left removes all ready in
    let more = among_append bound piece.free held among own in
    removed_back (IsReadyAt held) piece pieces left removes ready
    (all_ready (bound ++ piece.free) held left later more (removed_other IsGrowing piece pieces left removes grow)
    (removed_other (IsHeld held) piece pieces left removes all))

each_held : (held : List ℕ) (cs : List Formula) (marks : List Bool) → length marks ≡ length cs
    → AreAmong (free_marked cs marks) held → AreUnready held (pieces_left cs marks)
    → Each (IsHeld held) (map piece_of cs)
each_held held [] marks same among unready = tt
each_held held (c ∷ cs) [] same among unready = let no : ⊥ = omega (arith, same) in absurd no
each_held held (c ∷ cs) (true ∷ marks) same among unready =
    let rest : length marks ≡ length cs = omega (arith, same) in
    let vs = (piece_of c).free in
    let ws = free_marked cs marks in (
      λ ready v has. among v (among_front vs ws v has),
      each_held held cs marks rest (λ v has. among v (among_back vs ws v has)) unready,
    )
each_held held (c ∷ cs) (false ∷ marks) same among unready =
    let rest : length marks ≡ length cs = omega (arith, same) in (
      λ ready. absurd (there_unready ((piece_of c).at held) ready unready.0),
      each_held held cs marks rest among unready.1,
    )

all_marked : (held : List ℕ) (cs : List Formula) (marks : List Bool) → length marks ≡ length cs
    → Each (IsReadyAt held) (map piece_of cs) → AreUnready held (pieces_left cs marks)
    → list_all (λ mark. mark) marks ≡ true
all_marked held [] [] same ready unready = refl
all_marked held [] (mark ∷ marks) same ready unready = let no : ⊥ = omega (arith, same) in absurd no
all_marked held (c ∷ cs) [] same ready unready = let no : ⊥ = omega (arith, same) in absurd no
all_marked held (c ∷ cs) (true ∷ marks) same ready unready =
    let rest : length marks ≡ length cs = omega (arith, same) in all_marked held cs marks rest ready.1 unready
all_marked held (c ∷ cs) (false ∷ marks) same ready unready =
    absurd (there_unready ((piece_of c).at held) ready.0 unready.0)

none_unless : {A : Type 0} (o : Option A) → (IsThere o → ⊥) → o ≡ None
none_unless None never = refl
none_unless (Some x) never = absurd (never tt)

pub members_stuck : IsReadinessGrowing → (bound held : List ℕ) (cs : List Formula) (marks : List Bool)
    → length marks ≡ length cs → held ≡ bound ++ free_in_pieces (map piece_of (marked_of cs marks))
    → first_ready held (pieces_left cs marks) ≡ None → list_all (λ mark. mark) marks ≡ false
    → members_at bound (map piece_of cs) ≡ None
members_stuck growing bound held cs marks same is none some_left =
    let pieces = map piece_of cs in
    let more = free_marked cs marks in
    let unready = none_unready held (pieces_left cs marks) none in
    let among : AreAmong bound held = subst (AreAmong bound) (sym is) (among_front bound more) in
    let behind : AreAmong more held = subst (AreAmong more) (sym is) (among_back bound more) in
    none_unless (members_at bound pieces) (λ there.
    let ready = all_ready bound held pieces (there_can bound pieces there) among
    (each_formula IsGrowing (formula_grows growing) cs) (each_held held cs marks same behind unready) in
    let all : list_all (λ mark. mark) marks ≡ true = all_marked held cs marks same ready unready in
    let no : true ≡ false = sym all ∙ some_left in cc no)
