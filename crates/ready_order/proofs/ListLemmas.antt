-- What holds of each of some pieces, what they have free, and what options give.
use Rattle.std.proofs.Common.{◌≡◌, ℕ, Bool, true, false, cond, ◌||◌, List, [], ◌∷◌, ◌++◌, Some, None, map, ap}
use Rattle.std.proofs.Common.{ap₂}
use Rattle.std.proofs.Common.{◌∙◌, sym, refl, subst, append_assoc}
use Rattle.std.specs.List.{flat_map}
use Rattle.std.specs.Option.{option_map, unwrap_or, IsSome}
use Rattle.std.specs.declared.option.Option.{Option}
use Rattle.rif_tree.specs.declared.tree.Formula.{Formula}
use Rattle.rif_tree.specs.Laws.{AreSame}
use Rattle.rif_tree.specs.Variables.{has_variable}
use Rattle.rif_tree.proofs.CallerLemmas.{has_append}
use Rattle.ready_order.specs.Arranging.{Piece, piece_of, both_at, where_none_left}

-- ---- what options give

pub some_same : {A : Type 0} (x y : A) → Some x ≡ Some y → x ≡ y
some_same {A} x y is = ap (λ (o : Option A). unwrap_or o x) is

abbrev pub IsThere : {A : Type 0} → Option A → Type 0
IsThere None = ⊥
IsThere (Some x) = Unit {0}

pub is_there : {A : Type 0} (o : Option A) → IsSome o → IsThere o
is_there None is = absurd (cc is)
is_there (Some x) is = tt

pub is_some_there : {A : Type 0} (o : Option A) → IsThere o → IsSome o
is_some_there None there = absurd there
is_some_there (Some x) there = refl

pub there_same : {A : Type 0} (o : Option A) (x : A) → o ≡ Some x → IsThere o
there_same None x is = absurd (cc is)
there_same (Some y) x is = tt

pub there_unready : {A : Type 0} (o : Option A) → IsThere o → o ≡ None → ⊥
there_unready None there is = there
there_unready (Some x) there is = cc is

pub map_there : {A B : Type 0} (g : A → B) (o : Option A) → IsThere o → IsThere (option_map g o)
map_there g None there = there
map_there g (Some x) there = tt

pub there_map : {A B : Type 0} (g : A → B) (o : Option A) → IsThere (option_map g o) → IsThere o
there_map g None there = there
there_map g (Some x) there = tt

pub test_there : {A : Type 0} (test : Bool) (o : Option A) → test ≡ true → IsThere o → IsThere (cond test o None)
test_there true o is there = there
test_there false o is there = absurd (cc is)

pub there_test : {A : Type 0} (test : Bool) (o : Option A) → IsThere (cond test o None) → (test ≡ true) × IsThere o
there_test true o there = (refl, there)
there_test false o there = absurd there

pub both_there : (first : Option Formula) (others : Option (List Formula)) → IsThere first → IsThere others
    → IsThere (both_at first others)
both_there None others one rest = one
both_there (Some f) None one rest = rest
both_there (Some f) (Some fs) one rest = tt

pub there_both : (first : Option Formula) (others : Option (List Formula)) → IsThere (both_at first others)
    → IsThere first × IsThere others
there_both None others there = absurd there
there_both (Some f) None there = absurd there
there_both (Some f) (Some fs) there = (tt, tt)

pub none_there : (left : List Piece) (taken : List Formula) → left ≡ [] → IsThere (where_none_left left taken)
none_there [] taken none = tt
none_there (piece ∷ left) taken none = absurd (cc none)

pub there_none : (left : List Piece) (taken : List Formula) → IsThere (where_none_left left taken) → left ≡ []
there_none [] taken there = refl
there_none (piece ∷ left) taken there = absurd there

-- ---- each of some pieces

abbrev pub Each : (Piece → Type 0) → List Piece → Type 0
Each P [] = Unit {0}
Each P (piece ∷ pieces) = P piece × Each P pieces

pub each_one : (P : Piece → Type 0) (before : List Piece) (piece : Piece) (behind : List Piece)
    → Each P (before ++ piece ∷ behind) → P piece
each_one P [] piece behind all = all.0
each_one P (other ∷ before) piece behind all = each_one P before piece behind all.1

pub each_other : (P : Piece → Type 0) (before : List Piece) (piece : Piece) (behind : List Piece)
    → Each P (before ++ piece ∷ behind) → Each P (before ++ behind)
each_other P [] piece behind all = all.1
each_other P (other ∷ before) piece behind all = (all.0, each_other P before piece behind all.1)

pub each_formula : (P : Piece → Type 0) → ((f : Formula) → P (piece_of f)) → (fs : List Formula)
    → Each P (map piece_of fs)
each_formula P all [] = tt
each_formula P all (f ∷ fs) = (all f, each_formula P all fs)

-- ---- the variables of lists

pub same_back : (us vs : List ℕ) → AreSame us vs → AreSame vs us
same_back us vs same v = sym (same v)

pub same_on : (us vs ws : List ℕ) → AreSame us vs → AreSame vs ws → AreSame us ws
same_on us vs ws first second v = first v ∙ second v

pub same_append : (us us' ws ws' : List ℕ) → AreSame us us' → AreSame ws ws' → AreSame (us ++ ws) (us' ++ ws')
same_append us us' ws ws' first second v =
    has_append us ws v ∙ ap₂ (λ a b. a || b) (first v) (second v) ∙ sym (has_append us' ws' v)

pub same_equal : (us vs : List ℕ) → us ≡ vs → AreSame us vs
same_equal us vs is v = ap (λ (ws : List ℕ). has_variable ws v) is

-- what is bound last, with what is free in some formulas behind a first
pub same_grouped : (bound us ws last : List ℕ) → AreSame ((bound ++ us) ++ ws) last
    → AreSame (bound ++ (us ++ ws)) last
same_grouped bound us ws last same =
    subst (λ (vs : List ℕ). AreSame vs last) (append_assoc bound us ws) same

-- the variables of a list that something was taken from
pub has_taken : {X : Type 0} (vars : X → List ℕ) (before : List X) (x : X) (behind : List X) (v : ℕ)
    → has_variable (flat_map vars (before ++ x ∷ behind)) v
    ≡ (has_variable (vars x) v || has_variable (flat_map vars (before ++ behind)) v)
has_taken vars [] x behind v = has_append (vars x) (flat_map vars behind) v
has_taken vars (y ∷ before) x behind v =
    let one = has_variable (vars x) v in
    let other = has_variable (vars y) v in
    let rest = has_variable (flat_map vars (before ++ behind)) v in
    has_append (vars y) (flat_map vars (before ++ x ∷ behind)) v
    ∙ ap (λ b. other || b) (has_taken vars before x behind v)
    ∙ turned other one rest
    ∙ ap (λ b. one || b) (sym (has_append (vars y) (flat_map vars (before ++ behind)) v))
  where
    turned : (a b c : Bool) → (a || (b || c)) ≡ (b || (a || c))
    turned true true c = refl
    turned true false c = refl
    turned false b c = refl

pub or_grouped : (a b c : Bool) → ((a || b) || c) ≡ (a || (b || c))
or_grouped true b c = refl
or_grouped false b c = refl
