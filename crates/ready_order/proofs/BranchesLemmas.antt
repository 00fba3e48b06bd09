-- Products and sums that are cut, those of one formula more, and how a formula branches at each form.
use Rattle.std.proofs.Common.{◌≡◌, ℕ, zero, suc, ◌+◌, ◌*◌, ◌<◌, ◌||◌, Bool, true, false, nat_lt, min, List, [], ◌∷◌}
use Rattle.std.proofs.Common.{◌++◌, length, take, get_or, map, ap, ◌∙◌, sym, arith, append-nil}
use Rattle.std.specs.List.{list_any}
use Rattle.std.proofs.lemmas.List.Folds.{list_any-append}
use Rattle.std.proofs.Math.Nat.{mul_comm, mul_assoc}
use Rattle.rif_refusals.specs.Limits.{most_branches}
use Rattle.rif_tree.specs.declared.tree.Formula.{Formula}
use Rattle.rif_tree.specs.declared.tree.Formula.TheOpen.{And as AndLayer, Or as OrLayer}
use Rattle.rif_tree.specs.declared.tree.Formula.TheVariants.{And, Or, rolls-And, rolls-Or}
use Rattle.rif_tree.specs.declared.tree.Formula.TheFolds.{fold-roll-Formula}
use Rattle.ready_order.specs.Branches.{Branching, branching_of, branching_step, apart_in, product_of, sum_of}

pub branching_and : (fs : List Formula) → branching_of (And fs) ≡ branching_step (AndLayer (map branching_of fs))
branching_and fs =
    ap branching_of (sym (rolls-And fs)) ∙ fold-roll-Formula Branching branching_step (AndLayer fs)

pub branching_or : (fs : List Formula) → branching_of (Or fs) ≡ branching_step (OrLayer (map branching_of fs))
branching_or fs = ap branching_of (sym (rolls-Or fs)) ∙ fold-roll-Formula Branching branching_step (OrLayer fs)

-- ---- numbers cut at one above the limit

abbrev pub cut_times : ℕ → ℕ → ℕ
cut_times a b = min (a * b) (suc most_branches)

abbrev pub cut_plus : ℕ → ℕ → ℕ
cut_plus a b = min (a + b) (suc most_branches)

cut_first : (a b : ℕ) → cut_times (min a (suc most_branches)) b ≡ cut_times a b
cut_first a zero = grind arith
cut_first a (suc b) = grind arith

swapped : (a b : ℕ) → cut_times a b ≡ cut_times b a
swapped a b = ap (λ n. min n (suc most_branches)) (mul_comm a b)

pub cut_product : (a b : ℕ) → cut_times (min a (suc most_branches)) (min b (suc most_branches)) ≡ cut_times a b
cut_product a b =
    cut_first a (min b (suc most_branches)) ∙ swapped a (min b (suc most_branches)) ∙ cut_first b a ∙ swapped b a

pub cut_sum : (a b : ℕ) → cut_plus (min a (suc most_branches)) (min b (suc most_branches)) ≡ cut_plus a b
cut_sum a b = grind arith

-- ---- one formula more

abbrev pub branches_in : List Formula → List ℕ
branches_in fs = map Branching.branches (map branching_of fs)

pub product_next : (fs : List Formula) (i : ℕ) (d : Formula) → i < length fs
    → product_of (branches_in (take (suc i) fs))
    ≡ product_of (branches_in (take i fs)) * (branching_of (get_or fs i d)).branches
product_next [] i d below = let no : ⊥ = omega (arith, below) in absurd no
product_next (f ∷ fs) zero d below = let n = (branching_of f).branches in grind arith
product_next (f ∷ fs) (suc i) d below =
    let lower : i < length fs = omega (arith, below) in
    ap (λ n. (branching_of f).branches * n) (product_next fs i d lower)
    ∙ sym (mul_assoc (branching_of f).branches (product_of (branches_in (take i fs)))
    (branching_of (get_or fs i d)).branches)

pub sum_next : (fs : List Formula) (i : ℕ) (d : Formula) → i < length fs
    → sum_of (branches_in (take (suc i) fs))
    ≡ sum_of (branches_in (take i fs)) + (branching_of (get_or fs i d)).branches
sum_next [] i d below = let no : ⊥ = omega (arith, below) in absurd no
sum_next (f ∷ fs) zero d below = let n = (branching_of f).branches in grind arith
sum_next (f ∷ fs) (suc i) d below =
    let lower : i < length fs = omega (arith, below) in
    let rest = sum_next fs i d lower in
    omega (arith, rest)

or_joined : (a b c d e : Bool) → d ≡ (b || c) → e ≡ (a || b) → (a || d) ≡ (e || c)
or_joined true b c d e first second = ap (λ x. x || c) (sym second)
or_joined false b c d e first second = first ∙ ap (λ x. x || c) (sym second)

pub apart_next : (fs : List Formula) (i : ℕ) (d : Formula) → i < length fs
    → list_any (nat_lt most_branches) (apart_in (map branching_of (take (suc i) fs)))
    ≡ (list_any (nat_lt most_branches) (apart_in (map branching_of (take i fs)))
    || list_any (nat_lt most_branches) (branching_of (get_or fs i d)).apart)
apart_next [] i d below = let no : ⊥ = omega (arith, below) in absurd no
apart_next (f ∷ fs) zero d below = ap (list_any (nat_lt most_branches)) (append-nil (branching_of f).apart)
apart_next (f ∷ fs) (suc i) d below =
    let lower : i < length fs = omega (arith, below) in
    let is_over = list_any (nat_lt most_branches) in
    let first = (branching_of f).apart in
    let before = apart_in (map branching_of (take i fs)) in
    list_any-append (nat_lt most_branches) first (apart_in (map branching_of (take (suc i) fs)))
    ∙ or_joined (is_over first) (is_over before) (is_over (branching_of (get_or fs i d)).apart)
    (is_over (apart_in (map branching_of (take (suc i) fs)))) (is_over (first ++ before))
    (apart_next fs i d lower) (list_any-append (nat_lt most_branches) first before)
