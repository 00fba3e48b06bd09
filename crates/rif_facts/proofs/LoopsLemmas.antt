-- What loops over a state's facts keep.
use Rattle.std.proofs.Common.{◌≡◌, Bool, true, false, cond, ◌||◌, ◌&&◌, List, [], ◌∷◌, ◌++◌, ℕ, ◌+◌, ◌<◌, suc, length}
use Rattle.std.proofs.Common.{take, drop, get_or, refl, sym, ap, ap₂, ◌∙◌, subst, Less, None, Some, is_some}
use Rattle.std.proofs.Common.{true≢false, arith}
use Rattle.std.proofs.Common.{Result, Ok, Err, OnErr}
use Rattle.std.specs.declared.option.Option.{Option}
use Rattle.std.specs.Ordering.{is_eq, ordering_reverse}
use Rattle.std.specs.List.{AllByRecursion}
use Rattle.std.specs.List.Sorted.{IsStrictlySortedBy}
use Rattle.std.proofs.lemmas.Cmp.{eq_by_cmp_equiv}
use Rattle.std.proofs.lemmas.List.{take_more, take-append-drop}
use Rattle.rif_values.specs.declared.fact.Fact.{Fact}
use Rattle.rif_values.specs.Facts.{IsFacts, has_fact, same_fact}
use Rattle.rif_values.specs.Order.{fact_cmp}
use Rattle.rif_values.proofs.CallerLemmas.{total_facts, exact_facts}
use Rattle.rif_sets.proofs.CallerLemmas.{equal_itself, has_append}

-- ---- one fact more

or_false : (b : Bool) → (b || false) ≡ b
or_false true = refl
or_false false = refl

pub has_more : (facts : List Fact) (i : ℕ) (f q : Fact) → i < length facts → f ≡ get_or facts i f
    → has_fact (take (i + 1) facts) q ≡ (has_fact (take i facts) q || same_fact f q)
has_more facts i f q within is =
    ap (λ (gs : List Fact). has_fact gs q) (take_more facts i f within ∙ ap (λ g. take i facts ++ g ∷ []) (sym is))
    ∙ has_append total_facts exact_facts (take i facts) (f ∷ []) q
    ∙ ap (λ b. has_fact (take i facts) q || b)
    (or_false _ ∙ (eq_by_cmp_equiv total_facts).symm q f)

write_step : (c d : Bool) (w old now next : Option Bool) → next ≡ cond c w now → now ≡ cond d w old
    → next ≡ cond (d || c) w old
write_step true true w old now next is was = is
write_step true false w old now next is was = is
write_step false true w old now next is was = is ∙ was
write_step false false w old now next is was = is ∙ was

-- a mark written, or taken out, of one fact more
pub written_more : (facts : List Fact) (i : ℕ) (f q : Fact) (w old now next : Option Bool) → i < length facts
    → f ≡ get_or facts i f → next ≡ cond (same_fact f q) w now → now ≡ cond (has_fact (take i facts) q) w old
    → next ≡ cond (has_fact (take (i + 1) facts) q) w old
written_more facts i f q w old now next within is step was =
    write_step (same_fact f q) (has_fact (take i facts) q) w old now next step was
    ∙ ap (λ b. cond b w old) (sym (has_more facts i f q within is))

count_step : (c d : Bool) (old : Option Bool)
    → cond (c && is_some (cond (d && is_some old) (Some true) old)) (Some true)
    (cond (d && is_some old) (Some true) old)
    ≡ cond ((d || c) && is_some old) (Some true) old
count_step true true None = refl
count_step true true (Some mark) = refl
count_step true false None = refl
count_step true false (Some mark) = refl
count_step false true None = refl
count_step false true (Some mark) = refl
count_step false false old = refl

-- one fact more that counts
pub counted_more : (facts : List Fact) (i : ℕ) (f q : Fact) (old now next : Option Bool) → i < length facts
    → f ≡ get_or facts i f → next ≡ cond (same_fact f q && is_some now) (Some true) now
    → now ≡ cond (has_fact (take i facts) q && is_some old) (Some true) old
    → next ≡ cond (has_fact (take (i + 1) facts) q && is_some old) (Some true) old
counted_more facts i f q old now next within is step was =
    step ∙ ap (λ m. cond (same_fact f q && is_some m) (Some true) m) was
    ∙ count_step (same_fact f q) (has_fact (take i facts) q) old
    ∙ ap (λ b. cond (b && is_some old) (Some true) old) (sym (has_more facts i f q within is))

-- ---- the facts before a place

all_at : (P : Fact → Type 0) (facts : List Fact) (i : ℕ) (d : Fact) → AllByRecursion P facts → i < length facts
    → P (get_or facts i d)
all_at P [] i d all within = absurd (omega arith)
all_at P (f ∷ facts) Prim.Native.Nat.zero d all within = all.0
all_at P (f ∷ facts) (suc i) d all within = all_at P facts i d all.1 (omega arith)

above_not_same : (f g : Fact) → fact_cmp g f ≡ Less → is_eq (fact_cmp f g) ≡ false
above_not_same f g less = ap is_eq (total_facts.antisymm f g ∙ ap ordering_reverse less)

-- a fact stands nowhere before its place
pub not_before : (facts : List Fact) (i : ℕ) (f : Fact) → IsFacts facts → i < length facts → f ≡ get_or facts i f
    → has_fact (take i facts) f ≡ false
unfolding IsStrictlySortedBy
not_before [] i f set within is = absurd (omega arith)
not_before (g ∷ facts) Prim.Native.Nat.zero f set within is = refl
not_before (g ∷ facts) (suc i) f set within is =
    let inner : i < length facts = omega arith in
    ap₂ (λ a b. a || b)
    (above_not_same f g (subst (λ (h : Fact). fact_cmp g h ≡ Less) (sym is)
    (all_at (λ h. fact_cmp g h ≡ Less) facts i f set.0 inner)))
    (not_before facts i f set.1 inner is)

has_parts : (facts : List Fact) (i : ℕ) (q : Fact)
    → has_fact facts q ≡ (has_fact (take i facts) q || has_fact (drop i facts) q)
has_parts facts i q =
    ap (λ (fs : List Fact). has_fact fs q) (sym (take-append-drop i facts))
    ∙ has_append total_facts exact_facts (take i facts) (drop i facts) q

or_true : (a b : Bool) → b ≡ true → (a || b) ≡ true
or_true true b is = refl
or_true false b is = is

true_or : (a b : Bool) → a ≡ true → (a || b) ≡ true
true_or true b is = refl
true_or false b is = absurd (true≢false (sym is))

neither : (a b : Bool) → (a || b) ≡ false → a ≡ false
neither true b is = is
neither false b is = refl

-- a fact at a place is there
pub has_at : (facts : List Fact) (i : ℕ) (f : Fact) → i < length facts → f ≡ get_or facts i f
    → has_fact facts f ≡ true
has_at facts i f within is =
    has_parts facts (i + 1) f
    ∙ true_or (has_fact (take (i + 1) facts) f) (has_fact (drop (i + 1) facts) f)
    (has_more facts i f f within is ∙ or_true _ _ (equal_itself total_facts exact_facts f))

-- what isn't there isn't among the first
pub has_first : (facts : List Fact) (i : ℕ) (q : Fact) → has_fact facts q ≡ false → has_fact (take i facts) q ≡ false
has_first facts i q absent =
    neither (has_fact (take i facts) q) (has_fact (drop i facts) q) (sym (has_parts facts i q) ∙ absent)

-- what holds, holds after a refusal
pub on_err : {T E : Type 0} (r : Result T E) (P : Type 0) → P → OnErr r P
on_err (Ok x) P holds = tt
on_err (Err e) P holds = holds
