-- What some changes make of each fact: how it is kept, and what it says of the state that they lead to.
use Rattle.std.proofs.Common.{◌≡◌, Bool, true, false, cond, ◌||◌, ◌&&◌, List, [], ◌∷◌, ℕ, ◌+◌, ◌-◌, ◌<◌, ◌≤◌, length}
use Rattle.std.proofs.Common.{drop, get_or, refl, sym, ap, ap₂, ◌∙◌, None, Some, is_some, true≢false, arith}
use Rattle.std.proofs.Common.{Ordering, Less, Equal, Greater}
use Rattle.std.specs.declared.option.Option.{Option}
use Rattle.std.specs.Option.{option_or}
use Rattle.std.specs.Ordering.{ordering_then, is_eq, match_ordering}
use Rattle.std.specs.BTreeSet.{insert_key}
use Rattle.std.specs.List.{list_any}
use Rattle.std.proofs.lemmas.Cmp.{eq_by_cmp_equiv}
use Rattle.std.proofs.lemmas.List.{drop_more}
use Rattle.rif_values.specs.declared.constant.Const.{Const}
use Rattle.rif_values.specs.declared.fact.Fact.{Fact}
use Rattle.rif_values.specs.declared.fact.Fact.TheVariants.{Atom, Frame, Member}
use Rattle.rif_values.specs.declared.change.Change.{Change}
use Rattle.rif_values.specs.declared.change.Change.TheVariants.{Modify}
use Rattle.rif_values.specs.Facts.{same_const, same_fact, is_slot_value}
use Rattle.rif_values.specs.Order.{const_cmp}
use Rattle.rif_values.proofs.CallerLemmas.{const_order_is, total_consts, exact_consts, total_facts, exact_facts}
use Rattle.rif_sets.proofs.CallerLemmas.{equal_is}
use Rattle.rif_facts.specs.contracts.fates.RetractionOrd.TheImpl as retraction_order
use Rattle.rif_facts.specs.declared.fates.Retraction.{Retraction}
use Rattle.rif_facts.specs.declared.fates.Retraction.TheVariants.{OfObject, OfSlot}
use Rattle.rif_facts.specs.Marks.{mark_at}
use Rattle.rif_facts.specs.Fates.{decided, fate_in, fate_of, is_taken_by, is_taken, same_retraction}

-- ---- retractions

is_eq_then : (a b : Ordering) → is_eq (ordering_then a b) ≡ (is_eq a && is_eq b)
is_eq_then Less b = refl
is_eq_then Equal b = refl
is_eq_then Greater b = refl

-- the derived order tells retractions apart as the words do
pub same_is : (r s : Retraction) → is_eq (retraction_order.ghosts.cmp r s) ≡ same_retraction r s
same_is (OfObject o) (OfObject p) = ap (λ (R : Const → Const → Ordering). is_eq (R o p)) const_order_is
same_is (OfSlot o s) (OfSlot p t) =
    ap (λ (R : Const → Const → Ordering). is_eq (ordering_then (R o p) (R s t))) const_order_is
    ∙ is_eq_then (const_cmp o p) (const_cmp s t)
same_is (OfObject o) (OfSlot p t) = refl
same_is (OfSlot o s) (OfObject p) = refl

both : (a b : Bool) → (a && b) ≡ true → (a ≡ true) × (b ≡ true)
both true true is = (refl, refl)
both true false is = absurd (true≢false (sym is))
both false b is = absurd (true≢false (sym is))

alike : (r s : Retraction) → same_retraction r s ≡ true → r ≡ s
alike (OfObject o) (OfObject p) same = ap OfObject (equal_is total_consts exact_consts o p same)
alike (OfSlot o s) (OfSlot p t) same =
    let parts = both _ _ same in
    ap₂ OfSlot (equal_is total_consts exact_consts o p parts.0) (equal_is total_consts exact_consts s t parts.1)
alike (OfObject o) (OfSlot p t) same = absurd (true≢false (sym same))
alike (OfSlot o s) (OfObject p) same = absurd (true≢false (sym same))

-- retractions that compare alike are one
pub exact_retractions : (r s : Retraction) → retraction_order.ghosts.cmp r s ≡ Equal → r ≡ s
exact_retractions r s equal = alike r s (sym (same_is r s) ∙ ap is_eq equal)

pub any_same : (r : Retraction) (rs : List Retraction)
    → list_any (λ s. is_eq (retraction_order.ghosts.cmp r s)) rs ≡ list_any (same_retraction r) rs
any_same r rs = ap (λ (t : Retraction → Bool). list_any t rs) (λ i s. same_is r s i)

-- which facts some retractions take away
pub taken_atom : (p : Const) (cs : List Const) (rs : List Retraction) → false ≡ is_taken rs (Atom p cs)
taken_atom p cs [] = refl
taken_atom p cs (OfObject o ∷ rs) = taken_atom p cs rs
taken_atom p cs (OfSlot o s ∷ rs) = taken_atom p cs rs

or_four : (a b c d : Bool) → ((a || c) || (b || d)) ≡ ((a || b) || (c || d))
or_four true b c d = refl
or_four false true true d = refl
or_four false true false d = refl
or_four false false c d = refl

swapped : (a b : Const) → same_const a b ≡ same_const b a
swapped = (eq_by_cmp_equiv total_consts).symm

pub taken_frame : (o s v : Const) (rs : List Retraction)
    → (list_any (same_retraction (OfObject o)) rs || list_any (same_retraction (OfSlot o s)) rs)
    ≡ is_taken rs (Frame o s v)
taken_frame o s v [] = refl
taken_frame o s v (OfObject p ∷ rs) =
    or_four (same_const o p) false _ _ ∙ ap₂ (λ a b. a || b) (or_false _ ∙ swapped o p) (taken_frame o s v rs)
  where
    or_false : (b : Bool) → (b || false) ≡ b
    or_false true = refl
    or_false false = refl
taken_frame o s v (OfSlot p t ∷ rs) =
    or_four false (same_const o p && same_const s t) _ _
    ∙ ap₂ (λ a b. a || b) (ap₂ (λ a b. a && b) (swapped o p) (swapped s t)) (taken_frame o s v rs)

pub taken_member : (o c : Const) (rs : List Retraction)
    → list_any (same_retraction (OfObject o)) rs ≡ is_taken rs (Member o c)
taken_member o c [] = refl
taken_member o c (OfObject p ∷ rs) = ap₂ (λ a b. a || b) (swapped o p) (taken_member o c rs)
taken_member o c (OfSlot p t ∷ rs) = taken_member o c rs

-- one retraction more
or_again : (a b : Bool) → (a || b) ≡ (a || (a || b))
or_again true b = refl
or_again false b = refl

or_swap : (a b c : Bool) → (a || (b || c)) ≡ (b || (a || c))
or_swap true true c = refl
or_swap true false c = refl
or_swap false true c = refl
or_swap false false c = refl

pub taken_more : (r : Retraction) (rs : List Retraction) (q : Fact)
    → is_taken (insert_key retraction_order.ghosts.cmp rs r) q ≡ (is_taken_by r q || is_taken rs q)
taken_more r [] q = refl
taken_more r (s ∷ rs) q =
    by_order (λ ks. is_taken ks q ≡ (is_taken_by r q || is_taken (s ∷ rs) q)) (retraction_order.ghosts.cmp r s)
    (r ∷ s ∷ rs) (s ∷ rs) (s ∷ insert_key retraction_order.ghosts.cmp rs r) refl
    (λ equal.
    or_again (is_taken_by s q) (is_taken rs q)
    ∙ ap (λ (t : Retraction). is_taken_by t q || (is_taken_by s q || is_taken rs q))
    (sym (exact_retractions r s equal)))
    (ap (λ b. is_taken_by s q || b) (taken_more r rs q)
    ∙ or_swap (is_taken_by s q) (is_taken_by r q) (is_taken rs q))
  where
    by_order : {X : Type 0} (P : X → Type 0) (o : Ordering) (a b c : X) → P a → (o ≡ Equal → P b) → P c
        → P (match_ordering o a b c)
    by_order P Less a b c less equal greater = less
    by_order P Equal a b c less equal greater = equal refl
    by_order P Greater a b c less equal greater = greater

-- ---- fates, one change before those that were read

pub or_none : {X : Type 0} (o : Option X) → option_or o None ≡ o
or_none None = refl
or_none (Some x) = refl

or_assoc : {X : Type 0} (a b c : Option X) → option_or (option_or a b) c ≡ option_or a (option_or b c)
or_assoc None b c = refl
or_assoc (Some x) b c = refl

-- a fact that was not decided gets its own fate
own_step : (same : Bool) (own : Option Bool) (taken stands : Bool)
    → (same ≡ true → option_or own (decided taken false) ≡ None)
    → option_or (cond same (Some stands) own) (decided taken false)
    ≡ option_or (option_or own (decided taken false)) (decided same stands)
own_step true own taken stands none = ap (λ o. option_or o (Some stands)) (sym (none refl))
own_step false own taken stands none = sym (or_none _)

kept_step : (same : Bool) (fate : Option Bool) (stands : Bool) → (same ≡ true → is_some fate ≡ true)
    → fate ≡ option_or fate (decided same stands)
kept_step true None stands some = absurd (true≢false (sym (some refl)))
kept_step true (Some b) stands some = refl
kept_step false fate stands some = sym (or_none fate)

taken_step : (own : Option Bool) (now before : Bool)
    → option_or own (decided (now || before) false)
    ≡ option_or (option_or own (decided before false)) (decided now false)
taken_step (Some b) now before = refl
taken_step None true true = refl
taken_step None true false = refl
taken_step None false true = refl
taken_step None false false = refl

-- ---- what the fates are, as they are kept

module _ (own : List (Fact × Bool)) (taken : List Retraction) where
  abbrev kept : Fact → Option Bool
  kept q = option_or (mark_at own q) (decided (is_taken taken q) false)

  -- a fact with a mark, and one with none
  pub own_is_some : (q : Fact) → is_some (mark_at own q) ≡ true → true ≡ is_some (kept q)
  own_is_some q some = by (mark_at own q) some
    where
      by : (m : Option Bool) → is_some m ≡ true → true ≡ is_some (option_or m (decided (is_taken taken q) false))
      by None some = absurd (true≢false (sym some))
      by (Some b) some = refl

  pub taken_is_some : (q : Fact) → is_some (mark_at own q) ≡ false → is_taken taken q ≡ is_some (kept q)
  taken_is_some q none = by (mark_at own q) (is_taken taken q) none
    where
      by : (m : Option Bool) (t : Bool) → is_some m ≡ false → t ≡ is_some (option_or m (decided t false))
      by None true none = refl
      by None false none = refl
      by (Some b) t none = absurd (true≢false none)

  none_of : (o : Option Bool) → is_some o ≡ false → o ≡ None
  none_of None none = refl
  none_of (Some b) none = absurd (true≢false none)

  -- a fact decided that wasn't
  pub decided_now : (next : List (Fact × Bool)) (f : Fact) (stands : Bool) → is_some (kept f) ≡ false
      → ((q : Fact) → mark_at next q ≡ cond (same_fact f q) (Some stands) (mark_at own q)) → (q : Fact)
      → option_or (mark_at next q) (decided (is_taken taken q) false)
      ≡ option_or (kept q) (decided (same_fact f q) stands)
  decided_now next f stands undecided put q =
      ap (λ m. option_or m (decided (is_taken taken q) false)) (put q)
      ∙ own_step (same_fact f q) (mark_at own q) (is_taken taken q) stands (λ same.
      none_of (kept q) (ap (λ (g : Fact). is_some (kept g)) (sym (equal_is total_facts exact_facts f q same)) ∙
      undecided))

  -- and one that was
  pub decided_before : (f : Fact) (stands : Bool) → is_some (kept f) ≡ true → (q : Fact)
      → kept q ≡ option_or (kept q) (decided (same_fact f q) stands)
  decided_before f stands known q =
      kept_step (same_fact f q) (kept q) stands (λ same.
      ap (λ (g : Fact). is_some (kept g)) (sym (equal_is total_facts exact_facts f q same)) ∙ known)

  -- a retraction more
  pub retracted_now : (next : List Retraction) (r : Retraction) → next ≡ insert_key retraction_order.ghosts.cmp taken
      r
      → (q : Fact) → option_or (mark_at own q) (decided (is_taken next q) false)
      ≡ option_or (kept q) (decided (is_taken_by r q) false)
  retracted_now next r is q =
      ap (λ b. option_or (mark_at own q) (decided b false))
      (ap (λ (rs : List Retraction). is_taken rs q) is ∙ taken_more r taken q)
      ∙ taken_step (mark_at own q) (is_taken_by r q) (is_taken taken q)

-- the changes from one place earlier on
pub fate_before : (changes : List Change) (left : ℕ) (change : Change) (q : Fact) (now next : Option Bool) → 0 < left
    → left ≤ length changes → change ≡ get_or changes (left - 1) change → now ≡ fate_of (drop left changes) q
    → next ≡ option_or now (fate_in change q) → next ≡ fate_of (drop (left - 1) changes) q
fate_before changes left change q now next some within is was step =
    let inner : left - 1 < length changes = omega arith in
    let again : left - 1 + 1 ≡ left = omega arith in
    step ∙ ap (λ o. option_or o (fate_in change q)) (was ∙ ap (λ n. fate_of (drop n changes) q) (sym again))
    ∙ ap (λ (d : Change). option_or (fate_of (drop (left - 1 + 1) changes) q) (fate_in d q)) is
    ∙ ap (λ (ds : List Change). fate_of ds q) (sym (drop_more changes (left - 1) change inner))

-- two fates, one after the other
pub fate_of_both : (before now next first second : Option Bool) → now ≡ option_or before first
    → next ≡ option_or now second → next ≡ option_or before (option_or first second)
fate_of_both before now next first second is step =
    step ∙ ap (λ o. option_or o second) is ∙ or_assoc before first second

pub modified : (f : Fact) (o s v p t w : Const) (q : Fact) → p ≡ o → t ≡ s → w ≡ v → f ≡ Frame p t w
    → option_or (decided (same_fact f q) true) (decided (is_slot_value o s q) false) ≡ fate_in (Modify o s v) q
modified f o s v p t w q object slot value is =
    ap (λ (g : Fact). option_or (decided (same_fact g q) true) (decided (is_slot_value o s q) false))
    (is ∙ (λ i. Frame (object i) (slot i) (value i)))
