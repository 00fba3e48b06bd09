-- Which value of a slot is the least.
use Rattle.std.proofs.Common.{◌≡◌, ◌≢◌, ◌∙◌, Bool, true, false, cond, ◌&&◌, ◌||◌, List, [], ◌∷◌, slice_get}
use Rattle.std.proofs.Common.{Some, None}
use Rattle.std.proofs.Common.{refl, ap, sym, subst}
use Rattle.std.specs.List.{cons_option, filter, filter_map}
use Rattle.std.specs.declared.cmp.Ordering.{Ordering}
use Rattle.std.specs.declared.cmp.Ordering.TheVariants.{Less, Equal, Greater}
use Rattle.std.specs.Ordering.{is_eq, is_gt, ordering_reverse, ordering_then}
use Rattle.std.specs.declared.option.Option.{Option}
use Rattle.rif_values.specs.declared.constant.Const.{Const}
use Rattle.rif_values.specs.declared.fact.Fact.{Fact}
use Rattle.rif_values.specs.declared.fact.Fact.TheVariants.{Atom, Frame, Member}
use Rattle.rif_values.specs.Facts.{IsFacts, has_fact, is_slot_value, same_const, same_fact}
use Rattle.rif_values.specs.Order.{const_cmp, fact_cmp}
use Rattle.rif_values.proofs.CallerLemmas.{total_consts, exact_consts, total_facts, exact_facts}
use Rattle.rif_sets.proofs.CallerLemmas.{equal_is, equal_itself, first_is_least, set_rest}
use Rattle.rif_actions.specs.Blocks.{least_value, slot_value}
use Rattle.rif_actions.specs.Laws.{IsLeastValue}
use Rattle.rif_actions.specs.Uses.{value_of_first}

both : (a b : Bool) → (a && b) ≡ true → (a ≡ true) × (b ≡ true)
both true b h = (refl, h)
both false b h = absurd (cc h)

-- a fact that has a value for a slot is that slot's frame
slot_fact : (o s c : Const) (f : Fact) → slot_value o s f ≡ Some c → f ≡ Frame o s c
slot_fact o s c (Atom p cs) is = absurd (cc is)
slot_fact o s c (Frame p t v) is = by_test (same_const o p && same_const s t) refl is
  where
    by_test : (b : Bool) → (same_const o p && same_const s t) ≡ b → cond b (Some v) None ≡ Some c
        → Frame p t v ≡ Frame o s c
    by_test true same is =
        let parts = both (same_const o p) (same_const s t) same in
        let value : v ≡ c = cc is in
        let object : p ≡ o = sym (equal_is total_consts exact_consts o p parts.0) in
        let slot : t ≡ s = sym (equal_is total_consts exact_consts s t parts.1) in
        λ i. Frame (object i) (slot i) (value i)
    by_test false same is = absurd (cc is)
slot_fact o s c (Member p d) is = absurd (cc is)

-- a slot's frame has its value
slot_has : (o s u : Const) → slot_value o s (Frame o s u) ≡ Some u
slot_has o s u =
    ap (λ b. cond (b && same_const s s) (Some u) None) (equal_itself total_consts exact_consts o)
    ∙ ap (λ b. cond b (Some u) None) (equal_itself total_consts exact_consts s)

equal_order : (r : Ordering) → is_eq r ≡ true → r ≡ Equal
equal_order Less h = absurd (cc h)
equal_order Equal h = refl
equal_order Greater h = absurd (cc h)

alike : (c : Const) → const_cmp c c ≡ Equal
alike c = equal_order (const_cmp c c) (equal_itself total_consts exact_consts c)

-- the frames of one object and slot stand as their values do
frames_stand : (o s v u : Const) → fact_cmp (Frame o s v) (Frame o s u) ≡ const_cmp v u
frames_stand o s v u =
    ap (λ r. ordering_then r (ordering_then (const_cmp s s) (const_cmp v u))) (alike o)
    ∙ ap (λ r. ordering_then r (const_cmp v u)) (alike s)

-- what isn't above and isn't the same is below
below : (v u : Const) (r : Ordering) → const_cmp v u ≡ r → is_gt r ≡ false → u ≢ v → r ≡ Less
below v u Less is least apart = refl
below v u Equal is least apart = absurd (apart (sym (exact_consts v u is)))
below v u Greater is least apart = absurd (cc least)

-- the first value is the least
first_below : (o s c : Const) (w : List Fact) (u : Const) → IsFacts (Frame o s c ∷ w)
    → has_fact (Frame o s c ∷ w) (Frame o s u) ≡ true → u ≢ c → const_cmp c u ≡ Less
first_below o s c w u set there apart =
    below c u (const_cmp c u) refl
    (sym (ap is_gt (frames_stand o s c u))
    ∙ first_is_least total_facts exact_facts (Frame o s c) w (Frame o s u) set there) apart

-- a fact that has no value for the slot isn't its frame
not_first : (o s u : Const) (f : Fact) (w : List Fact) → slot_value o s f ≡ None
    → has_fact (f ∷ w) (Frame o s u) ≡ true → has_fact w (Frame o s u) ≡ true
not_first o s u f w none there = by_test (same_fact (Frame o s u) f) refl there
  where
    by_test : (b : Bool) → same_fact (Frame o s u) f ≡ b → (b || has_fact w (Frame o s u)) ≡ true
        → has_fact w (Frame o s u) ≡ true
    by_test true same there =
        absurd (cc (sym (slot_has o s u)
        ∙ ap (slot_value o s) (equal_is total_facts exact_facts (Frame o s u) f same) ∙ none))
    by_test false same there = there

behind : (a b : Bool) → b ≡ true → (a || b) ≡ true
behind true b is = refl
behind false b is = is

-- the slot has a value, and each other one is above it
abbrev IsLeast : List Fact → Const → Const → Const → Type 0
IsLeast w o s v = (has_fact w (Frame o s v) ≡ true)
    × ((u : Const) → has_fact w (Frame o s u) ≡ true → u ≢ v → const_cmp v u ≡ Less)

-- of a state with a first fact, whose value is the least where it has one
abbrev first_value : Option Const → List Fact → Const → Const → Option Const
first_value (Some c) w o s = Some c
first_value None w o s = least_value w o s

first_is : (f : Fact) (w : List Fact) (o s : Const) (first : Option Const) → slot_value o s f ≡ first
    → least_value (f ∷ w) o s ≡ first_value first w o s
first_is f w o s (Some c) is =
    ap (λ (x : Option Const). slice_get (cons_option x (filter_map (slot_value o s) w)) 0) is
first_is f w o s None is =
    ap (λ (x : Option Const). slice_get (cons_option x (filter_map (slot_value o s) w)) 0) is

is_least : (w : List Fact) (o s v : Const) → IsFacts w → least_value w o s ≡ Some v → IsLeast w o s v
is_least [] o s v set is = absurd (cc is)
is_least (f ∷ w) o s v set is =
    by_first (slot_value o s f) refl (sym (first_is f w o s (slot_value o s f) refl) ∙ is)
    (λ rest. is_least w o s v (set_rest total_facts exact_facts f w set) rest)
  where
    by_first : (first : Option Const) → slot_value o s f ≡ first → first_value first w o s ≡ Some v
        → (least_value w o s ≡ Some v → IsLeast w o s v) → IsLeast (f ∷ w) o s v
    by_first (Some c) has is later =
        let frame : f ≡ Frame o s v = slot_fact o s v f (has ∙ is) in
        subst (λ (g : Fact). IsFacts (g ∷ w) → IsLeast (g ∷ w) o s v) (sym frame)
        (λ set. (
          ap (λ b. b || has_fact w (Frame o s v)) (equal_itself total_facts exact_facts (Frame o s v)),
          λ u there apart. first_below o s v w u set there apart,
        ))
        set
    by_first None has is later =
        let rest = later is in (
          behind (same_fact (Frame o s v) f) (has_fact w (Frame o s v)) rest.0,
          λ u there apart. rest.1 u (not_first o s u f w has there) apart,
        )

-- another first value would be above the least one and below it
least_first : (w : List Fact) (o s v c : Const) → IsFacts (Frame o s c ∷ w) → IsLeast (Frame o s c ∷ w) o s v
    → (r : Ordering) → const_cmp v c ≡ r → c ≡ v
least_first w o s v c set least Less is =
    let above = first_below o s c w v set least.0
    (λ same. cc (sym is ∙ ap (λ (x : Const). const_cmp x c) same ∙ alike c)) in
    absurd (cc (sym is ∙ total_consts.antisymm v c ∙ ap ordering_reverse above))
least_first w o s v c set least Equal is = sym (exact_consts v c is)
least_first w o s v c set least Greater is =
    absurd (cc (sym is
    ∙ least.1 c (ap (λ b. b || has_fact w (Frame o s c)) (equal_itself total_facts exact_facts (Frame o s c)))
    (λ same. cc (sym is ∙ ap (const_cmp v) same ∙ alike v))))

least_is : (w : List Fact) (o s v : Const) → IsFacts w → IsLeast w o s v → least_value w o s ≡ Some v
least_is [] o s v set least = absurd (cc least.0)
least_is (f ∷ w) o s v set least =
    first_is f w o s (slot_value o s f) refl
    ∙ by_first (slot_value o s f) refl (λ rest. least_is w o s v (set_rest total_facts exact_facts f w set) rest)
  where
    by_first : (first : Option Const) → slot_value o s f ≡ first
        → (IsLeast w o s v → least_value w o s ≡ Some v) → first_value first w o s ≡ Some v
    by_first (Some c) has later =
        let frame : f ≡ Frame o s c = slot_fact o s c f has in
        ap Some (least_first w o s v c (subst (λ (g : Fact). IsFacts (g ∷ w)) frame set)
        (subst (λ (g : Fact). IsLeast (g ∷ w) o s v) frame least) (const_cmp v c) refl)
    by_first None has later =
        later (
          not_first o s v f w has least.0,
          λ u there apart. least.1 u (behind (same_fact (Frame o s u) f) (has_fact w (Frame o s u)) there) apart,
        )

pub least_value_is : IsLeastValue
least_value_is w o s v set = (is_least w o s v set, least_is w o s v set)

-- ---- among the frames of the object and slot

-- the least value is that of the first of these
pub least_is_first : (o s : Const) (w : List Fact)
    → value_of_first (filter (is_slot_value o s) w) ≡ least_value w o s
least_is_first o s [] = refl
least_is_first o s (Atom p cs ∷ w) = least_is_first o s w
least_is_first o s (Frame p t v ∷ w) = at (same_const o p && same_const s t) (least_is_first o s w)
  where
    at : (b : Bool) → value_of_first (filter (is_slot_value o s) w) ≡ least_value w o s
        → value_of_first (cond b (Frame p t v ∷ filter (is_slot_value o s) w) (filter (is_slot_value o s) w))
        ≡ slice_get (cons_option (cond b (Some v) None) (filter_map (slot_value o s) w)) 0
    at true later = refl
    at false later = later
least_is_first o s (Member p c ∷ w) = least_is_first o s w
