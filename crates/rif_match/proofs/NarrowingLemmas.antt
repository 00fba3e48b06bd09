-- A fact that the narrowest key doesn't name isn't matched.
use Rattle.std.proofs.Common.{◌≡◌, ◌∙◌, ℕ, ◌==◌, Bool, true, false, cond, List, [], ◌∷◌, filter, filter_map, Some}
use Rattle.std.proofs.Common.{None}
use Rattle.std.proofs.Common.{refl, sym, ap, subst, arith, ◌&&◌, map}
use Rattle.std.proofs.lemmas.Bool.Decides.{nat_tests}
use Rattle.std.specs.List.{cons_option}
use Rattle.std.specs.Option.{option_and_then}
use Rattle.std.specs.declared.option.Option.{Option}
use Rattle.rif_values.specs.declared.constant.Const.{Const}
use Rattle.rif_values.specs.declared.fact.Fact.{Fact}
use Rattle.rif_values.specs.declared.fact.Fact.TheVariants.{Atom, Frame, Member}
use Rattle.rif_values.specs.Bindings.{Row, value_at, bound}
use Rattle.rif_values.specs.Facts.{same_const}
use Rattle.rif_tree.specs.declared.tree.Term.{Term, map-Term, roll-Term}
use Rattle.rif_tree.specs.declared.tree.Term.TheOpen.{Term-F, Const as ConstLayer, Var as VarLayer, Call as CallLayer}
use Rattle.rif_tree.specs.declared.tree.Term.TheFolds.{fold-roll-Term, ind-Term}
use Rattle.rif_tree.specs.Variables.{variable_of, variable_step}
use Rattle.rif_builtins.specs.declared.pattern.Pattern.TheVariants.{Atom as AtomPattern, Slot as SlotPattern}
use Rattle.rif_builtins.specs.declared.pattern.Pattern.TheVariants.{Member as MemberPattern}
use Rattle.rif_builtins.specs.Extensions.{agreeing, binding_to, match_as, match_term, match_terms, match_fact}
use Rattle.rif_builtins.specs.Values.{value_of, value_step}
use Rattle.rif_builtins.proofs.CallerLemmas.{value_bound}
use Rattle.rif_facts.specs.declared.keys.Key.TheVariants.{Predicate}
use Rattle.rif_match.specs.Narrowing.{known, known_step, frame_key, member_key, IsKeyFor}

-- what a filter leaves out gives nothing
pub filter_gives : {A B : Type 0} (p : A → Bool) (f : A → Option B) (xs : List A)
    → ((x : A) → p x ≡ false → f x ≡ None) → filter_map f (filter p xs) ≡ filter_map f xs
filter_gives p f [] none = refl
filter_gives {B = B} p f (x ∷ xs) none = at (p x) refl (filter_gives p f xs none)
  where
    at : (b : Bool) → p x ≡ b → filter_map f (filter p xs) ≡ filter_map f xs
        → filter_map f (cond b (x ∷ filter p xs) (filter p xs)) ≡ filter_map f (x ∷ xs)
    at true is later = ap (cons_option (f x)) later
    at false is later = later ∙ sym (ap (λ (o : Option B). cons_option o (filter_map f xs)) (none x is))

-- ---- a term that is known

-- a term that is known is matched by that constant alone, and then adds nothing to the row
abbrev IsMatchedAsKnown : Row → Term → Type 0
IsMatchedAsKnown row t = (c d : Const) → known row t ≡ Some c
    → match_term row t d ≡ cond (same_const c d) (Some row) None

abbrev KnownTerm : Row → Type 0
KnownTerm row = (t : Term) × IsMatchedAsKnown row t

matched_at : (row : Row) (y : Term-F (KnownTerm row))
    → IsMatchedAsKnown row (roll-Term (map-Term (KnownTerm row) Term (λ e. e.0) y))
matched_at row (ConstLayer b) c d is =
    let t = roll-Term (ConstLayer b) in
    let same : b ≡ c = cc (sym (fold-roll-Term (Option Const) (known_step row) (ConstLayer b)) ∙ is) in
    ap (λ (o : Option ℕ). match_as o row t d) (fold-roll-Term (Option ℕ) variable_step (ConstLayer b))
    ∙ ap (λ (o : Option Const). agreeing row o d) (fold-roll-Term (Option Const) (value_step row) (ConstLayer b))
    ∙ ap (λ e. cond (same_const e d) (Some row) None) same
matched_at row (VarLayer v) c d is =
    let t = roll-Term (VarLayer v) in
    ap (λ (o : Option ℕ). match_as o row t d) (fold-roll-Term (Option ℕ) variable_step (VarLayer v))
    ∙ ap (λ (o : Option Const). binding_to row v o d)
    (sym (fold-roll-Term (Option Const) (known_step row) (VarLayer v)) ∙ is)
matched_at row (CallLayer func es) c d is =
    absurd (cc (sym (fold-roll-Term (Option Const) (known_step row)
    (CallLayer func (map (λ (e : KnownTerm row). e.0) es))) ∙ is))

pub matched_as_known : (row : Row) (t : Term) → IsMatchedAsKnown row t
matched_as_known row =
    ind-Term (IsMatchedAsKnown row) (λ x y is. subst (λ z. IsMatchedAsKnown row (roll-Term z)) is (matched_at row y))

pub not_matched : (row : Row) (t : Term) (c d : Const) → known row t ≡ Some c → same_const c d ≡ false
    → match_term row t d ≡ None
not_matched row t c d is other = matched_as_known row t c d is ∙ ap (λ b. cond b (Some row) None) other

-- ---- a row that was matched keeps what is known

module _ (row next : Row) (t : Term) (p : Const) where
  agreed : (held : Option Const) → agreeing row held p ≡ Some next → row ≡ next
  agreed None is = absurd (cc is)
  agreed (Some d) is = at (same_const d p) is
    where
      at : (b : Bool) → cond b (Some row) None ≡ Some next → row ≡ next
      at true same = cc same
      at false same = absurd (cc same)

  module _ (v : ℕ) (c : Const) (held : value_at row v ≡ Some c) where
    still : row ≡ next → value_at next v ≡ Some c
    still same = ap (λ (r : Row). value_at r v) (sym same) ∙ held

    bound_as : (w : ℕ) (o : Option Const) → value_at row w ≡ o → binding_to row w o p ≡ Some next
        → value_at next v ≡ Some c
    bound_as w None none is =
        let same : bound row w p ≡ next = cc is in
        ap (λ (r : Row). value_at r v) (sym same) ∙ value_bound row w p v none ∙ other (w == v) refl
      where
        other : (b : Bool) → (w == v) ≡ b → cond b (Some p) (value_at row v) ≡ Some c
        other true alike =
            let same : w ≡ v = grind (arith, nat_tests, alike) in
            absurd (cc (sym none ∙ ap (value_at row) same ∙ held))
        other false apart = held
    bound_as w (Some d) there is = still (agreed (Some d) is)

    kept_as : (o : Option ℕ) → match_as o row t p ≡ Some next → value_at next v ≡ Some c
    kept_as None is = still (agreed (value_of row t) is)
    kept_as (Some w) is = bound_as w (value_at row w) refl is

  module _ (matched : match_term row t p ≡ Some next) where
    abbrev IsKnownOn : Term → Type 0
    IsKnownOn u = (c : Const) → known row u ≡ Some c → known next u ≡ Some c

    abbrev OnTerm : Type 0
    OnTerm = (u : Term) × IsKnownOn u

    known_at : (y : Term-F OnTerm) → IsKnownOn (roll-Term (map-Term OnTerm Term (λ e. e.0) y))
    known_at (ConstLayer b) c is =
        fold-roll-Term (Option Const) (known_step next) (ConstLayer b)
        ∙ sym (fold-roll-Term (Option Const) (known_step row) (ConstLayer b)) ∙ is
    known_at (VarLayer v) c is =
        fold-roll-Term (Option Const) (known_step next) (VarLayer v)
        ∙ kept_as v c (sym (fold-roll-Term (Option Const) (known_step row) (VarLayer v)) ∙ is) (variable_of t) matched
    known_at (CallLayer func es) c is =
        absurd (cc (sym (fold-roll-Term (Option Const) (known_step row)
        (CallLayer func (map (λ (e : OnTerm). e.0) es))) ∙ is))

    known_on : (u : Term) → IsKnownOn u
    known_on = ind-Term IsKnownOn (λ x y is. subst (λ z. IsKnownOn (roll-Term z)) is (known_at y))

-- ---- terms of which one is known and differs

first_differs : (row : Row) (t : Term) (ts : List Term) (c d : Const) (ds : List Const) → known row t ≡ Some c
    → same_const c d ≡ false → match_terms (t ∷ ts) row (d ∷ ds) ≡ None
first_differs row t ts c d ds is other =
    ap (option_and_then (λ (next : Row). match_terms ts next ds)) (not_matched row t c d is other)

second_differs : (row : Row) (t u : Term) (ts : List Term) (p c d : Const) (ds : List Const) → known row u ≡ Some c
    → same_const c d ≡ false → match_terms (t ∷ u ∷ ts) row (p ∷ d ∷ ds) ≡ None
second_differs row t u ts p c d ds is other = at (match_term row t p) refl
  where
    at : (o : Option Row) → match_term row t p ≡ o
        → option_and_then (λ (next : Row). match_terms (u ∷ ts) next (d ∷ ds)) o ≡ None
    at None matched = refl
    at (Some next) matched = first_differs next u ts c d ds (known_on row next t p matched u c is) other

-- ---- the keys

pub atom_key : (p : Const) (ts : List Term) (row : Row) → IsKeyFor (AtomPattern p ts) row (Predicate p)
atom_key p ts row (Atom q cs) other = ap (λ b. cond b (match_terms ts row cs) None) other
atom_key p ts row (Frame o s v) other = refl
atom_key p ts row (Member o c) other = refl

module _ (row : Row) (o s v : Term) where
  frame_by : (a b : Option Const) → known row o ≡ a → known row s ≡ b
      → IsKeyFor (SlotPattern o s v) row (frame_key a b)
  frame_by None None object slot (Atom q cs) other = refl
  frame_by None None object slot (Frame p t w) other = absurd (cc other)
  frame_by None None object slot (Member p d) other = refl
  frame_by None (Some c) object slot (Atom q cs) other = refl
  frame_by None (Some c) object slot (Frame p t w) other =
      second_differs row o s (v ∷ []) p c t (w ∷ []) slot other
  frame_by None (Some c) object slot (Member p d) other = refl
  frame_by (Some a) None object slot (Atom q cs) other = refl
  frame_by (Some a) None object slot (Frame p t w) other =
      first_differs row o (s ∷ v ∷ []) a p (t ∷ w ∷ []) object other
  frame_by (Some a) None object slot (Member p d) other = refl
  frame_by (Some a) (Some c) object slot (Atom q cs) other = refl
  frame_by (Some a) (Some c) object slot (Frame p t w) other = at (same_const a p) refl other
    where
      at : (b : Bool) → same_const a p ≡ b → (b && same_const c t) ≡ false
          → match_terms (o ∷ s ∷ v ∷ []) row (p ∷ t ∷ w ∷ []) ≡ None
      at true same differs = second_differs row o s (v ∷ []) p c t (w ∷ []) slot differs
      at false differs rest = first_differs row o (s ∷ v ∷ []) a p (t ∷ w ∷ []) object differs
  frame_by (Some a) (Some c) object slot (Member p d) other = refl

  pub frame_key_is : IsKeyFor (SlotPattern o s v) row (frame_key (known row o) (known row s))
  frame_key_is = frame_by (known row o) (known row s) refl refl

module _ (row : Row) (o c : Term) where
  member_by : (a b : Option Const) → known row o ≡ a → known row c ≡ b
      → IsKeyFor (MemberPattern o c) row (member_key a b)
  member_by None None object class (Atom q cs) other = refl
  member_by None None object class (Frame p t w) other = refl
  member_by None None object class (Member p d) other = absurd (cc other)
  member_by None (Some k) object class (Atom q cs) other = refl
  member_by None (Some k) object class (Frame p t w) other = refl
  member_by None (Some k) object class (Member p d) other = second_differs row o c [] p k d [] class other
  member_by (Some a) b object class (Atom q cs) other = refl
  member_by (Some a) b object class (Frame p t w) other = refl
  member_by (Some a) b object class (Member p d) other = first_differs row o (c ∷ []) a p (d ∷ []) object other

  pub member_key_is : IsKeyFor (MemberPattern o c) row (member_key (known row o) (known row c))
  member_key_is = member_by (known row o) (known row c) refl refl
