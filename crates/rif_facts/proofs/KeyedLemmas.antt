-- What the clauses of an ordered map say, by the stated order of facts.
use Rattle.std.proofs.Common.{◌≡◌, Bool, true, false, cond, ◌&&◌, List, [], Ordering, is_some, IsSome}
use Rattle.std.proofs.Common.{refl, sym, ap, ◌∙◌, subst, None, Some}
use Rattle.std.specs.declared.option.Option.{Option}
use Rattle.std.specs.Map.{keys_of, lookup, remove_entry}
use Rattle.std.specs.BTreeMap.{is_at, insert_entry}
use Rattle.std.specs.List.{AllByRecursion}
use Rattle.std.specs.List.Sorted.{IsStrictlySortedBy}
use Rattle.rif_values.specs.declared.fact.Fact.{Fact}
use Rattle.rif_values.specs.Facts.{same_fact}
use Rattle.rif_values.specs.Order.{fact_cmp}
use Rattle.rif_values.proofs.CallerLemmas.{total_facts, exact_facts}
use Rattle.rif_sets.proofs.CallerLemmas.{equal_is}
use Rattle.rif_facts.specs.Marks.{mark_at, IsInRange, IsMarked}
use Rattle.rif_facts.proofs.MarksLemmas.{all_insert_entry, all_remove_entry}

module _ (R : Fact → Fact → Ordering) (is : R ≡ fact_cmp) where
  -- a look-up
  pub looked_up : (es : List (Fact × Bool)) (q : Fact) → lookup (is_at (R q)) es ≡ mark_at es q
  looked_up es q = ap (λ (S : Fact → Fact → Ordering). lookup (is_at (S q)) es) is

  -- one entry changed
  pub updated : (es fs : List (Fact × Bool)) (f : Fact) (w : Option Bool)
      → ((q : Fact) → lookup (is_at (R q)) fs ≡ cond (is_at (R f) q) w (lookup (is_at (R q)) es))
      → (q : Fact) → mark_at fs q ≡ cond (same_fact f q) w (mark_at es q)
  updated es fs f w updates q =
      let P : (Fact → Fact → Ordering) → Type 0 = λ S. lookup (is_at (S q)) fs
      ≡ cond (is_at (S f) q) w (lookup (is_at (S q)) es) in
      subst P is (updates q)

  -- the same, where the entries before are known by another name
  pub updated_from : (ds es fs : List (Fact × Bool)) (f : Fact) (w : Option Bool) → es ≡ ds
      → ((q : Fact) → lookup (is_at (R q)) fs ≡ cond (is_at (R f) q) w (lookup (is_at (R q)) es))
      → (q : Fact) → mark_at fs q ≡ cond (same_fact f q) w (mark_at ds q)
  updated_from ds es fs f w same updates q =
      updated es fs f w updates q ∙ ap (λ (gs : List (Fact × Bool)). cond (same_fact f q) w (mark_at gs q)) same

  -- the order of the keys
  pub in_order : (ks : List Fact) → IsStrictlySortedBy R ks → IsStrictlySortedBy fact_cmp ks
  in_order ks sorted = subst (λ (S : Fact → Fact → Ordering). IsStrictlySortedBy S ks) is sorted

  -- the range of the keys
  pub range_after_insert : (es fs : List (Fact × Bool)) (f : Fact) (mark : Bool) → fs ≡ insert_entry R es f mark
      → IsInRange f → AllByRecursion IsInRange (keys_of es) → AllByRecursion IsInRange (keys_of fs)
  range_after_insert es fs f mark entries range all =
      let P : (Fact → Fact → Ordering) → Type 0 = λ S. fs ≡ insert_entry S es f mark in
      subst (λ (gs : List (Fact × Bool)). AllByRecursion IsInRange (keys_of gs)) (sym (subst P is entries))
      (all_insert_entry IsInRange es f mark range all)

  -- entries in order, with constants in range, after one was put in
  pub marked_after_insert : (es fs : List (Fact × Bool)) (f : Fact) (mark : Bool) → fs ≡ insert_entry R es f mark
      → IsInRange f → IsMarked es → IsStrictlySortedBy R (keys_of fs) → IsMarked fs
  marked_after_insert es fs f mark entries range marked sorted = record {
    sorted = in_order (keys_of fs) sorted;
    in_range = range_after_insert es fs f mark entries range marked.in_range;
  }

  -- after one was taken out
  pub marked_after_remove : (es fs : List (Fact × Bool)) (test : Fact → Bool) → fs ≡ remove_entry test es
      → IsMarked es → IsStrictlySortedBy R (keys_of fs) → IsMarked fs
  marked_after_remove es fs test entries marked sorted = record {
    sorted = in_order (keys_of fs) sorted;
    in_range =
        subst (λ (gs : List (Fact × Bool)). AllByRecursion IsInRange (keys_of gs)) (sym entries)
        (all_remove_entry IsInRange test es marked.in_range);
  }

  -- and after a mark was written
  pub marked_after_write : (es fs : List (Fact × Bool)) → keys_of fs ≡ keys_of es
      → IsMarked es → IsMarked fs
  marked_after_write es fs keys marked = record {
    sorted = subst (IsStrictlySortedBy fact_cmp) (sym keys) marked.sorted;
    in_range = subst (AllByRecursion IsInRange) (sym keys) marked.in_range;
  }

-- no entries
pub marked_empty : (es : List (Fact × Bool)) → es ≡ [] → IsMarked es
unfolding IsStrictlySortedBy
marked_empty es none = subst IsMarked (sym none) (record { sorted = tt; in_range = tt })

-- ---- a mark written where there is an entry

-- the same fact has the same mark
mark_of_same : (es : List (Fact × Bool)) (f q : Fact) (m : Option Bool) → mark_at es f ≡ m → same_fact f q ≡ true
    → mark_at es q ≡ m
mark_of_same es f q m is same =
    subst (λ (g : Fact). mark_at es g ≡ m) (equal_is total_facts exact_facts f q same) is

chosen_some : (b : Bool) (old : Option Bool) (mark : Bool) → (b ≡ true → old ≡ Some mark)
    → cond b (Some true) old ≡ cond (b && is_some old) (Some true) old
chosen_some false old mark is = refl
chosen_some true old mark is =
    let P : Option Bool → Type 0 = λ m. Some true ≡ cond (is_some m) (Some true) m in subst P (sym (is refl)) refl

chosen_none : (b : Bool) (old : Option Bool) → (b ≡ true → old ≡ None)
    → old ≡ cond (b && is_some old) (Some true) old
chosen_none false old is = refl
chosen_none true old is =
    let P : Option Bool → Type 0 = λ m. m ≡ cond (is_some m) (Some true) m in subst P (sym (is refl)) refl

pub written_some : (es fs : List (Fact × Bool)) (f : Fact) (mark : Bool) → mark_at es f ≡ Some mark
    → ((q : Fact) → mark_at fs q ≡ cond (same_fact f q) (Some true) (mark_at es q))
    → (q : Fact) → mark_at fs q ≡ cond (same_fact f q && is_some (mark_at es q)) (Some true) (mark_at es q)
written_some es fs f mark is updates q =
    updates q ∙ chosen_some (same_fact f q) (mark_at es q) mark (mark_of_same es f q (Some mark) is)

pub written_none : (es : List (Fact × Bool)) (f : Fact) → mark_at es f ≡ None
    → (q : Fact) → mark_at es q ≡ cond (same_fact f q && is_some (mark_at es q)) (Some true) (mark_at es q)
written_none es f is q = chosen_none (same_fact f q) (mark_at es q) (mark_of_same es f q None is)

pub is_some_of : {X : Type 0} (o : Option X) (x : X) → o ≡ Some x → IsSome o
is_some_of o x is = subst IsSome (sym is) refl
