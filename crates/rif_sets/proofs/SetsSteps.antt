-- Sets and changes made step by step, as loops make them.
use Rattle.std.proofs.Common.{◌≡◌, Bool, true, false, not, List, [], ◌∷◌, filter, Ordering, Less, refl, sym, ap, ◌∙◌}
use Rattle.std.proofs.Common.{arith}
use Rattle.std.specs.Ordering.{eq_by_cmp, is_gt}
use Rattle.std.specs.List.{All}
use Rattle.std.specs.BTreeSet.{insert_key}
use Rattle.std.specs.Set.{remove_key}
use Rattle.std.specs.Cmp.{IsTotalOrder}
use Rattle.std.proofs.lemmas.Map.Keys.{sorted_tail}
use Rattle.std.proofs.lemmas.Map.Views.{All-after_first, btree_set_IsLowerBound-head}
use Rattle.rif_values.specs.Sets.{IsExact, has, with_all, without_all, ordered, IsSet, patched}
use Rattle.rif_sets.proofs.SetsMembers.{same_set, equal_is, has_filter, has_insert, has_ordered, has_remove}
use Rattle.rif_sets.proofs.SetsMembers.{has_without_all, set_filter, set_insert, set_ordered, set_remove}
use Rattle.rif_sets.proofs.SetsMembers.{set_without_all}
use Rattle.rif_sets.proofs.SetsChanges.{has_patched, set_patched, is_patched}

module _ {K : Type 0} {cmp : K → K → Ordering} (total : IsTotalOrder cmp) (exact : IsExact cmp) where
  -- ---- put in order

  -- a set with the elements of a list is that list in order
  pub is_ordered : (set xs : List K) → IsSet cmp set → ((q : K) → has cmp set q ≡ has cmp xs q) → set ≡ ordered cmp xs
  is_ordered set xs s same =
      same_set total exact set (ordered cmp xs) s (set_ordered total exact xs)
      (λ q. same q ∙ sym (has_ordered total exact xs q))

  -- a set put in order is itself
  pub ordered_same : (set : List K) → IsSet cmp set → ordered cmp set ≡ set
  ordered_same set s =
      same_set total exact (ordered cmp set) set (set_ordered total exact set) s (has_ordered total exact set)

  -- lists with the same elements are in order the same
  pub ordered_alike : (xs ys : List K) → ((q : K) → has cmp xs q ≡ has cmp ys q) → ordered cmp xs ≡ ordered cmp ys
  ordered_alike xs ys same =
      is_ordered (ordered cmp xs) ys (set_ordered total exact xs) (λ q. has_ordered total exact xs q ∙ same q)

  -- ---- one element

  -- putting in what is there changes nothing
  pub insert_present : (set : List K) (k : K) → IsSet cmp set → has cmp set k ≡ true → insert_key cmp set k ≡ set
  insert_present set k s there =
      same_set total exact (insert_key cmp set k) set (set_insert total exact set k s) s (λ q.
      let after = has_insert total exact set k q in
      let same = λ (equal : eq_by_cmp cmp q k ≡ true). ap (has cmp set) (equal_is total exact q k equal) ∙ there in
      grind (arith, after, same))

  -- taking out what isn't there changes nothing
  pub remove_absent : (set : List K) (k : K) → IsSet cmp set → has cmp set k ≡ false
      → remove_key (eq_by_cmp cmp k) set ≡ set
  remove_absent set k s none =
      same_set total exact _ set (set_remove total exact (eq_by_cmp cmp k) set s) s (λ q.
      let after = has_remove total exact k set q s in
      let same = λ (equal : eq_by_cmp cmp q k ≡ true). ap (has cmp set) (equal_is total exact q k equal) ∙ none in
      grind (arith, after, same))

  -- a change that adds one element puts it in
  pub patched_insert : (set : List K) (k : K) → IsSet cmp set → patched cmp set (k ∷ []) [] ≡ insert_key cmp set k
  patched_insert set k s =
      sym (is_patched total exact set (k ∷ []) [] _ s (set_insert total exact set k s) (λ q.
      let after = has_insert total exact set k q in grind (arith, after)))

  -- a change that removes one element takes it out
  pub patched_remove : (set : List K) (k : K) → IsSet cmp set
      → patched cmp set [] (k ∷ []) ≡ remove_key (eq_by_cmp cmp k) set
  patched_remove set k s =
      sym (is_patched total exact set [] (k ∷ []) _ s (set_remove total exact (eq_by_cmp cmp k) set s) (λ q.
      let after = has_remove total exact k set q s in grind (arith, after)))

  -- a change of nothing changes nothing
  pub patched_nothing : (set : List K) → IsSet cmp set → patched cmp set [] [] ≡ set
  patched_nothing set s = sym (is_patched total exact set [] [] set s s (λ q. grind arith))

  -- ---- one element after another

  -- taking out one by one is a filter
  pub without_all_filter : (set ys : List K) → IsSet cmp set
      → without_all cmp set ys ≡ filter (λ x. not (has cmp ys x)) set
  without_all_filter set ys s =
      let kept = λ (x : K). not (has cmp ys x) in
      same_set total exact _ _ (set_without_all total exact set ys s) (set_filter total exact kept set s)
      (λ q. has_without_all total exact set ys q s ∙ sym (has_filter total exact kept set q))

  -- a change done one by one
  pub patched_steps : (set more less : List K) → IsSet cmp set
      → with_all cmp (without_all cmp set less) more ≡ patched cmp set more less
  patched_steps set more less s = ap (λ xs. with_all cmp xs more) (without_all_filter set less s)

  -- the part that passes a test, after a change of that part alone: it is what keeps an index
  pub part_patched : (p : K → Bool) (set more less : List K) → IsSet cmp set
      → with_all cmp (without_all cmp (filter p set) (filter p less)) (filter p more)
      ≡ filter p (patched cmp set more less)
  part_patched p set more less s =
      let after : List K = patched cmp set more less in
      patched_steps (filter p set) (filter p more) (filter p less) (set_filter total exact p set s)
      ∙ sym (is_patched total exact (filter p set) (filter p more) (filter p less) (filter p after)
      (set_filter total exact p set s)
      (set_filter total exact p after (set_patched total exact set more less s)) (λ q.
      let part = has_filter total exact p after q in
      let whole = has_patched total exact set more less q in
      let kept = has_filter total exact p set q in
      let added = has_filter total exact p more q in
      let removed = has_filter total exact p less q in grind (arith, part, whole, kept, added, removed)))

  -- ---- the first element

  -- it is below each other element
  pub first_below_rest : (x : K) (xs : List K) → IsSet cmp (x ∷ xs) → All (λ y. cmp x y ≡ Less) xs
  first_below_rest x xs s = All-after_first cmp x xs s

  -- it is the least: no element is below it
  pub first_is_least : (x : K) (xs : List K) (q : K) → IsSet cmp (x ∷ xs) → has cmp (x ∷ xs) q ≡ true
      → is_gt (cmp x q) ≡ false
  first_is_least x xs q s there = btree_set_IsLowerBound-head total (record { keys = x ∷ xs }) s x xs refl q there

  -- the others are a set
  pub set_rest : (x : K) (xs : List K) → IsSet cmp (x ∷ xs) → IsSet cmp xs
  set_rest x xs s = sorted_tail cmp x xs s
