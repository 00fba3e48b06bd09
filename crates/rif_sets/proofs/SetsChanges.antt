-- Net changes of sets: what they lead to, which of them can be done, and two of them as one.
use Rattle.std.proofs.Common.{◌≡◌, not, ◌&&◌, ◌||◌, List, [], filter, Ordering, sym, ap, ap₂, ◌∙◌, subst, arith}
use Rattle.std.specs.Cmp.{IsTotalOrder}
use Rattle.rif_values.specs.Sets.{IsExact, has, IsSet, beyond, patched, IsNet, IsChangeOf, both_added}
use Rattle.rif_sets.proofs.SetsMembers.{same_set, has_filter, has_with_all, set_empty, set_filter, set_with_all}

module _ {K : Type 0} {cmp : K → K → Ordering} (total : IsTotalOrder cmp) (exact : IsExact cmp) where
  -- ---- which elements the words leave

  -- beyond old new has what new has and old hasn't
  pub has_beyond : (old new : List K) (q : K)
      → has cmp (beyond cmp old new) q ≡ (not (has cmp old q) && has cmp new q)
  has_beyond old new q = has_filter total exact (λ x. not (has cmp old x)) new q

  -- patched old more less has what more has, and what old has and less hasn't
  pub has_patched : (old more less : List K) (q : K)
      → has cmp (patched cmp old more less) q ≡ (has cmp more q || (not (has cmp less q) && has cmp old q))
  has_patched old more less q =
      has_with_all total exact (filter (λ x. not (has cmp less x)) old) more q
      ∙ ap (λ b. has cmp more q || b) (has_filter total exact (λ x. not (has cmp less x)) old q)

  -- what a set has beyond another list is a set
  pub set_beyond : (old new : List K) → IsSet cmp new → IsSet cmp (beyond cmp old new)
  set_beyond old new set = set_filter total exact (λ x. not (has cmp old x)) new set

  -- a set after a change is a set
  pub set_patched : (old more less : List K) → IsSet cmp old → IsSet cmp (patched cmp old more less)
  set_patched old more less set =
      set_with_all total exact _ more (set_filter total exact (λ x. not (has cmp less x)) old set)

  -- a set with the elements of beyond old new is it
  pub is_beyond : (old new more : List K) → IsSet cmp new → IsSet cmp more
      → ((q : K) → has cmp more q ≡ (not (has cmp old q) && has cmp new q)) → more ≡ beyond cmp old new
  is_beyond old new more new_set more_set same =
      same_set total exact more (beyond cmp old new) more_set (set_beyond old new new_set)
      (λ q. same q ∙ sym (has_beyond old new q))

  -- a set with the elements of patched old more less is it
  pub is_patched : (old more less new : List K) → IsSet cmp old → IsSet cmp new
      → ((q : K) → has cmp new q ≡ (has cmp more q || (not (has cmp less q) && has cmp old q)))
      → new ≡ patched cmp old more less
  is_patched old more less new old_set new_set same =
      same_set total exact new (patched cmp old more less) new_set (set_patched old more less old_set)
      (λ q. same q ∙ sym (has_patched old more less q))

  -- a set has nothing beyond itself
  pub beyond_itself : (set : List K) → IsSet cmp set → beyond cmp set set ≡ []
  beyond_itself set s =
      same_set total exact (beyond cmp set set) [] (set_beyond set set s) (set_empty total exact)
      (λ q. let left = has_beyond set set q in grind (arith, left))

  -- ---- net changes and what they lead to

  -- what new has beyond old, and old beyond new, lead from old to new
  pub gives : (old new : List K) → IsSet cmp old → IsSet cmp new
      → patched cmp old (beyond cmp old new) (beyond cmp new old) ≡ new
  gives old new old_set new_set =
      sym (is_patched old (beyond cmp old new) (beyond cmp new old) new old_set new_set (λ q.
      let more = has_beyond old new q in
      let less = has_beyond new old q in grind (arith, more, less)))

  -- a net change leads to the new set
  pub gives_of_net : (old new more less : List K) → IsSet cmp old → IsSet cmp new → IsNet cmp old new more less
      → patched cmp old more less ≡ new
  gives_of_net old new more less old_set new_set net =
      ap₂ (patched cmp old) net.added net.removed ∙ gives old new old_set new_set

  -- a change that can be done is the net change to what it leads to
  pub is_net : (old more less : List K) → IsSet cmp old → IsChangeOf cmp old more less
      → IsNet cmp old (patched cmp old more less) more less
  is_net old more less old_set change = record {
    added = is_beyond old (patched cmp old more less) more (set_patched old more less old_set) change.added_set (λ q.
        let after = has_patched old more less q in
        let new = change.added_new q in grind (arith, after, new));
    removed = is_beyond (patched cmp old more less) old less old_set change.removed_set (λ q.
        let after = has_patched old more less q in
        let new = change.added_new q in
        let there = change.removed_old q in grind (arith, after, new, there));
  }

  -- a net change can be done
  pub change_of_net : (old new more less : List K) → IsSet cmp old → IsSet cmp new → IsNet cmp old new more less
      → IsChangeOf cmp old more less
  change_of_net old new more less old_set new_set net = record {
    added_set = subst (IsSet cmp) (sym net.added) (set_beyond old new new_set);
    removed_set = subst (IsSet cmp) (sym net.removed) (set_beyond new old old_set);
    added_new = λ q.
        let is = ap (λ xs. has cmp xs q) net.added in
        let more = has_beyond old new q in grind (arith, is, more);
    removed_old = λ q.
        let is = ap (λ xs. has cmp xs q) net.removed in
        let less = has_beyond new old q in grind (arith, is, less);
  }

  -- ---- two changes as one

  -- of each change, what the other doesn't undo
  pub has_both_added : (more less later_more later_less : List K) (q : K)
      → has cmp (both_added cmp more less later_more later_less) q
      ≡ ((not (has cmp less q) && has cmp later_more q) || (not (has cmp later_less q) && has cmp more q))
  has_both_added more less later_more later_less q =
      let first = has_filter total exact (λ x. not (has cmp later_less x)) more q in
      let second = has_filter total exact (λ x. not (has cmp less x)) later_more q in
      has_with_all total exact _ (filter (λ x. not (has cmp less x)) later_more) q ∙ ap₂ (λ a b. a || b) second first

  -- what two changes add together is a set
  pub set_both_added : (more less later_more later_less : List K) → IsSet cmp more
      → IsSet cmp (both_added cmp more less later_more later_less)
  set_both_added more less later_more later_less more_set =
      set_with_all total exact _ (filter (λ x. not (has cmp less x)) later_more)
      (set_filter total exact (λ x. not (has cmp later_less x)) more more_set)

  -- a change, and one that can be done after it, are one net change
  pub both_net : (old more less later_more later_less : List K) → IsSet cmp old → IsChangeOf cmp old more less
      → IsChangeOf cmp (patched cmp old more less) later_more later_less
      → IsNet cmp old (patched cmp (patched cmp old more less) later_more later_less)
      (both_added cmp more less later_more later_less) (both_added cmp less more later_less later_more)
  both_net old more less later_more later_less old_set first second =
      let between : List K = patched cmp old more less in
      let new : List K = patched cmp between later_more later_less in
      record {
        added = is_beyond old new _ (set_patched between later_more later_less (set_patched old more less old_set))
            (set_both_added more less later_more later_less first.added_set) (λ q.
            let both = has_both_added more less later_more later_less q in
            let after = has_patched old more less q in
            let later = has_patched between later_more later_less q in
            let a = first.added_new q in let b = first.removed_old q in
            let c = second.added_new q in let d = second.removed_old q in
            grind (arith, both, after, later, a, b, c, d));
        removed = is_beyond new old _ old_set (set_both_added less more later_less later_more first.removed_set) (λ q.
            let both = has_both_added less more later_less later_more q in
            let after = has_patched old more less q in
            let later = has_patched between later_more later_less q in
            let a = first.added_new q in let b = first.removed_old q in
            let c = second.added_new q in let d = second.removed_old q in
            grind (arith, both, after, later, a, b, c, d));
      }
