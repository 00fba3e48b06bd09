-- The pass over the newest conflict set: what it remembers after each instance, and that at its end this is chosen.
use Rattle.std.proofs.Common.{◌≡◌, ◌∙◌, ℕ, zero, suc, ◌+◌, ◌<◌, ◌≤◌, ℤ, Bool, true, false, if◌then◌else◌, cond, not, List}
use Rattle.std.proofs.Common.{[], ◌∷◌, ◌++◌, filter, map, length, get_or, take, slice_get, Some, None, refl, ap, sym}
use Rattle.std.proofs.Common.{subst, take_all, nat_lt, arith}
use Rattle.std.proofs.lemmas.Bool.{not-true, not-false}
use Rattle.std.proofs.lemmas.Bool.Decides.{nat_tests}
use Rattle.std.proofs.lemmas.Cmp.{int_cmp_total, nat_cmp_total, on_total, then_total, back_total}
use Rattle.std.proofs.lemmas.List.{append-nil, length-take-le, take_more}
use Rattle.std.proofs.lemmas.List.Elements.{filter-append}
use Rattle.std.proofs.lemmas.Option.{slice_get_read}
use Rattle.std.specs.Cmp.{IsTotalOrder}
use Rattle.std.specs.Ordering.{int_cmp, nat_cmp, is_gt, is_lt, on, ordering_reverse, ordering_then}
use Rattle.std.specs.declared.cmp.Ordering.{Ordering}
use Rattle.std.specs.declared.cmp.Ordering.TheVariants.{Less, Equal, Greater}
use Rattle.std.specs.declared.option.Option.{Option}
use Rattle.rif_values.specs.declared.instance.Instance.{Instance}
use Rattle.prd_relation.specs.declared.choosing.Best.{Best}
use Rattle.prd_relation.specs.declared.choosing.Rank.{Rank}
use Rattle.prd_relation.specs.declared.mark.Mark.{Mark}
use Rattle.prd_relation.specs.declared.moment.Moment.{Moment}
use Rattle.prd_relation.specs.Choice.{is_lower, is_older, highest_instances, youngest_instances}
use Rattle.prd_relation.specs.Choice.{unrefracted_instances, chosen_instance}
use Rattle.prd_relation.specs.History.{newest_conflict_set, age_of, is_refracted}
use Rattle.prd_relation.specs.Layout.{mark_of, rank_of, rank_cmp, is_better, better_of, better_instance}
use Rattle.prd_relation.specs.Layout.{IsFirstBest, IsPlaceOfBest, IsBestOf}
use Rattle.prd_relation.specs.RuleSystem.{RuleSystem}
use Rattle.prd_relation.proofs.BestLemmas.{only_best, next_best, still_best, first_is_left}
use Rattle.prd_relation.proofs.PlainLemmas.{mark_there}

-- ---- ranks

rank_total : IsTotalOrder rank_cmp
rank_total =
    then_total (on_total (λ (r : Rank). r.priority) int_cmp_total)
    (back_total (on_total (λ (r : Rank). r.age) nat_cmp_total))

above_is : (a b : ℕ) → is_gt (nat_cmp a b) ≡ nat_lt b a
above_is a b = grind (arith, nat_tests)

not_lower : (o n : Ordering) → is_gt (ordering_then o n) ≡ false → is_lt (ordering_reverse o) ≡ false
not_lower Less n is = refl
not_lower Equal n is = refl
not_lower Greater n is = absurd (cc is)

not_above : (o n : Ordering) → is_gt (ordering_then o n) ≡ false → is_lt o ≡ false → is_gt n ≡ false
not_above Less n is high = absurd (cc high)
not_above Equal n is high = is
not_above Greater n is high = absurd (cc is)

by_second : (o n : Ordering) → is_gt (ordering_then (ordering_reverse o) n) ≡ true → is_lt o ≡ false
    → is_gt n ≡ true
by_second Less n is high = absurd (cc high)
by_second Equal n is high = is
by_second Greater n is high = absurd (cc is)

module _ (system : RuleSystem) (ms : List Moment) where
  abbrev cmp_at : Instance → Instance → Ordering
  cmp_at = on (rank_of system ms) rank_cmp

  total_at : IsTotalOrder cmp_at
  total_at = on_total (rank_of system ms) rank_total

  abbrev priorities : Instance → Instance → Ordering
  priorities i j = int_cmp (system.priority i.rule) (system.priority j.rule)

  abbrev ages : Instance → Instance → Ordering
  ages i j = nat_cmp (age_of ms j) (age_of ms i)

  turned : (i j : Instance) → priorities i j ≡ ordering_reverse (priorities j i)
  turned i j = int_cmp_total.antisymm (system.priority i.rule) (system.priority j.rule)

  best_is_left : (is : List Instance) (i : Instance) → IsFirstBest (better_instance system ms) is i
      → slice_get (youngest_instances ms (highest_instances system is)) 0 ≡ Some i
  best_is_left is i best =
      first_is_left (better_instance system ms) (is_lower system) (is_older ms) i
      (λ j no. ap is_lt (turned i j) ∙ not_lower (priorities j i) (ages j i) no)
      (λ j no high. sym (above_is (age_of ms i) (age_of ms j)) ∙ not_above (priorities j i) (ages j i) no high)
      (λ j yes high. sym (above_is (age_of ms j) (age_of ms i))
      ∙ by_second (priorities j i) (ages i j)
      (ap (λ o. is_gt (ordering_then o (ages i j))) (sym (turned i j)) ∙ yes) high)
      is best

  -- ---- what the pass remembers

  pub chosen_is_best : (best : Best) → IsBestOf system ms (newest_conflict_set ms) (Some best)
      → slice_get (newest_conflict_set ms) best.place ≡ chosen_instance system ms
  chosen_is_best best is =
      is.at ∙ sym (best_is_left (unrefracted_instances ms (newest_conflict_set ms)) is.instance is.chosen)

  pub none_is_chosen : IsBestOf system ms (newest_conflict_set ms) None → chosen_instance system ms ≡ None
  none_is_chosen empty =
      ap (λ (is : List Instance). slice_get (youngest_instances ms (highest_instances system is)) 0) empty

  at_end : (is : List Instance) (i : Instance) → slice_get (is ++ i ∷ []) (length is) ≡ Some i
  at_end [] i = refl
  at_end (j ∷ is) i = at_end is i

  at_front : (is : List Instance) (n : ℕ) (i j : Instance) → slice_get is n ≡ Some j
      → slice_get (is ++ i ∷ []) n ≡ Some j
  at_front [] n i j at = absurd (cc at)
  at_front (k ∷ is) zero i j at = at
  at_front (k ∷ is) (suc n) i j at = at_front is n i j at

  module _ (is : List Instance) (i : Instance) where
    abbrev unrefracted : List Instance → List Instance
    unrefracted = unrefracted_instances ms

    one_more : (b : Bool) → is_refracted ms i ≡ b
        → unrefracted (is ++ i ∷ []) ≡ unrefracted is ++ cond (not b) (i ∷ []) []
    one_more b same =
        filter-append (λ j. not (is_refracted ms j)) is (i ∷ [])
        ∙ ap (λ c. unrefracted is ++ cond (not c) (i ∷ []) []) same

    -- where the next instance is refracted
    pub best_passes : (best : Option Best) → IsBestOf system ms is best → is_refracted ms i ≡ true
        → IsBestOf system ms (is ++ i ∷ []) best
    best_passes None so_far refracted = one_more true refracted ∙ append-nil (unrefracted is) ∙ so_far
    best_passes (Some best) so_far refracted = record {
      instance = so_far.instance;
      at = at_front is best.place i so_far.instance so_far.at;
      rank = so_far.rank;
      chosen = subst (λ (js : List Instance). IsFirstBest (better_instance system ms) js so_far.instance)
          (sym (one_more true refracted ∙ append-nil (unrefracted is))) so_far.chosen;
    }

    is_next : (next : Best) → length is ≡ next.place → next.rank ≡ rank_of system ms i → is_refracted ms i ≡ false
        → IsFirstBest (better_instance system ms) (unrefracted is ++ i ∷ []) i
        → IsPlaceOfBest system ms (is ++ i ∷ []) next
    is_next next here ranked free best = record {
      instance = i;
      at = ap (slice_get (is ++ i ∷ [])) (sym here) ∙ at_end is i;
      rank = ranked;
      chosen = subst (λ (js : List Instance). IsFirstBest (better_instance system ms) js i)
          (sym (one_more false free)) best;
    }

    -- where it isn't
    pub best_goes_on : (best : Option Best) (next : Best) → IsBestOf system ms is best → length is ≡ next.place
        → next.rank ≡ rank_of system ms i → is_refracted ms i ≡ false
        → IsBestOf system ms (is ++ i ∷ []) (Some (better_of best next))
    best_goes_on None next so_far here ranked free =
        is_next next here ranked free (subst (λ (js : List Instance). IsFirstBest (better_instance system ms) (js ++ i ∷ []) i)
        (sym so_far) (only_best cmp_at total_at i))
    best_goes_on (Some best) next so_far here ranked free = by_test (is_better next.rank best.rank) refl
      where
        better_is : is_better next.rank best.rank ≡ is_better (rank_of system ms i) (rank_of system ms so_far.instance)
        better_is = ap (λ (r : Rank). is_better r best.rank) ranked ∙ ap (is_better (rank_of system ms i)) so_far.rank

        by_test : (b : Bool) → is_better next.rank best.rank ≡ b
            → IsPlaceOfBest system ms (is ++ i ∷ []) (if b then next else best)
        by_test true is_above =
            is_next next here ranked free (next_best cmp_at total_at (unrefracted is) so_far.instance i so_far.chosen
            (sym better_is ∙ is_above))
        by_test false is_above = record {
          instance = so_far.instance;
          at = at_front is best.place i so_far.instance so_far.at;
          rank = so_far.rank;
          chosen = subst (λ (js : List Instance). IsFirstBest (better_instance system ms) js so_far.instance)
              (sym (one_more false free))
              (still_best cmp_at total_at (unrefracted is) so_far.instance i so_far.chosen
              (sym better_is ∙ is_above));
        }

  -- ---- the steps of the pass

  module _ (is : List Instance) (newest : is ≡ newest_conflict_set ms) (marks : List Mark)
      (are : marks ≡ map (mark_of ms) (newest_conflict_set ms)) (place : ℕ) where
    module _ (best : Option Best) (i : Instance) (d : Mark) (within : place < length is) (read : i ≡ get_or is place i)
        (so_far : IsBestOf system ms (take place is) best) where
      abbrev ranked_at : Mark → Rank
      ranked_at mark = record { priority = system.priority i.rule; age = mark.age }

      abbrev refracted_at : Mark → Bool
      refracted_at mark = mark.refracted

      mark_is : get_or marks place d ≡ mark_of ms i
      mark_is = mark_there None ms i place d
          (ap (λ (js : List Instance). slice_get js place) (sym newest)
          ∙ slice_get_read is (length is) place i refl within read) marks are

      taken : take (place + 1) is ≡ take place is ++ i ∷ []
      taken = take_more is place i within ∙ ap (λ (j : Instance). take place is ++ j ∷ []) (sym read)

      passed : length (take place is) ≡ place
      passed = length-take-le place is (omega arith)

      pub goes_on : (rank : Rank) (made : Best) (after : Option Best)
          → rank ≡ record { priority = system.priority i.rule; age = (get_or marks place d).age }
          → made ≡ better_of best (record { place = place; rank = rank })
          → after ≡ Some made → not (get_or marks place d).refracted ≡ true
          → IsBestOf system ms (take (place + 1) is) after
      goes_on rank made after ranks makes becomes free =
          rw (taken, becomes, makes) (best_goes_on (take place is) i best _ so_far passed (ranks ∙ ap ranked_at mark_is)
          (sym (ap refracted_at mark_is) ∙ not-true (get_or marks place d).refracted free))

      pub stays : (after : Option Best) → after ≡ best → not (get_or marks place d).refracted ≡ false
          → IsBestOf system ms (take (place + 1) is) after
      stays after same refracted =
          rw (taken, same) (best_passes (take place is) i best so_far
          (sym (ap refracted_at mark_is) ∙ not-false (get_or marks place d).refracted refracted))

    -- at the end
    pub ends : (best known : Option Best) → length is ≤ place → best ≡ known
        → IsBestOf system ms (take place is) best → IsBestOf system ms (newest_conflict_set ms) known
    ends best known all same so_far =
        let whole = take_all place is all ∙ newest in
        subst (λ (js : List Instance). IsBestOf system ms js known) whole
        (subst (IsBestOf system ms (take place is)) same so_far)
