-- Words of private clauses and of invariants. No public clause cites this module.
--     mark_of ms i                  what a history says of an instance
--     next_mark pick ms i           what it says after one more state whose conflict set has the instance
--     rank_of system ms i           what the choice asks of an instance
--     rank_cmp a b                  how two ranks stand: what is picked before the other is above it
--     is_better a b                 whether a stands above b
--     better_of best next           the best so far, or the next one, where that is better
--     IsFirstBest better xs x       x is the first of those than which none is better
--     IsBestOf system ms is best    so it is for what is remembered of some instances, among those not refracted
-- Source: the project's own.
use Rattle.std.specs.Prelude.{◌≡◌, ℕ, suc, Bool, true, false, ◌&&◌, ◌||◌, List, [], ◌∷◌, ◌++◌, if◌then◌else◌, Some, None}
use Rattle.std.specs.Prelude.{slice_get}
use Rattle.std.specs.List.{All}
use Rattle.std.specs.Ordering.{int_cmp, nat_cmp, ordering_then, is_gt}
use Rattle.std.specs.declared.cmp.Ordering.{Ordering}
use Rattle.std.specs.declared.option.Option.{Option}
use Rattle.rif_values.specs.declared.instance.Instance.{Instance}
use Rattle.rif_values.specs.InstanceOrder.{instance_cmp}
use Rattle.rif_values.specs.Sets.{has}
use Rattle.prd_relation.specs.declared.choosing.Best.{Best}
use Rattle.prd_relation.specs.declared.choosing.Rank.{Rank}
use Rattle.prd_relation.specs.declared.mark.Mark.{Mark}
use Rattle.prd_relation.specs.declared.moment.Moment.{Moment}
use Rattle.prd_relation.specs.Choice.{unrefracted_instances}
use Rattle.prd_relation.specs.History.{newest_conflict_set, is_pick, age_of, is_refracted}
use Rattle.prd_relation.specs.RuleSystem.{RuleSystem}

abbrev pub mark_of : List Moment → Instance → Mark
mark_of moments i = record { age = age_of moments i; refracted = is_refracted moments i }

abbrev pub next_mark : Option Instance → List Moment → Instance → Mark
next_mark pick moments i = record {
  age = suc (age_of moments i);
  refracted = (has instance_cmp (newest_conflict_set moments) i && is_pick pick i) || is_refracted moments i;
}

abbrev pub rank_of : RuleSystem → List Moment → Instance → Rank
rank_of system moments i = record { priority = system.priority i.rule; age = age_of moments i }

-- by priority, and where that is the same the younger is above
abbrev pub rank_cmp : Rank → Rank → Ordering
rank_cmp a b = ordering_then (int_cmp a.priority b.priority) (nat_cmp b.age a.age)

abbrev pub is_better : Rank → Rank → Bool
is_better a b = is_gt (rank_cmp a b)

abbrev pub better_of : Option Best → Best → Best
better_of None next = next
better_of (Some best) next = if is_better next.rank best.rank then next else best

pub record IsFirstBest {X : Type 0} (better : X → X → Bool) (xs : List X) (x : X) : Type 0 where
  pub before : List X
  pub after : List X
  pub all : xs ≡ before ++ x ∷ after
  pub first : All (λ y. better x y ≡ true) before
  pub best : All (λ y. better y x ≡ false) xs

abbrev pub better_instance : RuleSystem → List Moment → Instance → Instance → Bool
better_instance system moments i j = is_better (rank_of system moments i) (rank_of system moments j)

pub record IsPlaceOfBest (system : RuleSystem) (moments : List Moment) (instances : List Instance) (best : Best)
    : Type 0 where
  pub instance : Instance
  pub at : slice_get instances best.place ≡ Some instance
  pub rank : best.rank ≡ rank_of system moments instance
  pub chosen : IsFirstBest (better_instance system moments) (unrefracted_instances moments instances) instance

abbrev pub IsBestOf : RuleSystem → List Moment → List Instance → Option Best → Type 0
IsBestOf system moments instances None = unrefracted_instances moments instances ≡ []
IsBestOf system moments instances (Some best) = IsPlaceOfBest system moments instances best
