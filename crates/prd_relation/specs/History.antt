-- Histories, and what they say of an instance. A history lists its states, the newest first; the last one is the
-- empty state of facts, from which each run starts. State number n is the one that has n states behind it.
--     Snapshot                    a state of facts, and the instance whose firing led to it, where one did
--     moments_of system h         the conflict sets and picks of a history
--     has_instance m i            whether the conflict set of a state has the instance
--     age_of ms i                 for how many states in a row, up to the newest, conflict sets have had the instance
--     is_refracted ms i           whether the instance was picked, and conflict sets have had it ever since
--     IsAge ms i n                that the age is n, without the recursion
--     IsRefracted ms i            that the instance is refracted, without the recursion
--     IsHistory system h          each state is a set of facts, and each pick was an instance at the state before
-- Source: RIF-PRD, "Conflict resolution", rif:forwardChaining: refraction and recency. Which states count is the
-- project's own (docs/PROFILE.md, "States that count").
use Rattle.std.specs.Prelude.{◌≡◌, ℕ, suc, Bool, true, false, ◌&&◌, ◌||◌, List, [], ◌∷◌, ◌++◌, map, length, Some}
use Rattle.std.specs.Prelude.{None, IfSome, if◌then◌else◌}
use Rattle.std.specs.List.{AllByRecursion}
use Rattle.std.specs.Ordering.{eq_by_cmp}
use Rattle.std.specs.declared.option.Option.{Option}
use Rattle.rif_values.specs.declared.fact.Fact.{Fact}
use Rattle.rif_values.specs.declared.instance.Instance.{Instance}
use Rattle.rif_values.specs.InstanceOrder.{instance_cmp}
use Rattle.rif_values.specs.Facts.{IsFacts}
use Rattle.rif_values.specs.Sets.{has}
use Rattle.prd_relation.specs.declared.moment.Moment.{Moment}
use Rattle.prd_relation.specs.RuleSystem.{RuleSystem}

pub record Snapshot : Type 0 where
  pub facts : List Fact
  pub pick : Option Instance

-- the empty state of facts alone
abbrev pub first_history : List Snapshot
first_history = record { facts = []; pick = None } ∷ []

abbrev pub newest_facts : List Snapshot → List Fact
newest_facts [] = []
newest_facts (snapshot ∷ history) = snapshot.facts

abbrev pub moments_of : RuleSystem → List Snapshot → List Moment
moments_of system history =
    map (λ snapshot. record { conflict_set = system.instances snapshot.facts; pick = snapshot.pick }) history

abbrev pub newest_conflict_set : List Moment → List Instance
newest_conflict_set [] = []
newest_conflict_set (moment ∷ moments) = moment.conflict_set

abbrev pub same_instance : Instance → Instance → Bool
same_instance = eq_by_cmp instance_cmp

abbrev pub has_instance : Moment → Instance → Bool
has_instance moment i = has instance_cmp moment.conflict_set i

-- whether the firing of the instance led to a state
abbrev pub is_pick : Option Instance → Instance → Bool
is_pick None i = false
is_pick (Some j) i = same_instance j i

abbrev pub age_of : List Moment → Instance → ℕ
age_of [] i = 0
age_of (newest ∷ earlier) i = if has_instance newest i then suc (age_of earlier i) else 0

-- it is in the conflict set, and it was there before and fired, or was refracted before
abbrev pub is_refracted : List Moment → Instance → Bool
is_refracted [] i = false
is_refracted (newest ∷ earlier) i =
    has_instance newest i
    && ((has instance_cmp (newest_conflict_set earlier) i && is_pick newest.pick i) || is_refracted earlier i)

-- the conflict set of the newest of these states hasn't the instance, or there are none
abbrev pub Interrupts : List Moment → Instance → Type 0
Interrupts [] i = Unit {0}
Interrupts (moment ∷ moments) i = has_instance moment i ≡ false

-- the newest n states have the instance in their conflict sets, and the one before them hasn't
pub record IsAge (moments : List Moment) (i : Instance) (n : ℕ) : Type 0 where
  pub recent : List Moment
  pub earlier : List Moment
  pub all : moments ≡ recent ++ earlier
  pub count : length recent ≡ n
  pub there : AllByRecursion (λ moment. has_instance moment i ≡ true) recent
  pub ends : Interrupts earlier i

-- some state was reached by a firing of the instance, and from the state in which it fired on each has it in its
-- conflict set
pub record IsRefracted (moments : List Moment) (i : Instance) : Type 0 where
  pub later : List Moment
  pub reached : Moment
  pub fired_at : Moment
  pub earlier : List Moment
  pub all : moments ≡ later ++ reached ∷ fired_at ∷ earlier
  pub picked : is_pick reached.pick i ≡ true
  pub there : AllByRecursion (λ moment. has_instance moment i ≡ true) (later ++ reached ∷ fired_at ∷ [])

-- each state is a set of facts, each pick was in the conflict set of the state before it, and the first state is
-- empty
-- and was reached by no firing
abbrev pub IsHistory : RuleSystem → List Snapshot → Type 0
IsHistory system [] = ⊥
IsHistory system (first ∷ []) = (first.facts ≡ []) × (first.pick ≡ None)
IsHistory system (newest ∷ before ∷ earlier) =
    IsFacts newest.facts × IfSome newest.pick (λ i. has instance_cmp (system.instances before.facts) i ≡ true)
    × IsHistory system (before ∷ earlier)
