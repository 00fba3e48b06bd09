-- Which instance is picked. The steps and their order are those of rif:forwardChaining, and the last one, the tie
-- break, is the project's own.
--     unrefracted_instances ms is     those that aren't refracted
--     highest_instances system is     of these, those whose rules have the highest priority
--     youngest_instances ms is        of these, those of the least age
--     allowed_instances system ms     the three steps on the newest conflict set
--     chosen_instance system ms       the least of the allowed ones
-- Source: RIF-PRD, "Conflict resolution", rif:forwardChaining; the tie break is docs/PROFILE.md, "Tie break".
use Rattle.std.specs.Prelude.{Bool, not, List, filter, slice_get, nat_lt}
use Rattle.std.specs.List.{list_any}
use Rattle.std.specs.Ordering.{int_cmp, is_lt}
use Rattle.std.specs.declared.option.Option.{Option}
use Rattle.rif_values.specs.declared.instance.Instance.{Instance}
use Rattle.prd_relation.specs.declared.moment.Moment.{Moment}
use Rattle.prd_relation.specs.History.{newest_conflict_set, age_of, is_refracted}
use Rattle.prd_relation.specs.RuleSystem.{RuleSystem}

abbrev pub unrefracted_instances : List Moment → List Instance → List Instance
unrefracted_instances moments instances = filter (λ i. not (is_refracted moments i)) instances

-- whether i's rule has a lower priority than j's
abbrev pub is_lower : RuleSystem → Instance → Instance → Bool
is_lower system i j = is_lt (int_cmp (system.priority i.rule) (system.priority j.rule))

-- those than which no other is better
abbrev pub best_by : {X : Type 0} → (X → X → Bool) → List X → List X
best_by is_worse xs = filter (λ x. not (list_any (is_worse x) xs)) xs

abbrev pub highest_instances : RuleSystem → List Instance → List Instance
highest_instances system instances = best_by (is_lower system) instances

-- whether i's age is above j's
abbrev pub is_older : List Moment → Instance → Instance → Bool
is_older moments i j = nat_lt (age_of moments j) (age_of moments i)

abbrev pub youngest_instances : List Moment → List Instance → List Instance
youngest_instances moments instances = best_by (is_older moments) instances

-- those that may be picked next, before the tie break
abbrev pub allowed_instances : RuleSystem → List Moment → List Instance
allowed_instances system moments =
    youngest_instances moments (highest_instances system
    (unrefracted_instances moments (newest_conflict_set moments)))

-- the least of the allowed instances: a conflict set is in order
abbrev pub chosen_instance : RuleSystem → List Moment → Option Instance
chosen_instance system moments = slice_get (allowed_instances system moments) 0
