-- Changes lead from a state of facts to one.
use Rattle.std.proofs.Common.{not, List, [], ◌∷◌}
use Rattle.rif_values.specs.declared.fact.Fact.{Fact}
use Rattle.rif_values.specs.declared.fact.Fact.TheVariants.{Frame}
use Rattle.rif_values.specs.declared.change.Change.{Change}
use Rattle.rif_values.specs.declared.change.Change.TheVariants.{Assert, Retract, RetractSlot, RetractObject, Modify}
use Rattle.rif_values.specs.Facts.{IsFacts, without, same_fact, is_slot_value, is_about, after_change}
use Rattle.rif_values.specs.Facts.{facts_after}
use Rattle.rif_values.proofs.CallerLemmas.{total_facts, exact_facts}
use Rattle.rif_sets.proofs.CallerLemmas.{set_insert, set_filter}

-- a change leads from a state to a state
change_kept : (facts : List Fact) (change : Change) → IsFacts facts → IsFacts (after_change facts change)
change_kept facts (Assert fact) set = set_insert total_facts exact_facts facts fact set
change_kept facts (Retract fact) set = set_filter total_facts exact_facts (λ f. not (same_fact fact f)) facts set
change_kept facts (RetractSlot o s) set =
    set_filter total_facts exact_facts (λ f. not (is_slot_value o s f)) facts set
change_kept facts (RetractObject o) set = set_filter total_facts exact_facts (λ f. not (is_about o f)) facts set
change_kept facts (Modify o s v) set =
    set_insert total_facts exact_facts (without (is_slot_value o s) facts) (Frame o s v)
    (set_filter total_facts exact_facts (λ f. not (is_slot_value o s f)) facts set)

-- and so do some changes in order
pub facts_kept : (facts : List Fact) (changes : List Change) → IsFacts facts → IsFacts (facts_after facts changes)
facts_kept facts [] set = set
facts_kept facts (change ∷ changes) set =
    facts_kept (after_change facts change) changes (change_kept facts change set)
