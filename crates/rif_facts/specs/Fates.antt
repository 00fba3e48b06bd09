-- What some changes make of each fact, whatever it was before. No public clause cites this module.
--     fate_in change q       whether the change makes q stand or not, where it concerns q
--     fate_of changes q      the same of some changes, done in order: the last that concerns q decides
use Rattle.std.specs.Prelude.{Bool, true, false, ◌&&◌, List, [], ◌∷◌, if◌then◌else◌, None, Some}
use Rattle.std.specs.List.{list_any}
use Rattle.std.specs.Option.{option_or}
use Rattle.std.specs.declared.option.Option.{Option}
use Rattle.rif_values.specs.declared.fact.Fact.{Fact}
use Rattle.rif_values.specs.declared.fact.Fact.TheVariants.{Frame}
use Rattle.rif_values.specs.declared.change.Change.{Change}
use Rattle.rif_values.specs.declared.change.Change.TheVariants.{Assert, Retract, RetractSlot, RetractObject, Modify}
use Rattle.rif_values.specs.Facts.{same_const, same_fact, is_slot_value, is_about}
use Rattle.rif_facts.specs.declared.fates.Retraction.{Retraction}
use Rattle.rif_facts.specs.declared.fates.Retraction.TheVariants.{OfObject, OfSlot}
use Rattle.rif_facts.specs.declared.fates.Fates.{Fates}
use Rattle.rif_facts.specs.Marks.{mark_at}

abbrev pub decided : Bool → Bool → Option Bool
decided concerns stands = if concerns then Some stands else None

abbrev pub fate_in : Change → Fact → Option Bool
fate_in (Assert f) q = decided (same_fact f q) true
fate_in (Retract f) q = decided (same_fact f q) false
fate_in (RetractSlot o s) q = decided (is_slot_value o s q) false
fate_in (RetractObject o) q = decided (is_about o q) false
fate_in (Modify o s v) q = option_or (decided (same_fact (Frame o s v) q) true) (decided (is_slot_value o s q) false)

abbrev pub fate_of : List Change → Fact → Option Bool
fate_of [] q = None
fate_of (change ∷ changes) q = option_or (fate_of changes q) (fate_in change q)

abbrev pub same_retraction : Retraction → Retraction → Bool
same_retraction (OfObject o) (OfObject p) = same_const o p
same_retraction (OfObject o) (OfSlot p s) = false
same_retraction (OfSlot o s) (OfObject p) = false
same_retraction (OfSlot o s) (OfSlot p t) = same_const o p && same_const s t

-- whether the retraction takes the fact away
abbrev pub is_taken_by : Retraction → Fact → Bool
is_taken_by (OfObject o) q = is_about o q
is_taken_by (OfSlot o s) q = is_slot_value o s q

-- whether one of the retractions does
abbrev pub is_taken : List Retraction → Fact → Bool
is_taken retractions q = list_any (λ r. is_taken_by r q) retractions

-- the fate that is kept of a fact: its own, or else that of a retraction
abbrev pub fate_kept : Fates → Fact → Option Bool
fate_kept fates q = option_or (mark_at fates.own.entries q) (decided (is_taken fates.retracted.keys q) false)
