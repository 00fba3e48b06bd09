-- Which facts a key names.
--     is_candidate key fact     whether the key names the fact
-- Source: the project's own (docs/PROFILE.md, "Facts by key").
use Rattle.std.specs.Prelude.{Bool, true, false}
use Rattle.rif_values.specs.declared.fact.Fact.{Fact}
use Rattle.rif_values.specs.declared.fact.Fact.TheVariants.{Atom, Frame, Member}
use Rattle.rif_values.specs.Facts.{same_const, is_slot_value, is_about}
use Rattle.rif_facts.specs.declared.keys.Key.{Key}
use Rattle.rif_facts.specs.declared.keys.Key.TheVariants.{Predicate, Slot, ObjectSlot, Object, Class, Frames, Members}

abbrev pub is_candidate : Key → Fact → Bool
is_candidate (Predicate p) (Atom q cs) = same_const p q
is_candidate (Predicate p) (Frame o s v) = false
is_candidate (Predicate p) (Member o c) = false
is_candidate (Slot s) (Atom q cs) = false
is_candidate (Slot s) (Frame o t v) = same_const s t
is_candidate (Slot s) (Member o c) = false
is_candidate (ObjectSlot o s) fact = is_slot_value o s fact
is_candidate (Object o) fact = is_about o fact
is_candidate (Class c) (Atom q cs) = false
is_candidate (Class c) (Frame o s v) = false
is_candidate (Class c) (Member o d) = same_const c d
is_candidate Frames (Atom q cs) = false
is_candidate Frames (Frame o s v) = true
is_candidate Frames (Member o c) = false
is_candidate Members (Atom q cs) = false
is_candidate Members (Frame o s v) = false
is_candidate Members (Member o c) = true
