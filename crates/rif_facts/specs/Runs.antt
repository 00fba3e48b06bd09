-- Runs: facts that stand next to each other in every state. No public clause cites this module.
--     is_in_run run fact     whether the fact is one of the run
--     IsFirstOf run first    first is not above any fact of the run, and a fact between the two is of the run
--     walked test es         of some entries, those that count of the first ones that pass a test
use Rattle.std.specs.Prelude.{◌≡◌, Bool, true, false, List, [], ◌∷◌, if◌then◌else◌}
use Rattle.std.specs.Ordering.{is_le}
use Rattle.std.specs.declared.cmp.Ordering.TheVariants.{Less}
use Rattle.rif_values.specs.declared.fact.Fact.{Fact}
use Rattle.rif_values.specs.declared.fact.Fact.TheVariants.{Atom, Frame, Member}
use Rattle.rif_values.specs.Facts.{same_const, is_slot_value}
use Rattle.rif_values.specs.Order.{fact_cmp}
use Rattle.rif_facts.specs.Marks.{IsInRange}
use Rattle.rif_facts.specs.declared.runs.Run.{Run}
use Rattle.rif_facts.specs.declared.runs.Run.TheVariants.{Atoms, SlotValues, FramesOf, MembershipsOf, Frames, Members}

abbrev pub is_in_run : Run → Fact → Bool
is_in_run (Atoms p) (Atom q cs) = same_const p q
is_in_run (Atoms p) (Frame o s v) = false
is_in_run (Atoms p) (Member o c) = false
is_in_run (SlotValues o s) fact = is_slot_value o s fact
is_in_run (FramesOf o) (Atom q cs) = false
is_in_run (FramesOf o) (Frame p t v) = same_const o p
is_in_run (FramesOf o) (Member p c) = false
is_in_run (MembershipsOf o) (Atom q cs) = false
is_in_run (MembershipsOf o) (Frame p t v) = false
is_in_run (MembershipsOf o) (Member p c) = same_const o p
is_in_run Frames (Atom q cs) = false
is_in_run Frames (Frame o s v) = true
is_in_run Frames (Member o c) = false
is_in_run Members (Atom q cs) = false
is_in_run Members (Frame o s v) = false
is_in_run Members (Member o c) = true

pub record IsFirstOf (run : Run) (first : Fact) : Type 0 where
  pub below : (f : Fact) → IsInRange f → is_in_run run f ≡ true → is_le (fact_cmp first f) ≡ true
  pub joined : (f g : Fact) → is_le (fact_cmp first f) ≡ true → fact_cmp f g ≡ Less → is_in_run run g ≡ true
      → is_in_run run f ≡ true

-- the runs of the turned facts: those of frames, and of memberships, of one constant
abbrev pub IsTurnedRun : Run → Type 0
IsTurnedRun (Atoms p) = ⊥
IsTurnedRun (SlotValues o s) = ⊥
IsTurnedRun (FramesOf o) = Unit {0}
IsTurnedRun (MembershipsOf o) = Unit {0}
IsTurnedRun Frames = ⊥
IsTurnedRun Members = ⊥

-- those that count, up to the first entry that fails the test
abbrev pub walked : (Fact → Bool) → List (Fact × Bool) → List Fact
walked test [] = []
walked test (e ∷ es) = if test e.0 then (if e.1 then e.0 ∷ walked test es else walked test es) else []
