-- What the words of histories, of the choice and of runs promise: the statements of the laws in src/laws.rt.
-- Source: RIF-PRD, "Operational semantics of a production rule system" and "Conflict resolution".
use Rattle.std.specs.Prelude.{◌≡◌, ◌≢◌, ◌↔◌, ◌⊎◌, ℕ, suc, Bool, true, false, List, [], ◌∷◌, Some, None, IfSome}
use Rattle.std.specs.declared.option.Option.{Option}
use Rattle.std.specs.declared.cmp.Ordering.TheVariants.{Less}
use Rattle.rif_values.specs.declared.fact.Fact.{Fact}
use Rattle.rif_values.specs.declared.instance.Instance.{Instance}
use Rattle.rif_values.specs.InstanceOrder.{instance_cmp}
use Rattle.rif_values.specs.Sets.{has}
use Rattle.prd_relation.specs.declared.moment.Moment.{Moment}
use Rattle.session_states.specs.declared.item.Entry.{Entry}
use Rattle.session_states.specs.declared.state.State.{State}
use Rattle.session_states.specs.declared.state.State.TheVariants.{Idle, Firing, UntilHalt, Disposed}
use Rattle.session_states.specs.declared.turn.Act.{Act}
use Rattle.session_states.specs.declared.turn.Act.TheVariants.{Idle as IdleAct, Halted, Disposed as DisposedAct}
use Rattle.session_states.specs.declared.turn.Act.TheVariants.{Fired, StoppedQuiet, StoppedLimit, Resting}
use Rattle.session_states.specs.declared.turn.Effect.{Effect}
use Rattle.session_states.specs.declared.turn.Effect.TheVariants.{None as NoEffect}
use Rattle.session_states.specs.Batches.{AreLawfulBatches, IsLawful, is_disposing}
use Rattle.prd_relation.specs.Choice.{allowed_instances, chosen_instance, highest_instances, is_lower, is_older}
use Rattle.prd_relation.specs.Choice.{unrefracted_instances}
use Rattle.prd_relation.specs.FactsOfTurns.{facts_of_turns}
use Rattle.prd_relation.specs.History.{Snapshot, moments_of, newest_conflict_set, newest_facts, age_of, is_refracted}
use Rattle.prd_relation.specs.History.{IsAge, IsHistory, IsRefracted}
use Rattle.prd_relation.specs.RuleSystem.{RuleSystem}
use Rattle.prd_relation.specs.Runs.{AreLawful, AreLawfulFrom, IsReplay, fires, run_of, session_at_end}
use Rattle.prd_relation.specs.Turns.{Session, block_at, effect_of_block, ending_act, facts_after_block, first_session}
use Rattle.prd_relation.specs.Turns.{made_after_block, session_after, session_with, turn_of}

-- the age is a number of which the sentence is true, and the only one
abbrev pub AreAgesSaid : Type 0
AreAgesSaid = (moments : List Moment) (i : Instance)
    → IsAge moments i (age_of moments i) × ((n : ℕ) → IsAge moments i n → age_of moments i ≡ n)

-- an instance is refracted exactly where the sentence says so
abbrev pub IsRefractionSaid : Type 0
IsRefractionSaid = (moments : List Moment) (i : Instance) → (is_refracted moments i ≡ true) ↔ IsRefracted moments i

-- what isn't in the newest conflict set has age 0
abbrev pub AreOthersUnaged : Type 0
AreOthersUnaged = (moments : List Moment) (i : Instance)
    → has instance_cmp (newest_conflict_set moments) i ≡ false → age_of moments i ≡ 0

-- what is chosen is in the newest conflict set and isn't refracted
abbrev pub ChoosesUnrefracted : Type 0
ChoosesUnrefracted = (system : RuleSystem) (moments : List Moment) (i : Instance)
    → chosen_instance system moments ≡ Some i
    → (has instance_cmp (newest_conflict_set moments) i ≡ true) × (is_refracted moments i ≡ false)

-- what is chosen is allowed, and each other one that is allowed is above it
abbrev pub ChoosesLeast : Type 0
ChoosesLeast = (system : RuleSystem) (history : List Snapshot) (i : Instance)
    → chosen_instance system (moments_of system history) ≡ Some i
    → let allowed = allowed_instances system (moments_of system history) in
    (has instance_cmp allowed i ≡ true)
    × ((j : Instance) → has instance_cmp allowed j ≡ true → j ≢ i → instance_cmp i j ≡ Less)

-- nothing is chosen exactly where each instance of the newest conflict set is refracted
abbrev pub ChoosesWhereItCan : Type 0
ChoosesWhereItCan = (system : RuleSystem) (moments : List Moment)
    → (chosen_instance system moments ≡ None) ↔ (unrefracted_instances moments (newest_conflict_set moments) ≡ [])

-- no unrefracted instance has a rule of higher priority than what is chosen, and none of the highest is younger
abbrev pub ChoosesBest : Type 0
ChoosesBest = (system : RuleSystem) (moments : List Moment) (i j : Instance) → chosen_instance system moments ≡ Some i
    → let unrefracted = unrefracted_instances moments (newest_conflict_set moments) in
    (has instance_cmp unrefracted j ≡ true → is_lower system i j ≡ false)
    × (has instance_cmp (highest_instances system unrefracted) j ≡ true → is_older moments i j ≡ false)

-- each firing leads to one more state of facts, which its pick led to: a void one too, and one that changes nothing
abbrev pub AreFiringsStates : Type 0
AreFiringsStates = (system : RuleSystem) (session : Session) (batch : List Entry)
    → (turn_of system session batch).act ≡ Some Fired
    → (facts : List Fact) × (i : Instance) × ((session_after system session batch).history
    ≡ record { facts = facts; pick = Some i } ∷ (session_with session batch).history)

-- no batch of a run follows one that ends in a Dispose
abbrev pub DisposesEnd : Type 0
DisposesEnd = (system : RuleSystem) (session : Session) (fired disposed : Bool)
    (batch : List Entry) (batches : List (List Entry))
    → AreLawfulFrom system session fired disposed (batch ∷ batches) → is_disposing batch ≡ true → batches ≡ []

-- some batches have one replay at most: two lists of batches that are each a replay of them are equal, and so are
-- their turns
abbrev pub IsReplayOne : Type 0
IsReplayOne = (system : RuleSystem) (given all other : List (List Entry))
    → IsReplay system given all → IsReplay system given other → all ≡ other

-- where the given batches are lawful, those of a replay are the batches of a run
abbrev pub AreReplaysLawful : Type 0
AreReplaysLawful = (system : RuleSystem) (given all : List (List Entry))
    → AreLawfulBatches given → IsReplay system given all → AreLawful system all

-- the history that a run reaches is a history, whatever its batches are, and so it is after each of its turns
abbrev pub ReachHistories : Type 0
ReachHistories = (system : RuleSystem) (batches : List (List Entry))
    → IsHistory system (session_at_end system first_session batches).history

-- the facts that the turns of a run leave are those of its newest state
abbrev pub TellTheirFacts : Type 0
TellTheirFacts = (system : RuleSystem) (batches : List (List Entry)) → facts_of_turns (run_of system batches)
    ≡ newest_facts (session_at_end system first_session batches).history

-- ---- what may be picked

-- an instance of the newest conflict set that isn't refracted
abbrev pub IsUnrefracted : List Moment → Instance → Type 0
IsUnrefracted moments i =
    (has instance_cmp (newest_conflict_set moments) i ≡ true) × (is_refracted moments i ≡ false)

-- an unrefracted instance: no unrefracted one has a rule of higher priority, and none whose rule has no lower
-- priority is younger
pub record IsAllowed (system : RuleSystem) (moments : List Moment) (i : Instance) : Type 0 where
  pub unrefracted : IsUnrefracted moments i
  pub highest : (j : Instance) → IsUnrefracted moments j → is_lower system i j ≡ false
  pub youngest : (j : Instance) → IsUnrefracted moments j → is_lower system j i ≡ false → is_older moments i j ≡ false

-- the allowed instances are exactly those of which the sentence is true
abbrev pub AllowsTheBest : Type 0
AllowsTheBest = (system : RuleSystem) (moments : List Moment) (i : Instance)
    → (has instance_cmp (allowed_instances system moments) i ≡ true) ↔ IsAllowed system moments i

-- each pick was what is chosen in the history before it
abbrev pub ArePicksChosen : RuleSystem → List Snapshot → Type 0
ArePicksChosen system [] = Unit {0}
ArePicksChosen system (newest ∷ earlier) =
    IfSome newest.pick (λ i. chosen_instance system (moments_of system earlier) ≡ Some i)
    × ArePicksChosen system earlier

-- along a run each pick was what was chosen
abbrev pub PickTheChosen : Type 0
PickTheChosen = (system : RuleSystem) (batches : List (List Entry))
    → ArePicksChosen system (session_at_end system first_session batches).history

-- ---- what an act says

-- the firing of an instance in a session that has taken a batch: the instance is what is chosen there, the effect is
-- its block's, and so are the one state of facts that it leads to and the number of objects made
pub record IsFiring (system : RuleSystem) (s : Session) (picked : Option Instance) (done : Effect) (after : Session)
    (i : Instance) : Type 0 where
  pub chosen : chosen_instance system (moments_of system s.history) ≡ Some i
  pub pick : picked ≡ Some i
  pub effect : done ≡ effect_of_block (newest_facts s.history) (block_at system s i)
  pub history : after.history
      ≡ record { facts = facts_after_block (newest_facts s.history) (block_at system s i); pick = Some i } ∷ s.history
  pub made : after.made ≡ made_after_block s.made (block_at system s i)

-- a turn that fires is the firing of an instance
abbrev pub FiresTheChosen : Type 0
FiresTheChosen = (system : RuleSystem) (session : Session) (batch : List Entry)
    → (turn_of system session batch).act ≡ Some Fired
    → (i : Instance) × IsFiring system (session_with session batch) (turn_of system session batch).pick
    (turn_of system session batch).effect (session_after system session batch) i

-- every other turn picks nothing, has no effect, and adds no state and no object to those of the batch
abbrev pub OthersKeepHistories : Type 0
OthersKeepHistories = (system : RuleSystem) (session : Session) (batch : List Entry)
    → (turn_of system session batch).act ≢ Some Fired
    → ((turn_of system session batch).pick ≡ None) × ((turn_of system session batch).effect ≡ NoEffect)
    × ((session_after system session batch).history ≡ (session_with session batch).history)
    × ((session_after system session batch).made ≡ (session_with session batch).made)

-- each instance of the newest conflict set is refracted
abbrev pub AreAllRefracted : RuleSystem → Session → Type 0
AreAllRefracted system s =
    let moments = moments_of system s.history in unrefracted_instances moments (newest_conflict_set moments) ≡ []

-- what an act says of its batch, of the session that has taken it, and of the state after the turn
abbrev pub IsReason : RuleSystem → List Entry → Session → State → Act → Type 0
IsReason system batch s after IdleAct = (ending_act batch ≡ None) × (s.state ≡ Idle) × (after ≡ Idle)
IsReason system batch s after Halted =
    (ending_act batch ≡ Some Halted) × ((s.state ≡ Idle) ⊎ (s.state ≡ Disposed)) × (after ≡ s.state)
IsReason system batch s after DisposedAct =
    ((ending_act batch ≡ Some DisposedAct) ⊎ (ending_act batch ≡ None)) × (s.state ≡ Disposed) × (after ≡ Disposed)
IsReason system batch s after Fired =
    (ending_act batch ≡ None) × (left : ℕ)
    × (((s.state ≡ Firing (suc left)) × (after ≡ Firing left))
    ⊎ ((s.state ≡ UntilHalt (suc left)) × (after ≡ UntilHalt left)))
IsReason system batch s after StoppedQuiet =
    (ending_act batch ≡ None) × (left : ℕ) × (s.state ≡ Firing left) × AreAllRefracted system s × (after ≡ Idle)
IsReason system batch s after StoppedLimit =
    (ending_act batch ≡ None) × (i : Instance) × (chosen_instance system (moments_of system s.history) ≡ Some i)
    × ((s.state ≡ Firing 0) ⊎ (s.state ≡ UntilHalt 0)) × (after ≡ Idle)
IsReason system batch s after Resting =
    (ending_act batch ≡ None) × (left : ℕ) × (s.state ≡ UntilHalt left) × AreAllRefracted system s
    × (after ≡ UntilHalt left)

-- in a session that isn't disposed the act of a lawful batch says so exactly where the batch ends in a Dispose
abbrev pub DisposesByDispose : Type 0
DisposesByDispose = (system : RuleSystem) (session : Session) (batch : List Entry)
    → IsLawful batch → session.state ≢ Disposed
    → ((turn_of system session batch).act ≡ Some DisposedAct) ↔ (is_disposing batch ≡ true)

-- a lawful batch leaves a session disposed that wasn't only where it ends in a Dispose
abbrev pub DisposesOnlyByDispose : Type 0
DisposesOnlyByDispose = (system : RuleSystem) (session : Session) (batch : List Entry)
    → IsLawful batch → session.state ≢ Disposed → (session_after system session batch).state ≡ Disposed
    → is_disposing batch ≡ true

-- a turn that fires leaves a session that isn't disposed
abbrev pub FiringsStayLive : Type 0
FiringsStayLive = (system : RuleSystem) (session : Session) (batch : List Entry)
    → fires system session batch ≡ true → (session_after system session batch).state ≢ Disposed

-- a turn has its act for the act's reason: it stops or rests only where nothing is left to fire, or where the budget
-- is spent
abbrev pub StopsWhereItMust : Type 0
StopsWhereItMust = (system : RuleSystem) (session : Session) (batch : List Entry) (act : Act)
    → (turn_of system session batch).act ≡ Some act
    → IsReason system batch (session_with session batch) (session_after system session batch).state act
