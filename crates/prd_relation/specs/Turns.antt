-- Turns: what a session does with a batch.
--     Session                         a session between two turns: its state, its history, and how many objects were
--                                     made
--     session_with s batch            the session with the batch's items taken in order
--     turn_of system s batch          the turn of a batch
--     session_after system s batch    the session after it
-- A batch with a change leads to one new state, in which nothing was picked; a firing leads to one new state, a void
-- one too; facts in the middle of a batch or a block belong to no state.
-- Source: RIF-PRD, "Operational semantics of a production rule system"; batches of clients and acts are the
-- project's own (docs/PROFILE.md, "Turns").
use Rattle.std.specs.Prelude.{ℕ, zero, suc, ◌-◌, List, [], ◌∷◌, fold, length, slice_get, Some, None}
use Rattle.std.specs.List.{filter_map}
use Rattle.std.specs.Option.{option_and_then}
use Rattle.std.specs.declared.option.Option.{Option}
use Rattle.rif_values.specs.declared.fact.Fact.{Fact}
use Rattle.rif_values.specs.declared.instance.Instance.{Instance}
use Rattle.rif_values.specs.declared.change.Change.{Change}
use Rattle.rif_values.specs.Facts.{facts_after, net_change}
use Rattle.session_states.specs.declared.item.Item.{Item}
use Rattle.session_states.specs.declared.item.Item.TheVariants.{Change as ChangeItem, Fire, Until, Halt, Dispose}
use Rattle.session_states.specs.declared.item.Entry.{Entry}
use Rattle.session_states.specs.declared.state.State.{State}
use Rattle.session_states.specs.declared.state.State.TheVariants.{Idle, Firing, UntilHalt, Disposed}
use Rattle.session_states.specs.declared.turn.Act.{Act}
use Rattle.session_states.specs.declared.turn.Act.TheVariants.{Idle as IdleAct, Halted, Disposed as DisposedAct}
use Rattle.session_states.specs.declared.turn.Act.TheVariants.{Fired, StoppedQuiet, StoppedLimit, Resting}
use Rattle.session_states.specs.declared.turn.Effect.{Effect}
use Rattle.session_states.specs.declared.turn.Effect.TheVariants.{None as NoEffect, Void, Net}
use Rattle.session_states.specs.declared.turn.Turn.{Turn}
use Rattle.session_states.specs.Machine.{state_after}
use Rattle.prd_relation.specs.History.{Snapshot, first_history, newest_facts, moments_of}
use Rattle.prd_relation.specs.Choice.{chosen_instance}
use Rattle.prd_relation.specs.RuleSystem.{RuleSystem}
use Rattle.rif_actions.specs.declared.changes.Block.{Block}
use Rattle.rif_actions.specs.declared.changes.Block.TheVariants.{Void as VoidBlock, Changes}

pub record Session : Type 0 where
  pub state : State
  pub history : List Snapshot
  pub made : ℕ

-- idle, with no facts, and no object made
abbrev pub first_session : Session
first_session = record { state = Idle; history = first_history; made = 0 }

abbrev pub change_of : Item → Option Change
change_of (ChangeItem change) = Some change
change_of (Fire more) = None
change_of (Until more) = None
change_of Halt = None
change_of Dispose = None

abbrev pub changes_in : List Entry → List Change
changes_in batch = filter_map (λ entry. change_of entry.item) batch

abbrev pub state_with : State → List Entry → State
state_with state batch = fold (λ s entry. state_after s entry.item) state batch

-- some changes lead to one more state, and none to no further one
abbrev pub history_with : List Snapshot → List Change → List Snapshot
history_with history [] = history
history_with history (change ∷ changes) =
    record { facts = facts_after (newest_facts history) (change ∷ changes); pick = None } ∷ history

abbrev pub session_with : Session → List Entry → Session
session_with session batch = record {
  state = state_with session.state batch;
  history = history_with session.history (changes_in batch);
  made = session.made;
}

-- the act of a batch that ends in a Halt or a Dispose
abbrev pub ending_item : Item → Option Act
ending_item (ChangeItem change) = None
ending_item (Fire more) = None
ending_item (Until more) = None
ending_item Halt = Some Halted
ending_item Dispose = Some DisposedAct

abbrev pub ending_act : List Entry → Option Act
ending_act batch = option_and_then (λ entry. ending_item entry.item) (slice_get batch (length batch - 1))

-- what a turn came to: its act, its pick and effect, and the session after it
pub record Outcome : Type 0 where
  pub act : Act
  pub pick : Option Instance
  pub effect : Effect
  pub session : Session

-- an act that fires nothing keeps the history as it was, and leads to a state
abbrev pub unfired : Act → State → Session → Outcome
unfired act state session =
    record { act = act; pick = None; effect = NoEffect; session = record session { state = state } }

abbrev pub block_at : RuleSystem → Session → Instance → Block
block_at system session i = system.block i (newest_facts session.history) session.made

-- the facts after a block
abbrev pub facts_after_block : List Fact → Block → List Fact
facts_after_block old VoidBlock = old
facts_after_block old (Changes changes made) = facts_after old changes

abbrev pub effect_of_block : List Fact → Block → Effect
effect_of_block old VoidBlock = Void
effect_of_block old (Changes changes made) = Net (net_change old (facts_after old changes))

-- the number of objects made after a block, where so many were made before
abbrev pub made_after_block : ℕ → Block → ℕ
made_after_block made VoidBlock = made
made_after_block made (Changes changes more) = more

-- the firing of an instance whose block is this one: one more state of facts, which the pick led to
abbrev pub firing_of : Session → State → Instance → Block → Outcome
firing_of session next i block =
    let old = newest_facts session.history in record {
      act = Fired;
      pick = Some i;
      effect = effect_of_block old block;
      session = record {
        state = next;
        history = record { facts = facts_after_block old block; pick = Some i } ∷ session.history;
        made = made_after_block session.made block;
      };
    }

-- an instance is chosen: it fires where the budget isn't spent
abbrev pub with_budget : RuleSystem → Session → (ℕ → State) → ℕ → Instance → Outcome
with_budget system session next zero i = unfired StoppedLimit Idle session
with_budget system session next (suc left) i = firing_of session (next left) i (block_at system session i)

-- the outcome of a session that has taken a batch which ends in neither a Halt nor a Dispose
abbrev pub outcome_in : RuleSystem → Session → State → Option Instance → Outcome
outcome_in system session Idle choice = unfired IdleAct Idle session
outcome_in system session (Firing left) (Some i) = with_budget system session Firing left i
outcome_in system session (Firing left) None = unfired StoppedQuiet Idle session
outcome_in system session (UntilHalt left) (Some i) = with_budget system session UntilHalt left i
outcome_in system session (UntilHalt left) None = unfired Resting (UntilHalt left) session
outcome_in system session Disposed choice = unfired DisposedAct Disposed session

-- a Halt or a Dispose at the end of a batch fixes the act, and the machine has the state that it led to
abbrev pub outcome_after : RuleSystem → Option Act → Session → Outcome
outcome_after system (Some act) session = unfired act session.state session
outcome_after system None session =
    outcome_in system session session.state (chosen_instance system (moments_of system session.history))

abbrev pub outcome_of : RuleSystem → Session → List Entry → Outcome
outcome_of system session batch = outcome_after system (ending_act batch) (session_with session batch)

abbrev pub turn_of : RuleSystem → Session → List Entry → Turn
turn_of system session batch =
    let outcome = outcome_of system session batch in
    record { batch = batch; act = Some outcome.act; pick = outcome.pick; effect = outcome.effect }

abbrev pub session_after : RuleSystem → Session → List Entry → Session
session_after system session batch = (outcome_of system session batch).session
