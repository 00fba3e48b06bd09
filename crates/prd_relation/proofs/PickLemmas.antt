-- Along a run each pick was what was chosen.
use Rattle.std.proofs.Common.{◌≡◌, ℕ, zero, suc, List, [], ◌∷◌, Some, None, refl}
use Rattle.std.specs.declared.option.Option.{Option}
use Rattle.rif_values.specs.declared.change.Change.{Change}
use Rattle.rif_values.specs.declared.instance.Instance.{Instance}
use Rattle.session_states.specs.declared.item.Entry.{Entry}
use Rattle.session_states.specs.declared.state.State.{State}
use Rattle.session_states.specs.declared.state.State.TheVariants.{Idle, Firing, UntilHalt, Disposed}
use Rattle.session_states.specs.declared.turn.Act.{Act}
use Rattle.prd_relation.specs.Choice.{chosen_instance}
use Rattle.prd_relation.specs.History.{Snapshot, moments_of}
use Rattle.prd_relation.specs.Laws.{ArePicksChosen, PickTheChosen}
use Rattle.prd_relation.specs.RuleSystem.{RuleSystem}
use Rattle.prd_relation.specs.Runs.{session_at_end}
use Rattle.prd_relation.specs.Turns.{Session, changes_in, ending_act, first_session, history_with, outcome_after}
use Rattle.prd_relation.specs.Turns.{outcome_in, session_after, session_with, with_budget}

-- changes pick nothing
changes_pick : (system : RuleSystem) (h : List Snapshot) (changes : List Change) → ArePicksChosen system h
    → ArePicksChosen system (history_with h changes)
changes_pick system h [] are = are
changes_pick system h (change ∷ changes) are = (tt, are)

budget_picks : (system : RuleSystem) (s : Session) (next : ℕ → State) (left : ℕ) (i : Instance)
    → ArePicksChosen system s.history → chosen_instance system (moments_of system s.history) ≡ Some i
    → ArePicksChosen system (with_budget system s next left i).session.history
budget_picks system s next zero i are chosen = are
budget_picks system s next (suc left) i are chosen = (chosen, are)

act_picks : (system : RuleSystem) (s : Session) (state : State) (choice : Option Instance)
    → ArePicksChosen system s.history → chosen_instance system (moments_of system s.history) ≡ choice
    → ArePicksChosen system (outcome_in system s state choice).session.history
act_picks system s Idle choice are chosen = are
act_picks system s (Firing left) (Some i) are chosen = budget_picks system s Firing left i are chosen
act_picks system s (Firing left) None are chosen = are
act_picks system s (UntilHalt left) (Some i) are chosen = budget_picks system s UntilHalt left i are chosen
act_picks system s (UntilHalt left) None are chosen = are
act_picks system s Disposed choice are chosen = are

ending_picks : (system : RuleSystem) (s : Session) (ending : Option Act) → ArePicksChosen system s.history
    → ArePicksChosen system (outcome_after system ending s).session.history
ending_picks system s (Some act) are = are
ending_picks system s None are = act_picks system s s.state _ are refl

run_picks : (system : RuleSystem) (s : Session) (batches : List (List Entry)) → ArePicksChosen system s.history
    → ArePicksChosen system (session_at_end system s batches).history
run_picks system s [] are = are
run_picks system s (batch ∷ batches) are =
    run_picks system (session_after system s batch) batches
    (ending_picks system (session_with s batch) (ending_act batch)
    (changes_pick system s.history (changes_in batch) are))

pub picks_chosen : PickTheChosen
picks_chosen system batches = run_picks system first_session batches (tt, tt)
