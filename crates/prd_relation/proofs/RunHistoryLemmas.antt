-- What runs reach is a history.
use Rattle.std.proofs.Common.{◌≡◌, ℕ, zero, suc, true, List, [], ◌∷◌, Some, None, IfSome, refl, sym, subst}
use Rattle.std.specs.declared.option.Option.{Option}
use Rattle.rif_values.specs.declared.change.Change.{Change}
use Rattle.rif_values.specs.declared.fact.Fact.{Fact}
use Rattle.rif_values.specs.declared.instance.Instance.{Instance}
use Rattle.rif_values.specs.Facts.{IsFacts, facts_after}
use Rattle.rif_values.specs.InstanceOrder.{instance_cmp}
use Rattle.rif_values.specs.Sets.{has}
use Rattle.rif_values.proofs.CallerLemmas.{total_facts, exact_facts}
use Rattle.rif_sets.proofs.CallerLemmas.{set_empty}
use Rattle.rif_facts.proofs.CallerLemmas.{facts_kept}
use Rattle.rif_actions.specs.declared.changes.Block.{Block}
use Rattle.rif_actions.specs.declared.changes.Block.TheVariants.{Void, Changes}
use Rattle.session_states.specs.declared.item.Entry.{Entry}
use Rattle.session_states.specs.declared.state.State.{State}
use Rattle.session_states.specs.declared.state.State.TheVariants.{Idle, Firing, UntilHalt, Disposed}
use Rattle.session_states.specs.declared.turn.Act.{Act}
use Rattle.prd_relation.specs.Choice.{chosen_instance}
use Rattle.prd_relation.specs.History.{Snapshot, IsHistory, moments_of, newest_conflict_set, newest_facts}
use Rattle.prd_relation.specs.Laws.{ReachHistories}
use Rattle.prd_relation.specs.RuleSystem.{RuleSystem}
use Rattle.prd_relation.specs.Runs.{session_at_end}
use Rattle.prd_relation.specs.Turns.{Session, block_at, changes_in, ending_act, facts_after_block, firing_of}
use Rattle.prd_relation.specs.Turns.{first_session, history_with, outcome_after, outcome_in, session_after}
use Rattle.prd_relation.specs.Turns.{session_with, with_budget}
use Rattle.prd_relation.proofs.ChosenLemmas.{chosen_unrefracted}

-- ---- one more state

-- each state of a history is a set of facts
pub newest_is_set : (system : RuleSystem) (h : List Snapshot) → IsHistory system h → IsFacts (newest_facts h)
newest_is_set system [] is = absurd is
newest_is_set system (first ∷ []) is = subst IsFacts (sym is.0) (set_empty total_facts exact_facts)
newest_is_set system (newest ∷ before ∷ earlier) is = is.0

goes_on : (system : RuleSystem) (snapshot : Snapshot) (h : List Snapshot) → IsHistory system h
    → IsFacts snapshot.facts
    → IfSome snapshot.pick (λ i. has instance_cmp (system.instances (newest_facts h)) i ≡ true)
    → IsHistory system (snapshot ∷ h)
goes_on system snapshot [] is set picked = absurd is
goes_on system snapshot (before ∷ earlier) is set picked = (set, picked, is)

-- some changes lead from a history to one
pub changes_go_on : (system : RuleSystem) (h : List Snapshot) (changes : List Change) → IsHistory system h
    → IsHistory system (history_with h changes)
changes_go_on system h [] is = is
changes_go_on system h (change ∷ changes) is =
    goes_on system (record { facts = facts_after (newest_facts h) (change ∷ changes); pick = None }) h is
    (facts_kept (newest_facts h) (change ∷ changes) (newest_is_set system h is)) tt

block_kept : (old : List Fact) (block : Block) → IsFacts old → IsFacts (facts_after_block old block)
block_kept old Void set = set
block_kept old (Changes changes made) set = facts_kept old changes set

-- what the newest conflict set has is an instance at the newest state
at_newest : (system : RuleSystem) (h : List Snapshot) (i : Instance) → IsHistory system h
    → has instance_cmp (newest_conflict_set (moments_of system h)) i ≡ true
    → has instance_cmp (system.instances (newest_facts h)) i ≡ true
at_newest system [] i is there = absurd is
at_newest system (snapshot ∷ h) i is there = there

-- ---- turns

firing_goes_on : (system : RuleSystem) (s : Session) (next : State) (i : Instance) → IsHistory system s.history
    → chosen_instance system (moments_of system s.history) ≡ Some i
    → IsHistory system (firing_of s next i (block_at system s i)).session.history
firing_goes_on system s next i is chosen =
    let after = facts_after_block (newest_facts s.history) (block_at system s i) in
    let there = chosen_unrefracted system (moments_of system s.history) i chosen in
    goes_on system (record { facts = after; pick = Some i }) s.history is
    (block_kept (newest_facts s.history) (block_at system s i) (newest_is_set system s.history is))
    (at_newest system s.history i is there.0)

budget_goes_on : (system : RuleSystem) (s : Session) (next : ℕ → State) (left : ℕ) (i : Instance)
    → IsHistory system s.history → chosen_instance system (moments_of system s.history) ≡ Some i
    → IsHistory system (with_budget system s next left i).session.history
budget_goes_on system s next zero i is chosen = is
budget_goes_on system s next (suc left) i is chosen = firing_goes_on system s (next left) i is chosen

act_goes_on : (system : RuleSystem) (s : Session) (state : State) (choice : Option Instance)
    → IsHistory system s.history → chosen_instance system (moments_of system s.history) ≡ choice
    → IsHistory system (outcome_in system s state choice).session.history
act_goes_on system s Idle choice is chosen = is
act_goes_on system s (Firing left) (Some i) is chosen = budget_goes_on system s Firing left i is chosen
act_goes_on system s (Firing left) None is chosen = is
act_goes_on system s (UntilHalt left) (Some i) is chosen = budget_goes_on system s UntilHalt left i is chosen
act_goes_on system s (UntilHalt left) None is chosen = is
act_goes_on system s Disposed choice is chosen = is

ending_goes_on : (system : RuleSystem) (s : Session) (ending : Option Act) → IsHistory system s.history
    → IsHistory system (outcome_after system ending s).session.history
ending_goes_on system s (Some act) is = is
ending_goes_on system s None is = act_goes_on system s s.state _ is refl

-- a turn leads from a history to one
pub turn_goes_on : (system : RuleSystem) (s : Session) (batch : List Entry) → IsHistory system s.history
    → IsHistory system (session_after system s batch).history
turn_goes_on system s batch is =
    ending_goes_on system (session_with s batch) (ending_act batch)
    (changes_go_on system s.history (changes_in batch) is)

run_goes_on : (system : RuleSystem) (s : Session) (batches : List (List Entry)) → IsHistory system s.history
    → IsHistory system (session_at_end system s batches).history
run_goes_on system s [] is = is
run_goes_on system s (batch ∷ batches) is =
    run_goes_on system (session_after system s batch) batches (turn_goes_on system s batch is)

-- a run starts from a history
pub first_is_history : (system : RuleSystem) → IsHistory system first_session.history
first_is_history system = (refl, refl)

pub reach_histories : ReachHistories
reach_histories system batches = run_goes_on system first_session batches (first_is_history system)
