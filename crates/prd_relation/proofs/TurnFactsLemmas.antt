-- The facts that the turns of a run leave are those of its newest state.
use Rattle.std.proofs.Common.{◌≡◌, ◌∙◌, ℕ, zero, suc, List, [], ◌∷◌, Some, None, fold, refl, sym, ap}
use Rattle.std.specs.declared.option.Option.{Option}
use Rattle.rif_values.specs.declared.change.Change.{Change}
use Rattle.rif_values.specs.declared.fact.Fact.{Fact}
use Rattle.rif_values.specs.declared.instance.Instance.{Instance}
use Rattle.rif_values.specs.Facts.{IsFacts, facts_after}
use Rattle.rif_values.specs.Order.{fact_cmp}
use Rattle.rif_values.specs.Sets.{beyond}
use Rattle.rif_values.proofs.CallerLemmas.{total_facts, exact_facts}
use Rattle.rif_sets.proofs.CallerLemmas.{gives_of_net}
use Rattle.rif_facts.proofs.CallerLemmas.{facts_kept}
use Rattle.rif_actions.specs.declared.changes.Block.{Block}
use Rattle.rif_actions.specs.declared.changes.Block.TheVariants.{Void, Changes}
use Rattle.session_states.specs.declared.item.Entry.{Entry}
use Rattle.session_states.specs.declared.state.State.{State}
use Rattle.session_states.specs.declared.state.State.TheVariants.{Idle, Firing, UntilHalt, Disposed}
use Rattle.session_states.specs.declared.turn.Act.{Act}
use Rattle.prd_relation.specs.FactsOfTurns.{facts_after_effect, facts_after_turn}
use Rattle.prd_relation.specs.History.{Snapshot, IsHistory, newest_facts}
use Rattle.prd_relation.specs.Laws.{TellTheirFacts}
use Rattle.prd_relation.specs.RuleSystem.{RuleSystem}
use Rattle.prd_relation.specs.Runs.{session_at_end, turns_from}
use Rattle.prd_relation.specs.Turns.{Outcome, Session, block_at, changes_in, effect_of_block, ending_act}
use Rattle.prd_relation.specs.Turns.{facts_after_block, first_session, history_with, outcome_after, outcome_in}
use Rattle.prd_relation.specs.Turns.{outcome_of, session_after, session_with, turn_of, with_budget}
use Rattle.prd_relation.proofs.RunHistoryLemmas.{changes_go_on, first_is_history, newest_is_set, turn_goes_on}

-- the newest state after some changes
changes_lead : (h : List Snapshot) (changes : List Change)
    → newest_facts (history_with h changes) ≡ facts_after (newest_facts h) changes
changes_lead h [] = refl
changes_lead h (change ∷ changes) = refl

-- the effect of a block leads to the facts after it
effect_leads : (old : List Fact) (block : Block) → IsFacts old
    → facts_after_effect old (effect_of_block old block) ≡ facts_after_block old block
effect_leads old Void set = refl
effect_leads old (Changes changes made) set =
    let new = facts_after old changes in
    gives_of_net total_facts exact_facts old new (beyond fact_cmp old new) (beyond fact_cmp new old) set
    (facts_kept old changes set) (record { added = refl; removed = refl })

-- what a turn came to tells the facts that it leads to
abbrev TellsFacts : Session → Outcome → Type 0
TellsFacts s outcome =
    facts_after_effect (newest_facts s.history) outcome.effect ≡ newest_facts outcome.session.history

budget_tells : (system : RuleSystem) (s : Session) (next : ℕ → State) (left : ℕ) (i : Instance)
    → IsFacts (newest_facts s.history) → TellsFacts s (with_budget system s next left i)
budget_tells system s next zero i set = refl
budget_tells system s next (suc left) i set = effect_leads (newest_facts s.history) (block_at system s i) set

act_tells : (system : RuleSystem) (s : Session) (state : State) (choice : Option Instance)
    → IsFacts (newest_facts s.history) → TellsFacts s (outcome_in system s state choice)
act_tells system s Idle choice set = refl
act_tells system s (Firing left) (Some i) set = budget_tells system s Firing left i set
act_tells system s (Firing left) None set = refl
act_tells system s (UntilHalt left) (Some i) set = budget_tells system s UntilHalt left i set
act_tells system s (UntilHalt left) None set = refl
act_tells system s Disposed choice set = refl

ending_tells : (system : RuleSystem) (s : Session) (ending : Option Act) → IsFacts (newest_facts s.history)
    → TellsFacts s (outcome_after system ending s)
ending_tells system s (Some act) set = refl
ending_tells system s None set = act_tells system s s.state _ set

turn_tells : (system : RuleSystem) (s : Session) (batch : List Entry) → IsHistory system s.history
    → facts_after_turn (newest_facts s.history) (turn_of system s batch)
    ≡ newest_facts (session_after system s batch).history
turn_tells system s batch is =
    let taken = changes_go_on system s.history (changes_in batch) is in
    ap (λ (facts : List Fact). facts_after_effect facts (outcome_of system s batch).effect)
    (sym (changes_lead s.history (changes_in batch)))
    ∙ ending_tells system (session_with s batch) (ending_act batch)
    (newest_is_set system (history_with s.history (changes_in batch)) taken)

turns_tell : (system : RuleSystem) (s : Session) (batches : List (List Entry)) → IsHistory system s.history
    → fold facts_after_turn (newest_facts s.history) (turns_from system s batches)
    ≡ newest_facts (session_at_end system s batches).history
turns_tell system s [] is = refl
turns_tell system s (batch ∷ batches) is =
    let next = session_after system s batch in
    ap (λ (facts : List Fact). fold facts_after_turn facts (turns_from system next batches))
    (turn_tells system s batch is)
    ∙ turns_tell system next batches (turn_goes_on system s batch is)

pub tell_their_facts : TellTheirFacts
tell_their_facts system batches = turns_tell system first_session batches (first_is_history system)
