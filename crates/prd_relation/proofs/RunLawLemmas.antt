-- Laws of turns and runs.
use Rattle.std.proofs.Common.{◌≡◌, ◌∙◌, ℕ, zero, suc, true≢false, List, [], ◌∷◌, Some, None, refl, sym}
use Rattle.std.specs.Option.{option_and_then}
use Rattle.std.specs.declared.option.Option.{Option}
use Rattle.rif_values.specs.declared.fact.Fact.{Fact}
use Rattle.rif_values.specs.declared.instance.Instance.{Instance}
use Rattle.prd_relation.specs.RuleSystem.{RuleSystem}
use Rattle.session_states.specs.declared.item.Item.{Item}
use Rattle.session_states.specs.declared.item.Item.TheVariants.{Change, Fire, Until, Halt, Dispose}
use Rattle.session_states.specs.declared.item.Entry.{Entry}
use Rattle.session_states.specs.declared.state.State.{State}
use Rattle.session_states.specs.declared.state.State.TheVariants.{Idle, Firing, UntilHalt, Disposed}
use Rattle.session_states.specs.declared.turn.Act.{Act}
use Rattle.session_states.specs.declared.turn.Act.TheVariants.{Fired}
use Rattle.prd_relation.specs.History.{Snapshot}
use Rattle.prd_relation.specs.Laws.{AreFiringsStates, DisposesEnd}
use Rattle.prd_relation.specs.Turns.{Outcome, Session, ending_act, ending_item, outcome_after, outcome_in}
use Rattle.prd_relation.specs.Turns.{session_with, with_budget}

-- a turn that fires leads to one more state, which its pick led to
abbrev LeadsOn : Outcome → List Snapshot → Type 0
LeadsOn outcome history = Some outcome.act ≡ Some Fired
    → (facts : List Fact) × (i : Instance)
    × (outcome.session.history ≡ record { facts = facts; pick = Some i } ∷ history)

budget_leads : (system : RuleSystem) (s : Session) (next : ℕ → State) (left : ℕ) (i : Instance)
    → LeadsOn (with_budget system s next left i) s.history
budget_leads system s next zero i fired = absurd (cc fired)
budget_leads system s next (suc left) i fired = (_, i, refl)

act_leads : (system : RuleSystem) (s : Session) (state : State) (choice : Option Instance)
    → LeadsOn (outcome_in system s state choice) s.history
act_leads system s Idle choice fired = absurd (cc fired)
act_leads system s (Firing left) (Some i) fired = budget_leads system s Firing left i fired
act_leads system s (Firing left) None fired = absurd (cc fired)
act_leads system s (UntilHalt left) (Some i) fired = budget_leads system s UntilHalt left i fired
act_leads system s (UntilHalt left) None fired = absurd (cc fired)
act_leads system s Disposed choice fired = absurd (cc fired)

-- an item at the end of a batch fixes no firing
item_fires_not : (item : Item) → ending_item item ≡ Some Fired → ⊥
item_fires_not (Change change) fired = cc fired
item_fires_not (Fire more) fired = cc fired
item_fires_not (Until more) fired = cc fired
item_fires_not Halt fired = cc fired
item_fires_not Dispose fired = cc fired

pub entry_fires_not : (entry : Option Entry) → option_and_then (λ e. ending_item e.item) entry ≡ Some Fired → ⊥
entry_fires_not None fired = cc fired
entry_fires_not (Some entry) fired = item_fires_not entry.item fired

ending_leads : (system : RuleSystem) (s : Session) (batch : List Entry) (ending : Option Act)
    → ending_act batch ≡ ending
    → LeadsOn (outcome_after system ending s) s.history
ending_leads system s batch (Some act) is fired = absurd (entry_fires_not _ (is ∙ fired))
ending_leads system s batch None is fired = act_leads system s s.state _ fired

pub firings_lead_on : AreFiringsStates
firings_lead_on system session batch fired =
    ending_leads system (session_with session batch) batch (ending_act batch) refl fired

pub disposes_end : DisposesEnd
disposes_end system session fired disposed batch [] lawful disposing = refl
disposes_end system session fired disposed batch (next ∷ batches) lawful disposing =
    absurd (true≢false (sym disposing ∙ lawful.3.1))
