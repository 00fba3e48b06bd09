-- What the act of a turn says.
use Rattle.std.proofs.Common.{◌≡◌, ◌≢◌, ◌∙◌, ◌-◌, ◌⊎◌, inl, inr, ℕ, zero, suc, true, List, [], ◌∷◌, Some, None}
use Rattle.std.proofs.Common.{refl, ap, sym, subst, length, slice_get, arith}
use Rattle.std.specs.Option.{option_and_then}
use Rattle.std.specs.declared.option.Option.{Option}
use Rattle.rif_values.specs.declared.instance.Instance.{Instance}
use Rattle.session_states.specs.Machine.{state_after}
use Rattle.session_states.specs.declared.item.Item.{Item}
use Rattle.session_states.specs.declared.item.Item.TheVariants.{Change, Fire, Until, Halt, Dispose}
use Rattle.session_states.specs.declared.item.Entry.{Entry}
use Rattle.session_states.specs.declared.state.State.{State}
use Rattle.session_states.specs.declared.state.State.TheVariants.{Idle, Firing, UntilHalt, Disposed}
use Rattle.session_states.specs.declared.turn.Act.{Act}
use Rattle.session_states.specs.declared.turn.Act.TheVariants.{Fired, Halted, Disposed as DisposedAct}
use Rattle.session_states.specs.declared.turn.Act.TheVariants.{Idle as IdleAct, Resting, StoppedLimit, StoppedQuiet}
use Rattle.session_states.specs.declared.turn.Effect.TheVariants.{None as NoEffect}
use Rattle.prd_relation.specs.Choice.{chosen_instance}
use Rattle.prd_relation.specs.History.{moments_of}
use Rattle.prd_relation.specs.Laws.{FiresTheChosen, FiringsStayLive, IsFiring, IsReason, OthersKeepHistories}
use Rattle.prd_relation.specs.Laws.{StopsWhereItMust}
use Rattle.prd_relation.specs.Runs.{is_fired}
use Rattle.prd_relation.specs.RuleSystem.{RuleSystem}
use Rattle.prd_relation.specs.Turns.{Outcome, Session, ending_act, ending_item, outcome_after, outcome_in}
use Rattle.prd_relation.specs.Turns.{session_with, state_with, with_budget}
use Rattle.prd_relation.proofs.ChosenLemmas.{nothing_chosen}
use Rattle.prd_relation.proofs.RunLawLemmas.{entry_fires_not}

-- ---- firings

-- an outcome that fires is the firing of what is chosen
abbrev FiresChosen : RuleSystem → Session → Outcome → Type 0
FiresChosen system s outcome = Some outcome.act ≡ Some Fired
    → (i : Instance) × IsFiring system s outcome.pick outcome.effect outcome.session i

budget_fires : (system : RuleSystem) (s : Session) (next : ℕ → State) (left : ℕ) (i : Instance)
    → chosen_instance system (moments_of system s.history) ≡ Some i
    → FiresChosen system s (with_budget system s next left i)
budget_fires system s next zero i chosen fired = absurd (cc fired)
budget_fires system s next (suc left) i chosen fired =
    (i, record { chosen = chosen; pick = refl; effect = refl; history = refl; made = refl })

act_fires : (system : RuleSystem) (s : Session) (state : State) (choice : Option Instance)
    → chosen_instance system (moments_of system s.history) ≡ choice
    → FiresChosen system s (outcome_in system s state choice)
act_fires system s Idle choice chosen fired = absurd (cc fired)
act_fires system s (Firing left) (Some i) chosen fired = budget_fires system s Firing left i chosen fired
act_fires system s (Firing left) None chosen fired = absurd (cc fired)
act_fires system s (UntilHalt left) (Some i) chosen fired = budget_fires system s UntilHalt left i chosen fired
act_fires system s (UntilHalt left) None chosen fired = absurd (cc fired)
act_fires system s Disposed choice chosen fired = absurd (cc fired)

ending_fires : (system : RuleSystem) (s : Session) (batch : List Entry) (ending : Option Act)
    → ending_act batch ≡ ending → FiresChosen system s (outcome_after system ending s)
ending_fires system s batch (Some act) is fired = absurd (entry_fires_not _ (is ∙ fired))
ending_fires system s batch None is fired = act_fires system s s.state _ refl fired

pub firing_of_chosen : FiresTheChosen
firing_of_chosen system session batch fired =
    ending_fires system (session_with session batch) batch (ending_act batch) refl fired

-- ---- other turns

-- an outcome that doesn't fire keeps history and number of objects
abbrev KeepsHistory : Session → Outcome → Type 0
KeepsHistory s outcome = (Some outcome.act ≢ Some Fired)
    → (outcome.pick ≡ None) × (outcome.effect ≡ NoEffect) × (outcome.session.history ≡ s.history)
    × (outcome.session.made ≡ s.made)

budget_keeps : (system : RuleSystem) (s : Session) (next : ℕ → State) (left : ℕ) (i : Instance)
    → KeepsHistory s (with_budget system s next left i)
budget_keeps system s next zero i other = (refl, refl, refl, refl)
budget_keeps system s next (suc left) i other = absurd (other refl)

act_keeps : (system : RuleSystem) (s : Session) (state : State) (choice : Option Instance)
    → KeepsHistory s (outcome_in system s state choice)
act_keeps system s Idle choice other = (refl, refl, refl, refl)
act_keeps system s (Firing left) (Some i) other = budget_keeps system s Firing left i other
act_keeps system s (Firing left) None other = (refl, refl, refl, refl)
act_keeps system s (UntilHalt left) (Some i) other = budget_keeps system s UntilHalt left i other
act_keeps system s (UntilHalt left) None other = (refl, refl, refl, refl)
act_keeps system s Disposed choice other = (refl, refl, refl, refl)

ending_keeps : (system : RuleSystem) (s : Session) (ending : Option Act)
    → KeepsHistory s (outcome_after system ending s)
ending_keeps system s (Some act) other = (refl, refl, refl, refl)
ending_keeps system s None other = act_keeps system s s.state _ other

pub others_keep : OthersKeepHistories
others_keep system session batch other =
    ending_keeps system (session_with session batch) (ending_act batch) other

-- ---- the reasons of acts

-- the state behind a batch is the one that its last item leads to
last_state : (state : State) (batch : List Entry) (entry : Entry) → slice_get batch (length batch - 1) ≡ Some entry
    → (before : State) × (state_with state batch ≡ state_after before entry.item)
last_state state [] entry at = absurd (cc at)
last_state state (e ∷ []) entry at =
    let same : e ≡ entry = cc at in (state, ap (λ (x : Entry). state_after state x.item) same)
last_state state (e ∷ next ∷ batch) entry at =
    let place : length (e ∷ next ∷ batch) - 1 ≡ suc (length (next ∷ batch) - 1) = omega arith in
    last_state (state_after state e.item) (next ∷ batch) entry
    (sym (ap (slice_get (e ∷ next ∷ batch)) place) ∙ at)

halted_state : (before state : State) → state ≡ state_after before Halt → (state ≡ Idle) ⊎ (state ≡ Disposed)
halted_state Idle state is = inl is
halted_state (Firing left) state is = inl is
halted_state (UntilHalt left) state is = inl is
halted_state Disposed state is = inr is

disposed_state : (before : State) → state_after before Dispose ≡ Disposed
disposed_state Idle = refl
disposed_state (Firing left) = refl
disposed_state (UntilHalt left) = refl
disposed_state Disposed = refl

-- an item that fixes the act
item_explains : (system : RuleSystem) (batch : List Entry) (s : Session) (before : State) (item : Item) (act : Act)
    → s.state ≡ state_after before item → ending_act batch ≡ ending_item item → ending_item item ≡ Some act
    → IsReason system batch s s.state act
item_explains system batch s before (Change change) act state is ended = absurd (cc ended)
item_explains system batch s before (Fire more) act state is ended = absurd (cc ended)
item_explains system batch s before (Until more) act state is ended = absurd (cc ended)
item_explains system batch s before Halt act state is ended =
    let same : Halted ≡ act = cc ended in
    subst (λ (a : Act). IsReason system batch s s.state a) same (is, halted_state before s.state state, refl)
item_explains system batch s before Dispose act state is ended =
    let same : DisposedAct ≡ act = cc ended in
    let disposed : s.state ≡ Disposed = state ∙ disposed_state before in
    subst (λ (a : Act). IsReason system batch s s.state a) same (inl is, disposed, disposed)

-- an outcome has its act for a reason
abbrev HasReason : RuleSystem → List Entry → Session → Outcome → Type 0
HasReason system batch s outcome = IsReason system batch s outcome.session.state outcome.act

act_explains : (system : RuleSystem) (batch : List Entry) (s : Session) (state : State) (choice : Option Instance)
    → ending_act batch ≡ None → s.state ≡ state → chosen_instance system (moments_of system s.history) ≡ choice
    → HasReason system batch s (outcome_in system s state choice)
act_explains system batch s Idle choice none is chosen = (none, is, refl)
act_explains system batch s (Firing zero) (Some i) none is chosen = (none, i, chosen, inl is, refl)
act_explains system batch s (Firing (suc left)) (Some i) none is chosen = (none, left, inl (is, refl))
act_explains system batch s (Firing left) None none is chosen =
    (none, left, is, (nothing_chosen system (moments_of system s.history)).0 chosen, refl)
act_explains system batch s (UntilHalt zero) (Some i) none is chosen = (none, i, chosen, inr is, refl)
act_explains system batch s (UntilHalt (suc left)) (Some i) none is chosen = (none, left, inr (is, refl))
act_explains system batch s (UntilHalt left) None none is chosen =
    (none, left, is, (nothing_chosen system (moments_of system s.history)).0 chosen, refl)
act_explains system batch s Disposed choice none is chosen = (inr none, is, refl)

ending_explains : (system : RuleSystem) (batch : List Entry) (s : Session) (before : State) (item : Item)
    (ending : Option Act)
    → ending_item item ≡ ending → ending_act batch ≡ ending_item item → s.state ≡ state_after before item
    → HasReason system batch s (outcome_after system ending s)
ending_explains system batch s before item (Some act) ended is state =
    item_explains system batch s before item act state is ended
ending_explains system batch s before item None ended is state =
    act_explains system batch s s.state _ (is ∙ ended) refl refl

entry_explains : (system : RuleSystem) (session : Session) (batch : List Entry) (last : Option Entry)
    → slice_get batch (length batch - 1) ≡ last
    → HasReason system batch (session_with session batch)
    (outcome_after system (option_and_then (λ entry. ending_item entry.item) last) (session_with session batch))
entry_explains system session batch None at =
    let s = session_with session batch in
    act_explains system batch s s.state _ (ap (option_and_then (λ (entry : Entry). ending_item entry.item)) at) refl
    refl
entry_explains system session batch (Some entry) at =
    let before = last_state session.state batch entry at in
    ending_explains system batch (session_with session batch) before.0 entry.item (ending_item entry.item) refl
    (ap (option_and_then (λ (e : Entry). ending_item e.item)) at) before.1

pub stops_for_reason : StopsWhereItMust
stops_for_reason system session batch act is =
    let after = outcome_after system (ending_act batch) (session_with session batch) in
    let same : after.act ≡ act = cc is in
    subst (λ (a : Act). IsReason system batch (session_with session batch) after.session.state a) same
    (entry_explains system session batch (slice_get batch (length batch - 1)) refl)

-- ---- what a firing leaves

is_firing : (act : Act) → is_fired act ≡ true → act ≡ Fired
is_firing IdleAct is = absurd (cc is)
is_firing Halted is = absurd (cc is)
is_firing DisposedAct is = absurd (cc is)
is_firing Fired is = refl
is_firing StoppedQuiet is = absurd (cc is)
is_firing StoppedLimit is = absurd (cc is)
is_firing Resting is = absurd (cc is)

left_live : (system : RuleSystem) (batch : List Entry) (s : Session) (after : State)
    → IsReason system batch s after Fired → after ≢ Disposed
left_live system batch s after (none, left, inl firing) = λ is. cc (sym firing.1 ∙ is)
left_live system batch s after (none, left, inr until) = λ is. cc (sym until.1 ∙ is)

pub firings_stay_live : FiringsStayLive
firings_stay_live system session batch fired =
    let act = is_firing (outcome_after system (ending_act batch) (session_with session batch)).act fired in
    left_live system batch (session_with session batch) _
    (stops_for_reason system session batch Fired (ap (λ (a : Act). Some a) act))
