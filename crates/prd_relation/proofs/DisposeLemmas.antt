-- Which turns dispose of a session.
use Rattle.std.proofs.Common.{◌≡◌, ◌≢◌, ◌∙◌, ◌-◌, zero, suc, Bool, true, false, List, [], ◌∷◌, Some, None}
use Rattle.std.proofs.Common.{refl, ap, sym, length, slice_get, arith}
use Rattle.std.specs.Option.{option_and_then, option_map_or}
use Rattle.std.specs.declared.option.Option.{Option}
use Rattle.rif_values.specs.declared.instance.Instance.{Instance}
use Rattle.session_states.specs.Batches.{EndsLast, IsLawful, ends_batch, is_dispose, is_disposing}
use Rattle.session_states.specs.Machine.{state_after}
use Rattle.session_states.specs.declared.item.Item.{Item}
use Rattle.session_states.specs.declared.item.Item.TheVariants.{Change, Fire, Until, Halt, Dispose}
use Rattle.session_states.specs.declared.item.Entry.{Entry}
use Rattle.session_states.specs.declared.state.State.{State}
use Rattle.session_states.specs.declared.state.State.TheVariants.{Idle, Firing, UntilHalt, Disposed}
use Rattle.session_states.specs.declared.turn.Act.{Act}
use Rattle.session_states.specs.declared.turn.Act.TheVariants.{Disposed as DisposedAct}
use Rattle.prd_relation.specs.Laws.{DisposesByDispose, DisposesOnlyByDispose}
use Rattle.prd_relation.specs.RuleSystem.{RuleSystem}
use Rattle.prd_relation.specs.Turns.{Session, ending_act, ending_item, outcome_after, outcome_in, session_with}
use Rattle.prd_relation.specs.Turns.{state_with}

-- ---- the state behind a batch

-- an item that ends no batch disposes of nothing
item_keeps : (state : State) (item : Item) → ends_batch item ≡ false → state_after state item ≡ Disposed
    → state ≡ Disposed
item_keeps Idle (Change c) mild is = is
item_keeps Idle (Fire more) mild is = absurd (cc is)
item_keeps Idle (Until more) mild is = absurd (cc is)
item_keeps (Firing left) (Change c) mild is = is
item_keeps (Firing left) (Fire more) mild is = absurd (cc is)
item_keeps (Firing left) (Until more) mild is = absurd (cc is)
item_keeps (UntilHalt left) (Change c) mild is = is
item_keeps (UntilHalt left) (Fire more) mild is = absurd (cc is)
item_keeps (UntilHalt left) (Until more) mild is = absurd (cc is)
item_keeps Disposed item mild is = refl
item_keeps state Halt mild is = absurd (cc mild)
item_keeps state Dispose mild is = absurd (cc mild)

mild_item : (item : Item) → ending_item item ≡ None → ends_batch item ≡ false
mild_item (Change c) none = refl
mild_item (Fire more) none = refl
mild_item (Until more) none = refl
mild_item Halt none = absurd (cc none)
mild_item Dispose none = absurd (cc none)

-- nor does a lawful batch that fixes no act
batch_keeps : (batch : List Entry) (state : State) → EndsLast batch → ending_act batch ≡ None
    → state_with state batch ≡ Disposed → state ≡ Disposed
batch_keeps [] state ends none is = is
batch_keeps (e ∷ []) state ends none is = item_keeps state e.item (mild_item e.item none) is
batch_keeps (e ∷ next ∷ batch) state ends none is =
    let place : length (e ∷ next ∷ batch) - 1 ≡ suc (length (next ∷ batch) - 1) = omega arith in
    let later : ending_act (next ∷ batch) ≡ None =
    sym (ap (λ n. option_and_then (λ (entry : Entry). ending_item entry.item) (slice_get (e ∷ next ∷ batch) n)) place)
    ∙ none in
    item_keeps state e.item ends.0 (batch_keeps (next ∷ batch) (state_after state e.item) ends.1 later is)

-- ---- acts

act_keeps : (system : RuleSystem) (s : Session) (state : State) (choice : Option Instance)
    → Some (outcome_in system s state choice).act ≡ Some DisposedAct → state ≡ Disposed
act_keeps system s Idle choice is = absurd (cc is)
act_keeps system s (Firing zero) (Some i) is = absurd (cc is)
act_keeps system s (Firing (suc left)) (Some i) is = absurd (cc is)
act_keeps system s (Firing left) None is = absurd (cc is)
act_keeps system s (UntilHalt zero) (Some i) is = absurd (cc is)
act_keeps system s (UntilHalt (suc left)) (Some i) is = absurd (cc is)
act_keeps system s (UntilHalt left) None is = absurd (cc is)
act_keeps system s Disposed choice is = refl

ending_disposes : (system : RuleSystem) (session : Session) (batch : List Entry) (ending : Option Act)
    → ending_act batch ≡ ending → IsLawful batch → session.state ≢ Disposed
    → Some (outcome_after system ending (session_with session batch)).act ≡ Some DisposedAct
    → ending ≡ Some DisposedAct
ending_disposes system session batch (Some act) ended lawful live is = is
ending_disposes system session batch None ended lawful live is =
    let s = session_with session batch in
    absurd (live (batch_keeps batch session.state lawful.ends_last ended (act_keeps system s s.state _ is)))

item_disposes : (item : Item) → ending_item item ≡ Some DisposedAct → is_dispose item ≡ true
item_disposes (Change c) is = absurd (cc is)
item_disposes (Fire more) is = absurd (cc is)
item_disposes (Until more) is = absurd (cc is)
item_disposes Halt is = absurd (cc is)
item_disposes Dispose is = refl

item_ends : (item : Item) → is_dispose item ≡ true → ending_item item ≡ Some DisposedAct
item_ends (Change c) is = absurd (cc is)
item_ends (Fire more) is = absurd (cc is)
item_ends (Until more) is = absurd (cc is)
item_ends Halt is = absurd (cc is)
item_ends Dispose is = refl

entry_disposes : (last : Option Entry) → option_and_then (λ e. ending_item e.item) last ≡ Some DisposedAct
    → option_map_or (λ e. is_dispose e.item) last false ≡ true
entry_disposes None is = absurd (cc is)
entry_disposes (Some entry) is = item_disposes entry.item is

entry_ends : (last : Option Entry) → option_map_or (λ e. is_dispose e.item) last false ≡ true
    → option_and_then (λ e. ending_item e.item) last ≡ Some DisposedAct
entry_ends None is = absurd (cc is)
entry_ends (Some entry) is = item_ends entry.item is

pub disposes_by_dispose : DisposesByDispose
disposes_by_dispose system session batch lawful live =
    let last = slice_get batch (length batch - 1) in (
      λ act. entry_disposes last (ending_disposes system session batch (ending_act batch) refl lawful live act),
      λ is. ap (λ (ending : Option Act). Some (outcome_after system ending (session_with session batch)).act)
          (entry_ends last is),
    )

-- ---- the state after a turn

-- an item that is no Dispose disposes of nothing
other_item_keeps : (state : State) (item : Item) → is_dispose item ≡ false → state_after state item ≡ Disposed
    → state ≡ Disposed
other_item_keeps Idle Halt other is = absurd (cc is)
other_item_keeps (Firing left) Halt other is = absurd (cc is)
other_item_keeps (UntilHalt left) Halt other is = absurd (cc is)
other_item_keeps state (Change c) other is = item_keeps state (Change c) refl is
other_item_keeps state (Fire more) other is = item_keeps state (Fire more) refl is
other_item_keeps state (Until more) other is = item_keeps state (Until more) refl is
other_item_keeps Disposed Halt other is = refl
other_item_keeps state Dispose other is = absurd (cc other)

-- nor does a lawful batch that doesn't end in one
other_batch_keeps : (batch : List Entry) (state : State) → EndsLast batch → is_disposing batch ≡ false
    → state_with state batch ≡ Disposed → state ≡ Disposed
other_batch_keeps [] state ends other is = is
other_batch_keeps (e ∷ []) state ends other is = other_item_keeps state e.item other is
other_batch_keeps (e ∷ next ∷ batch) state ends other is =
    let place : length (e ∷ next ∷ batch) - 1 ≡ suc (length (next ∷ batch) - 1) = omega arith in
    let later : is_disposing (next ∷ batch) ≡ false =
    sym (ap (λ n. option_map_or (λ (entry : Entry). is_dispose entry.item) (slice_get (e ∷ next ∷ batch) n) false)
    place) ∙ other in
    item_keeps state e.item ends.0 (other_batch_keeps (next ∷ batch) (state_after state e.item) ends.1 later is)

act_leaves : (system : RuleSystem) (s : Session) (state : State) (choice : Option Instance) → s.state ≡ state
    → (outcome_in system s state choice).session.state ≡ Disposed → s.state ≡ Disposed
act_leaves system s Idle choice at is = absurd (cc is)
act_leaves system s (Firing zero) (Some i) at is = absurd (cc is)
act_leaves system s (Firing (suc left)) (Some i) at is = absurd (cc is)
act_leaves system s (Firing left) None at is = absurd (cc is)
act_leaves system s (UntilHalt zero) (Some i) at is = absurd (cc is)
act_leaves system s (UntilHalt (suc left)) (Some i) at is = absurd (cc is)
act_leaves system s (UntilHalt left) None at is = absurd (cc is)
act_leaves system s Disposed choice at is = at

ending_leaves : (system : RuleSystem) (s : Session) (ending : Option Act)
    → (outcome_after system ending s).session.state ≡ Disposed → s.state ≡ Disposed
ending_leaves system s (Some act) is = is
ending_leaves system s None is = act_leaves system s s.state _ refl is

pub disposed_by_dispose : DisposesOnlyByDispose
disposed_by_dispose system session batch lawful live is = by_end (is_disposing batch) refl
  where
    by_end : (b : Bool) → is_disposing batch ≡ b → is_disposing batch ≡ true
    by_end true at = at
    by_end false at =
        absurd (live (other_batch_keeps batch session.state lawful.ends_last at
        (ending_leaves system (session_with session batch) (ending_act batch) is)))
