-- The run that an engine's turns tell.
use Rattle.std.proofs.Common.{◌≡◌, ◌∙◌, ◌-◌, suc, List, [], ◌∷◌, ◌++◌, Some, None, refl, ap, sym, subst, length}
use Rattle.std.proofs.Common.{slice_get, slice_index_or, slice_set, append-nil, arith, IsTrue, ℕ, Bool, true, false, not}
use Rattle.std.specs.Option.{is_some, option_and_then, option_map_or}
use Rattle.std.specs.declared.option.Option.{Option}
use Rattle.safe_rules.specs.declared.safe_rule.SafeRule.{SafeRule}
use Rattle.session_states.specs.declared.item.Entry.{Entry}
use Rattle.session_states.specs.declared.turn.Effect.TheVariants.{None as NoEffect}
use Rattle.session_states.specs.declared.turn.Turn.{Turn}
use Rattle.prd_relation.specs.RuleSystem.{RuleSystem, system_of}
use Rattle.prd_relation.specs.Runs.{run_of, session_at_end, turns_from}
use Rattle.prd_relation.specs.Turns.{Session, first_session, outcome_of, session_after, session_with, turn_of}
use Rattle.rif_engine.specs.declared.settled.Settled.{Settled}
use Rattle.rif_engine.specs.declared.standing.Standing.{Standing}
use Rattle.rif_engine.specs.Keeping.{done_in, owed_in, run_in, settled_turn, Keeps}
use Rattle.rif_engine.specs.SoFar.{MayTake, RunSoFar, last_act, last_act_of, owed_batches, session_before, session_now}
use Rattle.rif_engine.specs.SoFar.{session_with_owed, settled_run, turns_of, unsettled_turns}
use Rattle.rif_engine.specs.Standing.{Settles, Shows}

-- ---- what turns tell

done_seen : (system : RuleSystem) (s : Session) (done : List (List Entry)) (owed : Option (List Entry))
    → done_in (turns_from system s done ++ unsettled_turns owed) ≡ done
done_seen system s [] None = refl
done_seen system s [] (Some batch) = refl
done_seen system s (batch ∷ done) owed =
    ap (λ (bs : List (List Entry)). batch ∷ bs) (done_seen system (session_after system s batch) done owed)

owed_seen : (system : RuleSystem) (s : Session) (done : List (List Entry)) (owed : Option (List Entry))
    → owed_in (turns_from system s done ++ unsettled_turns owed) ≡ owed
owed_seen system s [] None = refl
owed_seen system s [] (Some batch) = refl
owed_seen system s (batch ∷ done) owed = owed_seen system (session_after system s batch) done owed

-- the turns of a run tell that run
pub run_seen : (run : RunSoFar) (doc : List SafeRule) (turns : List Turn) → doc ≡ run.doc → turns ≡ turns_of run
    → run_in doc turns ≡ run
run_seen run doc turns same are =
    let system = system_of run.doc in
    let done = ap done_in are ∙ done_seen system first_session run.done run.owed in
    let owed = ap owed_in are ∙ owed_seen system first_session run.done run.owed in
    ap (λ (d : List SafeRule). record { doc = d; done = done_in turns; owed = owed_in turns }) same
    ∙ ap (λ (bs : List (List Entry)). record { doc = run.doc; done = bs; owed = owed_in turns }) done
    ∙ ap (λ (o : Option (List Entry)). record { doc = run.doc; done = run.done; owed = o }) owed

-- what an engine keeps, where its turns are those of a run
pub keeps_run : (run : RunSoFar) (doc : List SafeRule) (turns : List Turn) (standing : Standing) → doc ≡ run.doc
    → turns ≡ turns_of run → Shows (system_of run.doc) standing (session_now run) → Keeps doc turns standing
keeps_run run doc turns standing same are shown =
    let seen = run_seen run doc turns same are in record {
      turns_are = are ∙ ap turns_of (sym seen);
      shows = subst (λ (r : RunSoFar). Shows (system_of r.doc) standing (session_now r)) (sym seen) shown;
    }

-- ---- a batch that is taken

-- the turns where no act is owed
pub settled_turns : (run : RunSoFar) → run.owed ≡ None → turns_of run ≡ run_of (system_of run.doc) run.done
settled_turns run none =
    let done = run_of (system_of run.doc) run.done in
    ap (λ (o : Option (List Entry)). done ++ unsettled_turns o) none ∙ append-nil done

pub turns_taken : (run : RunSoFar) (batch : List Entry) (turns new : List Turn) → run.owed ≡ None
    → turns ≡ turns_of run → new ≡ turns ++ unsettled_turns (Some batch)
    → new ≡ turns_of (record run { owed = Some batch })
turns_taken run batch turns new none are is =
    is ∙ ap (λ (ts : List Turn). ts ++ unsettled_turns (Some batch)) (are ∙ settled_turns run none)

-- ---- an act that is settled

pub owed_is : (owed : Option (List Entry)) → IsTrue (is_some owed) → (batch : List Entry) × (owed ≡ Some batch)
owed_is None some = absurd (cc some)
owed_is (Some batch) some = (batch, refl)

pub last_of : (turns : List Turn) (turn : Turn) (all : List Turn) → all ≡ turns ++ turn ∷ []
    → slice_get all (length all - 1) ≡ Some turn
last_of turns turn all is =
    ap (λ (ts : List Turn). slice_get ts (length ts - 1)) is ∙ at turns
  where
    at : (ts : List Turn) → slice_get (ts ++ turn ∷ []) (length (ts ++ turn ∷ []) - 1) ≡ Some turn
    at [] = refl
    at (t ∷ []) = refl
    at (t ∷ u ∷ ts) =
        let place : length (t ∷ u ∷ ts ++ turn ∷ []) - 1 ≡ suc (length (u ∷ ts ++ turn ∷ []) - 1) = omega arith in
        ap (slice_get (t ∷ u ∷ ts ++ turn ∷ [])) place ∙ at (u ∷ ts)

turns_more : (system : RuleSystem) (s : Session) (bs : List (List Entry)) (b : List Entry)
    → turns_from system s (bs ++ b ∷ []) ≡ turns_from system s bs ++ turn_of system (session_at_end system s bs) b ∷ []
turns_more system s [] b = refl
turns_more system s (c ∷ bs) b =
    ap (λ (ts : List Turn). turn_of system s c ∷ ts) (turns_more system (session_after system s c) bs b)

pub end_more : (system : RuleSystem) (s : Session) (bs : List (List Entry)) (b : List Entry)
    → session_at_end system s (bs ++ b ∷ []) ≡ session_after system (session_at_end system s bs) b
end_more system s [] b = refl
end_more system s (c ∷ bs) b = end_more system (session_after system s c) bs b

turn_is : (system : RuleSystem) (s : Session) (batch : List Entry) (settled : Settled)
    → Settles settled (outcome_of system s batch) → settled_turn batch settled ≡ turn_of system s batch
turn_is system s batch settled settles =
    let outcome = outcome_of system s batch in
    ap (λ a. record { batch = batch; act = Some a; pick = settled.pick; effect = settled.effect }) settles.act
    ∙ ap (λ p. record { batch = batch; act = Some outcome.act; pick = p; effect = settled.effect }) settles.pick
    ∙ ap (λ e. record { batch = batch; act = Some outcome.act; pick = outcome.pick; effect = e }) settles.effect

-- the run once its act is settled
settled_is : (run : RunSoFar) (batch : List Entry) → run.owed ≡ Some batch
    → settled_run run ≡ record { doc = run.doc; done = run.done ++ batch ∷ []; owed = None }
settled_is run batch is =
    ap (λ (o : Option (List Entry)). record { doc = run.doc; done = run.done ++ owed_batches o; owed = None }) is

pub turns_settled : (run : RunSoFar) (batch : List Entry) (settled : Settled) (new : List Turn)
    → run.owed ≡ Some batch
    → Settles settled
    (outcome_of (system_of run.doc) (session_at_end (system_of run.doc) first_session run.done) batch)
    → new ≡ run_of (system_of run.doc) run.done ++ settled_turn batch settled ∷ []
    → new ≡ turns_of (settled_run run)
turns_settled run batch settled new owed settles is =
    let system = system_of run.doc in
    let before = run_of system run.done in
    let s = session_at_end system first_session run.done in
    is
    ∙ ap (λ (t : Turn). before ++ t ∷ []) (turn_is system s batch settled settles)
    ∙ sym (turns_more system first_session run.done batch)
    ∙ sym (append-nil (run_of system (run.done ++ batch ∷ [])))
    ∙ ap turns_of (sym (settled_is run batch owed))

-- the session once its act is settled
pub session_settled : (run : RunSoFar) (batch : List Entry) (standing : Standing) → run.owed ≡ Some batch
    → Shows (system_of run.doc) standing
    (session_after (system_of run.doc) (session_at_end (system_of run.doc) first_session run.done) batch)
    → Shows (system_of run.doc) standing (session_now (settled_run run))
session_settled run batch standing owed shown =
    let system = system_of run.doc in
    subst (λ (r : RunSoFar). Shows system standing (session_now r)) (sym (settled_is run batch owed))
    (subst (Shows system standing) (sym (end_more system first_session run.done batch)) shown)

-- the turns while an act is owed
pub owed_turns : (run : RunSoFar) (batch : List Entry) (turns : List Turn) → run.owed ≡ Some batch
    → turns ≡ turns_of run → turns ≡ run_of (system_of run.doc) run.done ++ unsettled_turns (Some batch)
owed_turns run batch turns owed are =
    are ∙ ap (λ (o : Option (List Entry)). run_of (system_of run.doc) run.done ++ unsettled_turns o) owed

-- the session while an act is owed
pub owed_session : (run : RunSoFar) (batch : List Entry) → run.owed ≡ Some batch
    → session_now run ≡ session_with (session_at_end (system_of run.doc) first_session run.done) batch
owed_session run batch owed =
    ap (session_with_owed (session_at_end (system_of run.doc) first_session run.done)) owed

-- the act of the last turn
pub last_settled : (turns all : List Turn) (turn : Turn) → all ≡ turns ++ turn ∷ [] → last_act all ≡ turn.act
last_settled turns all turn is = ap (option_and_then (λ (t : Turn). t.act)) (last_of turns turn all is)

-- ---- the engine's calls

-- a batch was taken
pub batch_taken : (run : RunSoFar) (doc : List SafeRule) (turns new : List Turn) (old standing : Standing)
    (batch : List Entry) → run_in doc turns ≡ run → Keeps doc turns old → MayTake run batch
    → new ≡ turns ++ unsettled_turns (Some batch)
    → Shows (system_of doc) standing (session_with (session_now (run_in doc turns)) batch)
    → Keeps doc new standing × (run_in doc new ≡ record run { owed = Some batch })
batch_taken run doc turns new old standing batch seen keeps may is shown =
    let before = run_in doc turns in
    let none : before.owed ≡ None = ap (λ (r : RunSoFar). r.owed) seen ∙ may.settled in
    let after = record before { owed = Some batch } in
    let are : new ≡ turns_of after = turns_taken before batch turns new none keeps.turns_are is in
    let shows : Shows (system_of doc) standing (session_now after) =
    subst (λ (o : Option (List Entry)). Shows (system_of doc) standing
    (session_with (session_with_owed (session_before before) o) batch)) none shown in (
      keeps_run after doc new standing refl are shows,
      run_seen after doc new refl are ∙ ap (λ (r : RunSoFar). record r { owed = Some batch }) seen,
    )

-- an act was settled
pub act_settled : (run : RunSoFar) (doc : List SafeRule) (turns new : List Turn) (old standing : Standing)
    (settled : Settled) (batch : List Entry) → run_in doc turns ≡ run → Keeps doc turns old → run.owed ≡ Some batch
    → Settles settled (outcome_of (system_of doc) (session_before (run_in doc turns)) batch)
    → Shows (system_of doc) standing (session_after (system_of doc) (session_before (run_in doc turns)) batch)
    → new ≡ run_of (system_of doc) (done_in turns) ++ settled_turn batch settled ∷ []
    → Keeps doc new standing × (run_in doc new ≡ settled_run run) × (last_act_of (run_in doc new) ≡ Some settled.act)
act_settled run doc turns new old standing settled batch seen keeps owed settles shown is =
    let before = run_in doc turns in
    let owes : before.owed ≡ Some batch = ap (λ (r : RunSoFar). r.owed) seen ∙ owed in
    let after = settled_run before in
    let are : new ≡ turns_of after = turns_settled before batch settled new owes settles is in
    let kept = keeps_run after doc new standing refl are (session_settled before batch standing owes shown) in (
      kept,
      run_seen after doc new refl are ∙ ap settled_run seen,
      ap last_act (sym kept.turns_are)
          ∙ last_settled (run_of (system_of doc) (done_in turns)) new (settled_turn batch settled) is,
    )

abbrev batch_or : List Entry → Option Turn → List Entry
batch_or batch None = batch
batch_or batch (Some turn) = turn.batch

-- the batch whose act is owed is that of the last turn
pub owed_batch : (run : RunSoFar) (doc : List SafeRule) (turns : List Turn) (standing : Standing) (turn : Turn)
    → run_in doc turns ≡ run → Keeps doc turns standing → IsTrue (is_some run.owed)
    → slice_get turns (length turns - 1) ≡ Some turn
    → (run.owed ≡ Some turn.batch)
    × (turns ≡ run_of (system_of doc) (done_in turns) ++ unsettled_turns (Some turn.batch))
owed_batch run doc turns standing turn seen keeps some at =
    let owed = owed_is run.owed some in
    let before = run_in doc turns in
    let owes : before.owed ≡ Some owed.0 = ap (λ (r : RunSoFar). r.owed) seen ∙ owed.1 in
    let are = owed_turns before owed.0 turns owes keeps.turns_are in
    let last : Some (record { batch = owed.0; act = None; pick = None; effect = NoEffect }) ≡ Some turn =
    sym (last_of (run_of (system_of doc) (done_in turns)) _ turns are) ∙ at in
    let same : owed.0 ≡ turn.batch = ap (λ (t : Option Turn). batch_or owed.0 t) last in (
      owed.1 ∙ ap (λ (b : List Entry). Some b) same,
      are ∙ ap (λ (b : List Entry). run_of (system_of doc) (done_in turns) ++ unsettled_turns (Some b)) same,
    )

-- ---- the last turn is written

-- the last of some items is another one
pub set_last : (before items : List Turn) (old new : Turn) (n : ℕ) → items ≡ before ++ old ∷ [] → n ≡ length items
    → slice_set items (n - 1) new ≡ before ++ new ∷ []
set_last before items old new n is count =
    ap (λ (m : ℕ). slice_set items (m - 1) new) count
    ∙ ap (λ (ts : List Turn). slice_set ts (length ts - 1) new) is ∙ at before
  where
    at : (ts : List Turn) → slice_set (ts ++ old ∷ []) (length (ts ++ old ∷ []) - 1) new ≡ ts ++ new ∷ []
    at [] = refl
    at (t ∷ []) = refl
    at (t ∷ u ∷ ts) =
        let place : length (t ∷ u ∷ ts ++ old ∷ []) - 1 ≡ suc (length (u ∷ ts ++ old ∷ []) - 1) = omega arith in
        ap (λ (m : ℕ). slice_set (t ∷ u ∷ ts ++ old ∷ []) m new) place ∙ ap (λ (rest : List Turn). t ∷ rest) (at (u ∷ ts))

pub index_last : (before items : List Turn) (last other : Turn) (n : ℕ) → items ≡ before ++ last ∷ []
    → n ≡ length items → slice_index_or items (n - 1) other ≡ last
index_last before items last other n is count =
    ap (λ (m : ℕ). slice_index_or items (m - 1) other) count
    ∙ ap (λ (ts : List Turn). slice_index_or ts (length ts - 1) other) is ∙ at before
  where
    at : (ts : List Turn) → slice_index_or (ts ++ last ∷ []) (length (ts ++ last ∷ []) - 1) other ≡ last
    at [] = refl
    at (t ∷ []) = refl
    at (t ∷ u ∷ ts) =
        let place : length (t ∷ u ∷ ts ++ last ∷ []) - 1 ≡ suc (length (u ∷ ts ++ last ∷ []) - 1) = omega arith in
        ap (λ (m : ℕ). slice_index_or (t ∷ u ∷ ts ++ last ∷ []) m other) place ∙ at (u ∷ ts)

-- the act of the last turn that is done
pub last_done : (run : RunSoFar) (batch : List Entry)
    → last_act_of (record { doc = run.doc; done = run.done ++ batch ∷ []; owed = None })
    ≡ Some (outcome_of (system_of run.doc) (session_before run) batch).act
last_done run batch =
    let system = system_of run.doc in
    let all = run_of system (run.done ++ batch ∷ []) in
    ap last_act (append-nil all)
    ∙ last_settled (run_of system run.done) all (turn_of system (session_before run) batch)
    (turns_more system first_session run.done batch)

-- ---- whether an act is owed

act_there : (system : RuleSystem) (s : Session) (done : List (List Entry)) (turn : Turn)
    → slice_get (turns_from system s done) (length (turns_from system s done) - 1) ≡ Some turn
    → is_some turn.act ≡ true
act_there system s [] turn at = absurd (cc at)
act_there system s (batch ∷ []) turn at =
    sym (ap (λ (o : Option Turn). option_map_or (λ (t : Turn). is_some t.act) o true) at)
act_there system s (batch ∷ next ∷ done) turn at =
    let later = turns_from system (session_after system s batch) (next ∷ done) in
    let place : length (turn_of system s batch ∷ later) - 1 ≡ suc (length later - 1) = omega arith in
    act_there system (session_after system s batch) (next ∷ done) turn
    (sym (ap (slice_get (turn_of system s batch ∷ later)) place) ∙ at)

owes_by : (system : RuleSystem) (done : List (List Entry)) (owed : Option (List Entry)) (turn : Turn)
    → (let all = run_of system done ++ unsettled_turns owed in slice_get all (length all - 1) ≡ Some turn)
    → is_some turn.act ≡ not (is_some owed)
owes_by system done None turn at =
    act_there system first_session done turn
    (sym (ap (λ (ts : List Turn). slice_get ts (length ts - 1)) (append-nil (run_of system done))) ∙ at)
owes_by system done (Some batch) turn at =
    ap (λ (o : Option Turn). option_map_or (λ (t : Turn). is_some t.act) o false)
    (sym at ∙ last_of (run_of system done) _ (run_of system done ++ unsettled_turns (Some batch)) refl)

-- the last turn tells whether an act is owed
pub owes_is : (run : RunSoFar) (doc : List SafeRule) (turns : List Turn) (standing : Standing) (turn : Turn)
    → run_in doc turns ≡ run → Keeps doc turns standing → slice_get turns (length turns - 1) ≡ Some turn
    → is_some turn.act ≡ not (is_some run.owed)
owes_is run doc turns standing turn seen keeps at =
    owes_by (system_of doc) (done_in turns) (owed_in turns) turn
    (sym (ap (λ (ts : List Turn). slice_get ts (length ts - 1)) keeps.turns_are) ∙ at)
    ∙ ap (λ (r : RunSoFar). not (is_some r.owed)) seen

pub not_same : (a b c : Bool) → a ≡ not b → a ≡ not c → b ≡ c
not_same a true true first second = refl
not_same a true false first second = absurd (cc (sym first ∙ second))
not_same a false true first second = absurd (cc (sym first ∙ second))
not_same a false false first second = refl
