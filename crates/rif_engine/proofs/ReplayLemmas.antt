-- One more turn of a replay.
use Rattle.std.proofs.Common.{◌≡◌, ◌∙◌, Bool, true, false, List, [], ◌∷◌, ◌++◌, Some, None, refl, ap, sym, subst}
use Rattle.std.proofs.Common.{append_assoc, append-nil, arith, cond, inl, inr, suc, ◌+◌, ◌<◌}
use denote.Enum.Bare.{sameb}
use Rattle.std.specs.Option.{option_map_or}
use Rattle.std.specs.declared.option.Option.{Option}
use Rattle.session_states.specs.declared.item.Entry.{Entry}
use Rattle.session_states.specs.declared.state.State.{State}
use Rattle.session_states.specs.declared.turn.Act.{Act}
use Rattle.session_states.specs.contracts.turn.Act.{the_type}
use Rattle.session_states.specs.declared.turn.Act.TheVariants.{Idle as IdleAct, Halted, Disposed as DisposedAct}
use Rattle.session_states.specs.declared.turn.Act.TheVariants.{Fired, StoppedQuiet, StoppedLimit, Resting}
use Rattle.session_states.specs.Batches.{AreLawfulBatches, IsLawful, is_disposing}
use Rattle.prd_relation.specs.Laws.{DisposesOnlyByDispose, FiringsStayLive, IsReason, StopsWhereItMust}
use Rattle.prd_relation.specs.RuleSystem.{RuleSystem, system_of}
use Rattle.prd_relation.specs.Runs.{fires, is_fired, session_at_end, IsReplay, IsReplayFrom}
use Rattle.prd_relation.specs.Turns.{Session, first_session, outcome_of, session_after, session_with}
use Rattle.rif_engine.specs.Replaying.{IsReplayed, budget_of}
use Rattle.rif_engine.specs.SoFar.{RunSoFar, MayTake, last_act_of, session_before}
use Rattle.rif_engine.proofs.EngineLemmas.{end_more, last_done}

-- the run with one more turn
abbrev pub with_turn : RunSoFar → List Entry → RunSoFar
with_turn run batch = record { doc = run.doc; done = run.done ++ batch ∷ []; owed = None }

ended : (run : RunSoFar) (batch : List Entry)
    → session_before (with_turn run batch) ≡ session_after (system_of run.doc) (session_before run) batch
ended run batch = end_more (system_of run.doc) first_session run.done batch

-- what follows a turn whose batch may come next
goes : (given before after : List (List Entry)) (fired now : Bool) (run : RunSoFar) (batch : List Entry)
    → ((more : List (List Entry)) → IsReplayFrom (system_of run.doc) (session_before run) fired before more
    → IsReplay (system_of run.doc) given (run.done ++ more))
    → now ≡ fires (system_of run.doc) (session_before run) batch
    → ((more : List (List Entry))
    → IsReplayFrom (system_of run.doc) (session_after (system_of run.doc) (session_before run) batch)
    (fires (system_of run.doc) (session_before run) batch) after more
    → IsReplayFrom (system_of run.doc) (session_before run) fired before (batch ∷ more))
    → (more : List (List Entry))
    → IsReplayFrom (system_of run.doc) (session_before (with_turn run batch)) now after more
    → IsReplay (system_of run.doc) given ((run.done ++ batch ∷ []) ++ more)
goes given before after fired now run batch goes_on fires_is comes more rest =
    let system = system_of run.doc in
    subst (λ (bs : List (List Entry)). IsReplay system given bs) (sym (append_assoc run.done (batch ∷ []) more))
    (goes_on (batch ∷ more) (comes more
    (subst (λ (f : Bool). IsReplayFrom system (session_after system (session_before run) batch) f after more) fires_is
    (subst (λ (s : Session). IsReplayFrom system s now after more) (ended run batch) rest))))

-- a given batch is not the one before which a session was disposed
pub may_take : (given left : List (List Entry)) (run : RunSoFar) (batch : List Entry)
    → IsReplayed given (batch ∷ left) false run → MayTake run batch
may_take given left run batch replayed = record {
  settled = replayed.settled;
  live = λ is. cc (sym (replayed.tells is) ∙ replayed.lawful.2);
  follows = λ empty. absurd (replayed.lawful.1 empty);
}

pub next_given : DisposesOnlyByDispose → (given left : List (List Entry)) (now : Bool) (run : RunSoFar)
    (batch : List Entry) → now ≡ fires (system_of run.doc) (session_before run) batch
    → IsReplayed given (batch ∷ left) false run → IsReplayed given left now (with_turn run batch)
next_given only given left now run batch fires_is replayed =
    let system = system_of run.doc in record {
      settled = refl;
      disposed = is_disposing batch;
      lawful = replayed.lawful.3;
      tells = λ is. only system (session_before run) batch replayed.lawful.0
          (λ at. cc (sym (replayed.tells at) ∙ replayed.lawful.2))
          (sym (ap (λ (s : Session). s.state) (ended run batch)) ∙ is);
      goes_on = goes given (batch ∷ left) left false now run batch replayed.goes_on fires_is (λ more rest. (refl, rest));
    }

empty_lawful : IsLawful []
empty_lawful = record { few = omega arith; ends_last = tt }

-- an empty batch, after a firing
pub next_empty : DisposesOnlyByDispose → (given left : List (List Entry)) (now : Bool) (run : RunSoFar)
    → MayTake run [] → now ≡ fires (system_of run.doc) (session_before run) []
    → IsReplayed given left true run → IsReplayed given left now (with_turn run [])
next_empty only given left now run may fires_is replayed =
    let system = system_of run.doc in record {
      settled = refl;
      disposed = replayed.disposed;
      lawful = replayed.lawful;
      tells = λ is. cc (only system (session_before run) [] empty_lawful may.live
          (sym (ap (λ (s : Session). s.state) (ended run [])) ∙ is));
      goes_on = goes given left left true now run [] replayed.goes_on fires_is (λ more rest. (refl, rest));
    }

-- nothing is done yet
pub none_replayed : (given : List (List Entry)) (run : RunSoFar) → run.done ≡ [] → run.owed ≡ None
    → AreLawfulBatches given → IsReplayed given given false run
none_replayed given run none settled lawful =
    let system = system_of run.doc in record {
      settled = settled;
      disposed = false;
      lawful = lawful;
      tells = λ is. cc (sym (ap (λ (bs : List (List Entry)). (session_at_end system first_session bs).state) none) ∙ is);
      goes_on = λ more rest. subst (λ (bs : List (List Entry)). IsReplay system given (bs ++ more)) (sym none)
          (subst (λ (bs : List (List Entry)). IsReplayFrom system (session_at_end system first_session bs) false given
          more) none rest);
    }

-- all is done
pub all_replayed : (given left : List (List Entry)) (run : RunSoFar) → left ≡ [] → IsReplayed given left false run
    → IsReplay (system_of run.doc) given run.done
all_replayed given left run none replayed =
    let done = subst (λ (bs : List (List Entry)). IsReplayed given bs false run) none replayed in
    subst (λ (bs : List (List Entry)). IsReplay (system_of run.doc) given bs) (append-nil run.done)
    (done.goes_on [] tt)

-- ---- whether a turn fired

pub same_fired : (act : Act) (b : Bool) → b ≡ sameb the_type act Fired → b ≡ is_fired act
same_fired IdleAct b is = is
same_fired Halted b is = is
same_fired DisposedAct b is = is
same_fired Fired b is = is
same_fired StoppedQuiet b is = is
same_fired StoppedLimit b is = is
same_fired Resting b is = is

is_firing : (act : Act) → is_fired act ≡ true → act ≡ Fired
is_firing IdleAct is = absurd (cc is)
is_firing Halted is = absurd (cc is)
is_firing DisposedAct is = absurd (cc is)
is_firing Fired is = refl
is_firing StoppedQuiet is = absurd (cc is)
is_firing StoppedLimit is = absurd (cc is)
is_firing Resting is = absurd (cc is)

-- a turn whose act was answered fired, or not
pub fired_is : (run new : RunSoFar) (batch : List Entry) (act : Act) → new ≡ with_turn run batch
    → last_act_of new ≡ Some act → is_fired act ≡ fires (system_of run.doc) (session_before run) batch
fired_is run new batch act is last =
    let same : Some act ≡ Some (outcome_of (system_of run.doc) (session_before run) batch).act =
    sym last ∙ ap last_act_of is ∙ last_done run batch in
    ap (λ (o : Option Act). option_map_or is_fired o false) same

-- behind a turn that fired an empty batch may come
pub empty_may_follow : FiringsStayLive → (run new : RunSoFar) (batch : List Entry) (act : Act)
    → new ≡ with_turn run batch → last_act_of new ≡ Some act → is_fired act ≡ true → MayTake new []
empty_may_follow stay run new batch act is last fired =
    let system = system_of run.doc in record {
      settled = ap (λ (r : RunSoFar). r.owed) is;
      live = λ disposed. stay system (session_before run) batch (sym (fired_is run new batch act is last) ∙ fired)
          (sym (ap (λ (s : Session). s.state) (ended run batch))
          ∙ sym (ap (λ (r : RunSoFar). (session_before r).state) is) ∙ disposed);
      follows = λ empty. last ∙ ap (λ (a : Act). Some a) (is_firing act fired);
    }

-- ---- the budget

lower : (system : RuleSystem) (s : Session) (after : State)
    → IsReason system [] (session_with s []) after Fired → budget_of after < budget_of s.state
lower system s after (none, left, inl firing) =
    let before : budget_of s.state ≡ suc left = ap budget_of firing.0 in
    let less : budget_of after ≡ left = ap budget_of firing.1 in omega (arith, before, less)
lower system s after (none, left, inr until) =
    let before : budget_of s.state ≡ suc left = ap budget_of until.0 in
    let less : budget_of after ≡ left = ap budget_of until.1 in omega (arith, before, less)

-- an empty batch that fires lowers the budget
pub firing_lowers : StopsWhereItMust → (run new : RunSoFar) (now : Bool) → new ≡ with_turn run []
    → now ≡ fires (system_of run.doc) (session_before run) []
    → cond now (budget_of (session_before new).state + 1) 0 < budget_of (session_before run).state + 1
firing_lowers stops run new now is fires_is = by_act now refl
  where
    system : RuleSystem
    system = system_of run.doc

    by_act : (b : Bool) → now ≡ b
        → cond b (budget_of (session_before new).state + 1) 0 < budget_of (session_before run).state + 1
    by_act false at = omega arith
    by_act true at =
        let fired = is_firing (outcome_of system (session_before run) []).act (sym fires_is ∙ at) in
        let less = lower system (session_before run) _
        (stops system (session_before run) [] Fired (ap (λ (a : Act). Some a) fired)) in
        let same : (session_before new).state ≡ (session_after system (session_before run) []).state =
        ap (λ (r : RunSoFar). (session_before r).state) is ∙ ap (λ (s : Session). s.state) (ended run []) in
        let budget = ap budget_of same in omega (arith, less, budget)

-- a turn was made where no act was owed
pub turned : (run new : RunSoFar) (batch : List Entry) → run.owed ≡ None
    → new ≡ record run { done = run.done ++ batch ∷ [] } → new ≡ with_turn run batch
turned run new batch none is =
    is ∙ ap (λ (o : Option (List Entry)). record { doc = run.doc; done = run.done ++ batch ∷ []; owed = o }) none
