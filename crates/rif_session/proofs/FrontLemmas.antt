-- The first batches of a run, and one more.
use Rattle.std.proofs.Common.{◌≡◌, ◌≢◌, ◌∙◌, suc, ◌-◌, Bool, true, false, List, [], ◌∷◌, ◌++◌, Some, None}
use Rattle.std.proofs.Common.{refl, ap, sym, subst, length, slice_get, append-nil, arith, IsTrue}
use Rattle.std.specs.Option.{is_some, option_and_then, option_map_or}
use Rattle.std.specs.declared.option.Option.{Option}
use Rattle.session_states.specs.declared.item.Entry.{Entry}
use Rattle.session_states.specs.declared.state.State.TheVariants.{Disposed}
use Rattle.session_states.specs.declared.turn.Act.{Act}
use Rattle.session_states.specs.declared.turn.Act.TheVariants.{Idle as IdleAct, Halted, Disposed as DisposedAct}
use Rattle.session_states.specs.declared.turn.Act.TheVariants.{Fired, StoppedQuiet, StoppedLimit, Resting}
use Rattle.session_states.specs.declared.turn.Turn.{Turn}
use Rattle.session_states.specs.Batches.{IsLawful, ends_in, is_dispose, is_disposing, joined}
use Rattle.prd_relation.specs.Laws.{DisposesByDispose, DisposesOnlyByDispose, FiringsStayLive, StopsWhereItMust}
use Rattle.prd_relation.specs.RuleSystem.{RuleSystem, system_of}
use Rattle.prd_relation.specs.Runs.{AreLawful, AreLawfulFrom, EmptyOnlyIfFired, fires, is_fired, run_of}
use Rattle.prd_relation.specs.Runs.{session_at_end}
use Rattle.prd_relation.specs.Runs.{turns_from}
use Rattle.prd_relation.specs.Turns.{Session, first_session, session_after, turn_of}
use Rattle.rif_engine.specs.SoFar.{RunSoFar, MayTake, last_act, last_act_of, owed_batches, session_before}
use Rattle.rif_engine.specs.SoFar.{session_now}
use Rattle.rif_engine.specs.SoFar.{session_with_owed, settled_run, unsettled_turns}
use Rattle.rif_session.specs.Sessions.{AreFrontFrom, AreFrontOfRun, batches_so_far, ends_disposed}
use Rattle.rif_session.proofs.ListLemmas.{ends_behind, ends_later}

-- what a Dispose does
pub record DisposeLaws : Type 0 where
  pub by : DisposesByDispose
  pub only : DisposesOnlyByDispose
  pub stops : StopsWhereItMust

-- a flag says whether a session is disposed
pub record Tells (s : Session) (disposed : Bool) : Type 0 where
  pub there : disposed ≡ true → s.state ≡ Disposed
  pub back : s.state ≡ Disposed → disposed ≡ true

pub first_tells : Tells first_session false
first_tells = record { there = λ is. cc is; back = λ is. cc is }

live_by : (s : Session) (disposed : Bool) → Tells s disposed → disposed ≡ false → s.state ≢ Disposed
live_by s disposed tells none = λ is. cc (sym (tells.back is) ∙ none)

after_tells : DisposeLaws → (system : RuleSystem) (s : Session) (batch : List Entry) → IsLawful batch
    → s.state ≢ Disposed → Tells (session_after system s batch) (is_disposing batch)
after_tells laws system s batch lawful live = record {
  there = λ is. (laws.stops system s batch DisposedAct ((laws.by system s batch lawful live).1 is)).2;
  back = laws.only system s batch lawful live;
}

not_true : (b : Bool) → (b ≡ true → ⊥) → b ≡ false
not_true true never = absurd (never refl)
not_true false never = refl

-- whether the last turn fired
abbrev pub fired_after : RuleSystem → Session → Bool → List (List Entry) → Bool
fired_after system s fired [] = fired
fired_after system s fired (batch ∷ batches) =
    fired_after system (session_after system s batch) (fires system s batch) batches

front_more : DisposeLaws → (system : RuleSystem) (s : Session) (fired disposed : Bool) (batches : List (List Entry))
    (batch : List Entry) → AreFrontFrom system s fired disposed batches → IsLawful batch → Tells s disposed
    → (session_at_end system s batches).state ≢ Disposed → EmptyOnlyIfFired (fired_after system s fired batches) batch
    → AreFrontFrom system s fired disposed (batches ++ batch ∷ [])
front_more laws system s fired disposed [] batch front lawful tells live follows =
    (lawful, not_true disposed (λ is. live (tells.there is)), follows, tt)
front_more laws system s fired disposed (first ∷ batches) batch front lawful tells live follows = (
  front.0,
  front.1,
  front.2,
  front_more laws system (session_after system s first) (fires system s first) (is_disposing first) batches batch
      front.3
      lawful (after_tells laws system s first front.0 (live_by s disposed tells front.1)) live follows,
)

-- the session before the last batch isn't disposed
live_before : DisposeLaws → (system : RuleSystem) (s : Session) (fired disposed : Bool) (batches : List (List Entry))
    (batch : List Entry) → AreFrontFrom system s fired disposed (batches ++ batch ∷ []) → Tells s disposed
    → IsLawful batch × ((session_at_end system s batches).state ≢ Disposed)
live_before laws system s fired disposed [] batch front tells = (front.0, live_by s disposed tells front.1)
live_before laws system s fired disposed (first ∷ batches) batch front tells =
    live_before laws system (session_after system s first) (fires system s first) (is_disposing first) batches batch
    front.3 (after_tells laws system s first front.0 (live_by s disposed tells front.1))

-- a session that is disposed is so by the last entry
disposed_ends : DisposeLaws → (system : RuleSystem) (s : Session) (fired disposed : Bool)
    (batches : List (List Entry))
    → AreFrontFrom system s fired disposed batches → Tells s disposed → s.state ≢ Disposed
    → (session_at_end system s batches).state ≡ Disposed → ends_in is_dispose (joined batches []) ≡ true
disposed_ends laws system s fired disposed [] front tells live is = absurd (live is)
disposed_ends laws system s fired disposed (batch ∷ []) front tells live is =
    ap (ends_in is_dispose) (append-nil batch) ∙ (after_tells laws system s batch front.0 live).back is
disposed_ends laws system s fired disposed (batch ∷ next ∷ batches) front tells live is =
    let told = after_tells laws system s batch front.0 live in
    ends_behind is_dispose batch (joined (next ∷ batches) [])
    (disposed_ends laws system (session_after system s batch) (fires system s batch) (is_disposing batch)
    (next ∷ batches) front.3 told (live_by _ (is_disposing batch) told front.3.1) is)

ends_are : DisposeLaws → (system : RuleSystem) (s : Session) (fired disposed : Bool) (batches : List (List Entry))
    → AreFrontFrom system s fired disposed batches → Tells s disposed → ends_in is_dispose (joined batches []) ≡ true
    → (session_at_end system s batches).state ≡ Disposed
ends_are laws system s fired disposed [] front tells ends = absurd (cc ends)
ends_are laws system s fired disposed (batch ∷ []) front tells ends =
    (after_tells laws system s batch front.0 (live_by s disposed tells front.1)).there
    (sym (ap (ends_in is_dispose) (append-nil batch)) ∙ ends)
ends_are laws system s fired disposed (batch ∷ next ∷ batches) front tells ends =
    ends_are laws system (session_after system s batch) (fires system s batch) (is_disposing batch) (next ∷ batches)
    front.3 (after_tells laws system s batch front.0 (live_by s disposed tells front.1))
    (ends_later is_dispose batch (joined (next ∷ batches) []) ends front.3.1)

first_live : first_session.state ≢ Disposed
first_live = λ is. cc is

pub disposed_is : DisposeLaws → (system : RuleSystem) (batches : List (List Entry)) → AreFrontOfRun system batches
    → (session_at_end system first_session batches).state ≡ Disposed → ends_disposed batches ≡ true
disposed_is laws system batches front is =
    disposed_ends laws system first_session false false batches front first_tells first_live is

pub ends_is : DisposeLaws → (system : RuleSystem) (batches : List (List Entry)) → AreFrontOfRun system batches
    → ends_disposed batches ≡ true → (session_at_end system first_session batches).state ≡ Disposed
ends_is laws system batches front ends = ends_are laws system first_session false false batches front first_tells ends

-- ---- the last act

last_cons : (t u : Turn) (ts : List Turn) → last_act (t ∷ u ∷ ts) ≡ last_act (u ∷ ts)
last_cons t u ts =
    let place : length (t ∷ u ∷ ts) - 1 ≡ suc (length (u ∷ ts) - 1) = omega arith in
    ap (λ n. option_and_then (λ (turn : Turn). turn.act) (slice_get (t ∷ u ∷ ts) n)) place

last_later : (system : RuleSystem) (s : Session) (batch next : List Entry) (batches : List (List Entry))
    → last_act (turns_from system s (batch ∷ next ∷ batches))
    ≡ last_act (turns_from system (session_after system s batch) (next ∷ batches))
last_later system s batch next batches =
    let after = session_after system s batch in
    last_cons (turn_of system s batch) (turn_of system after next)
    (turns_from system (session_after system after next) batches)

is_it : (act : Act) → Some act ≡ Some Fired → is_fired act ≡ true
is_it act is = ap (λ (o : Option Act). option_map_or is_fired o false) is

isnt_it : (act : Act) → Some act ≢ Some Fired → is_fired act ≡ false
isnt_it IdleAct never = refl
isnt_it Halted never = refl
isnt_it DisposedAct never = refl
isnt_it Fired never = absurd (never refl)
isnt_it StoppedQuiet never = refl
isnt_it StoppedLimit never = refl
isnt_it Resting never = refl

fired_last : (system : RuleSystem) (s : Session) (fired : Bool) (batches : List (List Entry))
    → last_act (turns_from system s batches) ≡ Some Fired → fired_after system s fired batches ≡ true
fired_last system s fired [] last = absurd (cc last)
fired_last system s fired (batch ∷ []) last = is_it _ last
fired_last system s fired (batch ∷ next ∷ batches) last =
    fired_last system (session_after system s batch) (fires system s batch) (next ∷ batches)
    (sym (last_later system s batch next batches) ∙ last)

rests_last : (system : RuleSystem) (s : Session) (fired : Bool) (batches : List (List Entry))
    → last_act (turns_from system s batches) ≢ Some Fired → (batches ≡ [] → fired ≡ false)
    → fired_after system s fired batches ≡ false
rests_last system s fired [] rests none = none refl
rests_last system s fired (batch ∷ []) rests none = isnt_it _ rests
rests_last system s fired (batch ∷ next ∷ batches) rests none =
    rests_last system (session_after system s batch) (fires system s batch) (next ∷ batches)
    (λ last. rests (last_later system s batch next batches ∙ last)) (λ is. absurd (cc is))

fired_live : FiringsStayLive → (system : RuleSystem) (s : Session) (batches : List (List Entry))
    → last_act (turns_from system s batches) ≡ Some Fired → (session_at_end system s batches).state ≢ Disposed
fired_live stay system s [] last = absurd (cc last)
fired_live stay system s (batch ∷ []) last = stay system s batch (is_it _ last)
fired_live stay system s (batch ∷ next ∷ batches) last =
    fired_live stay system (session_after system s batch) (next ∷ batches)
    (sym (last_later system s batch next batches) ∙ last)

last_more : (system : RuleSystem) (s : Session) (batches : List (List Entry)) (batch : List Entry)
    → last_act (turns_from system s (batches ++ batch ∷ []))
    ≡ (turn_of system (session_at_end system s batches) batch).act
last_more system s [] batch = refl
last_more system s (first ∷ []) batch = refl
last_more system s (first ∷ next ∷ batches) batch =
    last_later system s first next (batches ++ batch ∷ [])
    ∙ last_more system (session_after system s first) (next ∷ batches) batch

pub end_more : (system : RuleSystem) (s : Session) (batches : List (List Entry)) (batch : List Entry)
    → session_at_end system s (batches ++ batch ∷ [])
    ≡ session_after system (session_at_end system s batches) batch
end_more system s [] batch = refl
end_more system s (first ∷ batches) batch = end_more system (session_after system s first) batches batch

front_ends : (system : RuleSystem) (s : Session) (fired disposed : Bool) (batches : List (List Entry))
    → AreFrontFrom system s fired disposed batches → fired_after system s fired batches ≡ false
    → AreLawfulFrom system s fired disposed batches
front_ends system s fired disposed [] front rests = rests
front_ends system s fired disposed (batch ∷ batches) front rests = (
  front.0,
  front.1,
  front.2,
  front_ends system (session_after system s batch) (fires system s batch) (is_disposing batch) batches front.3 rests,
)

-- ---- of a run so far

-- the last act where none is owed
last_settled : (run : RunSoFar) → run.owed ≡ None → last_act_of run ≡ last_act (run_of (system_of run.doc) run.done)
last_settled run none =
    ap (λ (o : Option (List Entry)). last_act (run_of (system_of run.doc) run.done ++ unsettled_turns o)) none
    ∙ ap last_act (append-nil (run_of (system_of run.doc) run.done))

pub settled_session : (run : RunSoFar) → run.owed ≡ None → session_now run ≡ session_before run
settled_session run none = ap (session_with_owed (session_before run)) none

pub settled_done : (run : RunSoFar) → run.owed ≡ None → batches_so_far run ≡ run.done
settled_done run none = ap (λ (o : Option (List Entry)). run.done ++ owed_batches o) none ∙ append-nil run.done

-- the first batches of a run whose last act isn't Fired are those of a run
pub front_lawful : (run : RunSoFar) → AreFrontOfRun (system_of run.doc) (batches_so_far run) → run.owed ≡ None
    → last_act_of run ≢ Some Fired → AreLawful (system_of run.doc) run.done
front_lawful run front none rests =
    let system = system_of run.doc in
    front_ends system first_session false false run.done
    (subst (AreFrontOfRun system) (settled_done run none) front)
    (rests_last system first_session false run.done (λ last. rests (last_settled run none ∙ last)) (λ is. refl))

empty_only : (fired : Bool) (batch : List Entry) → (batch ≡ [] → fired ≡ true) → EmptyOnlyIfFired fired batch
empty_only fired [] is = is refl
empty_only fired (entry ∷ batch) is = tt

-- a batch that may enter may come next
pub front_taken : DisposeLaws → (run : RunSoFar) (batch : List Entry)
    → AreFrontOfRun (system_of run.doc) (batches_so_far run) → MayTake run batch → IsLawful batch
    → AreFrontOfRun (system_of run.doc) (run.done ++ batch ∷ [])
front_taken laws run batch front may lawful =
    let system = system_of run.doc in
    front_more laws system first_session false false run.done batch
    (subst (AreFrontOfRun system) (settled_done run may.settled) front) lawful first_tells may.live
    (empty_only (fired_after system first_session false run.done) batch (λ none.
    fired_last system first_session false run.done (sym (last_settled run may.settled) ∙ may.follows none)))

-- the session of a turn that fired isn't disposed
pub fired_is_live : FiringsStayLive → (run : RunSoFar) → run.owed ≡ None → last_act_of run ≡ Some Fired
    → (session_before run).state ≢ Disposed
fired_is_live stay run none last =
    fired_live stay (system_of run.doc) first_session run.done (sym (last_settled run none) ∙ last)

pub owed_is : (owed : Option (List Entry)) → IsTrue (is_some owed) → (batch : List Entry) × (owed ≡ Some batch)
owed_is None some = absurd (cc some)
owed_is (Some batch) some = (batch, refl)

-- the act that was owed
pub act_is : (run : RunSoFar) (batch : List Entry) → run.owed ≡ Some batch
    → last_act_of (settled_run run) ≡ (turn_of (system_of run.doc) (session_before run) batch).act
act_is run batch owed =
    let system = system_of run.doc in
    last_settled (settled_run run) refl
    ∙ ap (λ (o : Option (List Entry)). last_act (run_of system (run.done ++ owed_batches o))) owed
    ∙ last_more system first_session run.done batch

-- where the act that was owed disposes, the last entry is a Dispose
pub act_disposes : DisposeLaws → (run : RunSoFar) → AreFrontOfRun (system_of run.doc) (batches_so_far run)
    → IsTrue (is_some run.owed) → last_act_of (settled_run run) ≡ Some DisposedAct
    → ends_disposed (batches_so_far run) ≡ true
act_disposes laws run front some last =
    let system = system_of run.doc in
    let batch = (owed_is run.owed some).0 in
    let owed = (owed_is run.owed some).1 in
    let all : batches_so_far run ≡ run.done ++ batch ∷ [] =
    ap (λ (o : Option (List Entry)). run.done ++ owed_batches o) owed in
    let fronts = subst (AreFrontOfRun system) all front in
    let before = live_before laws system first_session false false run.done batch fronts first_tells in
    let ends = (laws.by system (session_before run) batch before.0 before.1).0 (sym (act_is run batch owed) ∙ last) in
    let now = (after_tells laws system (session_before run) batch before.0 before.1).there ends in
    subst (λ (bs : List (List Entry)). ends_disposed bs ≡ true) (sym all)
    (disposed_is laws system (run.done ++ batch ∷ []) fronts
    (ap (λ (s : Session). s.state) (end_more system first_session run.done batch) ∙ now))

pub settled_batches : (run : RunSoFar) → batches_so_far (settled_run run) ≡ batches_so_far run
settled_batches run = append-nil (run.done ++ owed_batches run.owed)
