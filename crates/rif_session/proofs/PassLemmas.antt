-- The steps of a pass.
use Rattle.std.proofs.Common.{◌≡◌, ◌≢◌, ◌∙◌, ◌⊎◌, inl, inr, ℕ, ◌+◌, ◌<◌, true, false, List, [], ◌∷◌, ◌++◌}
use Rattle.std.proofs.Common.{Some, None, refl, ap, sym, subst, append-nil, arith, length, IsTrue}
use Rattle.std.proofs.lemmas.List.{length-append}
use Rattle.std.specs.Option.{is_some}
use Rattle.std.specs.declared.option.Option.{Option}
use Rattle.session_states.specs.declared.item.Entry.{Entry}
use Rattle.session_states.specs.declared.state.State.TheVariants.{Disposed}
use Rattle.session_states.specs.declared.turn.Act.TheVariants.{Fired}
use Rattle.session_states.specs.OpenBatches.{takes_more}
use Rattle.prd_relation.specs.Laws.{FiringsStayLive, StopsWhereItMust}
use Rattle.prd_relation.specs.Turns.{Session}
use Rattle.rif_engine.specs.SoFar.{RunSoFar, last_act_of, session_now, settled_run}
use Rattle.rif_session.specs.Budgets.{budget_left, budgets_of}
use Rattle.rif_session.specs.Passes.{IsBusy, Passes}
use Rattle.rif_session.specs.Sessions.{batches_so_far}
use Rattle.rif_session.specs.Steps.{Advances, Fills, HasBegun, WasBusy}
use Rattle.rif_session.proofs.BudgetLemmas.{advances_one, owed_fired, passes_none}
use Rattle.rif_session.proofs.CoreLemmas.{not_none}
use Rattle.rif_session.proofs.FrontLemmas.{fired_is_live, settled_batches, settled_session}
use Rattle.rif_session.proofs.ListLemmas.{none_before}

-- a session that is disposed didn't fire last
pub disposed_rests : FiringsStayLive → (run : RunSoFar) → run.owed ≡ None → (session_now run).state ≡ Disposed
    → last_act_of run ≢ Some Fired
disposed_rests stay run none is = λ last.
    fired_is_live stay run none last (sym (ap (λ (s : Session). s.state) (settled_session run none)) ∙ is)

pub not_some : (owed : Option (List Entry)) → is_some owed ≡ false → owed ≡ None
not_some None none = refl
not_some (Some batch) none = absurd (cc none)

-- no entry is held while an act is owed
pub none_held : (P : Type 0) (owed : Option (List Entry)) (held : List Entry) → IsTrue (is_some owed)
    → (held ≢ [] → (owed ≡ None) × P) → held ≡ []
none_held P owed [] some free = refl
none_held P owed (e ∷ held) some free = absurd (not_none owed some (free (λ is. cc is)).0)

-- nothing entered, and nothing was taken
pub passes_same : (run run' : RunSoFar) (held taken taken' : List Entry) (nones nones' : ℕ)
    → batches_so_far run' ≡ batches_so_far run → taken' ≡ taken → nones' ≡ nones
    → Passes run run' held taken taken' nones nones'
passes_same run run' held taken taken' nones nones' is same none =
    passes_none run run' held held taken taken' nones nones' is (record {
      new = [];
      holds = sym (append-nil held);
      takes = same ∙ sym (append-nil taken);
      rises = omega (arith, none);
    })

-- an owed act fired
pub owed_advances : StopsWhereItMust → (run run' : RunSoFar) (held held' taken taken' : List Entry) (nones nones' : ℕ)
    → IsTrue (is_some run.owed) → run' ≡ settled_run run → held' ≡ held → taken' ≡ taken → nones' ≡ nones
    → last_act_of run' ≡ Some Fired → Advances run run' held held' taken taken' nones nones'
owed_advances stops run run' held held' taken taken' nones nones' some is holds takes none last =
    let falls = owed_fired stops run some (sym (ap last_act_of is) ∙ last) in
    let now : budget_left (session_now run').state ≡ budget_left (session_now (settled_run run)).state =
    ap (λ (r : RunSoFar). budget_left (session_now r).state) is in
    let budgets : budgets_of held' ≡ budgets_of held = ap budgets_of holds in record {
      more = [];
      batches = ap batches_so_far is ∙ settled_batches run ∙ sym (append-nil (batches_so_far run));
      new = [];
      takes = takes ∙ sym (append-nil taken);
      paid = omega (arith, falls, now, budgets);
      short = omega (arith, none);
    }

-- a turn fired: entries were taken, and entered
pub turn_advances : StopsWhereItMust → (run run' : RunSoFar) (held held' held'' taken taken' : List Entry)
    (nones nones' : ℕ) → run.owed ≡ None → Fills held held' taken taken' nones nones'
    → (takes_more held' ≡ true → nones' ≡ nones + 1)
    → run' ≡ settled_run (record run { owed = Some held' }) → held'' ≡ [] → last_act_of run' ≡ Some Fired
    → Advances run run' held held'' taken taken' nones nones'
turn_advances stops run run' held held' held'' taken taken' nones nones' none fills short is empty last =
    let made = advances_one stops run held held' taken taken' nones nones' none fills short
    (sym (ap last_act_of is) ∙ last) in
    let now : budget_left (session_now run').state
    ≡ budget_left (session_now (settled_run (record run { owed = Some held' }))).state =
    ap (λ (r : RunSoFar). budget_left (session_now r).state) is in
    let budgets : budgets_of held'' ≡ 0 = ap budgets_of empty in record {
      more = made.more;
      batches = ap batches_so_far is ∙ made.batches;
      new = made.new;
      takes = made.takes;
      paid = omega (arith, made.paid, now, budgets);
      short = made.short;
    }

-- nothing was taken, where none is held
pub none_taken : (held held' taken taken' : List Entry) (nones nones' : ℕ)
    → Fills held held' taken taken' nones nones' → held' ≡ [] → (held ≡ []) × (taken' ≡ taken)
none_taken held held' taken taken' nones nones' fills none =
    let parts = none_before held fills.new (sym fills.holds ∙ none) in (
      parts.0,
      fills.takes ∙ ap (λ (es : List Entry). taken ++ es) parts.1 ∙ append-nil taken,
    )

-- an entry that entered was held, or taken
pub held_or_taken : (held held' taken taken' : List Entry) (nones nones' : ℕ)
    → Fills held held' taken taken' nones nones' → held' ≢ [] → (held ≢ []) ⊎ (length taken < length taken')
held_or_taken [] held' taken taken' nones nones' fills some =
    inr (by_new fills.new (λ none. some (fills.holds ∙ none)) fills.takes)
  where
    by_new : (new : List Entry) → new ≢ [] → taken' ≡ taken ++ new → length taken < length taken'
    by_new [] not_empty takes = absurd (not_empty refl)
    by_new (n ∷ new) not_empty takes = omega (arith, ap length takes, length-append taken (n ∷ new))
held_or_taken (e ∷ held) held' taken taken' nones nones' fills some = inl (λ is. cc is)

-- what there was to do at first, there was after more
pub busy_on : (run run' : RunSoFar) (held held' taken taken' taken'' : List Entry) (nones nones' : ℕ)
    (new : List Entry)
    → HasBegun run run' held held' taken taken' nones nones' → WasBusy run' held' taken' taken''
    → taken'' ≡ taken' ++ new → WasBusy run held taken taken''
busy_on run run' held held' taken taken' taken'' nones nones' new (inl same) busy takes =
    subst (λ (r : RunSoFar). WasBusy r held taken taken'') same.run_same
    (subst (λ (es : List Entry). WasBusy run' es taken taken'') same.held_same
    (subst (λ (es : List Entry). WasBusy run' held' es taken'') same.taken_same busy))
busy_on run run' held held' taken taken' taken'' nones nones' new (inr (last, inl owes)) busy takes = inl owes
busy_on run run' held held' taken taken' taken'' nones nones' new (inr (last, inr (live, inl fired))) busy takes =
    inr (live, inl fired)
busy_on run run' held held' taken taken' taken'' nones nones' new
    (inr (last, inr (live, inr (inl some)))) busy takes =
    inr (live, inr (inl some))
busy_on run run' held held' taken taken' taken'' nones nones' new
    (inr (last, inr (live, inr (inr more)))) busy takes =
    inr (live, inr (inr (omega (arith, more, ap length takes, length-append taken' new))))

pub was_busy : (run : RunSoFar) (held taken taken' : List Entry) → WasBusy run held taken taken'
    → IsBusy run held taken taken'
was_busy run held taken taken' (inl owes) = inl owes
was_busy run held taken taken' (inr (live, inl fired)) = inr (live, inl fired)
was_busy run held taken taken' (inr (live, inr (inl some))) = inr (live, inr (inl some))
was_busy run held taken taken' (inr (live, inr (inr more))) =
    inr (
      live,
      inr (inr (λ is.
          let same : length taken' ≡ length taken = ap length is in absurd (omega (arith, more, same)))),
    )
