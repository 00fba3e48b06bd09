-- What the turns of a pass cost.
use Rattle.std.proofs.Common.{◌≡◌, ◌∙◌, ℕ, suc, ◌+◌, ◌≤◌, Bool, true, false, List, [], ◌∷◌, ◌++◌}
use Rattle.std.proofs.Common.{refl, ap, sym, Some, None, inl, inr, append_assoc, append-nil, arith}
use Rattle.std.proofs.Common.{IsTrue, if◌then◌else◌}
use Rattle.std.proofs.lemmas.List.{length-append}
use Rattle.std.specs.Option.{is_some}
use Rattle.std.specs.declared.option.Option.{Option}
use Rattle.session_states.specs.declared.item.Item.{Item}
use Rattle.session_states.specs.declared.item.Item.TheVariants.{Change, Fire, Until, Halt, Dispose}
use Rattle.session_states.specs.declared.item.Entry.{Entry}
use Rattle.session_states.specs.declared.state.State.{State}
use Rattle.session_states.specs.declared.state.State.TheVariants.{Idle, Firing, UntilHalt, Disposed}
use Rattle.session_states.specs.declared.turn.Act.TheVariants.{Fired}
use Rattle.session_states.specs.Machine.{state_after, joined_budget}
use Rattle.session_states.specs.OpenBatches.{takes_more}
use Rattle.prd_relation.specs.Laws.{IsReason, StopsWhereItMust}
use Rattle.prd_relation.specs.RuleSystem.{RuleSystem, system_of}
use Rattle.prd_relation.specs.Turns.{Session, first_session, session_after, session_with, state_with}
use Rattle.prd_relation.specs.Runs.{session_at_end}
use Rattle.rif_engine.specs.SoFar.{RunSoFar, last_act_of, owed_batches, session_before, session_now}
use Rattle.rif_engine.specs.SoFar.{session_with_owed, settled_run}
use Rattle.rif_session.specs.Budgets.{budget_in, budget_left, budgets_of, short_batches}
use Rattle.rif_session.specs.Passes.{Passes}
use Rattle.rif_session.specs.Sessions.{batches_so_far}
use Rattle.rif_session.specs.Steps.{Advances, Fills}
use Rattle.rif_session.proofs.FrontLemmas.{act_is, end_more, owed_is, settled_batches, settled_done, settled_session}
use Rattle.rif_session.proofs.ListLemmas.{budgets-append, short-append}

joined_few : (left more : ℕ) → joined_budget left more ≤ left + more
joined_few left more = omega arith

after_item : (s : State) (i : Item) → budget_left (state_after s i) ≤ budget_left s + budget_in i
after_item Idle (Change c) = omega arith
after_item Idle (Fire more) = omega arith
after_item Idle (Until more) = omega arith
after_item Idle Halt = omega arith
after_item Idle Dispose = omega arith
after_item (Firing left) (Change c) = omega arith
after_item (Firing left) (Fire more) = joined_few left more
after_item (Firing left) (Until more) = joined_few left more
after_item (Firing left) Halt = omega arith
after_item (Firing left) Dispose = omega arith
after_item (UntilHalt left) (Change c) = omega arith
after_item (UntilHalt left) (Fire more) = joined_few left more
after_item (UntilHalt left) (Until more) = joined_few left more
after_item (UntilHalt left) Halt = omega arith
after_item (UntilHalt left) Dispose = omega arith
after_item Disposed (Change c) = omega arith
after_item Disposed (Fire more) = omega arith
after_item Disposed (Until more) = omega arith
after_item Disposed Halt = omega arith
after_item Disposed Dispose = omega arith

with_batch : (s : State) (batch : List Entry) → budget_left (state_with s batch) ≤ budget_left s + budgets_of batch
with_batch s [] = omega arith
with_batch s (entry ∷ batch) =
    let first = after_item s entry.item in
    let rest : budget_left (state_with s (entry ∷ batch))
    ≤ budget_left (state_after s entry.item) + budgets_of batch =
    with_batch (state_after s entry.item) batch in omega (arith, first, rest)

-- a firing lowers the budget by one
lower : (system : RuleSystem) (s : Session) (batch : List Entry) (after : State)
    → IsReason system batch s after Fired → budget_left after + 1 ≡ budget_left s.state
lower system s batch after (none, left, inl firing) =
    let before : budget_left s.state ≡ suc left = ap budget_left firing.0 in
    let less : budget_left after ≡ left = ap budget_left firing.1 in omega (arith, before, less)
lower system s batch after (none, left, inr until) =
    let before : budget_left s.state ≡ suc left = ap budget_left until.0 in
    let less : budget_left after ≡ left = ap budget_left until.1 in omega (arith, before, less)

-- the budget after an owed act that fired
pub owed_fired : StopsWhereItMust → (run : RunSoFar) → IsTrue (is_some run.owed)
    → last_act_of (settled_run run) ≡ Some Fired
    → budget_left (session_now (settled_run run)).state + 1 ≡ budget_left (session_now run).state
owed_fired stops run some last =
    let system = system_of run.doc in
    let batch = (owed_is run.owed some).0 in
    let owed = (owed_is run.owed some).1 in
    let now : session_now run ≡ session_with (session_before run) batch =
    ap (session_with_owed (session_before run)) owed in
    let after : session_now (settled_run run) ≡ session_after system (session_before run) batch =
    ap (λ (o : Option (List Entry)). session_at_end system first_session (run.done ++ owed_batches o)) owed
    ∙ end_more system first_session run.done batch in
    let falls = lower system (session_with (session_before run) batch) batch
    (session_after system (session_before run) batch).state
    (stops system (session_before run) batch Fired (sym (act_is run batch owed) ∙ last)) in
    ap (λ (s : Session). budget_left s.state + 1) after ∙ falls ∙ ap (λ (s : Session). budget_left s.state) (sym now)

-- the batches where nothing entered
same_batches : (run run' : RunSoFar) → batches_so_far run' ≡ batches_so_far run
    → batches_so_far run' ≡ batches_so_far run ++ []
same_batches run run' is = is ∙ sym (append-nil (batches_so_far run))

-- nothing entered, and entries may have been taken
pub passes_none : (run run' : RunSoFar) (held held' taken taken' : List Entry) (nones nones' : ℕ)
    → batches_so_far run' ≡ batches_so_far run → Fills held held' taken taken' nones nones'
    → Passes run run' held taken taken' nones nones'
passes_none run run' held held' taken taken' nones nones' is fills = record {
  more = [];
  batches = same_batches run run' is;
  new = fills.new;
  takes = fills.takes;
  few = omega arith;
  short = omega (arith, fills.rises);
}

pub fills_none : (held taken : List Entry) (nones : ℕ) → Fills held held taken taken nones nones
fills_none held taken nones = record {
  new = [];
  holds = sym (append-nil held);
  takes = sym (append-nil taken);
  rises = omega arith;
}

-- a batch is short only where the taker found nothing
short_one : (batch : List Entry) (nones nones' : ℕ) → nones ≤ nones'
    → (takes_more batch ≡ true → nones' ≡ nones + 1) → nones + short_batches (batch ∷ []) ≤ nones'
short_one batch nones nones' rises short = by_case (takes_more batch) short
  where
    by_case : (b : Bool) → (b ≡ true → nones' ≡ nones + 1) → nones + ((if b then 1 else 0) + 0) ≤ nones'
    by_case true found = let is = found refl in omega (arith, is)
    by_case false found = omega (arith, rises)

-- a batch entered
pub passes_one : (run run' : RunSoFar) (held held' taken taken' : List Entry) (nones nones' : ℕ)
    → batches_so_far run' ≡ batches_so_far run ++ held' ∷ [] → Fills held held' taken taken' nones nones'
    → (takes_more held' ≡ true → nones' ≡ nones + 1) → Passes run run' held taken taken' nones nones'
passes_one run run' held held' taken taken' nones nones' is fills short = record {
  more = held' ∷ [];
  batches = is;
  new = fills.new;
  takes = fills.takes;
  few = omega arith;
  short = short_one held' nones nones' fills.rises short;
}

-- an owed act fired
pub advances_owed : StopsWhereItMust → (run : RunSoFar) (held taken : List Entry) (nones : ℕ)
    → IsTrue (is_some run.owed) → last_act_of (settled_run run) ≡ Some Fired
    → Advances run (settled_run run) held held taken taken nones nones
advances_owed stops run held taken nones some last =
    let falls = owed_fired stops run some last in record {
      more = [];
      batches = same_batches run (settled_run run) (settled_batches run);
      new = [];
      takes = sym (append-nil taken);
      paid = omega (arith, falls);
      short = omega arith;
    }

-- a batch entered, and fired
pub advances_one : StopsWhereItMust → (run : RunSoFar) (held held' taken taken' : List Entry) (nones nones' : ℕ)
    → run.owed ≡ None → Fills held held' taken taken' nones nones'
    → (takes_more held' ≡ true → nones' ≡ nones + 1)
    → last_act_of (settled_run (record run { owed = Some held' })) ≡ Some Fired
    → Advances run (settled_run (record run { owed = Some held' })) held [] taken taken' nones nones'
advances_one stops run held held' taken taken' nones nones' none fills short last =
    let entered = record run { owed = Some held' } in
    let falls = owed_fired stops entered refl last in
    let with : budget_left (session_now entered).state ≤ budget_left (session_before run).state + budgets_of held' =
    with_batch (session_before run).state held' in
    let now : budget_left (session_now run).state ≡ budget_left (session_before run).state =
    ap (λ (s : Session). budget_left s.state) (settled_session run none) in
    let parts : budgets_of held' ≡ budgets_of held + budgets_of fills.new =
    ap budgets_of fills.holds ∙ budgets-append held fills.new in record {
      more = held' ∷ [];
      batches = settled_batches entered
          ∙ ap (λ (bs : List (List Entry)). bs ++ held' ∷ []) (sym (settled_done run none));
      new = fills.new;
      takes = fills.takes;
      paid = omega (arith, falls, with, now, parts);
      short = short_one held' nones nones' fills.rises short;
    }

-- ---- one after another

both_batches : (run run' run'' : RunSoFar) (first second : List (List Entry))
    → batches_so_far run' ≡ batches_so_far run ++ first → batches_so_far run'' ≡ batches_so_far run' ++ second
    → batches_so_far run'' ≡ batches_so_far run ++ (first ++ second)
both_batches run run' run'' first second is later =
    later ∙ ap (λ (bs : List (List Entry)). bs ++ second) is ∙ append_assoc (batches_so_far run) first second

both_taken : (taken taken' taken'' first second : List Entry) → taken' ≡ taken ++ first → taken'' ≡ taken' ++ second
    → taken'' ≡ taken ++ (first ++ second)
both_taken taken taken' taken'' first second is later =
    later ∙ ap (λ (es : List Entry). es ++ second) is ∙ append_assoc taken first second

pub advances_same : (run : RunSoFar) (held taken : List Entry) (nones : ℕ)
    → Advances run run held held taken taken nones nones
advances_same run held taken nones = record {
  more = [];
  batches = same_batches run run refl;
  new = [];
  takes = sym (append-nil taken);
  paid = omega arith;
  short = omega arith;
}

pub advances_on : (run run' run'' : RunSoFar) (held held' held'' taken taken' taken'' : List Entry)
    (nones nones' nones'' : ℕ) → Advances run run' held held' taken taken' nones nones'
    → Advances run' run'' held' held'' taken' taken'' nones' nones''
    → Advances run run'' held held'' taken taken'' nones nones''
advances_on run run' run'' held held' held'' taken taken' taken'' nones nones' nones'' a b =
    let budgets = budgets-append a.new b.new in
    let lengths = length-append a.more b.more in
    let shorts = short-append a.more b.more in record {
      more = a.more ++ b.more;
      batches = both_batches run run' run'' a.more b.more a.batches b.batches;
      new = a.new ++ b.new;
      takes = both_taken taken taken' taken'' a.new b.new a.takes b.takes;
      paid = omega (arith, budgets, lengths, a.paid, b.paid);
      short = omega (arith, shorts, a.short, b.short);
    }

pub passes_on : (run run' run'' : RunSoFar) (held held' taken taken' taken'' : List Entry)
    (nones nones' nones'' : ℕ) → Advances run run' held held' taken taken' nones nones'
    → Passes run' run'' held' taken' taken'' nones' nones''
    → Passes run run'' held taken taken'' nones nones''
passes_on run run' run'' held held' taken taken' taken'' nones nones' nones'' a b =
    let budgets = budgets-append a.new b.new in
    let all = budgets-append held (a.new ++ b.new) in
    let later = budgets-append held' b.new in
    let lengths = length-append a.more b.more in
    let shorts = short-append a.more b.more in record {
      more = a.more ++ b.more;
      batches = both_batches run run' run'' a.more b.more a.batches b.batches;
      new = a.new ++ b.new;
      takes = both_taken taken taken' taken'' a.new b.new a.takes b.takes;
      few = omega (arith, budgets, all, later, lengths, a.paid, b.few);
      short = omega (arith, shorts, a.short, b.short);
    }
