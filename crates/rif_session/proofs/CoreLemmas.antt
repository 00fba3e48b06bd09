-- What a core keeps where a batch enters and where an act is settled.
use Rattle.std.proofs.Common.{◌≡◌, ◌≢◌, ◌∙◌, ◌⊎◌, inl, inr, ℕ, Bool, true, List, [], ◌∷◌, ◌++◌, Some, None, Ok, Err}
use Rattle.std.proofs.Common.{ap, sym, subst, append_assoc, append-nil, arith, IsTrue, IsOk, OnOk, OnErr}
use Rattle.std.specs.Option.{is_some}
use Rattle.std.specs.declared.option.Option.{Option}
use Rattle.std.specs.declared.result.Result.{Result}
use Rattle.session_states.specs.declared.item.Entry.{Entry}
use Rattle.session_states.specs.Batches.{IsLawful, joined}
use Rattle.session_states.specs.declared.state.State.TheVariants.{Disposed}
use Rattle.prd_relation.specs.RuleSystem.{system_of}
use Rattle.prd_relation.specs.Turns.{Session}
use Rattle.rif_engine.specs.SoFar.{RunSoFar, MayTake, session_before, session_now}
use Rattle.rif_session.specs.Sessions.{AreFrontOfRun, batches_so_far, ends_disposed}
use Rattle.rif_session.specs.Steps.{Fills}
use Rattle.rif_session.proofs.FrontLemmas.{DisposeLaws, ends_is, front_taken, settled_done, settled_session}
use Rattle.rif_session.proofs.ListLemmas.{joined_append, joined_more}

pub ok_of : {T E : Type 0} (P : Type 0) (r : Result T E) → IsOk r → OnOk r P → P
ok_of P (Ok x) is on = on
ok_of P (Err e) is on = absurd (cc is)

pub not_none : (owed : Option (List Entry)) → IsTrue (is_some owed) → owed ≡ None → ⊥
not_none None some is = cc some
not_none (Some batch) some is = cc is

-- an entry is taken, and held
pub held_more : (batches : List (List Entry)) (held held' taken taken' more : List Entry)
    → taken ≡ joined batches held → taken' ≡ taken ++ more → held' ≡ held ++ more → taken' ≡ joined batches held'
held_more batches held held' taken taken' more same takes holds =
    takes ∙ ap (λ (es : List Entry). es ++ more) same ∙ sym (joined_append batches held more)
    ∙ ap (joined batches) (sym holds)

pub fills_on : (held held' held'' taken taken' taken'' : List Entry) (nones nones' nones'' : ℕ)
    → Fills held held' taken taken' nones nones' → Fills held' held'' taken' taken'' nones' nones''
    → Fills held held'' taken taken'' nones nones''
fills_on held held' held'' taken taken' taken'' nones nones' nones'' a b = record {
  new = a.new ++ b.new;
  holds = b.holds ∙ ap (λ (es : List Entry). es ++ b.new) a.holds ∙ append_assoc held a.new b.new;
  takes = b.takes ∙ ap (λ (es : List Entry). es ++ b.new) a.takes ∙ append_assoc taken a.new b.new;
  rises = omega (arith, a.rises, b.rises);
}

-- a batch entered, or want of memory left everything as it was
pub record Entered (run run' : RunSoFar) (held held' : List Entry) : Type 0 where
  pub run_is : run' ≡ record { doc = run.doc; done = run.done; owed = Some held }
  pub none_held : held' ≡ []

pub record Kept (run run' : RunSoFar) (held held' : List Entry) : Type 0 where
  pub run_same : run' ≡ run
  pub held_same : held' ≡ held

pub entered_or : {T E : Type 0} (run run' : RunSoFar) (held held' : List Entry) (r : Result T E)
    → OnOk r (run' ≡ record { doc = run.doc; done = run.done; owed = Some held }) → OnOk r (held' ≡ [])
    → OnErr r (run' ≡ run) → OnErr r (held' ≡ held)
    → Entered run run' held held' ⊎ Kept run run' held held'
entered_or run run' held held' (Ok x) is none same kept = inl (record { run_is = is; none_held = none })
entered_or run run' held held' (Err e) is none same kept = inr (record { run_same = same; held_same = kept })

entered_batches : (run run' : RunSoFar) (held held' : List Entry) → Entered run run' held held'
    → batches_so_far run' ≡ run.done ++ held ∷ []
entered_batches run run' held held' entered = ap batches_so_far entered.run_is

pub known_on : (run run' : RunSoFar) (held held' : List Entry)
    → Entered run run' held held' ⊎ Kept run run' held held' → run'.doc ≡ run.doc
known_on run run' held held' (inl entered) = ap (λ (r : RunSoFar). r.doc) entered.run_is
known_on run run' held held' (inr kept) = ap (λ (r : RunSoFar). r.doc) kept.run_same

pub same_on : (run run' : RunSoFar) (held held' taken : List Entry) → run.owed ≡ None
    → Entered run run' held held' ⊎ Kept run run' held held' → taken ≡ joined (batches_so_far run) held
    → taken ≡ joined (batches_so_far run') held'
same_on run run' held held' taken none (inl entered) same =
    same
    ∙ ap (λ (bs : List (List Entry)). joined bs held) (settled_done run none)
    ∙ ap (joined run.done) (sym (append-nil held))
    ∙ sym (joined_more run.done held [])
    ∙ ap (joined (run.done ++ held ∷ [])) (sym entered.none_held)
    ∙ ap (λ (bs : List (List Entry)). joined bs held') (sym (entered_batches run run' held held' entered))
same_on run run' held held' taken none (inr kept) same =
    same ∙ ap (λ (r : RunSoFar). joined (batches_so_far r) held) (sym kept.run_same)
    ∙ ap (joined (batches_so_far run')) (sym kept.held_same)

pub lawful_on : DisposeLaws → (run run' : RunSoFar) (held held' : List Entry) → MayTake run held → IsLawful held
    → Entered run run' held held' ⊎ Kept run run' held held'
    → AreFrontOfRun (system_of run.doc) (batches_so_far run)
    → AreFrontOfRun (system_of run'.doc) (batches_so_far run')
lawful_on laws run run' held held' may lawful (inl entered) front =
    subst (λ (r : RunSoFar). AreFrontOfRun (system_of r.doc) (batches_so_far r)) (sym entered.run_is)
    (front_taken laws run held front may lawful)
lawful_on laws run run' held held' may lawful (inr kept) front =
    subst (λ (r : RunSoFar). AreFrontOfRun (system_of r.doc) (batches_so_far r)) (sym kept.run_same) front

-- a session that takes a batch isn't disposed, so its list isn't shut
shut_no_more : DisposeLaws → (run : RunSoFar) → run.owed ≡ None → (session_before run).state ≢ Disposed
    → AreFrontOfRun (system_of run.doc) (batches_so_far run) → ends_disposed (batches_so_far run) ≡ true → ⊥
shut_no_more laws run none live front ends =
    live (ends_is laws (system_of run.doc) run.done
    (subst (AreFrontOfRun (system_of run.doc)) (settled_done run none) front)
    (sym (ap ends_disposed (settled_done run none)) ∙ ends))

pub shut_on : DisposeLaws → (run run' : RunSoFar) (held held' : List Entry) (shut : Bool) → MayTake run held
    → Entered run run' held held' ⊎ Kept run run' held held'
    → AreFrontOfRun (system_of run.doc) (batches_so_far run)
    → (shut ≡ true → ends_disposed (batches_so_far run) ≡ true)
    → shut ≡ true → ends_disposed (batches_so_far run') ≡ true
shut_on laws run run' held held' shut may (inl entered) front was is =
    absurd (shut_no_more laws run may.settled may.live front (was is))
shut_on laws run run' held held' shut may (inr kept) front was is =
    ap (λ (r : RunSoFar). ends_disposed (batches_so_far r)) kept.run_same ∙ was is

pub free_on : (run run' : RunSoFar) (held held' : List Entry) → MayTake run held
    → Entered run run' held held' ⊎ Kept run run' held held'
    → held' ≢ [] → (run'.owed ≡ None) × ((session_now run').state ≢ Disposed)
free_on run run' held held' may (inl entered) some = absurd (some entered.none_held)
free_on run run' held held' may (inr kept) some = (
  ap (λ (r : RunSoFar). r.owed) kept.run_same ∙ may.settled,
  λ is. may.live (sym (ap (λ (s : Session). s.state) (settled_session run may.settled))
      ∙ sym (ap (λ (r : RunSoFar). (session_now r).state) kept.run_same) ∙ is),
)
