-- When a batch may enter.
use Rattle.std.proofs.Common.{◌≡◌, ◌≢◌, ◌∙◌, ◌&&◌, Bool, true, false, not, List, [], Some, None, refl, ap, sym, subst}
use Rattle.std.specs.Option.{is_some}
use Rattle.std.specs.declared.option.Option.{Option}
use Rattle.session_states.specs.declared.item.Entry.{Entry}
use Rattle.session_states.specs.declared.state.State.TheVariants.{Disposed}
use Rattle.session_states.specs.declared.turn.Act.TheVariants.{Fired}
use Rattle.rif_engine.specs.SoFar.{RunSoFar, MayTake, last_act_of, session_before, session_now, session_with_owed}

pub none_owed : (owed : Option (List Entry)) → not (is_some owed) ≡ true → owed ≡ None
none_owed None is = refl
none_owed (Some batch) is = absurd (cc is)

both : (a b : Bool) → (a && b) ≡ true → (a ≡ true) × (b ≡ true)
both true true is = (refl, refl)
both true false is = absurd (cc is)
both false b is = absurd (cc is)

pub enters : (run : RunSoFar) (batch : List Entry) (settled live follows : Bool) → ((settled && live) && follows) ≡ true
    → (settled ≡ true → run.owed ≡ None) → (live ≡ true → (session_now run).state ≢ Disposed)
    → (follows ≡ true → batch ≡ [] → last_act_of run ≡ Some Fired) → MayTake run batch
enters run batch settled live follows is first second third =
    let outer = both (settled && live) follows is in
    let inner = both settled live outer.0 in
    let none = first inner.0 in record {
      settled = none;
      live = λ at. second inner.1
          (ap (λ (o : Option (List Entry)). (session_with_owed (session_before run) o).state) none ∙ at);
      follows = third outer.1;
    }
