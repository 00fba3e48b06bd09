-- What an act comes to: a chosen instance fires where the budget isn't spent, and nothing chosen is quiet or rests.
use Rattle.std.proofs.Common.{◌≡◌, ℕ, zero, suc, ◌-◌, ◌<◌, Some, None, refl, ap, ◌∙◌, arith}
use Rattle.session_states.specs.declared.state.State.{State}
use Rattle.session_states.specs.declared.state.State.TheVariants.{Idle, Firing, UntilHalt}
use Rattle.session_states.specs.declared.turn.Act.TheVariants.{StoppedQuiet, Resting}
use Rattle.rif_values.specs.declared.instance.Instance.{Instance}
use Rattle.rif_facts.specs.FactsWithRoom.{FactsWithRoom}
use Rattle.prd_relation.specs.RuleSystem.{RuleSystem}
use Rattle.std.specs.declared.option.Option.{Option}
use Rattle.prd_relation.specs.Turns.{Session, outcome_in, with_budget, firing_of, block_at, unfired}
use Rattle.rif_engine.specs.declared.standing.Standing.{Standing}
use Rattle.rif_engine.specs.Listings.{moments_seen}
use Rattle.rif_engine.specs.Standing.{Shows}

with_some : (system : RuleSystem) (s : Session) (next : ℕ → State) (left : ℕ) (i : Instance) → 0 < left
    → with_budget system s next left i ≡ firing_of s (next (left - 1)) i (block_at system s i)
with_some system s next zero i some = absurd (omega arith)
with_some system s next (suc left) i some =
    let less : left ≡ suc left - 1 = omega arith in ap (λ n. firing_of s (next n) i (block_at system s i)) less

pub outcome_firing : (system : RuleSystem) (s : Session) (left : ℕ) (i : Instance) (state : State)
    (choice : Option Instance)
    → state ≡ Firing left → choice ≡ Some i
    → 0 < left → outcome_in system s state choice ≡ firing_of s (Firing (left - 1)) i (block_at system s i)
outcome_firing system s left i state choice is chosen some = rw (is, chosen) (with_some system s Firing left i some)

pub outcome_until : (system : RuleSystem) (s : Session) (left : ℕ) (i : Instance) (state : State)
    (choice : Option Instance)
    → state ≡ UntilHalt left → choice ≡ Some i
    → 0 < left → outcome_in system s state choice ≡ firing_of s (UntilHalt (left - 1)) i (block_at system s i)
outcome_until system s left i state choice is chosen some = rw (is, chosen) (with_some system s UntilHalt left i some)

-- nothing is chosen
pub outcome_quiet : (system : RuleSystem) (s : Session) (left : ℕ) (state : State) (choice : Option Instance)
    → state ≡ Firing left → choice ≡ None → outcome_in system s state choice ≡ unfired StoppedQuiet Idle s
outcome_quiet system s left state choice is none = rw (is, none) refl

pub outcome_resting : (system : RuleSystem) (s : Session) (left : ℕ) (state : State) (choice : Option Instance)
    → state ≡ UntilHalt left → choice ≡ None
    → outcome_in system s state choice ≡ unfired Resting (UntilHalt left) s
outcome_resting system s left state choice is none = rw (is, none) refl

-- a session whose history is listed further
pub shows_listed : (system : RuleSystem) (old new : Standing) (s : Session) → new.state ≡ old.state
    → new.facts ≡ old.facts → new.made ≡ old.made
    → moments_seen system new.listing old.facts.list ≡ moments_seen system old.listing old.facts.list
    → Shows system old s → Shows system new s
shows_listed system old new s state facts made kept shown = record {
  state = state ∙ shown.state;
  facts = ap (λ (f : FactsWithRoom). f.list) facts ∙ shown.facts;
  moments = ap (λ (f : FactsWithRoom). moments_seen system new.listing f.list) facts ∙ kept ∙ shown.moments;
  made = made ∙ shown.made;
}
