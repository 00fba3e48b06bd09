-- Laws of replays.
use Rattle.std.proofs.Common.{◌≡◌, ◌≢◌, ◌∙◌, Bool, true, false, List, [], ◌∷◌, Some, None, refl, ap, sym, subst}
use Rattle.std.proofs.Common.{length, slice_get, ◌-◌, arith}
use Rattle.std.specs.Option.{option_map_or, option_and_then}
use Rattle.std.specs.declared.option.Option.{Option}
use Rattle.prd_relation.specs.RuleSystem.{RuleSystem}
use Rattle.session_states.specs.declared.item.Entry.{Entry}
use Rattle.session_states.specs.declared.item.Item.{Item}
use Rattle.session_states.specs.declared.item.Item.TheVariants.{Change, Fire, Until, Halt, Dispose}
use Rattle.session_states.specs.Batches.{IsLawful, AreLawfulBehind, is_dispose, is_disposing}
use Rattle.prd_relation.specs.Laws.{IsReplayOne, AreReplaysLawful}
use Rattle.prd_relation.specs.Runs.{AreLawfulFrom, EmptyOnlyIfFired, IsReplayFrom, fires, is_fired}
use Rattle.prd_relation.specs.Turns.{Session, ending_item, first_session, outcome_after, session_after, session_with}

-- ---- one replay

-- two replays go on with the same batch, and so with the same session
both_on : (system : RuleSystem) (s : Session) (a b : List Entry) (given all other : List (List Entry)) → a ≡ b
    → ((rest : List (List Entry)) → IsReplayFrom system (session_after system s a) (fires system s a) given rest
    → all ≡ rest)
    → IsReplayFrom system (session_after system s b) (fires system s b) given other
    → a ∷ all ≡ b ∷ other
both_on system s a b given all other same one replay =
    let rest = subst (λ (c : List Entry). IsReplayFrom system (session_after system s c)
    (fires system s c) given other)
    (sym same) replay in
    subst (λ (c : List Entry). a ∷ all ≡ c ∷ other) same (ap (λ (bs : List (List Entry)). a ∷ bs) (one other rest))

one_from : (system : RuleSystem) (s : Session) (fired : Bool) (given all other : List (List Entry))
    → IsReplayFrom system s fired given all → IsReplayFrom system s fired given other → all ≡ other
one_from system s true given [] other first second = absurd first
one_from system s true given (a ∷ all) [] first second = absurd second
one_from system s true given (a ∷ all) (b ∷ other) first second =
    both_on system s a b given all other (first.0 ∙ sym second.0)
    (λ rest replay. one_from system (session_after system s a) (fires system s a) given all rest first.1 replay)
    second.1
one_from system s false [] [] [] first second = refl
one_from system s false [] [] (b ∷ other) first second = absurd second
one_from system s false [] (a ∷ all) other first second = absurd first
one_from system s false (next ∷ given) [] other first second = absurd first
one_from system s false (next ∷ given) (a ∷ all) [] first second = absurd second
one_from system s false (next ∷ given) (a ∷ all) (b ∷ other) first second =
    both_on system s a b given all other (first.0 ∙ sym second.0)
    (λ rest replay. one_from system (session_after system s a) (fires system s a) given all rest first.1 replay)
    second.1

pub one_replay : IsReplayOne
one_replay system given all other first second = one_from system first_session false given all other first second

-- ---- lawful replays

-- a batch that ends in a Dispose doesn't fire
item_disposes_not : (system : RuleSystem) (s : Session) (item : Item)
    → is_fired (outcome_after system (ending_item item) s).act ≡ true → is_dispose item ≡ false
item_disposes_not system s (Change change) fired = refl
item_disposes_not system s (Fire more) fired = refl
item_disposes_not system s (Until more) fired = refl
item_disposes_not system s Halt fired = refl
item_disposes_not system s Dispose fired = absurd (cc fired)

entry_disposes_not : (system : RuleSystem) (s : Session) (entry : Option Entry)
    → is_fired (outcome_after system (option_and_then (λ e. ending_item e.item) entry) s).act ≡ true
    → option_map_or (λ e. is_dispose e.item) entry false ≡ false
entry_disposes_not system s None fired = refl
entry_disposes_not system s (Some entry) fired = item_disposes_not system s entry.item fired

firing_disposes_not : (system : RuleSystem) (s : Session) (batch : List Entry) → fires system s batch ≡ true
    → is_disposing batch ≡ false
firing_disposes_not system s batch fired =
    entry_disposes_not system (session_with s batch) (slice_get batch (length batch - 1)) fired

empty_lawful : IsLawful []
empty_lawful = record { few = omega arith; ends_last = tt }

empty_after_firing : (batch : List Entry) → EmptyOnlyIfFired true batch
empty_after_firing [] = refl
empty_after_firing (entry ∷ entries) = tt

some_given : (batch : List Entry) → batch ≢ [] → EmptyOnlyIfFired false batch
some_given [] some = absurd (some refl)
some_given (entry ∷ entries) some = tt

lawful_from : (system : RuleSystem) (s : Session) (fired disposed : Bool) (given all : List (List Entry))
    → AreLawfulBehind disposed given → (fired ≡ true → disposed ≡ false) → IsReplayFrom system s fired given all
    → AreLawfulFrom system s fired disposed all
lawful_from system s true disposed given [] lawful goes_on replay = absurd replay
lawful_from system s true disposed given (batch ∷ all) lawful goes_on replay =
    let none : is_disposing batch ≡ false = ap is_disposing replay.0 in (
      subst IsLawful (sym replay.0) empty_lawful,
      goes_on refl,
      empty_after_firing batch,
      lawful_from system (session_after system s batch) (fires system s batch) (is_disposing batch) given all
          (subst (λ (d : Bool). AreLawfulBehind d given) (goes_on refl ∙ sym none) lawful) (λ fired. none) replay.1,
    )
lawful_from system s false disposed [] [] lawful goes_on replay = refl
lawful_from system s false disposed [] (batch ∷ all) lawful goes_on replay = absurd replay
lawful_from system s false disposed (next ∷ given) [] lawful goes_on replay = absurd replay
lawful_from system s false disposed (next ∷ given) (batch ∷ all) lawful goes_on replay =
    let same = sym replay.0 in (
      subst IsLawful same lawful.0,
      lawful.2,
      some_given batch (subst (λ (b : List Entry). b ≢ []) same lawful.1),
      lawful_from system (session_after system s batch) (fires system s batch) (is_disposing batch) given all
          (subst (λ (b : List Entry). AreLawfulBehind (is_disposing b) given) same lawful.3)
          (λ fired. firing_disposes_not system s batch fired) replay.1,
    )

pub replays_lawful : AreReplaysLawful
replays_lawful system given all lawful replay =
    lawful_from system first_session false false given all lawful (λ fired. absurd (cc fired)) replay
