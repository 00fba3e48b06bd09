-- What an engine keeps. No public clause cites this module.
--     run_in doc turns              the run that turns tell: the batches of those that have an act, and that of the one
--                                   that has none
--     settled_turn batch settled    the turn of a batch that came to this
--     Keeps doc turns standing      the turns are those of that run, and what stands now is its session
use Rattle.std.specs.Prelude.{◌≡◌, List, [], ◌∷◌, if◌then◌else◌, Some, None}
use Rattle.std.specs.Option.{is_some}
use Rattle.std.specs.declared.option.Option.{Option}
use Rattle.safe_rules.specs.declared.safe_rule.SafeRule.{SafeRule}
use Rattle.session_states.specs.declared.item.Entry.{Entry}
use Rattle.session_states.specs.declared.turn.Turn.{Turn}
use Rattle.prd_relation.specs.RuleSystem.{system_of}
use Rattle.rif_engine.specs.declared.settled.Settled.{Settled}
use Rattle.rif_engine.specs.declared.standing.Standing.{Standing}
use Rattle.rif_engine.specs.SoFar.{RunSoFar, session_now, turns_of}
use Rattle.rif_engine.specs.Standing.{Shows}

abbrev pub done_in : List Turn → List (List Entry)
done_in [] = []
done_in (turn ∷ turns) = if is_some turn.act then turn.batch ∷ done_in turns else done_in turns

abbrev pub owed_in : List Turn → Option (List Entry)
owed_in [] = None
owed_in (turn ∷ turns) = if is_some turn.act then owed_in turns else Some turn.batch

abbrev pub run_in : List SafeRule → List Turn → RunSoFar
run_in doc turns = record { doc = doc; done = done_in turns; owed = owed_in turns }

abbrev pub settled_turn : List Entry → Settled → Turn
settled_turn batch settled =
    record { batch = batch; act = Some settled.act; pick = settled.pick; effect = settled.effect }

pub record Keeps (doc : List SafeRule) (turns : List Turn) (standing : Standing) : Type 0 where
  pub turns_are : turns ≡ turns_of (run_in doc turns)
  pub shows : Shows (system_of doc) standing (session_now (run_in doc turns))
