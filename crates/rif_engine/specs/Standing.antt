-- How what stands between two turns stands for a session of the definitions. No public clause cites this module.
--     Shows system standing session    it has the session's state, newest facts, moments and number of objects
--     Settles settled outcome          what was settled is an outcome's act, pick and effect
use Rattle.std.specs.Prelude.{◌≡◌}
use Rattle.prd_relation.specs.History.{newest_facts, moments_of}
use Rattle.prd_relation.specs.RuleSystem.{RuleSystem}
use Rattle.prd_relation.specs.Turns.{Session, Outcome}
use Rattle.rif_engine.specs.declared.settled.Settled.{Settled}
use Rattle.rif_engine.specs.declared.standing.Standing.{Standing}
use Rattle.rif_engine.specs.Listings.{moments_seen}

pub record Shows (system : RuleSystem) (standing : Standing) (session : Session) : Type 0 where
  pub state : standing.state ≡ session.state
  pub facts : standing.facts.list ≡ newest_facts session.history
  pub moments : moments_seen system standing.listing standing.facts.list ≡ moments_of system session.history
  pub made : standing.made ≡ session.made

pub record Settles (settled : Settled) (outcome : Outcome) : Type 0 where
  pub act : settled.act ≡ outcome.act
  pub pick : settled.pick ≡ outcome.pick
  pub effect : settled.effect ≡ outcome.effect
