-- What contracts see of `Facts`: its facts, and for which change there is room.
--     facts.list     the facts, in order and without repeats
--     facts.room     the change that can be done without memory, if there is one: the last that room was made for,
--                    where it hasn't been done
-- Source: RIF-PRD, "Condition satisfaction" (the facts); room is the project's own.
use Rattle.std.specs.Prelude.{List}
use Rattle.std.specs.declared.option.Option.{Option}
use Rattle.rif_values.specs.declared.fact.Fact.{Fact}
use Rattle.rif_values.specs.declared.change.Delta.{Delta}

pub record FactsWithRoom : Type 0 where
  pub list : List Fact
  pub room : Option Delta
