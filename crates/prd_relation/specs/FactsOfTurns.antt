-- The facts that some turns leave, from their changes and effects alone.
--     facts_after_turn facts t    the batch's changes are done in order, and then the net change of the effect
--     facts_of_turns turns        the facts after these turns, from no facts on
--     fact_count_of turns         how many these are
-- Source: RIF-PRD, "Operational semantics of a production rule system"; that a run shows net effects is the project's
-- own (docs/FORMATS.md, "The trace").
use Rattle.std.specs.Prelude.{ℕ, List, [], fold, length}
use Rattle.rif_values.specs.declared.fact.Fact.{Fact}
use Rattle.rif_values.specs.Facts.{facts_after}
use Rattle.rif_values.specs.Order.{fact_cmp}
use Rattle.rif_values.specs.Sets.{patched}
use Rattle.session_states.specs.declared.turn.Effect.{Effect}
use Rattle.session_states.specs.declared.turn.Effect.TheVariants.{None as NoEffect, Void, Net}
use Rattle.session_states.specs.declared.turn.Turn.{Turn}
use Rattle.prd_relation.specs.Turns.{changes_in}

abbrev pub facts_after_effect : List Fact → Effect → List Fact
facts_after_effect facts NoEffect = facts
facts_after_effect facts Void = facts
facts_after_effect facts (Net delta) = patched fact_cmp facts delta.added delta.removed

abbrev pub facts_after_turn : List Fact → Turn → List Fact
facts_after_turn facts turn = facts_after_effect (facts_after facts (changes_in turn.batch)) turn.effect

abbrev pub facts_of_turns : List Turn → List Fact
facts_of_turns turns = fold facts_after_turn [] turns

abbrev pub fact_count_of : List Turn → ℕ
fact_count_of turns = length (facts_of_turns turns)
