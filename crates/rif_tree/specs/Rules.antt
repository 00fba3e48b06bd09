-- What is said of a rule of a document.
--     forall_variables rule    the `Forall` variables of a rule, in order of declaration: those that its instances
--                              bind
--     name_of names v          the name of a variable, and no text where it has none
--     shown_variables rule     these variables, each with its name, as a run shows them
--     rule_of doc n            the rule of a number, counted from 1
-- Source: RIF-PRD, "Rules"; how a run shows them is the project's own (docs/FORMATS.md, "The trace").
use Rattle.std.specs.Prelude.{ℕ, List, [], map, slice_get, unwrap_or}
use Rattle.std.specs.List.{flat_map}
use Rattle.std.specs.declared.option.Option.{Option}
use Rattle.rif_values.specs.Numbers.{nth_of}
use Rattle.rif_tree.specs.declared.rule.Rule.{Rule}
use Rattle.rif_tree.specs.declared.rule.Doc.{Doc}

abbrev pub forall_variables : Rule → List ℕ
forall_variables rule = flat_map (λ level. level.vars) rule.levels

abbrev pub name_of : List (List ℕ) → ℕ → List ℕ
name_of names v = unwrap_or (slice_get names v) []

abbrev pub shown_variables : Rule → List (ℕ × List ℕ)
shown_variables rule = map (λ v. (v, name_of rule.names v)) (forall_variables rule)

abbrev pub rule_of : Doc → ℕ → Option Rule
rule_of doc number = nth_of doc.rules number
