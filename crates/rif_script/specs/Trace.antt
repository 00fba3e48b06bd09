-- The text of a run.
--     turn_text job k turn             a turn with its number
--     turns_text job k turns           turns with the numbers from one on
--     run_text job turns left facts    the text of a run
-- Source: the project's own (docs/FORMATS.md, "The trace").
use Rattle.std.specs.Prelude.{suc, ℕ, Bool, true, false, List, [], ◌∷◌, ◌++◌, Some, None, codes, count_by, decimal}
use Rattle.std.specs.Prelude.{length}
use Rattle.std.specs.List.{flat_map}
use Rattle.std.specs.declared.option.Option.{Option}
use Rattle.rif_values.specs.declared.constant.Const.{Const}
use Rattle.rif_values.specs.declared.fact.Fact.{Fact}
use Rattle.rif_values.specs.declared.instance.Instance.{Instance}
use Rattle.rif_tree.specs.Rules.{name_of}
use Rattle.rif_values.specs.Bindings.{Row, value_at}
use Rattle.rif_values.specs.Writing.{const_text, fact_text}
use Rattle.safe_rules.specs.declared.safe_rule.SafeRule.{SafeRule}
use Rattle.safe_rules.specs.SafeRules.{rule_of, shown_variables}
use Rattle.session_states.specs.declared.item.Entry.{Entry}
use Rattle.session_states.specs.declared.turn.Act.{Act}
use Rattle.session_states.specs.declared.turn.Act.TheVariants.{Idle, Halted, Disposed, Fired, StoppedQuiet}
use Rattle.session_states.specs.declared.turn.Act.TheVariants.{StoppedLimit, Resting}
use Rattle.session_states.specs.declared.turn.Effect.{Effect}
use Rattle.session_states.specs.declared.turn.Effect.TheVariants.{None as Unchanged, Void, Net}
use Rattle.session_states.specs.declared.turn.Turn.{Turn}
use Rattle.rif_script.specs.declared.job.Job.{Job}
use Rattle.rif_script.specs.Lines.{entry_line}

-- what a variable is bound to, where it is
abbrev pub bound_text : Option Const → List ℕ
bound_text None = []
bound_text (Some c) = const_text c

-- a variable's name and value
abbrev pub variable_text : Row → ℕ × List ℕ → List ℕ
variable_text row shown = codes " ?" ++ shown.1 ++ codes "=" ++ bound_text (value_at row shown.0)

-- the same of the variable of a number
abbrev pub text_of_variable : SafeRule → Row → ℕ → List ℕ
text_of_variable rule row v = variable_text row (v, name_of rule.names v)

-- the values of a rule's `Forall` variables
abbrev pub row_text : Option SafeRule → Row → List ℕ
row_text None row = []
row_text (Some rule) row = flat_map (variable_text row) (shown_variables rule)

abbrev pub act_word : Option Act → List ℕ
act_word None = []
act_word (Some Idle) = codes "idle"
act_word (Some Halted) = codes "halted"
act_word (Some Disposed) = codes "disposed"
act_word (Some Fired) = codes "fired"
act_word (Some StoppedQuiet) = codes "quiet"
act_word (Some StoppedLimit) = codes "limit"
act_word (Some Resting) = codes "rest"

abbrev pub pick_text : List SafeRule → Option Instance → List ℕ
pick_text rules None = []
pick_text rules (Some pick) = codes " " ++ decimal pick.rule ++ row_text (rule_of rules pick.rule) pick.row

abbrev pub fact_line : List ℕ → Fact → List ℕ
fact_line sign fact = sign ++ fact_text fact ++ codes "\n"

-- the facts that were removed, and then those that were added
abbrev pub effect_text : Effect → List ℕ
effect_text Unchanged = []
effect_text Void = codes "void\n"
effect_text (Net delta) =
    flat_map (fact_line (codes "- ")) delta.removed ++ flat_map (fact_line (codes "+ ")) delta.added

-- what a turn's act, pick and effect show
abbrev pub act_text : List SafeRule → Turn → List ℕ
act_text rules turn = act_word turn.act ++ pick_text rules turn.pick ++ codes "\n" ++ effect_text turn.effect

abbrev pub turn_text : Job → ℕ → Turn → List ℕ
turn_text job k turn =
    (codes "turn " ++ decimal k ++ codes "\n") ++ flat_map (entry_line (codes "in") job.names) turn.batch ++
    act_text job.doc turn

abbrev pub turns_text : Job → ℕ → List Turn → List ℕ
turns_text job k [] = []
turns_text job k (turn ∷ turns) = turn_text job k turn ++ turns_text job (suc k) turns

abbrev pub is_fired : Option Act → Bool
is_fired (Some Fired) = true
is_fired _ = false

-- how many of the turns are firings
abbrev pub firing_count : List Turn → ℕ
firing_count = count_by (λ turn. is_fired turn.act)

abbrev pub end_line : List Turn → ℕ → List ℕ
end_line turns facts =
    codes "end turns " ++ decimal (length turns) ++ codes " firings " ++ decimal
    (firing_count turns) ++ codes " facts " ++ decimal facts ++ codes "\n"

abbrev pub run_text : Job → List Turn → List Entry → ℕ → List ℕ
run_text job turns left facts =
    turns_text job 1 turns ++ flat_map (entry_line (codes "left") job.names) left ++ end_line turns facts
