-- By which key the facts for a pattern are found. No public clause cites this module.
--     known row t          what a constant, or a variable that has a value, must be; a function term isn't evaluated
--     frame_key, member_key   the narrowest keys that what is known of object and slot, or class, determines
--     IsKeyFor p row key   a fact that the key doesn't name isn't matched
-- Source: the project's own.
use Rattle.std.specs.Prelude.{◌≡◌, false, List, Some, None}
use Rattle.std.specs.declared.option.Option.{Option}
use Rattle.rif_values.specs.declared.constant.Const.{Const}
use Rattle.rif_values.specs.declared.fact.Fact.{Fact}
use Rattle.rif_values.specs.Bindings.{Row, value_at}
use Rattle.rif_tree.specs.declared.tree.Term.{Term}
use Rattle.rif_tree.specs.declared.tree.Term.TheOpen.{Term-F, Const as ConstLayer, Var as VarLayer, Call as CallLayer}
use Rattle.rif_tree.specs.declared.tree.Term.TheFolds.{fold-Term}
use Rattle.rif_builtins.specs.declared.pattern.Pattern.{Pattern}
use Rattle.rif_builtins.specs.Extensions.{match_fact}
use Rattle.rif_facts.specs.declared.keys.Key.{Key}
use Rattle.rif_facts.specs.declared.keys.Key.TheVariants.{Slot, ObjectSlot, Object, Class, Frames, Members}
use Rattle.rif_facts.specs.Keys.{is_candidate}

abbrev pub known_step : Row → Term-F (Option Const) → Option Const
known_step row (ConstLayer c) = Some c
known_step row (VarLayer v) = value_at row v
known_step row (CallLayer func arguments) = None

abbrev pub known : Row → Term → Option Const
known row = fold-Term (Option Const) (known_step row)

abbrev pub frame_key : Option Const → Option Const → Key
frame_key None None = Frames
frame_key None (Some s) = Slot s
frame_key (Some o) None = Object o
frame_key (Some o) (Some s) = ObjectSlot o s

abbrev pub member_key : Option Const → Option Const → Key
member_key None None = Members
member_key None (Some c) = Class c
member_key (Some o) class = Object o

abbrev pub IsKeyFor : Pattern → Row → Key → Type 0
IsKeyFor pattern row key = (fact : Fact) → is_candidate key fact ≡ false → match_fact pattern row fact ≡ None
