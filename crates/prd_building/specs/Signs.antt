-- What leaves begin, as far as the builder looks: by the first leaf, or by one close behind it. The leaves are known
-- to be of a document, so that one leaf decides. No public clause cites this module.
use Rattle.std.specs.Prelude.{ℕ, ℤ, pos, Bool, true, false, not, ◌&&◌, if◌then◌else◌, List, [], ◌∷◌, Option, Some}
use Rattle.std.specs.Prelude.{None, drop}
use Rattle.rif_tree.specs.declared.builtin.Func.{Func}
use Rattle.rif_tree.specs.declared.builtin.Func.TheVariants.{NumericAdd}
use Rattle.rif_tree.specs.declared.builtin.Pred.TheVariants.{NumericEqual}
use Rattle.rif_values.specs.declared.constant.Const.{Const}
use Rattle.rif_values.specs.declared.constant.Const.TheVariants.{Int as IntConst, Bool as BoolConst, Str as StrConst}
use Rattle.rif_values.specs.declared.constant.Const.TheVariants.{Iri as IriConst, Local as LocalConst}
use Rattle.prd_grammar.specs.declared.leaf.Keyword.TheVariants.{Prefix, Group, Forall, Such, If, Do, New, Retract}
use Rattle.prd_grammar.specs.declared.leaf.Keyword.TheVariants.{Modify, And, Or, Not, INeg, Exists, External, True}
use Rattle.prd_grammar.specs.declared.leaf.Builtin.TheVariants.{Func as FuncBuiltin, Pred as PredBuiltin}
use Rattle.prd_grammar.specs.declared.leaf.BuiltinName.TheVariants.{Known}
use Rattle.prd_grammar.specs.declared.leaf.Leaf.{Leaf}
use Rattle.prd_grammar.specs.declared.leaf.Leaf.TheVariants.{Key, Int, Str, Typed, Iri, Curie, Builtin, Local, Var}
use Rattle.prd_grammar.specs.declared.leaf.Leaf.TheVariants.{Open, Close, OpenSquare, CloseSquare, Equal, Hash}
use Rattle.prd_building.specs.declared.signs.TermSign.{TermSign}
use Rattle.prd_building.specs.declared.signs.TermSign.TheVariants.{Variable, Call, Constant}
use Rattle.prd_building.specs.declared.signs.FormulaSign.{FormulaSign}
use Rattle.prd_building.specs.declared.signs.FormulaSign.TheVariants.{And as AndSign, Or as OrSign}
use Rattle.prd_building.specs.declared.signs.FormulaSign.TheVariants.{Not as NotSign, Exists as ExistsSign}
use Rattle.prd_building.specs.declared.signs.FormulaSign.TheVariants.{Grouped as GroupedSign}
use Rattle.prd_building.specs.declared.signs.FormulaSign.TheVariants.{Holds as HoldsSign, Atom as AtomSign}
use Rattle.prd_building.specs.declared.signs.FormulaSign.TheVariants.{Term as FirstSign}
use Rattle.prd_building.specs.declared.signs.TailSign.{TailSign}
use Rattle.prd_building.specs.declared.signs.TailSign.TheVariants.{Equal as EqualSign, Member as MemberOf}
use Rattle.prd_building.specs.declared.signs.TailSign.TheVariants.{Pairs as PairsSign, Close as CloseSign}
use Rattle.prd_building.specs.declared.signs.TailSign.TheVariants.{Other as OtherSign}
use Rattle.prd_building.specs.declared.signs.ActionSign.{ActionSign}
use Rattle.prd_building.specs.declared.signs.ActionSign.TheVariants.{Assert as AssertSign}
use Rattle.prd_building.specs.declared.signs.ActionSign.TheVariants.{Retract as RetractSign}
use Rattle.prd_building.specs.declared.signs.ActionSign.TheVariants.{Modify as ModifySign}
use Rattle.prd_building.specs.declared.signs.MemberSign.{MemberSign}
use Rattle.prd_building.specs.declared.signs.MemberSign.TheVariants.{Close as MembersEnd}
use Rattle.prd_building.specs.declared.signs.MemberSign.TheVariants.{Prefix as PrefixMember}
use Rattle.prd_building.specs.declared.signs.MemberSign.TheVariants.{Group as GroupMember, Rule as RuleMember}
use Rattle.prd_grammar.specs.Values.{integer_or, text_or, literal_value}

-- the first leaf; the end is seen as a bracket that closes
abbrev pub first : List Leaf → Leaf
first [] = Close
first (l ∷ ls) = l

-- a leaf that may be missing, with the end seen so
abbrev pub leaf_or_end : Option Leaf → Leaf
leaf_or_end None = Close
leaf_or_end (Some l) = l

abbrev pub closes : List Leaf → Bool
closes ss = elim (first ss) [ Close ↦ true | _ ↦ false ]

abbrev pub closes_square : List Leaf → Bool
closes_square ss = elim (first ss) [ CloseSquare ↦ true | _ ↦ false ]

abbrev pub opens : List Leaf → Bool
opens ss = elim (first ss) [ Open ↦ true | _ ↦ false ]

-- where lists end that have no bracket of their own: variables, declarations, formulas behind `such that`, levels
abbrev pub ends_vars : List Leaf → Bool
ends_vars ss = elim (first ss) [ Var v ↦ false | _ ↦ true ]

abbrev pub ends_decls : List Leaf → Bool
ends_decls ss = not (opens ss)

abbrev pub begins_rule : List Leaf → Bool
begins_rule ss = elim (first ss) [ Key k ↦ elim k [ Forall ↦ true | If ↦ true | Do ↦ true | _ ↦ false ] | _ ↦ false ]

abbrev pub ends_such : List Leaf → Bool
ends_such ss = opens ss && begins_rule (drop 1 ss)

abbrev pub ends_levels : List Leaf → Bool
ends_levels ss = elim (first ss) [ Key k ↦ elim k [ Forall ↦ false | _ ↦ true ] | _ ↦ true ]

abbrev pub begins_such : List Leaf → Bool
begins_such ss = elim (first ss) [ Key k ↦ elim k [ Such ↦ true | _ ↦ false ] | _ ↦ false ]

abbrev pub begins_if : List Leaf → Bool
begins_if ss = elim (first ss) [ Key k ↦ elim k [ If ↦ true | _ ↦ false ] | _ ↦ false ]

abbrev pub begins_new : List Leaf → Bool
begins_new ss = elim (first ss) [ Key k ↦ elim k [ New ↦ true | _ ↦ false ] | _ ↦ false ]

abbrev pub member_sign : List Leaf → MemberSign
member_sign ss = elim (first ss) [
  | Close ↦ MembersEnd
  | Key k ↦ elim k [ Prefix ↦ PrefixMember | Group ↦ GroupMember | _ ↦ RuleMember ]
  | _ ↦ RuleMember
]

abbrev pub action_sign : List Leaf → ActionSign
action_sign ss = elim (first ss) [
  | Key k ↦ elim k [ Retract ↦ RetractSign | Modify ↦ ModifySign | _ ↦ AssertSign ]
  | _ ↦ AssertSign
]

abbrev pub tail_sign : List Leaf → TailSign
tail_sign ss = elim (first ss) [
  | Close ↦ CloseSign
  | Equal ↦ EqualSign
  | Hash ↦ MemberOf
  | OpenSquare ↦ PairsSign
  | _ ↦ OtherSign
]

-- the constant that a leaf is, or begins
abbrev pub leaf_const : Leaf → Const
leaf_const l = elim l [
  | Int z ↦ IntConst (integer_or (pos 0) z)
  | Str t ↦ StrConst t
  | Typed literal ↦ literal_value literal
  | Iri t ↦ IriConst t
  | Curie t ↦ IriConst (text_or [] t)
  | Local t ↦ LocalConst t
  | Key k ↦ elim k [ True ↦ BoolConst true | _ ↦ BoolConst false ]
  | _ ↦ BoolConst false
]

-- how many leaves it is
abbrev pub const_width : Leaf → ℕ
const_width l = elim l [ Typed literal ↦ 3 | _ ↦ 1 ]

-- the name of a variable
abbrev pub leaf_name : Leaf → List ℕ
leaf_name l = elim l [ Var v ↦ v | _ ↦ [] ]

-- the function that a leaf names
abbrev pub leaf_func : Leaf → Func
leaf_func l = elim l [
  | Builtin name ↦ elim name [ Known b ↦ elim b [ FuncBuiltin f ↦ f | _ ↦ NumericAdd ] | _ ↦ NumericAdd ]
  | _ ↦ NumericAdd
]

abbrev pub term_sign : List Leaf → TermSign
term_sign ss = elim (first ss) [
  | Var v ↦ Variable
  | Key k ↦ elim k [ External ↦ Call (leaf_func (first (drop 2 ss))) | _ ↦ Constant ]
  | _ ↦ Constant
]

abbrev pub is_constant : List Leaf → Bool
is_constant ss = elim (term_sign ss) [ Constant ↦ true | _ ↦ false ]

-- a constant, and the bracket of its arguments behind it
abbrev pub is_atom : List Leaf → Bool
is_atom ss = is_constant ss && opens (drop (const_width (first ss)) ss)

abbrev pub term_or_atom : List Leaf → FormulaSign
term_or_atom ss = if is_atom ss then AtomSign else FirstSign

abbrev pub builtin_sign : Leaf → FormulaSign
builtin_sign l = elim l [
  | Builtin name ↦ elim name [
    | Known b ↦ elim b [ FuncBuiltin f ↦ FirstSign | PredBuiltin p ↦ HoldsSign p ]
    | _ ↦ HoldsSign NumericEqual
  ]
  | _ ↦ HoldsSign NumericEqual
]

abbrev pub formula_sign : List Leaf → FormulaSign
formula_sign ss = elim (first ss) [
  | Open ↦ GroupedSign
  | Key k ↦ elim k [
    | And ↦ AndSign
    | Or ↦ OrSign
    | Not ↦ NotSign
    | INeg ↦ NotSign
    | Exists ↦ ExistsSign
    | External ↦ builtin_sign (first (drop 2 ss))
    | _ ↦ term_or_atom ss
  ]
  | _ ↦ term_or_atom ss
]

-- the priority that a leaf gives, where that around is p
abbrev pub leaf_priority : ℤ → Leaf → ℤ
leaf_priority p l = elim l [ Int z ↦ integer_or p z | _ ↦ p ]

abbrev pub strategy_width : Leaf → ℕ
strategy_width l = elim l [ Iri t ↦ 1 | Curie t ↦ 1 | _ ↦ 0 ]

abbrev pub priority_width : Leaf → ℕ
priority_width l = elim l [ Int z ↦ 1 | _ ↦ 0 ]
