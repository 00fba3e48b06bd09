-- The values of built-in functions and predicates.
--     func_value f cs          a function's value at some arguments, where it has one
--     pred_value p cs          whether a predicate holds of some arguments, where it says so
--     as_integer c             the integer that a constant is, where it is one; as_boolean and as_string alike
--     one_of kind cs           the argument, where it is the only one and of a kind
--     two_of kind cs           the two arguments, where there are no others and both are of a kind
--     value_of_one kind f cs   the value of f at the one argument of a kind; value_of_two alike
--     is_so_of_one kind t cs   whether the test t is passed by the one argument of a kind; is_so_of_two alike
--     is_integer z             whether a number is in the range of integers
--     integer_value z          the number as a constant, where it is in the range
--     concatenated cs          the strings joined, where all arguments are strings
--     concat_of cs             the same, where the text isn't too long
--     has_part text part       whether the part stands somewhere in the text
-- Where arguments are of another kind or number, there is no value. Texts are the bytes of their UTF-8. There the
-- bytes of a character begin nowhere inside another's, so one text starts or ends with another, or contains it, by
-- its bytes just where it does by its characters: src/laws.rt has it as a law.
-- Source: RIF-DTB, "List of RIF Built-in Predicates and Functions", most of which are those of XQuery and XPath; the
-- ranges, the name and meaning of `NumericIntegerMod` and the limit of `Concat` are the project's own
-- (docs/BUILTINS.md).
use Rattle.std.specs.Prelude.{ℕ, nat_le, ◌==◌, ℤ, pos, ◌+ℤ◌, ◌-ℤ◌, ◌*ℤ◌, int_lt, int_le, int_div, int_rem, Bool, not}
use Rattle.std.specs.Prelude.{◌&&◌, ◌||◌, if◌then◌else◌, List, [], ◌∷◌, ◌++◌, length, Some, None, is_some}
use Rattle.std.specs.declared.option.Option.{Option}
use Rattle.std.specs.List.{starts_with, ends_with}
use Rattle.std.specs.Option.{option_map, option_and_then}
use Rattle.std.specs.Ordering.{int_eq, bool_cmp, is_eq, is_lt, is_gt}
use Rattle.std.specs.Str.{chars}
use Rattle.rif_values.specs.declared.constant.Const.{Const}
use Rattle.rif_values.specs.declared.constant.Const.TheVariants.{Int, Bool as BoolConst, Str, Iri, Local, Fresh}
use Rattle.rif_values.specs.declared.integer.TheConstants.{LEAST_INTEGER, GREATEST_INTEGER}
use Rattle.rif_tree.specs.BuiltinNames.{takes}
use Rattle.rif_tree.specs.declared.builtin.Builtin.TheVariants.{Func as FuncBuiltin}
use Rattle.rif_tree.specs.declared.builtin.Func.{Func}
use Rattle.rif_tree.specs.declared.builtin.Func.TheVariants.{NumericAdd, NumericSubtract, NumericMultiply}
use Rattle.rif_tree.specs.declared.builtin.Func.TheVariants.{NumericIntegerDivide, NumericIntegerMod, Not, Concat}
use Rattle.rif_tree.specs.declared.builtin.Func.TheVariants.{StringLength}
use Rattle.rif_tree.specs.declared.builtin.Pred.{Pred}
use Rattle.rif_tree.specs.declared.builtin.Pred.TheVariants.{NumericEqual, NumericNotEqual, NumericLessThan}
use Rattle.rif_tree.specs.declared.builtin.Pred.TheVariants.{NumericLessThanOrEqual, NumericGreaterThan}
use Rattle.rif_tree.specs.declared.builtin.Pred.TheVariants.{NumericGreaterThanOrEqual, BooleanEqual}
use Rattle.rif_tree.specs.declared.builtin.Pred.TheVariants.{BooleanLessThan, BooleanGreaterThan, StartsWith}
use Rattle.rif_tree.specs.declared.builtin.Pred.TheVariants.{EndsWith, Contains, IsLiteralInteger, IsLiteralString}
use Rattle.rif_tree.specs.declared.builtin.Pred.TheVariants.{IsLiteralBoolean}
use Rattle.rif_builtins.specs.declared.strings.TheConstants.{MOST_CONCAT_BYTES}

abbrev pub as_integer : Const → Option ℤ
as_integer (Int z) = Some z
as_integer (BoolConst b) = None
as_integer (Str t) = None
as_integer (Iri t) = None
as_integer (Local t) = None
as_integer (Fresh k) = None

abbrev pub as_boolean : Const → Option Bool
as_boolean (Int z) = None
as_boolean (BoolConst b) = Some b
as_boolean (Str t) = None
as_boolean (Iri t) = None
as_boolean (Local t) = None
as_boolean (Fresh k) = None

abbrev pub as_string : Const → Option (List ℕ)
as_string (Int z) = None
as_string (BoolConst b) = None
as_string (Str t) = Some t
as_string (Iri t) = None
as_string (Local t) = None
as_string (Fresh k) = None

-- of any kind
abbrev pub as_constant : Const → Option Const
as_constant c = Some c

abbrev pub one_of : {V : Type 0} → (Const → Option V) → List Const → Option V
one_of kind [] = None
one_of kind (c ∷ []) = kind c
one_of kind (c ∷ d ∷ cs) = None

abbrev pub two_of : {V : Type 0} → (Const → Option V) → List Const → Option (V × V)
two_of kind [] = None
two_of kind (c ∷ []) = None
two_of kind (c ∷ d ∷ []) = option_and_then (λ v. option_map (λ w. (v, w)) (kind d)) (kind c)
two_of kind (c ∷ d ∷ e ∷ cs) = None

abbrev pub value_of_one : {V : Type 0} → (Const → Option V) → (V → Option Const) → List Const → Option Const
value_of_one kind f cs = option_and_then f (one_of kind cs)

abbrev pub value_of_two : {V : Type 0} → (Const → Option V) → (V → V → Option Const) → List Const → Option Const
value_of_two kind f cs = option_and_then (λ two. f two.0 two.1) (two_of kind cs)

abbrev pub is_so_of_one : {V : Type 0} → (Const → Option V) → (V → Bool) → List Const → Option Bool
is_so_of_one kind test cs = option_map test (one_of kind cs)

abbrev pub is_so_of_two : {V : Type 0} → (Const → Option V) → (V → V → Bool) → List Const → Option Bool
is_so_of_two kind test cs = option_map (λ two. test two.0 two.1) (two_of kind cs)

abbrev pub is_integer : ℤ → Bool
is_integer z = int_le LEAST_INTEGER z && int_le z GREATEST_INTEGER

abbrev pub integer_value : ℤ → Option Const
integer_value z = if is_integer z then Some (Int z) else None

-- the quotient cut towards zero, where the divisor isn't zero
abbrev pub quotient_value : ℤ → ℤ → Option Const
quotient_value a b = if int_eq b (pos 0) then None else integer_value (int_div a b)

-- the remainder that the cut quotient leaves, with the sign of the dividend, where the divisor isn't zero
abbrev pub remainder_value : ℤ → ℤ → Option Const
remainder_value a b = if int_eq b (pos 0) then None else integer_value (int_rem a b)

abbrev pub concatenated : List Const → Option (List ℕ)
concatenated [] = Some []
concatenated (c ∷ cs) = option_and_then (λ text. option_map (λ rest. text ++ rest) (concatenated cs)) (as_string c)

-- the text, where it isn't too long
abbrev pub within_limit : List ℕ → Option (List ℕ)
within_limit text = if nat_le (length text) MOST_CONCAT_BYTES then Some text else None

abbrev pub concat_of : List Const → Option (List ℕ)
concat_of cs = option_and_then within_limit (concatenated cs)

-- the part begins at the text's first byte, or stands in what follows that
abbrev pub has_part : List ℕ → List ℕ → Bool
has_part [] part = starts_with ◌==◌ [] part
has_part (b ∷ text) part = starts_with ◌==◌ (b ∷ text) part || has_part text part

abbrev pub func_value : Func → List Const → Option Const
func_value NumericAdd cs = value_of_two as_integer (λ a b. integer_value (a +ℤ b)) cs
func_value NumericSubtract cs = value_of_two as_integer (λ a b. integer_value (a -ℤ b)) cs
func_value NumericMultiply cs = value_of_two as_integer (λ a b. integer_value (a *ℤ b)) cs
func_value NumericIntegerDivide cs = value_of_two as_integer quotient_value cs
func_value NumericIntegerMod cs = value_of_two as_integer remainder_value cs
func_value Not cs = value_of_one as_boolean (λ b. Some (BoolConst (not b))) cs
func_value Concat cs = if takes (FuncBuiltin Concat) (length cs) then option_map Str (concat_of cs) else None
func_value StringLength cs = value_of_one as_string (λ text. Some (Int (pos (length (chars text))))) cs

abbrev pub pred_value : Pred → List Const → Option Bool
pred_value NumericEqual cs = is_so_of_two as_integer (λ a b. int_eq a b) cs
pred_value NumericNotEqual cs = is_so_of_two as_integer (λ a b. not (int_eq a b)) cs
pred_value NumericLessThan cs = is_so_of_two as_integer (λ a b. int_lt a b) cs
pred_value NumericLessThanOrEqual cs = is_so_of_two as_integer (λ a b. int_le a b) cs
pred_value NumericGreaterThan cs = is_so_of_two as_integer (λ a b. int_lt b a) cs
pred_value NumericGreaterThanOrEqual cs = is_so_of_two as_integer (λ a b. int_le b a) cs
pred_value BooleanEqual cs = is_so_of_two as_boolean (λ a b. is_eq (bool_cmp a b)) cs
pred_value BooleanLessThan cs = is_so_of_two as_boolean (λ a b. is_lt (bool_cmp a b)) cs
pred_value BooleanGreaterThan cs = is_so_of_two as_boolean (λ a b. is_gt (bool_cmp a b)) cs
pred_value StartsWith cs = is_so_of_two as_string (λ text part. starts_with ◌==◌ text part) cs
pred_value EndsWith cs = is_so_of_two as_string (λ text part. ends_with ◌==◌ text part) cs
pred_value Contains cs = is_so_of_two as_string (λ text part. has_part text part) cs
pred_value IsLiteralInteger cs = is_so_of_one as_constant (λ c. is_some (as_integer c)) cs
pred_value IsLiteralString cs = is_so_of_one as_constant (λ c. is_some (as_string c)) cs
pred_value IsLiteralBoolean cs = is_so_of_one as_constant (λ c. is_some (as_boolean c)) cs
