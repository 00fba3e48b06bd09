-- What the values of built-ins promise: the statements of further laws in src/laws.rt.
--     of_integers f a b         the value of a function at two integers; of_strings alike
--     says_of_strings p s t     whether a predicate holds of two strings, where it says so
--     IsDivision a b q r        a quotient and a remainder give the dividend back; the remainder is nearer to zero
--                               than the divisor and has the dividend's sign
--     AreDivisionsExact         by each divisor but zero there are two such, and they are the values where they are
--                               in the range, which a remainder always is
--     AreComparisonsOpposite    which comparisons say the opposite of one another, and which are turned round
--     IsNotUndone               `not` twice is nothing
--     ArePartsOfConcat          one text starts with, ends with or contains another where it is that and some more
--     AreConcatsExact           what a concatenation is, what it starts and ends with, and how long it is
--     AreByCharacters           the same of characters as of bytes
--     AreAllCounted             a built-in has a value only where it takes so many arguments
-- Source: RIF-DTB, "List of RIF Built-in Predicates and Functions"; XPath's `op:numeric-integer-divide`,
-- `op:numeric-mod`, `fn:concat`, `fn:starts-with`, `fn:ends-with`, `fn:contains` and `fn:string-length`.
use Rattle.std.specs.Prelude.{◌≡◌, ◌↔◌, ◌≢◌, ℕ, ◌<◌, ◌==◌, ℤ, pos, ◌+ℤ◌, ◌*ℤ◌, ◌≤ℤ◌, unsigned_abs, true, not}
use Rattle.std.specs.Prelude.{Bool, IsUtf8, List, [], ◌∷◌, ◌++◌, length, map, Some, None}
use Rattle.std.specs.declared.option.Option.{Option}
use Rattle.std.specs.List.{flat_map, starts_with, ends_with}
use Rattle.std.specs.Option.{option_map}
use Rattle.std.specs.Str.{chars}
use Rattle.rif_values.specs.declared.constant.Const.{Const}
use Rattle.rif_values.specs.declared.constant.Const.TheVariants.{Int, Str}
use Rattle.rif_tree.specs.BuiltinNames.{takes}
use Rattle.rif_tree.specs.declared.builtin.Builtin.TheVariants.{Func as FuncBuiltin, Pred as PredBuiltin}
use Rattle.rif_tree.specs.declared.builtin.Func.{Func}
use Rattle.rif_tree.specs.declared.builtin.Func.TheVariants.{NumericIntegerDivide, NumericIntegerMod, Not, Concat}
use Rattle.rif_tree.specs.declared.builtin.Func.TheVariants.{StringLength}
use Rattle.rif_tree.specs.declared.builtin.Pred.{Pred}
use Rattle.rif_tree.specs.declared.builtin.Pred.TheVariants.{NumericEqual, NumericNotEqual, NumericLessThan}
use Rattle.rif_tree.specs.declared.builtin.Pred.TheVariants.{NumericLessThanOrEqual, NumericGreaterThan}
use Rattle.rif_tree.specs.declared.builtin.Pred.TheVariants.{NumericGreaterThanOrEqual, BooleanLessThan}
use Rattle.rif_tree.specs.declared.builtin.Pred.TheVariants.{BooleanGreaterThan, StartsWith, EndsWith, Contains}
use Rattle.rif_builtins.specs.Builtins.{func_value, pred_value, is_integer, integer_value, within_limit}
use Rattle.rif_builtins.specs.Builtins.{has_part}

abbrev pub of_integers : Func → ℤ → ℤ → Option Const
of_integers f a b = func_value f (Int a ∷ Int b ∷ [])

abbrev pub of_strings : Func → List ℕ → List ℕ → Option Const
of_strings f s t = func_value f (Str s ∷ Str t ∷ [])

abbrev pub says_of_strings : Pred → List ℕ → List ℕ → Option Bool
says_of_strings p s t = pred_value p (Str s ∷ Str t ∷ [])

-- q is the quotient of a and b, cut towards zero, and r is what it leaves
pub record IsDivision (a b q r : ℤ) : Type 0 where
  pub exact : a ≡ (q *ℤ b) +ℤ r
  pub below : unsigned_abs r < unsigned_abs b
  pub above_zero : pos 0 ≤ℤ a → pos 0 ≤ℤ r
  pub below_zero : a ≤ℤ pos 0 → r ≤ℤ pos 0

pub record AreDivisionsExact : Type 0 where
  pub values : (a b : ℤ) → b ≢ pos 0 → (q : ℤ) × (r : ℤ) × IsDivision a b q r
      × (of_integers NumericIntegerDivide a b ≡ integer_value q)
      × (of_integers NumericIntegerMod a b ≡ integer_value r)
  pub by_zero : (a : ℤ) → (of_integers NumericIntegerDivide a (pos 0) ≡ None)
      × (of_integers NumericIntegerMod a (pos 0) ≡ None)
  pub remainders : (a b : ℤ) → is_integer a ≡ true → b ≢ pos 0
      → (r : ℤ) × (of_integers NumericIntegerMod a b ≡ Some (Int r))

-- one predicate says of all arguments the opposite of the other
abbrev pub AreOpposite : Pred → Pred → Type 0
AreOpposite p q = (cs : List Const) → pred_value p cs ≡ option_map not (pred_value q cs)

-- one predicate says of two arguments what the other says of them in the other order
abbrev pub AreTurned : Pred → Pred → Type 0
AreTurned p q = (c d : Const) → pred_value p (c ∷ d ∷ []) ≡ pred_value q (d ∷ c ∷ [])

pub record AreComparisonsOpposite : Type 0 where
  pub equal : AreOpposite NumericNotEqual NumericEqual
  pub less : AreOpposite NumericGreaterThanOrEqual NumericLessThan
  pub greater : AreOpposite NumericLessThanOrEqual NumericGreaterThan
  pub turned : AreTurned NumericGreaterThan NumericLessThan
  pub turned_or_equal : AreTurned NumericGreaterThanOrEqual NumericLessThanOrEqual
  pub turned_booleans : AreTurned BooleanGreaterThan BooleanLessThan

abbrev pub IsNotUndone : Type 0
IsNotUndone = (c d : Const) → func_value Not (c ∷ []) ≡ Some d → func_value Not (d ∷ []) ≡ Some c

-- one text against another
pub record IsPartOfConcat (text part : List ℕ) : Type 0 where
  pub starts : (says_of_strings StartsWith text part ≡ Some true) ↔ ((rest : List ℕ) × (text ≡ part ++ rest))
  pub ends : (says_of_strings EndsWith text part ≡ Some true) ↔ ((front : List ℕ) × (text ≡ front ++ part))
  pub contains : (says_of_strings Contains text part ≡ Some true)
      ↔ ((front rest : List ℕ) × (text ≡ front ++ (part ++ rest)))

abbrev pub ArePartsOfConcat : Type 0
ArePartsOfConcat = (text part : List ℕ) → IsPartOfConcat text part

-- the concatenation of two texts, where it has a value
pub record IsOfConcat (s t whole : List ℕ) : Type 0 where
  pub starts : says_of_strings StartsWith whole s ≡ Some true
  pub ends : says_of_strings EndsWith whole t ≡ Some true
  pub length_of : (m n : ℤ) → func_value StringLength (Str s ∷ []) ≡ Some (Int m)
      → func_value StringLength (Str t ∷ []) ≡ Some (Int n)
      → func_value StringLength (Str whole ∷ []) ≡ Some (Int (m +ℤ n))

pub record AreConcatsExact : Type 0 where
  pub values : (texts : List (List ℕ)) → takes (FuncBuiltin Concat) (length texts) ≡ true
      → func_value Concat (map Str texts) ≡ option_map Str (within_limit (flat_map (λ text. text) texts))
  pub parts : (s t whole : List ℕ) → IsUtf8 s → of_strings Concat s t ≡ Some (Str whole) → IsOfConcat s t whole

-- the same of characters as of bytes
pub record IsByCharacters (text part : List ℕ) : Type 0 where
  pub starts : says_of_strings StartsWith text part ≡ Some (starts_with ◌==◌ (chars text) (chars part))
  pub ends : says_of_strings EndsWith text part ≡ Some (ends_with ◌==◌ (chars text) (chars part))
  pub contains : says_of_strings Contains text part ≡ Some (has_part (chars text) (chars part))

abbrev pub AreByCharacters : Type 0
AreByCharacters = (text part : List ℕ) → IsUtf8 text → IsUtf8 part → IsByCharacters text part

pub record AreArgumentsCounted (cs : List Const) : Type 0 where
  pub functions : (f : Func) (v : Const) → func_value f cs ≡ Some v → takes (FuncBuiltin f) (length cs) ≡ true
  pub predicates : (p : Pred) (b : Bool) → pred_value p cs ≡ Some b → takes (PredBuiltin p) (length cs) ≡ true

abbrev pub AreAllCounted : Type 0
AreAllCounted = (cs : List Const) → AreArgumentsCounted cs
