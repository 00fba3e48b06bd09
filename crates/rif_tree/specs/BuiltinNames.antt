-- The names of built-ins, and how many arguments they take.
--     func_name f, pred_name p     a built-in's local name: what stands behind the namespace
--     func_named name              the function of a local name, where there is one; pred_named alike
--     builtin_iri b                the IRI that names a built-in: its namespace, and its local name behind it
--     builtin_named iri            the built-in that an IRI names, where there is one
--     arity_of b                   the least and the greatest number of arguments
--     takes b n                    whether a built-in takes so many arguments
-- Source: RIF-DTB, "List of RIF Built-in Predicates and Functions"; the name of `NumericIntegerMod` and the numbers
-- of arguments are our own (docs/FORMATS.md, "Built-ins").
use Rattle.std.specs.Prelude.{ℕ, ◌&&◌, nat_le, Bool, if◌then◌else◌, List, [], ◌∷◌, ◌++◌, drop, take, length, codes}
use Rattle.std.specs.Prelude.{bytes_eq, None}
use Rattle.std.specs.List.{find}
use Rattle.std.specs.Option.{option_map}
use Rattle.std.specs.declared.option.Option.{Option}
use Rattle.rif_tree.specs.declared.builtin.Arity.{Arity}
use Rattle.rif_tree.specs.declared.builtin.Builtin.{Builtin}
use Rattle.rif_tree.specs.declared.builtin.Builtin.TheVariants.{Func as FuncBuiltin, Pred as PredBuiltin}
use Rattle.rif_tree.specs.declared.builtin.Func.{Func}
use Rattle.rif_tree.specs.declared.builtin.Func.TheVariants.{NumericAdd, NumericSubtract, NumericMultiply}
use Rattle.rif_tree.specs.declared.builtin.Func.TheVariants.{NumericIntegerDivide, NumericIntegerMod, Not, Concat}
use Rattle.rif_tree.specs.declared.builtin.Func.TheVariants.{StringLength}
use Rattle.rif_tree.specs.declared.builtin.Pred.{Pred}
use Rattle.rif_tree.specs.declared.builtin.Pred.TheVariants.{NumericEqual, NumericNotEqual, NumericLessThan}
use Rattle.rif_tree.specs.declared.builtin.Pred.TheVariants.{NumericLessThanOrEqual, NumericGreaterThan}
use Rattle.rif_tree.specs.declared.builtin.Pred.TheVariants.{NumericGreaterThanOrEqual, BooleanEqual}
use Rattle.rif_tree.specs.declared.builtin.Pred.TheVariants.{BooleanLessThan, BooleanGreaterThan, StartsWith}
use Rattle.rif_tree.specs.declared.builtin.Pred.TheVariants.{EndsWith, Contains, IsLiteralInteger, IsLiteralString}
use Rattle.rif_tree.specs.declared.builtin.Pred.TheVariants.{IsLiteralBoolean}

abbrev pub func_namespace : List ℕ
func_namespace = codes "http://www.w3.org/2007/rif-builtin-function#"

abbrev pub pred_namespace : List ℕ
pred_namespace = codes "http://www.w3.org/2007/rif-builtin-predicate#"

abbrev pub func_name : Func → List ℕ
func_name NumericAdd = codes "numeric-add"
func_name NumericSubtract = codes "numeric-subtract"
func_name NumericMultiply = codes "numeric-multiply"
func_name NumericIntegerDivide = codes "numeric-integer-divide"
func_name NumericIntegerMod = codes "numeric-integer-mod"
func_name Not = codes "not"
func_name Concat = codes "concat"
func_name StringLength = codes "string-length"

abbrev pub pred_name : Pred → List ℕ
pred_name NumericEqual = codes "numeric-equal"
pred_name NumericNotEqual = codes "numeric-not-equal"
pred_name NumericLessThan = codes "numeric-less-than"
pred_name NumericLessThanOrEqual = codes "numeric-less-than-or-equal"
pred_name NumericGreaterThan = codes "numeric-greater-than"
pred_name NumericGreaterThanOrEqual = codes "numeric-greater-than-or-equal"
pred_name BooleanEqual = codes "boolean-equal"
pred_name BooleanLessThan = codes "boolean-less-than"
pred_name BooleanGreaterThan = codes "boolean-greater-than"
pred_name StartsWith = codes "starts-with"
pred_name EndsWith = codes "ends-with"
pred_name Contains = codes "contains"
pred_name IsLiteralInteger = codes "is-literal-integer"
pred_name IsLiteralString = codes "is-literal-string"
pred_name IsLiteralBoolean = codes "is-literal-boolean"

abbrev pub funcs : List Func
funcs =
    NumericAdd ∷ NumericSubtract ∷ NumericMultiply ∷ NumericIntegerDivide ∷ NumericIntegerMod ∷ Not ∷ Concat
    ∷ StringLength ∷ []

abbrev pub preds : List Pred
preds =
    NumericEqual ∷ NumericNotEqual ∷ NumericLessThan ∷ NumericLessThanOrEqual ∷ NumericGreaterThan
    ∷ NumericGreaterThanOrEqual ∷ BooleanEqual ∷ BooleanLessThan ∷ BooleanGreaterThan ∷ StartsWith ∷ EndsWith
    ∷ Contains ∷ IsLiteralInteger ∷ IsLiteralString ∷ IsLiteralBoolean ∷ []

abbrev pub func_named : List ℕ → Option Func
func_named name = find (λ f. bytes_eq name (func_name f)) funcs

abbrev pub pred_named : List ℕ → Option Pred
pred_named name = find (λ p. bytes_eq name (pred_name p)) preds

abbrev pub builtin_iri : Builtin → List ℕ
builtin_iri (FuncBuiltin f) = func_namespace ++ func_name f
builtin_iri (PredBuiltin p) = pred_namespace ++ pred_name p

abbrev pub is_in_namespace : List ℕ → List ℕ → Bool
is_in_namespace namespace iri = bytes_eq (take (length namespace) iri) namespace

abbrev pub builtin_named : List ℕ → Option Builtin
builtin_named iri =
    if is_in_namespace func_namespace iri then option_map FuncBuiltin (func_named (drop (length func_namespace) iri))
    else (if is_in_namespace pred_namespace iri
    then option_map PredBuiltin (pred_named (drop (length pred_namespace) iri))
    else None)

abbrev pub exactly : ℕ → Arity
exactly n = record { least = n; most = n }

abbrev pub func_arity : Func → Arity
func_arity NumericAdd = exactly 2
func_arity NumericSubtract = exactly 2
func_arity NumericMultiply = exactly 2
func_arity NumericIntegerDivide = exactly 2
func_arity NumericIntegerMod = exactly 2
func_arity Not = exactly 1
func_arity Concat = record { least = 2; most = 16 }
func_arity StringLength = exactly 1

abbrev pub pred_arity : Pred → Arity
pred_arity NumericEqual = exactly 2
pred_arity NumericNotEqual = exactly 2
pred_arity NumericLessThan = exactly 2
pred_arity NumericLessThanOrEqual = exactly 2
pred_arity NumericGreaterThan = exactly 2
pred_arity NumericGreaterThanOrEqual = exactly 2
pred_arity BooleanEqual = exactly 2
pred_arity BooleanLessThan = exactly 2
pred_arity BooleanGreaterThan = exactly 2
pred_arity StartsWith = exactly 2
pred_arity EndsWith = exactly 2
pred_arity Contains = exactly 2
pred_arity IsLiteralInteger = exactly 1
pred_arity IsLiteralString = exactly 1
pred_arity IsLiteralBoolean = exactly 1

abbrev pub arity_of : Builtin → Arity
arity_of (FuncBuiltin f) = func_arity f
arity_of (PredBuiltin p) = pred_arity p

abbrev pub takes : Builtin → ℕ → Bool
takes b n = nat_le (arity_of b).least n && nat_le n (arity_of b).most
