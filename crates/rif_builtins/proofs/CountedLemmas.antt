-- A built-in has a value only where it takes so many arguments.
use Rattle.std.proofs.Common.{◌≡◌, Bool, true, false, List, [], ◌∷◌, length, Option, None, Some, refl, ap}
use Rattle.std.proofs.Common.{cond}
use Rattle.std.specs.Option.{option_map, option_and_then}
use Rattle.rif_values.specs.declared.constant.Const.{Const}
use Rattle.rif_values.specs.declared.constant.Const.TheVariants.{Str}
use Rattle.rif_tree.specs.BuiltinNames.{takes}
use Rattle.rif_tree.specs.declared.builtin.Builtin.TheVariants.{Func as FuncBuiltin, Pred as PredBuiltin}
use Rattle.rif_tree.specs.declared.builtin.Func.{Func}
use Rattle.rif_tree.specs.declared.builtin.Func.TheVariants.{NumericAdd, NumericSubtract, NumericMultiply}
use Rattle.rif_tree.specs.declared.builtin.Func.TheVariants.{NumericIntegerDivide, NumericIntegerMod, Not, Concat}
use Rattle.rif_tree.specs.declared.builtin.Func.TheVariants.{StringLength}
use Rattle.rif_tree.specs.declared.builtin.Pred.{Pred}
use Rattle.rif_tree.specs.declared.builtin.Pred.TheVariants.{NumericEqual, NumericNotEqual, NumericLessThan}
use Rattle.rif_tree.specs.declared.builtin.Pred.TheVariants.{NumericLessThanOrEqual, NumericGreaterThan}
use Rattle.rif_tree.specs.declared.builtin.Pred.TheVariants.{NumericGreaterThanOrEqual, BooleanEqual}
use Rattle.rif_tree.specs.declared.builtin.Pred.TheVariants.{BooleanLessThan, BooleanGreaterThan, StartsWith}
use Rattle.rif_tree.specs.declared.builtin.Pred.TheVariants.{EndsWith, Contains, IsLiteralInteger, IsLiteralString}
use Rattle.rif_tree.specs.declared.builtin.Pred.TheVariants.{IsLiteralBoolean}
use Rattle.rif_builtins.specs.Builtins.{func_value, pred_value, concat_of, one_of, two_of}
use Rattle.rif_builtins.specs.BuiltinLaws.{AreAllCounted}

one_counted : {V W : Type 0} (kind : Const → Option V) (g : V → Option W) (cs : List Const) (w : W)
    → option_and_then g (one_of kind cs) ≡ Some w → length cs ≡ 1
one_counted kind g [] w is = cc
one_counted kind g (c ∷ []) w is = refl
one_counted kind g (c ∷ d ∷ cs) w is = cc

two_counted : {V W : Type 0} (kind : Const → Option V) (g : V × V → Option W) (cs : List Const) (w : W)
    → option_and_then g (two_of kind cs) ≡ Some w → length cs ≡ 2
two_counted kind g [] w is = cc
two_counted kind g (c ∷ []) w is = cc
two_counted kind g (c ∷ d ∷ []) w is = refl
two_counted kind g (c ∷ d ∷ e ∷ cs) w is = cc

one_tested : {V : Type 0} (kind : Const → Option V) (test : V → Bool) (cs : List Const) (b : Bool)
    → option_map test (one_of kind cs) ≡ Some b → length cs ≡ 1
one_tested kind test [] b is = cc
one_tested kind test (c ∷ []) b is = refl
one_tested kind test (c ∷ d ∷ cs) b is = cc

two_tested : {V : Type 0} (kind : Const → Option V) (test : V × V → Bool) (cs : List Const) (b : Bool)
    → option_map test (two_of kind cs) ≡ Some b → length cs ≡ 2
two_tested kind test [] b is = cc
two_tested kind test (c ∷ []) b is = cc
two_tested kind test (c ∷ d ∷ []) b is = refl
two_tested kind test (c ∷ d ∷ e ∷ cs) b is = cc

concat_counted : (cs : List Const) (v : Const) → func_value Concat cs ≡ Some v
    → takes (FuncBuiltin Concat) (length cs) ≡ true
concat_counted cs v =
    elim (takes (FuncBuiltin Concat) (length cs)) as (λ b. cond b (option_map Str (concat_of cs)) None ≡ Some v
    → b ≡ true) [
      | true ↦ λ _. refl
      | false ↦ λ is. cc
    ]

func_counted : (cs : List Const) (f : Func) (v : Const) → func_value f cs ≡ Some v
    → takes (FuncBuiltin f) (length cs) ≡ true
func_counted cs NumericAdd v is = ap (takes (FuncBuiltin NumericAdd)) (two_counted _ _ cs v is)
func_counted cs NumericSubtract v is = ap (takes (FuncBuiltin NumericSubtract)) (two_counted _ _ cs v is)
func_counted cs NumericMultiply v is = ap (takes (FuncBuiltin NumericMultiply)) (two_counted _ _ cs v is)
func_counted cs NumericIntegerDivide v is = ap (takes (FuncBuiltin NumericIntegerDivide)) (two_counted _ _ cs v is)
func_counted cs NumericIntegerMod v is = ap (takes (FuncBuiltin NumericIntegerMod)) (two_counted _ _ cs v is)
func_counted cs Not v is = ap (takes (FuncBuiltin Not)) (one_counted _ _ cs v is)
func_counted cs Concat v is = concat_counted cs v is
func_counted cs StringLength v is = ap (takes (FuncBuiltin StringLength)) (one_counted _ _ cs v is)

pred_counted : (cs : List Const) (p : Pred) (b : Bool) → pred_value p cs ≡ Some b
    → takes (PredBuiltin p) (length cs) ≡ true
pred_counted cs NumericEqual b is = ap (takes (PredBuiltin NumericEqual)) (two_tested _ _ cs b is)
pred_counted cs NumericNotEqual b is = ap (takes (PredBuiltin NumericNotEqual)) (two_tested _ _ cs b is)
pred_counted cs NumericLessThan b is = ap (takes (PredBuiltin NumericLessThan)) (two_tested _ _ cs b is)
pred_counted cs NumericLessThanOrEqual b is = ap (takes (PredBuiltin NumericLessThanOrEqual)) (two_tested _ _ cs b is)
pred_counted cs NumericGreaterThan b is = ap (takes (PredBuiltin NumericGreaterThan)) (two_tested _ _ cs b is)
pred_counted cs NumericGreaterThanOrEqual b is =
    ap (takes (PredBuiltin NumericGreaterThanOrEqual)) (two_tested _ _ cs b is)
pred_counted cs BooleanEqual b is = ap (takes (PredBuiltin BooleanEqual)) (two_tested _ _ cs b is)
pred_counted cs BooleanLessThan b is = ap (takes (PredBuiltin BooleanLessThan)) (two_tested _ _ cs b is)
pred_counted cs BooleanGreaterThan b is = ap (takes (PredBuiltin BooleanGreaterThan)) (two_tested _ _ cs b is)
pred_counted cs StartsWith b is = ap (takes (PredBuiltin StartsWith)) (two_tested _ _ cs b is)
pred_counted cs EndsWith b is = ap (takes (PredBuiltin EndsWith)) (two_tested _ _ cs b is)
pred_counted cs Contains b is = ap (takes (PredBuiltin Contains)) (two_tested _ _ cs b is)
pred_counted cs IsLiteralInteger b is = ap (takes (PredBuiltin IsLiteralInteger)) (one_tested _ _ cs b is)
pred_counted cs IsLiteralString b is = ap (takes (PredBuiltin IsLiteralString)) (one_tested _ _ cs b is)
pred_counted cs IsLiteralBoolean b is = ap (takes (PredBuiltin IsLiteralBoolean)) (one_tested _ _ cs b is)

pub all_counted : AreAllCounted
all_counted cs = record {
  functions = λ f v is. func_counted cs f v is;
  predicates = λ p b is. pred_counted cs p b is;
}
