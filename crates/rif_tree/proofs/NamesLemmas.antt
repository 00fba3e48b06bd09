-- What is found by its name.
use Rattle.std.proofs.Common.{◌≡◌, ◌∙◌, ◌<◌, ◌+◌, ℕ, Bool, true, false, cond, List, [], ◌∷◌, ◌++◌, length, get_or}
use Rattle.std.proofs.Common.{drop, take, take-append-drop, drop-cons, add-one, suc, Some, None, ap, ap₂, sym, refl}
use Rattle.std.proofs.Common.{subst}
use Rattle.std.specs.List.{find}
use Rattle.std.specs.Option.{option_map}
use Rattle.std.specs.Prelude.{bytes_eq}
use Rattle.std.specs.declared.option.Option.{Option}
use Rattle.std.proofs.lemmas.Slice.Eq.{bytes_eq-Decides}
use Rattle.rif_tree.specs.declared.builtin.Builtin.{Builtin}
use Rattle.rif_tree.specs.declared.builtin.Builtin.TheVariants.{Func as FuncBuiltin, Pred as PredBuiltin}
use Rattle.rif_tree.specs.declared.builtin.Func.{Func}
use Rattle.rif_tree.specs.declared.builtin.Func.TheVariants.{NumericAdd, NumericSubtract, NumericMultiply}
use Rattle.rif_tree.specs.declared.builtin.Func.TheVariants.{NumericIntegerDivide, NumericIntegerMod, Not as NotFunc}
use Rattle.rif_tree.specs.declared.builtin.Func.TheVariants.{Concat, StringLength}
use Rattle.rif_tree.specs.declared.builtin.Pred.{Pred}
use Rattle.rif_tree.specs.declared.builtin.Pred.TheVariants.{NumericEqual, NumericNotEqual, NumericLessThan}
use Rattle.rif_tree.specs.declared.builtin.Pred.TheVariants.{NumericLessThanOrEqual, NumericGreaterThan}
use Rattle.rif_tree.specs.declared.builtin.Pred.TheVariants.{NumericGreaterThanOrEqual, BooleanEqual}
use Rattle.rif_tree.specs.declared.builtin.Pred.TheVariants.{BooleanLessThan, BooleanGreaterThan, StartsWith}
use Rattle.rif_tree.specs.declared.builtin.Pred.TheVariants.{EndsWith, Contains, IsLiteralInteger, IsLiteralString}
use Rattle.rif_tree.specs.declared.builtin.Pred.TheVariants.{IsLiteralBoolean}
use Rattle.rif_tree.specs.declared.keyword.Keyword.{Keyword}
use Rattle.rif_tree.specs.declared.keyword.Keyword.TheVariants.{Document, Prefix, Group, Forall, Such, That, If, Then}
use Rattle.rif_tree.specs.declared.keyword.Keyword.TheVariants.{Do, New, Assert, Retract, Modify, And, Or}
use Rattle.rif_tree.specs.declared.keyword.Keyword.TheVariants.{Not as NotWord, INeg, Exists, External, True, False}
use Rattle.rif_tree.specs.BuiltinNames.{func_namespace, pred_namespace, func_name, pred_name, funcs, preds}
use Rattle.rif_tree.specs.BuiltinNames.{func_named, pred_named, builtin_iri, is_in_namespace, builtin_named}
use Rattle.rif_tree.specs.Keywords.{keyword_text, keywords, keyword_named}
use Rattle.rif_tree.specs.Laws.{AreFuncsNamed, ArePredsNamed, AreBuiltinsNamed, AreKeywordsNamed}

-- what fails the test is passed over
pub find_next : {X : Type 0} (p : X → Bool) → (xs : List X) (i : ℕ) (d : X) → i < length xs
    → p (get_or xs i d) ≡ false → find p (drop (i + 1) xs) ≡ find p (drop i xs)
find_next p xs i d within fails =
    ap (λ j. find p (drop j xs)) (add-one i)
    ∙ sym (ap (find p) (drop-cons xs i d within)
    ∙ ap (λ b. cond b (Some (get_or xs i d)) (find p (drop (suc i) xs))) fails)

or_else : {X : Type 0} → X → Option X → X
or_else d None = d
or_else d (Some x) = x

some_same : {X : Type 0} (x y : X) → Some x ≡ Some y → x ≡ y
unfolding or_else
some_same x y is = ap (or_else x) is

-- what is found passes the test
found_passes : {X : Type 0} (p : X → Bool) → (xs : List X) (x : X) → find p xs ≡ Some x → p x ≡ true
found_passes p [] x is = absurd (cc is)
found_passes p (y ∷ ys) x is = at (p y) refl (found_passes p ys x) is
  where
    at : (b : Bool) → p y ≡ b → (find p ys ≡ Some x → p x ≡ true) → cond b (Some y) (find p ys) ≡ Some x → p x ≡ true
    at true passes rest one = subst (λ z. p z ≡ true) (some_same y x one) passes
    at false fails rest one = rest one

-- what is found by a name has it
found_by : {X : Type 0} (name_of : X → List ℕ) → (xs : List X) (x : X) (name : List ℕ)
    → find (λ y. bytes_eq name (name_of y)) xs ≡ Some x → name ≡ name_of x
found_by name_of xs x name is =
    (bytes_eq-Decides name (name_of x)).0 (found_passes (λ y. bytes_eq name (name_of y)) xs x is)

func_back : (f : Func) → func_named (func_name f) ≡ Some f
func_back NumericAdd = refl
func_back NumericSubtract = refl
func_back NumericMultiply = refl
func_back NumericIntegerDivide = refl
func_back NumericIntegerMod = refl
func_back NotFunc = refl
func_back Concat = refl
func_back StringLength = refl

pred_back : (p : Pred) → pred_named (pred_name p) ≡ Some p
pred_back NumericEqual = refl
pred_back NumericNotEqual = refl
pred_back NumericLessThan = refl
pred_back NumericLessThanOrEqual = refl
pred_back NumericGreaterThan = refl
pred_back NumericGreaterThanOrEqual = refl
pred_back BooleanEqual = refl
pred_back BooleanLessThan = refl
pred_back BooleanGreaterThan = refl
pred_back StartsWith = refl
pred_back EndsWith = refl
pred_back Contains = refl
pred_back IsLiteralInteger = refl
pred_back IsLiteralString = refl
pred_back IsLiteralBoolean = refl

keyword_back : (k : Keyword) → keyword_named (keyword_text k) ≡ Some k
keyword_back Document = refl
keyword_back Prefix = refl
keyword_back Group = refl
keyword_back Forall = refl
keyword_back Such = refl
keyword_back That = refl
keyword_back If = refl
keyword_back Then = refl
keyword_back Do = refl
keyword_back New = refl
keyword_back Assert = refl
keyword_back Retract = refl
keyword_back Modify = refl
keyword_back And = refl
keyword_back Or = refl
keyword_back NotWord = refl
keyword_back INeg = refl
keyword_back Exists = refl
keyword_back External = refl
keyword_back True = refl
keyword_back False = refl

pub funcs_named : AreFuncsNamed
funcs_named f name = (found_by func_name funcs f name, λ is. ap func_named is ∙ func_back f)

pub preds_named : ArePredsNamed
preds_named p name = (found_by pred_name preds p name, λ is. ap pred_named is ∙ pred_back p)

pub keywords_named : AreKeywordsNamed
keywords_named k text = (found_by keyword_text keywords k text, λ is. ap keyword_named is ∙ keyword_back k)

-- ---- names in a namespace

in_namespace : (namespace iri name : List ℕ) → is_in_namespace namespace iri ≡ true
    → drop (length namespace) iri ≡ name → iri ≡ namespace ++ name
in_namespace namespace iri name inside is =
    sym (take-append-drop (length namespace) iri)
    ∙ ap₂ (λ us vs. us ++ vs) ((bytes_eq-Decides (take (length namespace) iri) namespace).0 inside) is

-- the built-in that is found by its local name, where there is one
found_as : {X : Type 0} (made : X → Builtin) (name_of : X → List ℕ) (namespace iri : List ℕ) (o : Option X)
    (b : Builtin)
    → ((x : X) → o ≡ Some x → drop (length namespace) iri ≡ name_of x)
    → ((x : X) → builtin_iri (made x) ≡ namespace ++ name_of x)
    → is_in_namespace namespace iri ≡ true → option_map made o ≡ Some b → iri ≡ builtin_iri b
found_as made name_of namespace iri None b named writes inside is = absurd (cc is)
found_as made name_of namespace iri (Some x) b named writes inside is =
    in_namespace namespace iri (name_of x) inside (named x refl) ∙ sym (writes x)
    ∙ ap builtin_iri (some_same (made x) b is)

named_iri : (b : Builtin) (iri : List ℕ) (is_func is_pred : Bool) → is_in_namespace func_namespace iri ≡ is_func
    → is_in_namespace pred_namespace iri ≡ is_pred
    → cond is_func (option_map FuncBuiltin (func_named (drop (length func_namespace) iri)))
    (cond is_pred (option_map PredBuiltin (pred_named (drop (length pred_namespace) iri))) None) ≡ Some b
    → iri ≡ builtin_iri b
named_iri b iri true is_pred inside other is =
    let name = drop (length func_namespace) iri in
    found_as FuncBuiltin func_name func_namespace iri (func_named name) b
    (λ f. found_by func_name funcs f name) (λ f. refl) inside is
named_iri b iri false true outside inside is =
    let name = drop (length pred_namespace) iri in
    found_as PredBuiltin pred_name pred_namespace iri (pred_named name) b
    (λ p. found_by pred_name preds p name) (λ p. refl) inside is
named_iri b iri false false outside other is = absurd (cc is)

builtin_back : (b : Builtin) → builtin_named (builtin_iri b) ≡ Some b
builtin_back (FuncBuiltin f) = ap (option_map FuncBuiltin) (func_back f)
builtin_back (PredBuiltin p) = ap (option_map PredBuiltin) (pred_back p)

pub builtins_named : AreBuiltinsNamed
builtins_named b iri = (
  named_iri b iri (is_in_namespace func_namespace iri) (is_in_namespace pred_namespace iri) refl refl,
  λ is. ap builtin_named is ∙ builtin_back b,
)
