-- What each leaf begins where a formula, formulas or the rest of one has to come.
use Rattle.std.proofs.Common.{◌≡◌, ℕ, List, [], ◌∷◌, refl, ap}
use Rattle.prd_grammar.specs.declared.leaf.Keyword.TheVariants.{And, Or, Not, INeg, Exists, External, True, False}
use Rattle.prd_grammar.specs.declared.leaf.Builtin.TheVariants.{Func as FuncBuiltin, Pred as PredBuiltin}
use Rattle.prd_grammar.specs.declared.leaf.BuiltinName.TheVariants.{Known, Unknown, Undeclared}
use Rattle.prd_grammar.specs.declared.leaf.Literal.TheVariants.{Iri as IriLiteral, Local as LocalLiteral}
use Rattle.prd_grammar.specs.declared.leaf.Leaf.{Leaf}
use Rattle.prd_grammar.specs.declared.leaf.Leaf.TheVariants.{Key, Int, Str, Typed, Iri, Curie, Builtin, Local, Var}
use Rattle.prd_grammar.specs.declared.leaf.Leaf.TheVariants.{Open as OpenLeaf, Close as CloseLeaf}
use Rattle.prd_grammar.specs.declared.leaf.Leaf.TheVariants.{OpenSquare as OpenSquareLeaf, Equal, Hash}
use Rattle.prd_recognition.specs.declared.want.Want.TheVariants.{Formula, Formulas, ExistsRest, BuiltinOfFormula}
use Rattle.prd_recognition.specs.declared.want.Want.TheVariants.{Tail}
use Rattle.prd_recognition.specs.declared.want.Want.TheVariants.{AfterName}
use Rattle.prd_recognition.specs.Following.{next, formula_next, builtin_next, tail_next}
use Rattle.prd_grammar.specs.Trees.{const_int, const_string, const_typed, const_true, const_false, NameTree}
use Rattle.prd_grammar.specs.Trees.{const_of_name, name_iri, name_curie, name_local, name_typed_iri, name_typed_local}
use Rattle.prd_grammar.specs.Trees.{equals, member_of, with_pairs, Vars, one_var, more_vars, spelled_not}
use Rattle.prd_grammar.specs.Trees.{spelled_ineg}
use Rattle.prd_grammar.specs.Trees.{first_constant, first_variable, first_call, pred_known, pred_unknown}
use Rattle.prd_grammar.specs.Trees.{pred_undeclared, FormulaTree, conj, disj, neg, some, grouped, holds, compared}
use Rattle.prd_grammar.specs.Trees.{atom, no_formulas, formulas}
use Rattle.prd_grammar.proofs.CallerLemmas.{put_name, put_vars, put_formula}
use Rattle.prd_recognition.proofs.ComingPieces.{NameLeft, atom_left, tail_left, put_name_left, BuiltinLeft, pred_left}
use Rattle.prd_recognition.proofs.ComingPieces.{func_left, put_builtin_left, VarsLeft, no_vars, some_vars}
use Rattle.prd_recognition.proofs.ComingPieces.{put_vars_left}
use Rattle.prd_recognition.proofs.ComingPieces.{ExistsLeft, exists_left, put_exists_left, Builds, Joins, JoinsName}
use Rattle.prd_recognition.proofs.ComingPieces.{with_others, as_other}
use Rattle.prd_recognition.proofs.ComingTermLemmas.{one_more_pair, put_one_more_pair}

-- the rest behind a first term

pub tail_begins : (l : Leaf) → Builds (tail_next l) Tail l
tail_begins Equal = λ ws xs. (equals xs.0, xs.1, refl)
tail_begins Hash = λ ws xs. (member_of xs.0, xs.1, refl)
tail_begins OpenSquareLeaf = λ ws xs.
    let value = xs.1.1 in let left = value.1 in (
      with_pairs (one_more_pair xs.0 value.0 left.0),
      left.1,
      ap (λ r. OpenSquareLeaf ∷ r) (put_one_more_pair xs.0 value.0 left.0 _),
    )
tail_begins _ = tt

join_tail : Joins Tail [] AfterName
join_tail t ws xs = (tail_left t, xs, refl)

pub after_name_begins : (l : Leaf) → Builds (next AfterName l) AfterName l
after_name_begins OpenLeaf = λ ws xs. (atom_left xs.0, xs.1, refl)
after_name_begins l = as_other (tail_next l) Tail AfterName l (tail_begins l) join_tail

pub builtin_begins : (l : Leaf) → Builds (builtin_next l) BuiltinOfFormula l
builtin_begins (Builtin (Known (FuncBuiltin f))) = λ ws xs.
    let args = xs.1 in let behind = args.1.1 in (func_left f args.0 behind.0, behind.1, refl)
builtin_begins (Builtin (Known (PredBuiltin p))) = λ ws xs. (pred_left (pred_known p) xs.1.0, xs.1.1.1, refl)
builtin_begins (Builtin Unknown) = λ ws xs. (pred_left pred_unknown xs.1.0, xs.1.1.1, refl)
builtin_begins (Builtin Undeclared) = λ ws xs. (pred_left pred_undeclared xs.1.0, xs.1.1.1, refl)
builtin_begins _ = tt

-- variables, and the formula behind them

abbrev pub all_vars : List ℕ → VarsLeft → Vars
all_vars v no_vars = one_var v
all_vars v (some_vars vs) = more_vars v vs

pub put_all_vars : (v : List ℕ) (vs : VarsLeft) (ls : List Leaf) →
    put_vars (all_vars v vs) ls ≡ Var v ∷ put_vars_left vs ls
put_all_vars v no_vars ls = refl
put_all_vars v (some_vars vs) ls = refl

abbrev one_more_exists : List ℕ → ExistsLeft → ExistsLeft
one_more_exists v (exists_left vs f) = exists_left (some_vars (all_vars v vs)) f

put_one_more_exists : (v : List ℕ) (x : ExistsLeft) (ls : List Leaf) →
    put_exists_left (one_more_exists v x) ls ≡ Var v ∷ put_exists_left x ls
put_one_more_exists v (exists_left vs f) ls = put_all_vars v vs _

pub exists_begins : (l : Leaf) → Builds (next ExistsRest l) ExistsRest l
exists_begins (Var v) = λ ws xs. (one_more_exists v xs.0, xs.1, put_one_more_exists v xs.0 _)
exists_begins OpenLeaf = λ ws xs. (exists_left no_vars xs.0, xs.1.1, refl)
exists_begins _ = tt

abbrev exists_formula : List ℕ → ExistsLeft → FormulaTree
exists_formula v (exists_left vs f) = some (all_vars v vs) f

put_exists_formula : (v : List ℕ) (x : ExistsLeft) (ls : List Leaf) →
    put_formula (exists_formula v x) ls ≡ Key Exists ∷ Var v ∷ put_exists_left x ls
put_exists_formula v (exists_left vs f) ls = ap (λ r. Key Exists ∷ r) (put_all_vars v vs _)

-- formulas

abbrev builtin_formula : BuiltinLeft → FormulaTree
builtin_formula (pred_left p ts) = holds p ts
builtin_formula (func_left f ts behind) = compared (first_call f ts) behind

put_builtin_formula : (x : BuiltinLeft) (ls : List Leaf) →
    put_formula (builtin_formula x) ls ≡ Key External ∷ OpenLeaf ∷ put_builtin_left x ls
put_builtin_formula (pred_left p ts) ls = refl
put_builtin_formula (func_left f ts behind) ls = refl

abbrev name_formula : NameTree → NameLeft → FormulaTree
name_formula n (atom_left ts) = atom n ts
name_formula n (tail_left behind) = compared (first_constant (const_of_name n)) behind

put_name_formula : (n : NameTree) (x : NameLeft) (ls : List Leaf) →
    put_formula (name_formula n x) ls ≡ put_name n (put_name_left x ls)
put_name_formula n (atom_left ts) ls = refl
put_name_formula n (tail_left behind) ls = refl

join_name : JoinsName AfterName Formula
join_name n ws xs = (name_formula n xs.0, xs.1, put_name_formula n xs.0 _)

pub formula_begins : (l : Leaf) → Builds (formula_next l) Formula l
formula_begins (Key And) = λ ws xs. (conj xs.1.0, xs.1.1, refl)
formula_begins (Key Or) = λ ws xs. (disj xs.1.0, xs.1.1, refl)
formula_begins (Key Not) = λ ws xs. (neg spelled_not xs.1.0, xs.1.1.1, refl)
formula_begins (Key INeg) = λ ws xs. (neg spelled_ineg xs.1.0, xs.1.1.1, refl)
formula_begins (Key Exists) = λ ws xs. (exists_formula xs.0 xs.1.0, xs.1.1, put_exists_formula xs.0 xs.1.0 _)
formula_begins (Key External) = λ ws xs. (builtin_formula xs.1.0, xs.1.1, put_builtin_formula xs.1.0 _)
formula_begins (Key True) = λ ws xs. (compared (first_constant const_true) xs.0, xs.1, refl)
formula_begins (Key False) = λ ws xs. (compared (first_constant const_false) xs.0, xs.1, refl)
formula_begins OpenLeaf = λ ws xs. (grouped xs.0, xs.1.1, refl)
formula_begins (Int z) = λ ws xs. (compared (first_constant (const_int z)) xs.0, xs.1, refl)
formula_begins (Str t) = λ ws xs. (compared (first_constant (const_string t)) xs.0, xs.1, refl)
formula_begins (Var v) = λ ws xs. (compared (first_variable v) xs.0, xs.1, refl)
formula_begins (Iri t) = λ ws xs. join_name (name_iri t) ws xs
formula_begins (Curie t) = λ ws xs. join_name (name_curie t) ws xs
formula_begins (Local t) = λ ws xs. join_name (name_local t) ws xs
formula_begins (Typed (IriLiteral t)) = λ ws xs. join_name (name_typed_iri t xs.1.0) ws xs.1.1
formula_begins (Typed (LocalLiteral t)) = λ ws xs. join_name (name_typed_local t xs.1.0) ws xs.1.1
formula_begins (Typed literal) = λ ws xs.
    let behind = xs.1.1 in (compared (first_constant (const_typed literal xs.1.0)) behind.0, behind.1, refl)
formula_begins _ = tt

join_formulas : Joins Formula (Formulas ∷ []) Formulas
join_formulas f ws xs = (formulas f xs.0, xs.1, refl)

pub formulas_begin : (l : Leaf) → Builds (next Formulas l) Formulas l
formulas_begin CloseLeaf = λ ws xs. (no_formulas, xs, refl)
formulas_begin l = with_others (formula_next l) (Formulas ∷ []) Formula Formulas l (formula_begins l) join_formulas
