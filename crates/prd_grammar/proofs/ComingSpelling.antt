-- The leaves of a term or a formula and others behind them, as one list that is built from its end. What is built so
-- needs no law of appending; `put_.._is` says that it is the spelling, appended.
use Rattle.std.proofs.Common.{◌≡◌, List, [], ◌∷◌, ◌++◌, refl, ap, ◌∙◌, sym, append_assoc}
use Rattle.prd_grammar.specs.declared.leaf.Keyword.TheVariants.{And, Or, Exists, External, True, False}
use Rattle.prd_grammar.specs.declared.leaf.Leaf.{Leaf}
use Rattle.prd_grammar.specs.declared.leaf.Leaf.TheVariants.{Key, Int, Str, Typed, TypeName, Iri, Curie, Local, Var}
use Rattle.prd_grammar.specs.declared.leaf.Leaf.TheVariants.{Open, Close, OpenSquare, CloseSquare, Equal, Hash, Arrow}
use Rattle.prd_grammar.specs.declared.leaf.Leaf.TheVariants.{Carets}
use Rattle.prd_grammar.specs.Trees.{ConstTree, const_int, const_string, const_typed, const_iri, const_curie}
use Rattle.prd_grammar.specs.Trees.{const_local, const_true, const_false, spell_const, NameTree, const_of_name}
use Rattle.prd_grammar.specs.Trees.{spell_name, func_leaf, TermTree, constant, variable, call, TermTrees, no_terms}
use Rattle.prd_grammar.specs.Trees.{terms, spell_term, spell_terms, PairTrees, last_pair, pairs, spell_pairs, Tail}
use Rattle.prd_grammar.specs.Trees.{equals, member_of, with_pairs, spell_tail}
use Rattle.prd_grammar.specs.Trees.{Vars, one_var, more_vars, spell_vars, not_leaf, term_of_first, pred_leaf}
use Rattle.prd_grammar.specs.Trees.{FormulaTree, conj, disj, neg, some, grouped, holds, compared, atom, FormulaTrees}
use Rattle.prd_grammar.specs.Trees.{no_formulas, formulas, spell_formula, spell_formulas}

-- what is put is two parts appended, where it begins with the first and has the second behind it
pub two_put : (first second ls put rest : List Leaf) → put ≡ first ++ rest → rest ≡ second ++ ls →
    put ≡ (first ++ second) ++ ls
two_put first second ls put rest begins behind =
    begins ∙ (ap (λ r. first ++ r) behind ∙ sym (append_assoc first second ls))

-- the same where the second is a bracket
pub closed_put : (first ls put : List Leaf) (bracket : Leaf) → put ≡ first ++ bracket ∷ ls →
    put ≡ (first ++ bracket ∷ []) ++ ls
closed_put first ls put bracket begins = begins ∙ sym (append_assoc first (bracket ∷ []) ls)

-- terms

abbrev pub put_const : ConstTree → List Leaf → List Leaf
put_const (const_int z) ls = Int z ∷ ls
put_const (const_string t) ls = Str t ∷ ls
put_const (const_typed literal known) ls = Typed literal ∷ Carets ∷ TypeName known ∷ ls
put_const (const_iri t) ls = Iri t ∷ ls
put_const (const_curie t) ls = Curie t ∷ ls
put_const (const_local t) ls = Local t ∷ ls
put_const const_true ls = Key True ∷ ls
put_const const_false ls = Key False ∷ ls

put_const_is : (c : ConstTree) (ls : List Leaf) → put_const c ls ≡ spell_const c ++ ls
put_const_is (const_int z) ls = refl
put_const_is (const_string t) ls = refl
put_const_is (const_typed literal known) ls = refl
put_const_is (const_iri t) ls = refl
put_const_is (const_curie t) ls = refl
put_const_is (const_local t) ls = refl
put_const_is const_true ls = refl
put_const_is const_false ls = refl

abbrev pub put_name : NameTree → List Leaf → List Leaf
put_name n ls = put_const (const_of_name n) ls

abbrev mutual
  pub put_term : TermTree → List Leaf → List Leaf
  put_term (constant c) ls = put_const c ls
  put_term (variable v) ls = Var v ∷ ls
  put_term (call f ts) ls = Key External ∷ Open ∷ func_leaf f ∷ Open ∷ put_terms ts (Close ∷ ls)

  pub put_terms : TermTrees → List Leaf → List Leaf
  put_terms no_terms ls = Close ∷ ls
  put_terms (terms t ts) ls = put_term t (put_terms ts ls)

mutual
  pub put_term_is : (t : TermTree) (ls : List Leaf) → put_term t ls ≡ spell_term t ++ ls
  put_term_is (constant c) ls = put_const_is c ls
  put_term_is (variable v) ls = refl
  put_term_is (call f ts) ls =
      ap (λ r. Key External ∷ Open ∷ func_leaf f ∷ Open ∷ r)
      (closed_put (spell_terms ts) ls _ Close (put_terms_is ts (Close ∷ ls)))

  pub put_terms_is : (ts : TermTrees) (ls : List Leaf) → put_terms ts ls ≡ spell_terms ts ++ ls
  put_terms_is no_terms ls = refl
  put_terms_is (terms t ts) ls =
      two_put (spell_term t) (spell_terms ts) ls _ _ (put_term_is t (put_terms ts ls)) (put_terms_is ts ls)

abbrev pub put_pairs : PairTrees → List Leaf → List Leaf
put_pairs (last_pair s v) ls = put_term s (Arrow ∷ put_term v (CloseSquare ∷ ls))
put_pairs (pairs s v ps) ls = put_term s (Arrow ∷ put_term v (put_pairs ps ls))

-- a pair and what is behind it
pub put_pair_is : (s v : TermTree) (rest behind ls : List Leaf) → behind ≡ rest ++ ls →
    put_term s (Arrow ∷ put_term v behind) ≡ (spell_term s ++ Arrow ∷ (spell_term v ++ rest)) ++ ls
put_pair_is s v rest behind ls is =
    two_put (spell_term s) (Arrow ∷ (spell_term v ++ rest)) ls _ _ (put_term_is s _)
    (ap (λ r. Arrow ∷ r) (two_put (spell_term v) rest ls _ _ (put_term_is v behind) is))

pub put_pairs_is : (ps : PairTrees) (ls : List Leaf) → put_pairs ps ls ≡ spell_pairs ps ++ ls
put_pairs_is (last_pair s v) ls = put_pair_is s v (CloseSquare ∷ []) (CloseSquare ∷ ls) ls refl
put_pairs_is (pairs s v ps) ls = put_pair_is s v (spell_pairs ps) (put_pairs ps ls) ls (put_pairs_is ps ls)

-- formulas

abbrev pub put_tail : Tail → List Leaf → List Leaf
put_tail (equals t) ls = Equal ∷ put_term t ls
put_tail (member_of t) ls = Hash ∷ put_term t ls
put_tail (with_pairs ps) ls = OpenSquare ∷ put_pairs ps ls

put_tail_is : (t : Tail) (ls : List Leaf) → put_tail t ls ≡ spell_tail t ++ ls
put_tail_is (equals t) ls = ap (λ r. Equal ∷ r) (put_term_is t ls)
put_tail_is (member_of t) ls = ap (λ r. Hash ∷ r) (put_term_is t ls)
put_tail_is (with_pairs ps) ls = ap (λ r. OpenSquare ∷ r) (put_pairs_is ps ls)

abbrev pub put_vars : Vars → List Leaf → List Leaf
put_vars (one_var v) ls = Var v ∷ ls
put_vars (more_vars v vs) ls = Var v ∷ put_vars vs ls

pub put_vars_is : (vs : Vars) (ls : List Leaf) → put_vars vs ls ≡ spell_vars vs ++ ls
put_vars_is (one_var v) ls = refl
put_vars_is (more_vars v vs) ls = ap (λ r. Var v ∷ r) (put_vars_is vs ls)

abbrev mutual
  pub put_formula : FormulaTree → List Leaf → List Leaf
  put_formula (conj fs) ls = Key And ∷ Open ∷ put_formulas fs ls
  put_formula (disj fs) ls = Key Or ∷ Open ∷ put_formulas fs ls
  put_formula (neg w f) ls = not_leaf w ∷ Open ∷ put_formula f (Close ∷ ls)
  put_formula (some vs f) ls = Key Exists ∷ put_vars vs (Open ∷ put_formula f (Close ∷ ls))
  put_formula (grouped f) ls = Open ∷ put_formula f (Close ∷ ls)
  put_formula (holds p ts) ls = Key External ∷ Open ∷ pred_leaf p ∷ Open ∷ put_terms ts (Close ∷ ls)
  put_formula (compared t behind) ls = put_term (term_of_first t) (put_tail behind ls)
  put_formula (atom n ts) ls = put_name n (Open ∷ put_terms ts ls)

  pub put_formulas : FormulaTrees → List Leaf → List Leaf
  put_formulas no_formulas ls = Close ∷ ls
  put_formulas (formulas f fs) ls = put_formula f (put_formulas fs ls)

pub put_atom_is : (n : NameTree) (ts : TermTrees) (ls : List Leaf) →
    put_name n (Open ∷ put_terms ts ls) ≡ (spell_name n ++ Open ∷ spell_terms ts) ++ ls
put_atom_is n ts ls =
    two_put (spell_name n) (Open ∷ spell_terms ts) ls _ _ (put_const_is (const_of_name n) _)
    (ap (λ r. Open ∷ r) (put_terms_is ts ls))

mutual
  pub put_formula_is : (f : FormulaTree) (ls : List Leaf) → put_formula f ls ≡ spell_formula f ++ ls
  put_formula_is (conj fs) ls = ap (λ r. Key And ∷ Open ∷ r) (put_formulas_is fs ls)
  put_formula_is (disj fs) ls = ap (λ r. Key Or ∷ Open ∷ r) (put_formulas_is fs ls)
  put_formula_is (neg w f) ls =
      ap (λ r. not_leaf w ∷ Open ∷ r) (closed_put (spell_formula f) ls _ Close (put_formula_is f (Close ∷ ls)))
  put_formula_is (some vs f) ls =
      ap (λ r. Key Exists ∷ r)
      (two_put (spell_vars vs) (Open ∷ (spell_formula f ++ Close ∷ [])) ls _ _ (put_vars_is vs _)
      (ap (λ r. Open ∷ r) (closed_put (spell_formula f) ls _ Close (put_formula_is f (Close ∷ ls)))))
  put_formula_is (grouped f) ls =
      ap (λ r. Open ∷ r) (closed_put (spell_formula f) ls _ Close (put_formula_is f (Close ∷ ls)))
  put_formula_is (holds p ts) ls =
      ap (λ r. Key External ∷ Open ∷ pred_leaf p ∷ Open ∷ r)
      (closed_put (spell_terms ts) ls _ Close (put_terms_is ts (Close ∷ ls)))
  put_formula_is (compared t behind) ls =
      two_put (spell_term (term_of_first t)) (spell_tail behind) ls _ _ (put_term_is (term_of_first t) _)
      (put_tail_is behind ls)
  put_formula_is (atom n ts) ls = put_atom_is n ts ls

  pub put_formulas_is : (fs : FormulaTrees) (ls : List Leaf) → put_formulas fs ls ≡ spell_formulas fs ++ ls
  put_formulas_is no_formulas ls = refl
  put_formulas_is (formulas f fs) ls =
      two_put (spell_formula f) (spell_formulas fs) ls _ _ (put_formula_is f _) (put_formulas_is fs ls)
