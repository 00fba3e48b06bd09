-- Along a formula nothing but its patterns is counted.
use Rattle.std.proofs.Common.{◌≡◌, ℕ, suc, Bool, true, false, List, [], ◌∷◌, ◌++◌, refl, ap, ◌∙◌}
use Rattle.prd_grammar.specs.declared.leaf.Literal.TheVariants.{Integer, Boolean, String, Iri as IriLiteral}
use Rattle.prd_grammar.specs.declared.leaf.Literal.TheVariants.{Local as LocalLiteral, OfNoType}
use Rattle.prd_grammar.specs.declared.leaf.Leaf.{Leaf}
use Rattle.prd_grammar.specs.declared.leaf.Leaf.TheVariants.{Open, Close}
use Rattle.prd_grammar.specs.Trees.{const_int, const_string, const_typed, const_iri, const_curie, const_local}
use Rattle.prd_grammar.specs.Trees.{const_true, const_false, NameTree, name_iri, name_curie, name_local}
use Rattle.prd_grammar.specs.Trees.{name_typed_iri, name_typed_local, const_of_name, spell_const, spell_term}
use Rattle.prd_grammar.specs.Trees.{spell_terms, TermTree, constant, variable, call, Tail, equals, member_of}
use Rattle.prd_grammar.specs.Trees.{with_pairs, spell_tail, Vars, one_var, more_vars, spell_vars, spelled_not}
use Rattle.prd_grammar.specs.Trees.{spelled_ineg, term_of_first, pred_known, pred_unknown, pred_undeclared}
use Rattle.prd_grammar.specs.Trees.{FormulaTree, conj, disj, neg, some, grouped, holds, compared, atom, FormulaTrees}
use Rattle.prd_grammar.specs.Trees.{no_formulas, formulas, spell_formula, spell_formulas, SuchTrees, last_such}
use Rattle.prd_grammar.specs.Trees.{more_such, spell_such}
use Rattle.prd_limits.proofs.CountingFolds.{course, signs}
use Rattle.prd_limits.proofs.CountingTermLemmas.{apart, in_turn, const_course, const_signs, const_named, term_course}
use Rattle.prd_limits.proofs.CountingTermLemmas.{term_signs, term_named, terms_course, terms_signs, pairs_course}
use Rattle.prd_limits.proofs.CountingTermLemmas.{pairs_signs, pairs_adds}

pub tail_course : (t : Tail) (rest : List Leaf) (d a : ℕ) → course (spell_tail t ++ rest) d a ≡ course rest d a
tail_course (equals t) rest d a = term_course t rest d a
tail_course (member_of t) rest d a = term_course t rest d a
tail_course (with_pairs ps) rest d a = pairs_course ps rest (suc d) a

pub vars_course : (vs : Vars) (rest : List Leaf) (d a : ℕ) → course (spell_vars vs ++ rest) d a ≡ course rest d a
vars_course (one_var v) rest d a = refl
vars_course (more_vars v vs) rest d a = vars_course vs rest d a

mutual
  pub formula_course : (f : FormulaTree) (rest : List Leaf) (d a : ℕ) →
      course (spell_formula f ++ rest) d a ≡ course rest d a
  formula_course (conj fs) rest d a = formulas_course fs rest (suc d) a
  formula_course (disj fs) rest d a = formulas_course fs rest (suc d) a
  formula_course (neg spelled_not f) rest d a =
      apart (spell_formula f) (Close ∷ []) rest (suc d) a ∙ formula_course f (Close ∷ rest) (suc d) a
  formula_course (neg spelled_ineg f) rest d a =
      apart (spell_formula f) (Close ∷ []) rest (suc d) a ∙ formula_course f (Close ∷ rest) (suc d) a
  formula_course (some vs f) rest d a = apart (spell_vars vs) (Open ∷ (spell_formula f ++ Close ∷ [])) rest d a
      ∙ (vars_course vs _ d a
      ∙ (apart (spell_formula f) (Close ∷ []) rest (suc d) a ∙ formula_course f (Close ∷ rest) (suc d) a))
  formula_course (grouped f) rest d a =
      apart (spell_formula f) (Close ∷ []) rest (suc d) a ∙ formula_course f (Close ∷ rest) (suc d) a
  formula_course (holds (pred_known p) ts) rest d a =
      apart (spell_terms ts) (Close ∷ []) rest _ a ∙ terms_course ts (Close ∷ rest) (suc (suc d)) a
  formula_course (holds pred_unknown ts) rest d a =
      apart (spell_terms ts) (Close ∷ []) rest _ a ∙ terms_course ts (Close ∷ rest) (suc (suc d)) a
  formula_course (holds pred_undeclared ts) rest d a =
      apart (spell_terms ts) (Close ∷ []) rest _ a ∙ terms_course ts (Close ∷ rest) (suc (suc d)) a
  formula_course (compared t tail) rest d a = apart (spell_term (term_of_first t)) (spell_tail tail) rest d a
      ∙ (term_course (term_of_first t) (spell_tail tail ++ rest) d a ∙ tail_course tail rest d a)
  formula_course (atom n ts) rest d a = apart (spell_const (const_of_name n)) (Open ∷ spell_terms ts) rest d a
      ∙ (const_course (const_of_name n) _ d a ∙ terms_course ts rest (suc d) a)

  -- with the bracket behind them
  pub formulas_course : (fs : FormulaTrees) (rest : List Leaf) (d a : ℕ) →
      course (spell_formulas fs ++ rest) d a ≡ course (Close ∷ rest) d a
  formulas_course no_formulas rest d a = refl
  formulas_course (formulas f fs) rest d a = apart (spell_formula f) (spell_formulas fs) rest d a
      ∙ (formula_course f (spell_formulas fs ++ rest) d a ∙ formulas_course fs rest d a)

-- with the bracket behind them
pub such_course : (fs : SuchTrees) (rest : List Leaf) (d a : ℕ) →
    course (spell_such fs ++ rest) d a ≡ course (Open ∷ rest) d a
such_course (last_such f) rest d a =
    apart (spell_formula f) (Open ∷ []) rest d a ∙ formula_course f (Open ∷ rest) d a
such_course (more_such f fs) rest d a = apart (spell_formula f) (spell_such fs) rest d a
    ∙ (formula_course f (spell_such fs ++ rest) d a ∙ such_course fs rest d a)

-- the patterns of conditions, added to those before
abbrev pub tail_adds : Tail → ℕ → ℕ
tail_adds (equals t) n = n
tail_adds (member_of t) n = suc n
tail_adds (with_pairs ps) n = pairs_adds ps n

abbrev mutual
  pub formula_adds : FormulaTree → ℕ → ℕ
  formula_adds (conj fs) n = formulas_adds fs n
  formula_adds (disj fs) n = formulas_adds fs n
  formula_adds (neg w f) n = formula_adds f n
  formula_adds (some vs f) n = formula_adds f n
  formula_adds (grouped f) n = formula_adds f n
  formula_adds (holds p ts) n = n
  formula_adds (compared t tail) n = tail_adds tail n
  formula_adds (atom p ts) n = suc n

  pub formulas_adds : FormulaTrees → ℕ → ℕ
  formulas_adds no_formulas n = n
  formulas_adds (formulas f fs) n = formulas_adds fs (formula_adds f n)

abbrev pub such_adds : SuchTrees → ℕ → ℕ
such_adds (last_such f) n = formula_adds f n
such_adds (more_such f fs) n = such_adds fs (formula_adds f n)

-- behind a sign no term is a predicate
after_sign : (t : TermTree) → term_named true t ≡ false
after_sign (constant (const_int z)) = refl
after_sign (constant (const_string t)) = refl
after_sign (constant (const_typed (Integer z) known)) = refl
after_sign (constant (const_typed (Boolean b) known)) = refl
after_sign (constant (const_typed (String t) known)) = refl
after_sign (constant (const_typed (IriLiteral t) known)) = refl
after_sign (constant (const_typed (LocalLiteral t) known)) = refl
after_sign (constant (const_typed OfNoType known)) = refl
after_sign (constant (const_iri t)) = refl
after_sign (constant (const_curie t)) = refl
after_sign (constant (const_local t)) = refl
after_sign (constant const_true) = refl
after_sign (constant const_false) = refl
after_sign (variable v) = refl
after_sign (call f ts) = refl

sign_term : (t : TermTree) (m : Bool) (n : ℕ) (rest : List Leaf) →
    signs true m n (spell_term t ++ rest) ≡ signs false false n rest
sign_term t m n rest = term_signs t true m n rest ∙ ap (λ (named : Bool). signs false named n rest) (after_sign t)

pub tail_signs : (t : Tail) (m : Bool) (n : ℕ) (rest : List Leaf) →
    signs false m n (spell_tail t ++ rest) ≡ signs false false (tail_adds t n) rest
tail_signs (equals t) m n rest = sign_term t false n rest
tail_signs (member_of t) m n rest = sign_term t false (suc n) rest
tail_signs (with_pairs ps) m n rest = pairs_signs ps false false n rest

pub vars_signs : (vs : Vars) (s m : Bool) (n : ℕ) (rest : List Leaf) →
    signs s m n (spell_vars vs ++ rest) ≡ signs false false n rest
vars_signs (one_var v) s m n rest = refl
vars_signs (more_vars v vs) s m n rest = vars_signs vs false false n rest

-- a name that no sign stands before may be a predicate
name_named : (n : NameTree) → const_named false (const_of_name n) ≡ true
name_named (name_iri t) = refl
name_named (name_curie t) = refl
name_named (name_local t) = refl
name_named (name_typed_iri t known) = refl
name_named (name_typed_local t known) = refl

-- a formula, and the bracket behind it
closed_signs : (xs rest : List Leaf) (n m : ℕ) →
    signs false false n (xs ++ Close ∷ rest) ≡ signs false false m (Close ∷ rest) →
    signs false false n ((xs ++ Close ∷ []) ++ rest) ≡ signs false false m rest
closed_signs xs rest n m e = in_turn xs (Close ∷ []) rest false false n ∙ e

mutual
  pub formula_signs : (f : FormulaTree) (n : ℕ) (rest : List Leaf) →
      signs false false n (spell_formula f ++ rest) ≡ signs false false (formula_adds f n) rest
  formula_signs (conj fs) n rest = formulas_signs fs n rest
  formula_signs (disj fs) n rest = formulas_signs fs n rest
  formula_signs (neg spelled_not f) n rest =
      closed_signs (spell_formula f) rest n _ (formula_signs f n (Close ∷ rest))
  formula_signs (neg spelled_ineg f) n rest =
      closed_signs (spell_formula f) rest n _ (formula_signs f n (Close ∷ rest))
  formula_signs (some vs f) n rest =
      in_turn (spell_vars vs) (Open ∷ (spell_formula f ++ Close ∷ [])) rest false false n
      ∙ (vars_signs vs false false n _ ∙ closed_signs (spell_formula f) rest n _ (formula_signs f n (Close ∷ rest)))
  formula_signs (grouped f) n rest = closed_signs (spell_formula f) rest n _ (formula_signs f n (Close ∷ rest))
  formula_signs (holds (pred_known p) ts) n rest =
      closed_signs (spell_terms ts) rest n n (terms_signs ts false false n (Close ∷ rest))
  formula_signs (holds pred_unknown ts) n rest =
      closed_signs (spell_terms ts) rest n n (terms_signs ts false false n (Close ∷ rest))
  formula_signs (holds pred_undeclared ts) n rest =
      closed_signs (spell_terms ts) rest n n (terms_signs ts false false n (Close ∷ rest))
  formula_signs (compared t tail) n rest =
      in_turn (spell_term (term_of_first t)) (spell_tail tail) rest false false n
      ∙ (term_signs (term_of_first t) false false n (spell_tail tail ++ rest) ∙ tail_signs tail _ n rest)
  formula_signs (atom p ts) n rest =
      in_turn (spell_const (const_of_name p)) (Open ∷ spell_terms ts) rest false false n
      ∙ (const_signs (const_of_name p) false false n (Open ∷ (spell_terms ts ++ rest))
      ∙ (ap (λ (named : Bool). signs false named n (Open ∷ (spell_terms ts ++ rest))) (name_named p)
      ∙ terms_signs ts false false (suc n) rest))

  -- with the bracket behind them
  pub formulas_signs : (fs : FormulaTrees) (n : ℕ) (rest : List Leaf) →
      signs false false n (spell_formulas fs ++ rest) ≡ signs false false (formulas_adds fs n) rest
  formulas_signs no_formulas n rest = refl
  formulas_signs (formulas f fs) n rest = in_turn (spell_formula f) (spell_formulas fs) rest false false n
      ∙ (formula_signs f n (spell_formulas fs ++ rest) ∙ formulas_signs fs _ rest)

-- with the bracket behind them
pub such_signs : (fs : SuchTrees) (n : ℕ) (rest : List Leaf) →
    signs false false n (spell_such fs ++ rest) ≡ signs false false (such_adds fs n) rest
such_signs (last_such f) n rest = in_turn (spell_formula f) (Open ∷ []) rest false false n
    ∙ formula_signs f n (Open ∷ rest)
such_signs (more_such f fs) n rest = in_turn (spell_formula f) (spell_such fs) rest false false n
    ∙ (formula_signs f n (spell_such fs ++ rest) ∙ such_signs fs _ rest)
