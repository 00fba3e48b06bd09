-- Formulas that are spelled are built to their values.
use Rattle.std.proofs.Common.{◌≡◌, ℕ, ◌≤◌, zero, suc, false, List, [], ◌∷◌, ◌++◌, length, length-append, Some, refl}
use Rattle.std.proofs.Common.{ap, ◌∙◌, append_assoc, arith, drop}
use Rattle.rif_tree.specs.declared.tree.Term.{Term}
use Rattle.rif_tree.specs.declared.tree.Formula.TheVariants.{And, Or, Not, Exists, Equal, Member, Frame, Atom, Holds}
use Rattle.prd_grammar.specs.declared.leaf.Leaf.{Leaf}
use Rattle.prd_grammar.specs.declared.leaf.Leaf.TheVariants.{Open, Close}
use Rattle.prd_building.specs.declared.signs.FormulaSign.TheVariants.{Term as FirstSign}
use Rattle.prd_grammar.specs.Trees.{ConstTree, const_int, const_string, const_typed, const_iri, const_curie}
use Rattle.prd_grammar.specs.Trees.{const_local, const_true, const_false, spell_const, NameTree, name_iri, name_curie}
use Rattle.prd_grammar.specs.Trees.{name_local, name_typed_iri, name_typed_local, spell_name, TermTrees, spell_term}
use Rattle.prd_grammar.specs.Trees.{spell_terms, Vars, one_var, more_vars, spell_vars, Tail, equals, member_of}
use Rattle.prd_grammar.specs.Trees.{with_pairs, spell_tail, NotWord, spelled_not, spelled_ineg, FirstTerm}
use Rattle.prd_grammar.specs.Trees.{first_constant, first_variable, first_call, term_of_first, PredTree, pred_known}
use Rattle.prd_grammar.specs.Trees.{pred_unknown, pred_undeclared, FormulaTree, conj, disj, neg, some, grouped, holds}
use Rattle.prd_grammar.specs.Trees.{compared, atom, FormulaTrees, no_formulas, formulas, spell_formula}
use Rattle.prd_grammar.specs.Trees.{spell_formulas}
use Rattle.prd_grammar.specs.Values.{name_value, pred_value, term_value, tail_value, vars_value, formula_value}
use Rattle.prd_grammar.specs.Values.{formulas_value}
use Rattle.prd_building.specs.Signs.{closes, formula_sign}
use Rattle.prd_building.specs.Building.{Names, after, items_at, terms_at, vars_at, compared_at, compared_from}
use Rattle.prd_building.specs.Building.{existing}
use Rattle.prd_building.specs.Building.{formula_at}
use Rattle.prd_building.proofs.BuildingTermLemmas.{items_more, term_built, terms_built, pairs_built, vars_built}
use Rattle.prd_building.proofs.BuildingTermLemmas.{term_some}

pub tail_built : (names : Names) (t : Term) (tail : Tail) (n : ℕ) (rest : List Leaf) → length (spell_tail tail) ≤ n →
    compared_at names n t (spell_tail tail ++ rest) ≡ Some (tail_value names t tail, rest)
tail_built names t (equals u) n rest h =
    ap (λ r. after r (λ v more. Some (Equal t v, more))) (term_built names u n rest (omega arith))
tail_built names t (member_of u) n rest h =
    ap (λ r. after r (λ v more. Some (Member t v, more))) (term_built names u n rest (omega arith))
tail_built names t (with_pairs ps) n rest h =
    ap (λ r. after r (λ slots more. Some (Frame t slots, drop 1 more)))
    (pairs_built names ps n n rest (omega arith) (omega arith))

-- a formula's first term is no name with arguments, whatever its tail is
const_sign : (c : ConstTree) (tail : Tail) (rest : List Leaf) →
    formula_sign (spell_const c ++ (spell_tail tail ++ rest)) ≡ FirstSign
const_sign (const_int z) (equals u) rest = refl
const_sign (const_int z) (member_of u) rest = refl
const_sign (const_int z) (with_pairs ps) rest = refl
const_sign (const_string s) (equals u) rest = refl
const_sign (const_string s) (member_of u) rest = refl
const_sign (const_string s) (with_pairs ps) rest = refl
const_sign (const_typed l known) (equals u) rest = refl
const_sign (const_typed l known) (member_of u) rest = refl
const_sign (const_typed l known) (with_pairs ps) rest = refl
const_sign (const_iri s) (equals u) rest = refl
const_sign (const_iri s) (member_of u) rest = refl
const_sign (const_iri s) (with_pairs ps) rest = refl
const_sign (const_curie s) (equals u) rest = refl
const_sign (const_curie s) (member_of u) rest = refl
const_sign (const_curie s) (with_pairs ps) rest = refl
const_sign (const_local s) (equals u) rest = refl
const_sign (const_local s) (member_of u) rest = refl
const_sign (const_local s) (with_pairs ps) rest = refl
const_sign const_true (equals u) rest = refl
const_sign const_true (member_of u) rest = refl
const_sign const_true (with_pairs ps) rest = refl
const_sign const_false (equals u) rest = refl
const_sign const_false (member_of u) rest = refl
const_sign const_false (with_pairs ps) rest = refl

first_sign : (t : FirstTerm) (tail : Tail) (rest : List Leaf) →
    formula_sign (spell_term (term_of_first t) ++ (spell_tail tail ++ rest)) ≡ FirstSign
first_sign (first_constant c) tail rest = const_sign c tail rest
first_sign (first_variable v) tail rest = refl
first_sign (first_call f ts) tail rest = refl

by_first : (names : Names) (n : ℕ) (ss : List Leaf) → formula_sign ss ≡ FirstSign →
    formula_at names (suc n) ss ≡ compared_from names n ss
by_first names n ss e = rw (e, formula_at) refl

by_name : (names : Names) (n : ℕ) (m : NameTree) (ts : TermTrees) (rest : List Leaf) →
    formula_at names (suc n) ((spell_name m ++ Open ∷ spell_terms ts) ++ rest)
    ≡ after (terms_at names n (spell_terms ts ++ rest)) (λ us more. Some (Atom (name_value m) us, drop 1 more))
by_name names n (name_iri s) ts rest = refl
by_name names n (name_curie s) ts rest = refl
by_name names n (name_local s) ts rest = refl
by_name names n (name_typed_iri s known) ts rest = refl
by_name names n (name_typed_local s known) ts rest = refl

by_pred : (names : Names) (n : ℕ) (p : PredTree) (ts : TermTrees) (rest : List Leaf) →
    formula_at names (suc n) (spell_formula (holds p ts) ++ rest)
    ≡ after (terms_at names n ((spell_terms ts ++ Close ∷ []) ++ rest))
    (λ us more. Some (Holds (pred_value p) us, drop 2 more))
by_pred names n (pred_known p) ts rest = refl
by_pred names n pred_unknown ts rest = refl
by_pred names n pred_undeclared ts rest = refl

by_not : (names : Names) (n : ℕ) (w : NotWord) (f : FormulaTree) (rest : List Leaf) →
    formula_at names (suc n) (spell_formula (neg w f) ++ rest)
    ≡ after (formula_at names n ((spell_formula f ++ Close ∷ []) ++ rest)) (λ g more. Some (Not g, drop 1 more))
by_not names n spelled_not f rest = refl
by_not names n spelled_ineg f rest = refl

-- a formula begins with no bracket that closes
pub formula_begins : (f : FormulaTree) (rest : List Leaf) → closes (spell_formula f ++ rest) ≡ false
formula_begins (conj fs) rest = refl
formula_begins (disj fs) rest = refl
formula_begins (neg spelled_not f) rest = refl
formula_begins (neg spelled_ineg f) rest = refl
formula_begins (some vs f) rest = refl
formula_begins (grouped f) rest = refl
formula_begins (holds p ts) rest = refl
formula_begins (compared (first_constant (const_int z)) tail) rest = refl
formula_begins (compared (first_constant (const_string s)) tail) rest = refl
formula_begins (compared (first_constant (const_typed l known)) tail) rest = refl
formula_begins (compared (first_constant (const_iri s)) tail) rest = refl
formula_begins (compared (first_constant (const_curie s)) tail) rest = refl
formula_begins (compared (first_constant (const_local s)) tail) rest = refl
formula_begins (compared (first_constant const_true) tail) rest = refl
formula_begins (compared (first_constant const_false) tail) rest = refl
formula_begins (compared (first_variable v) tail) rest = refl
formula_begins (compared (first_call f ts) tail) rest = refl
formula_begins (atom (name_iri s) ts) rest = refl
formula_begins (atom (name_curie s) ts) rest = refl
formula_begins (atom (name_local s) ts) rest = refl
formula_begins (atom (name_typed_iri s known) ts) rest = refl
formula_begins (atom (name_typed_local s known) ts) rest = refl

name_some : (m : NameTree) → 1 ≤ length (spell_name m)
name_some (name_iri s) = omega arith
name_some (name_curie s) = omega arith
name_some (name_local s) = omega arith
name_some (name_typed_iri s known) = omega arith
name_some (name_typed_local s known) = omega arith

pub formula_some : (f : FormulaTree) → 1 ≤ length (spell_formula f)
formula_some (conj fs) = omega arith
formula_some (disj fs) = omega arith
formula_some (neg w f) = omega arith
formula_some (some vs f) = omega arith
formula_some (grouped f) = omega arith
formula_some (holds p ts) = omega arith
formula_some (compared t tail) = let k = length-append (spell_term (term_of_first t)) (spell_tail tail) in let s =
    term_some (term_of_first t) in omega arith
formula_some (atom m ts) = let k = length-append (spell_name m) (Open ∷ spell_terms ts) in omega arith

vars_some : (vs : Vars) → 1 ≤ length (spell_vars vs)
vars_some (one_var v) = omega arith
vars_some (more_vars v vs) = omega arith

tail_some : (tail : Tail) → 1 ≤ length (spell_tail tail)
tail_some (equals u) = omega arith
tail_some (member_of u) = omega arith
tail_some (with_pairs ps) = omega arith

compared_built : (names : Names) (t : FirstTerm) (tail : Tail) (n : ℕ) (rest : List Leaf) →
    length (spell_formula (compared t tail)) ≤ suc n →
    formula_at names (suc n) (spell_formula (compared t tail) ++ rest)
    ≡ Some (formula_value names (compared t tail), rest)
compared_built names t tail n rest h =
    let k = length-append (spell_term (term_of_first t)) (spell_tail tail) in
    let s = tail_some tail in
    let u = term_some (term_of_first t) in
    ap (formula_at names (suc n)) (append_assoc (spell_term (term_of_first t)) (spell_tail tail) rest)
    ∙ (by_first names n (spell_term (term_of_first t) ++ (spell_tail tail ++ rest)) (first_sign t tail rest)
    ∙ (ap (λ r. after r (compared_at names n))
    (term_built names (term_of_first t) n (spell_tail tail ++ rest) (omega arith))
    ∙ tail_built names (term_value names (term_of_first t)) tail n rest (omega arith)))

mutual
  pub formula_built : (names : Names) (f : FormulaTree) (n : ℕ) (rest : List Leaf) → length (spell_formula f) ≤ n →
      formula_at names n (spell_formula f ++ rest) ≡ Some (formula_value names f, rest)
  formula_built names f zero rest h = absurd (omega (arith, formula_some f))
  formula_built names (conj fs) (suc n) rest h =
      ap (λ r. after r (λ all more. Some (And all, drop 1 more)))
      (formulas_built names fs n n rest (omega arith) (omega arith))
  formula_built names (disj fs) (suc n) rest h =
      ap (λ r. after r (λ all more. Some (Or all, drop 1 more)))
      (formulas_built names fs n n rest (omega arith) (omega arith))
  formula_built names (neg w f) (suc n) rest h =
      let k = length-append (spell_formula f) (Close ∷ []) in
      by_not names n w f rest ∙ ap (λ r. after r (λ g more. Some (Not g, drop 1 more)))
      (ap (formula_at names n) (append_assoc (spell_formula f) (Close ∷ []) rest)
      ∙ formula_built names f n (Close ∷ rest) (omega arith))
  formula_built names (some vs f) (suc n) rest h =
      let k = length-append (spell_formula f) (Close ∷ []) in
      let l = length-append (spell_vars vs) (Open ∷ (spell_formula f ++ Close ∷ [])) in
      ap (λ x. existing (formula_at names n) (vars_at names n x))
      (append_assoc (spell_vars vs) (Open ∷ (spell_formula f ++ Close ∷ [])) rest)
      ∙ (ap (existing (formula_at names n))
      (vars_built names vs n (Open ∷ ((spell_formula f ++ Close ∷ []) ++ rest)) (omega arith) refl)
      ∙ ap (λ r. after r (λ g more. Some (Exists (vars_value names vs) g, drop 1 more)))
      (ap (formula_at names n) (append_assoc (spell_formula f) (Close ∷ []) rest)
      ∙ formula_built names f n (Close ∷ rest) (omega arith)))
  formula_built names (grouped f) (suc n) rest h =
      let k = length-append (spell_formula f) (Close ∷ []) in
      ap (λ r. after r (λ g more. Some (g, drop 1 more)))
      (ap (formula_at names n) (append_assoc (spell_formula f) (Close ∷ []) rest)
      ∙ formula_built names f n (Close ∷ rest) (omega arith))
  formula_built names (holds p ts) (suc n) rest h =
      let k = length-append (spell_terms ts) (Close ∷ []) in
      by_pred names n p ts rest ∙ ap (λ r. after r (λ us more. Some (Holds (pred_value p) us, drop 2 more)))
      (ap (terms_at names n) (append_assoc (spell_terms ts) (Close ∷ []) rest)
      ∙ terms_built names ts n n (Close ∷ rest) (omega arith) (omega arith))
  formula_built names (compared t tail) (suc n) rest h = compared_built names t tail n rest h
  formula_built names (atom m ts) (suc n) rest h =
      let k = length-append (spell_name m) (Open ∷ spell_terms ts) in
      let s = name_some m in
      by_name names n m ts rest
      ∙ ap (λ r. after r (λ us more. Some (Atom (name_value m) us, drop 1 more)))
      (terms_built names ts n n rest (omega arith) (omega arith))

  -- before the bracket that closes them
  pub formulas_built : (names : Names) (fs : FormulaTrees) (n most : ℕ) (rest : List Leaf) →
      length (spell_formulas fs) ≤ n → length (spell_formulas fs) ≤ most →
      items_at closes (formula_at names most) n (spell_formulas fs ++ rest)
      ≡ Some (formulas_value names fs, Close ∷ rest)
  formulas_built names no_formulas zero most rest h i = absurd (omega arith)
  formulas_built names no_formulas (suc n) most rest h i = refl
  formulas_built names (formulas f fs) zero most rest h i =
      absurd (let k = length-append (spell_formula f) (spell_formulas fs) in let s = formula_some f in omega arith)
  formulas_built names (formulas f fs) (suc n) most rest h i =
      let k = length-append (spell_formula f) (spell_formulas fs) in
      let s = formula_some f in
      ap (items_at closes (formula_at names most) (suc n)) (append_assoc (spell_formula f) (spell_formulas fs) rest)
      ∙ items_more closes (formula_at names most) n (spell_formula f ++ (spell_formulas fs ++ rest))
      (spell_formulas fs ++ rest) (Close ∷ rest) (formula_value names f) (formulas_value names fs)
      (formula_begins f (spell_formulas fs ++ rest))
      (formula_built names f most (spell_formulas fs ++ rest) (omega arith))
      (formulas_built names fs n most rest (omega arith) (omega arith))
