-- Along a term nothing is counted.
use Rattle.std.proofs.Common.{◌≡◌, ℕ, suc, Bool, false, not, List, [], ◌∷◌, ◌++◌, refl, ap, ◌∙◌, append_assoc}
use Rattle.prd_grammar.specs.declared.leaf.Literal.TheVariants.{Integer, Boolean, String, Iri as IriLiteral}
use Rattle.prd_grammar.specs.declared.leaf.Literal.TheVariants.{Local as LocalLiteral, OfNoType}
use Rattle.prd_grammar.specs.declared.leaf.Leaf.{Leaf}
use Rattle.prd_grammar.specs.declared.leaf.Leaf.TheVariants.{Close, CloseSquare, Arrow}
use Rattle.prd_grammar.specs.Trees.{ConstTree, const_int, const_string, const_typed, const_iri, const_curie}
use Rattle.prd_grammar.specs.Trees.{const_local, const_true, const_false, spell_const, TermTree, constant, variable}
use Rattle.prd_grammar.specs.Trees.{call, func_known, func_unknown, func_undeclared, TermTrees, no_terms, terms}
use Rattle.prd_grammar.specs.Trees.{spell_term, spell_terms, PairTrees, last_pair, pairs, spell_pairs}
use Rattle.prd_limits.proofs.CountingFolds.{course, signs}

pub const_course : (c : ConstTree) (rest : List Leaf) (d a : ℕ) → course (spell_const c ++ rest) d a ≡ course rest d a
const_course (const_int z) rest d a = refl
const_course (const_string t) rest d a = refl
const_course (const_typed c known) rest d a = refl
const_course (const_iri t) rest d a = refl
const_course (const_curie t) rest d a = refl
const_course (const_local t) rest d a = refl
const_course const_true rest d a = refl
const_course const_false rest d a = refl

pub apart : (xs ys rest : List Leaf) (d a : ℕ) → course ((xs ++ ys) ++ rest) d a ≡ course (xs ++ (ys ++ rest)) d a
apart xs ys rest d a = ap (λ (ls : List Leaf). course ls d a) (append_assoc xs ys rest)

mutual
  pub term_course : (t : TermTree) (rest : List Leaf) (d a : ℕ) → course (spell_term t ++ rest) d a ≡ course rest d a
  term_course (constant c) rest d a = const_course c rest d a
  term_course (variable v) rest d a = refl
  term_course (call (func_known f) ts) rest d a =
      apart (spell_terms ts) (Close ∷ []) rest _ a ∙ terms_course ts (Close ∷ rest) (suc (suc d)) a
  term_course (call func_unknown ts) rest d a =
      apart (spell_terms ts) (Close ∷ []) rest _ a ∙ terms_course ts (Close ∷ rest) (suc (suc d)) a
  term_course (call func_undeclared ts) rest d a =
      apart (spell_terms ts) (Close ∷ []) rest _ a ∙ terms_course ts (Close ∷ rest) (suc (suc d)) a

  -- with the bracket behind them
  pub terms_course : (ts : TermTrees) (rest : List Leaf) (d a : ℕ) →
      course (spell_terms ts ++ rest) d a ≡ course (Close ∷ rest) d a
  terms_course no_terms rest d a = refl
  terms_course (terms t ts) rest d a = apart (spell_term t) (spell_terms ts) rest d a
      ∙ (term_course t (spell_terms ts ++ rest) d a ∙ terms_course ts rest d a)

pub pairs_course : (ps : PairTrees) (rest : List Leaf) (d a : ℕ) →
    course (spell_pairs ps ++ rest) d a ≡ course (CloseSquare ∷ rest) d a
pairs_course (last_pair s v) rest d a = apart (spell_term s) (Arrow ∷ (spell_term v ++ CloseSquare ∷ [])) rest d a
    ∙ (term_course s _ d a
    ∙ (apart (spell_term v) (CloseSquare ∷ []) rest d a
    ∙ term_course v (CloseSquare ∷ rest) d a))
pairs_course (pairs s v ps) rest d a = apart (spell_term s) (Arrow ∷ (spell_term v ++ spell_pairs ps)) rest d a
    ∙ (term_course s _ d a
    ∙ (apart (spell_term v) (spell_pairs ps) rest d a
    ∙ (term_course v (spell_pairs ps ++ rest) d a
    ∙ pairs_course ps rest d a)))

-- whether a term is a name that stands where a predicate may
abbrev pub const_named : Bool → ConstTree → Bool
const_named after_sign (const_iri t) = not after_sign
const_named after_sign (const_curie t) = not after_sign
const_named after_sign (const_local t) = not after_sign
const_named after_sign (const_typed (IriLiteral t) known) = not after_sign
const_named after_sign (const_typed (LocalLiteral t) known) = not after_sign
const_named after_sign _ = false

abbrev pub term_named : Bool → TermTree → Bool
term_named after_sign (constant c) = const_named after_sign c
term_named after_sign _ = false

pub const_signs : (c : ConstTree) (s m : Bool) (n : ℕ) (rest : List Leaf) →
    signs s m n (spell_const c ++ rest) ≡ signs false (const_named s c) n rest
const_signs (const_int z) s m n rest = refl
const_signs (const_string t) s m n rest = refl
const_signs (const_typed (Integer z) known) s m n rest = refl
const_signs (const_typed (Boolean b) known) s m n rest = refl
const_signs (const_typed (String t) known) s m n rest = refl
const_signs (const_typed (IriLiteral t) known) s m n rest = refl
const_signs (const_typed (LocalLiteral t) known) s m n rest = refl
const_signs (const_typed OfNoType known) s m n rest = refl
const_signs (const_iri t) s m n rest = refl
const_signs (const_curie t) s m n rest = refl
const_signs (const_local t) s m n rest = refl
const_signs const_true s m n rest = refl
const_signs const_false s m n rest = refl

pub in_turn : (xs ys rest : List Leaf) (s m : Bool) (n : ℕ) →
    signs s m n ((xs ++ ys) ++ rest) ≡ signs s m n (xs ++ (ys ++ rest))
in_turn xs ys rest s m n = ap (signs s m n) (append_assoc xs ys rest)

mutual
  pub term_signs : (t : TermTree) (s m : Bool) (n : ℕ) (rest : List Leaf) →
      signs s m n (spell_term t ++ rest) ≡ signs false (term_named s t) n rest
  term_signs (constant c) s m n rest = const_signs c s m n rest
  term_signs (variable v) s m n rest = refl
  term_signs (call (func_known f) ts) s m n rest =
      in_turn (spell_terms ts) (Close ∷ []) rest false false n ∙ terms_signs ts false false n (Close ∷ rest)
  term_signs (call func_unknown ts) s m n rest =
      in_turn (spell_terms ts) (Close ∷ []) rest false false n ∙ terms_signs ts false false n (Close ∷ rest)
  term_signs (call func_undeclared ts) s m n rest =
      in_turn (spell_terms ts) (Close ∷ []) rest false false n ∙ terms_signs ts false false n (Close ∷ rest)

  pub terms_signs : (ts : TermTrees) (s m : Bool) (n : ℕ) (rest : List Leaf) →
      signs s m n (spell_terms ts ++ rest) ≡ signs false false n rest
  terms_signs no_terms s m n rest = refl
  terms_signs (terms t ts) s m n rest = in_turn (spell_term t) (spell_terms ts) rest s m n
      ∙ (term_signs t s m n (spell_terms ts ++ rest) ∙ terms_signs ts false _ n rest)

-- the slot pairs of a formula are its patterns
abbrev pub pairs_adds : PairTrees → ℕ → ℕ
pairs_adds (last_pair s v) n = suc n
pairs_adds (pairs s v ps) n = pairs_adds ps (suc n)

pub pairs_signs : (ps : PairTrees) (s m : Bool) (n : ℕ) (rest : List Leaf) →
    signs s m n (spell_pairs ps ++ rest) ≡ signs false false (pairs_adds ps n) rest
pairs_signs (last_pair o v) s m n rest =
    in_turn (spell_term o) (Arrow ∷ (spell_term v ++ CloseSquare ∷ [])) rest s m n
    ∙ (term_signs o s m n _
    ∙ (in_turn (spell_term v) (CloseSquare ∷ []) rest false false (suc n)
    ∙ term_signs v false false (suc n) (CloseSquare ∷ rest)))
pairs_signs (pairs o v ps) s m n rest =
    in_turn (spell_term o) (Arrow ∷ (spell_term v ++ spell_pairs ps)) rest s m n
    ∙ (term_signs o s m n _
    ∙ (in_turn (spell_term v) (spell_pairs ps) rest false false (suc n)
    ∙ (term_signs v false false (suc n) (spell_pairs ps ++ rest)
    ∙ pairs_signs ps false _ (suc n) rest)))
