-- What is spelled may come: formulas and their lists.
use Rattle.std.proofs.Common.{◌≡◌, refl, ap, ◌∙◌, List, [], ◌∷◌, ◌++◌, Some, None, append_assoc}
use Rattle.std.specs.declared.option.Option.{Option}
use Rattle.prd_grammar.specs.declared.leaf.Leaf.{Leaf}
use Rattle.prd_grammar.specs.declared.leaf.Leaf.TheVariants.{Typed, TypeName, Carets, Open as OpenLeaf}
use Rattle.prd_grammar.specs.declared.leaf.Leaf.TheVariants.{Close as CloseLeaf}
use Rattle.prd_recognition.specs.declared.want.Want.{Want}
use Rattle.prd_recognition.specs.declared.want.Want.TheVariants.{Variable, ExistsRest, Formula, Formulas}
use Rattle.prd_recognition.specs.declared.want.Want.TheVariants.{Tail as TailWant}
use Rattle.prd_recognition.specs.declared.want.Want.TheVariants.{AfterName, Close}
use Rattle.prd_grammar.specs.Trees.{ConstTree, const_int, const_string, const_typed, const_iri, const_curie}
use Rattle.prd_grammar.specs.Trees.{const_local, const_true, const_false, spell_const, NameTree, name_iri, name_curie}
use Rattle.prd_grammar.specs.Trees.{name_local, name_typed_iri, name_typed_local, spell_name, spell_term, spell_terms}
use Rattle.prd_grammar.specs.Trees.{constant, Tail, equals, member_of, with_pairs, spell_tail, Vars, spell_vars}
use Rattle.prd_grammar.specs.Trees.{spelled_not, spelled_ineg, FirstTerm, first_constant, first_variable, first_call}
use Rattle.prd_grammar.specs.Trees.{term_of_first, pred_known, pred_unknown, pred_undeclared, FormulaTree, conj, disj}
use Rattle.prd_grammar.specs.Trees.{neg, some, grouped, holds, compared, atom, FormulaTrees, no_formulas, formulas}
use Rattle.prd_grammar.specs.Trees.{spell_formula, spell_formulas}
use Rattle.prd_recognition.specs.Following.{after, followed, named_next}
use Rattle.prd_recognition.proofs.AfterLemmas.{after_parts}
use Rattle.prd_recognition.proofs.GoingTermLemmas.{going_term, going_terms, going_arguments, going_pairs, going_vars}
use Rattle.prd_recognition.proofs.GoingTermLemmas.{after_named, going_named_term}

going_tail : (t : Tail) (ws : List Want) (rest : List Leaf) →
    after (Some (TailWant ∷ ws)) (spell_tail t ++ rest) ≡ after (Some ws) rest
going_tail (equals t) ws rest = going_term t ws rest
going_tail (member_of t) ws rest = going_term t ws rest
going_tail (with_pairs ps) ws rest = going_pairs ps ws rest

going_tail_of_name : (t : Tail) (ws : List Want) (rest : List Leaf) →
    after (Some (AfterName ∷ ws)) (spell_tail t ++ rest) ≡ after (Some ws) rest
going_tail_of_name (equals t) ws rest = going_term t ws rest
going_tail_of_name (member_of t) ws rest = going_term t ws rest
going_tail_of_name (with_pairs ps) ws rest = going_pairs ps ws rest

-- a formula begins as a constant does, or with a name
constant_first : (c : ConstTree) (ws : List Want) (rest : List Leaf) →
    after (Some (Formula ∷ ws)) (spell_const c ++ rest)
    ≡ after_named Formula AfterName TailWant ws (spell_const c ++ rest)
constant_first (const_int z) ws rest = refl
constant_first (const_string t) ws rest = refl
constant_first (const_typed literal known) ws rest = refl
constant_first (const_iri t) ws rest = refl
constant_first (const_curie t) ws rest = refl
constant_first (const_local t) ws rest = refl
constant_first const_true ws rest = refl
constant_first const_false ws rest = refl

name_first : (n : NameTree) (ws : List Want) (rest : List Leaf) →
    after (Some (Formula ∷ ws)) (spell_name n ++ rest) ≡ after (Some (AfterName ∷ ws)) rest
name_first (name_iri t) ws rest = refl
name_first (name_curie t) ws rest = refl
name_first (name_local t) ws rest = refl
name_first (name_typed_iri t known) ws rest = refl
name_first (name_typed_local t known) ws rest = refl

going_compared : (t : FirstTerm) (tail : Tail) (ws : List Want) (rest : List Leaf) →
    after (Some (Formula ∷ ws)) (spell_term (term_of_first t) ++ (spell_tail tail ++ rest)) ≡ after (Some ws) rest
going_compared (first_constant c) tail ws rest =
    constant_first c ws (spell_tail tail ++ rest)
    ∙ going_named_term Formula AfterName TailWant (constant c) ws (spell_tail tail ++ rest) (after (Some ws) rest)
    (going_tail_of_name tail ws rest) (going_tail tail ws rest)
going_compared (first_variable v) tail ws rest = going_tail tail ws rest
going_compared (first_call f ts) tail ws rest =
    going_arguments ts (TailWant ∷ ws) (spell_tail tail ++ rest) ∙ going_tail tail ws rest

-- what comes behind a leaf, twice
pub followed_twice : (o : Option (List Want)) (more ws : List Want) →
    followed (followed o more) ws ≡ followed o (more ++ ws)
followed_twice None more ws = refl
followed_twice (Some first) more ws = ap Some (append_assoc first more ws)

-- a want that goes with a formula, and then with these wants
abbrev pub StartsWithFormula : Want → List Want → Type 0
StartsWithFormula w more = (f : FormulaTree) (ws : List Want) (rest : List Leaf) →
    after (Some (w ∷ ws)) (spell_formula f ++ rest) ≡ after (Some (Formula ∷ (more ++ ws))) (spell_formula f ++ rest)

formulas_start : StartsWithFormula Formulas (Formulas ∷ [])
formulas_start (conj fs) ws rest = refl
formulas_start (disj fs) ws rest = refl
formulas_start (neg spelled_not f) ws rest = refl
formulas_start (neg spelled_ineg f) ws rest = refl
formulas_start (some vs f) ws rest = refl
formulas_start (grouped f) ws rest = refl
formulas_start (holds p ts) ws rest = refl
formulas_start (compared (first_constant (const_int z)) tail) ws rest = refl
formulas_start (compared (first_constant (const_string t)) tail) ws rest = refl
formulas_start (compared (first_constant (const_typed literal known)) tail) ws rest =
    ap (λ o. after o (Carets ∷ TypeName known ∷ (spell_tail tail ++ rest)))
    (followed_twice (named_next AfterName TailWant (Typed literal)) (Formulas ∷ []) ws)
formulas_start (compared (first_constant (const_iri t)) tail) ws rest = refl
formulas_start (compared (first_constant (const_curie t)) tail) ws rest = refl
formulas_start (compared (first_constant (const_local t)) tail) ws rest = refl
formulas_start (compared (first_constant const_true) tail) ws rest = refl
formulas_start (compared (first_constant const_false) tail) ws rest = refl
formulas_start (compared (first_variable v) tail) ws rest = refl
formulas_start (compared (first_call f ts) tail) ws rest = refl
formulas_start (atom (name_iri t) ts) ws rest = refl
formulas_start (atom (name_curie t) ts) ws rest = refl
formulas_start (atom (name_local t) ts) ws rest = refl
formulas_start (atom (name_typed_iri t known) ts) ws rest = refl
formulas_start (atom (name_typed_local t known) ts) ws rest = refl

-- the bracket behind a formula
bracket_behind : (f : FormulaTree) (ws : List Want) (rest : List Leaf) →
    after (Some (Formula ∷ Close ∷ ws)) ((spell_formula f ++ CloseLeaf ∷ []) ++ rest)
    ≡ after (Some (Formula ∷ Close ∷ ws)) (spell_formula f ++ CloseLeaf ∷ rest)
bracket_behind f ws rest = after_parts (Some (Formula ∷ Close ∷ ws)) (spell_formula f) (CloseLeaf ∷ []) rest

-- the variables of `Exists`, and the bracket behind them
going_exists : (vs : Vars) (ls : List Leaf) (ws : List Want) (rest : List Leaf) →
    after (Some (Variable ∷ ExistsRest ∷ ws)) ((spell_vars vs ++ OpenLeaf ∷ ls) ++ rest)
    ≡ after (Some (Formula ∷ Close ∷ ws)) (ls ++ rest)
going_exists vs ls ws rest =
    after_parts (Some (Variable ∷ ExistsRest ∷ ws)) (spell_vars vs) (OpenLeaf ∷ ls) rest
    ∙ going_vars ExistsRest (λ v. refl) vs ws (OpenLeaf ∷ (ls ++ rest))

mutual
  pub going_formula : (f : FormulaTree) (ws : List Want) (rest : List Leaf) →
      after (Some (Formula ∷ ws)) (spell_formula f ++ rest) ≡ after (Some ws) rest
  going_formula (conj fs) ws rest = going_formulas fs ws rest
  going_formula (disj fs) ws rest = going_formulas fs ws rest
  going_formula (neg spelled_not f) ws rest = bracket_behind f ws rest
      ∙ going_formula f (Close ∷ ws) (CloseLeaf ∷ rest)
  going_formula (neg spelled_ineg f) ws rest =
      bracket_behind f ws rest ∙ going_formula f (Close ∷ ws) (CloseLeaf ∷ rest)
  going_formula (some vs f) ws rest =
      going_exists vs (spell_formula f ++ CloseLeaf ∷ []) ws rest
      ∙ (bracket_behind f ws rest ∙ going_formula f (Close ∷ ws) (CloseLeaf ∷ rest))
  going_formula (grouped f) ws rest = bracket_behind f ws rest ∙ going_formula f (Close ∷ ws) (CloseLeaf ∷ rest)
  going_formula (holds (pred_known p) ts) ws rest = going_arguments ts ws rest
  going_formula (holds pred_unknown ts) ws rest = going_arguments ts ws rest
  going_formula (holds pred_undeclared ts) ws rest = going_arguments ts ws rest
  going_formula (compared t tail) ws rest =
      after_parts (Some (Formula ∷ ws)) (spell_term (term_of_first t)) (spell_tail tail) rest
      ∙ going_compared t tail ws rest
  going_formula (atom n ts) ws rest =
      after_parts (Some (Formula ∷ ws)) (spell_name n) (OpenLeaf ∷ spell_terms ts) rest
      ∙ (name_first n ws (OpenLeaf ∷ (spell_terms ts ++ rest)) ∙ going_terms ts ws rest)

  pub going_formulas : (fs : FormulaTrees) (ws : List Want) (rest : List Leaf) →
      after (Some (Formulas ∷ ws)) (spell_formulas fs ++ rest) ≡ after (Some ws) rest
  going_formulas no_formulas ws rest = refl
  going_formulas (formulas f fs) ws rest =
      after_parts (Some (Formulas ∷ ws)) (spell_formula f) (spell_formulas fs) rest
      ∙ (formulas_start f ws (spell_formulas fs ++ rest)
      ∙ (going_formula f (Formulas ∷ ws) (spell_formulas fs ++ rest) ∙ going_formulas fs ws rest))
