-- The canonical spelling of a rule has its variables in the same order.
use Rattle.std.proofs.Common.{◌≡◌, ℕ, List, [], ◌∷◌, ◌++◌, refl, ap, ◌∙◌, sym}
use Rattle.prd_grammar.specs.declared.leaf.Leaf.{Leaf}
use Rattle.prd_grammar.specs.declared.leaf.Leaf.TheVariants.{Close, Arrow, CloseSquare}
use Rattle.prd_grammar.specs.Trees.{ConstTree, const_int, const_string, const_typed, const_iri, const_curie}
use Rattle.prd_grammar.specs.Trees.{const_local, const_true, const_false, spell_const, FuncTree, func_known}
use Rattle.prd_grammar.specs.Trees.{func_unknown, func_undeclared, func_leaf, TermTree, constant, variable, call}
use Rattle.prd_grammar.specs.Trees.{TermTrees, no_terms, terms, spell_term, spell_terms, PairTrees, last_pair, pairs}
use Rattle.prd_grammar.specs.Trees.{spell_pairs}
use Rattle.prd_grammar.specs.Values.{names_with, names_from, const_value}
use Rattle.prd_canonical.specs.CanonicalTrees.{const_tree, canonical_term, canonical_terms, canonical_pairs}

pub names_both : (ns : List (List ℕ)) (ls ms : List Leaf) →
    names_from ns (ls ++ ms) ≡ names_from (names_from ns ls) ms
names_both ns [] ms = refl
names_both ns (l ∷ ls) ms = names_both (names_with ns l) ls ms

-- two spellings with the same names, and more behind them
pub names_on : (ns : List (List ℕ)) (ls ks ms os : List Leaf) → names_from ns ls ≡ names_from ns ks →
    ((ps : List (List ℕ)) → names_from ps ms ≡ names_from ps os) → names_from ns (ls ++ ms) ≡ names_from ns (ks ++ os)
names_on ns ls ks ms os first more =
    names_both ns ls ms
    ∙ (ap (λ (x : List (List ℕ)). names_from x ms) first ∙ (more (names_from ns ks) ∙ sym (names_both ns ks os)))

no_names : (ns : List (List ℕ)) (c : ConstTree) → names_from ns (spell_const c) ≡ ns
no_names ns (const_int z) = refl
no_names ns (const_string t) = refl
no_names ns (const_typed literal known) = refl
no_names ns (const_iri t) = refl
no_names ns (const_curie t) = refl
no_names ns (const_local t) = refl
no_names ns const_true = refl
no_names ns const_false = refl

no_func_name : (ns : List (List ℕ)) (f : FuncTree) → names_with ns (func_leaf f) ≡ ns
no_func_name ns (func_known f) = refl
no_func_name ns func_unknown = refl
no_func_name ns func_undeclared = refl

mutual
  pub names_of_term : (ns : List (List ℕ)) (t : TermTree) →
      names_from ns (spell_term (canonical_term t)) ≡ names_from ns (spell_term t)
  names_of_term ns (constant c) = no_names ns (const_tree (const_value c)) ∙ sym (no_names ns c)
  names_of_term ns (variable v) = refl
  names_of_term ns (call f ts) =
      names_on ns (spell_terms (canonical_terms ts)) (spell_terms ts) (Close ∷ []) (Close ∷ []) (names_of_terms ns ts)
      (λ ps. refl)
      ∙ ap (λ (x : List (List ℕ)). names_from x (spell_terms ts ++ Close ∷ [])) (sym (no_func_name ns f))

  pub names_of_terms : (ns : List (List ℕ)) (ts : TermTrees) →
      names_from ns (spell_terms (canonical_terms ts)) ≡ names_from ns (spell_terms ts)
  names_of_terms ns no_terms = refl
  names_of_terms ns (terms t ts) =
      names_on ns (spell_term (canonical_term t)) (spell_term t) (spell_terms (canonical_terms ts)) (spell_terms ts)
      (names_of_term ns t) (λ ps. names_of_terms ps ts)

pub names_of_pairs : (ns : List (List ℕ)) (ps : PairTrees) →
    names_from ns (spell_pairs (canonical_pairs ps)) ≡ names_from ns (spell_pairs ps)
names_of_pairs ns (last_pair s v) =
    names_on ns (spell_term (canonical_term s)) (spell_term s)
    (Arrow ∷ (spell_term (canonical_term v) ++ CloseSquare ∷ []))
    (Arrow ∷ (spell_term v ++ CloseSquare ∷ [])) (names_of_term ns s)
    (λ ms. names_on ms (spell_term (canonical_term v)) (spell_term v) (CloseSquare ∷ []) (CloseSquare ∷ [])
    (names_of_term ms v) (λ os. refl))
names_of_pairs ns (pairs s v ps) =
    names_on ns (spell_term (canonical_term s)) (spell_term s)
    (Arrow ∷ (spell_term (canonical_term v) ++ spell_pairs (canonical_pairs ps)))
    (Arrow ∷ (spell_term v ++ spell_pairs ps)) (names_of_term ns s)
    (λ ms. names_on ms (spell_term (canonical_term v)) (spell_term v) (spell_pairs (canonical_pairs ps))
    (spell_pairs ps)
    (names_of_term ms v) (λ os. names_of_pairs os ps))
