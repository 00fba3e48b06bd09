-- Terms that are spelled with leaves that can be written can be written.
use Rattle.std.proofs.Common.{ℕ, List, [], ◌∷◌, ◌++◌}
use Rattle.prd_grammar.specs.declared.leaf.Leaf.TheVariants.{Close, CloseSquare, Arrow}
use Rattle.prd_grammar.specs.Trees.{ConstTree, const_int, const_string, const_typed, const_iri, const_curie}
use Rattle.prd_grammar.specs.Trees.{const_local}
use Rattle.prd_grammar.specs.Trees.{const_true, const_false, spell_const, TermTree, constant, variable, call}
use Rattle.prd_grammar.specs.Trees.{spell_term}
use Rattle.prd_grammar.specs.Trees.{TermTrees, no_terms, terms, spell_terms, PairTrees, last_pair, pairs, spell_pairs}
use Rattle.prd_grammar.specs.Trees.{Vars, one_var, more_vars, spell_vars}
use Rattle.prd_grammar.specs.Values.{const_value}
use Rattle.prd_canonical.specs.Writable.{IsWritableConst, IsWritableTerm, AreWritableTerms, AreWritablePairs}
use Rattle.prd_canonical.specs.Writable.{AreWritableVars}
use Rattle.prd_canonical.specs.WritableLeaves.{ArePlacedLeaves}
use Rattle.prd_canonical.proofs.WritableNameLemmas.{placed_front, placed_back}

pub writable_const : (names : List (List ℕ)) (c : ConstTree) → ArePlacedLeaves names (spell_const c) →
    IsWritableConst (const_value c)
writable_const names (const_int z) h = h.0
writable_const names (const_string t) h = h.0
writable_const names (const_typed literal known) h = h.0
writable_const names (const_iri t) h = h.0
writable_const names (const_curie t) h = h.0
writable_const names (const_local t) h = h.0
writable_const names const_true h = tt
writable_const names const_false h = tt

mutual
  pub writable_term : (names : List (List ℕ)) (t : TermTree) → ArePlacedLeaves names (spell_term t) →
      IsWritableTerm names t
  writable_term names (constant c) h = writable_const names c h
  writable_term names (variable v) h = h.0
  writable_term names (call f ts) h =
      writable_terms names ts (placed_front names (spell_terms ts) (Close ∷ []) h.1.1.1.1)

  pub writable_terms : (names : List (List ℕ)) (ts : TermTrees) → ArePlacedLeaves names (spell_terms ts) →
      AreWritableTerms names ts
  writable_terms names no_terms h = tt
  writable_terms names (terms t ts) h = (
    writable_term names t (placed_front names (spell_term t) (spell_terms ts) h),
    writable_terms names ts (placed_back names (spell_term t) (spell_terms ts) h),
  )

pub writable_pairs : (names : List (List ℕ)) (ps : PairTrees) → ArePlacedLeaves names (spell_pairs ps) →
    AreWritablePairs names ps
writable_pairs names (last_pair s v) h =
    let rest = (placed_back names (spell_term s) (Arrow ∷ (spell_term v ++ CloseSquare ∷ [])) h).1 in (
      writable_term names s (placed_front names (spell_term s) _ h),
      writable_term names v (placed_front names (spell_term v) (CloseSquare ∷ []) rest),
    )
writable_pairs names (pairs s v ps) h =
    let rest = (placed_back names (spell_term s) (Arrow ∷ (spell_term v ++ spell_pairs ps)) h).1 in (
      writable_term names s (placed_front names (spell_term s) _ h),
      (
        writable_term names v (placed_front names (spell_term v) (spell_pairs ps) rest),
        writable_pairs names ps (placed_back names (spell_term v) (spell_pairs ps) rest),
      ),
    )

pub writable_vars : (names : List (List ℕ)) (vs : Vars) → ArePlacedLeaves names (spell_vars vs) →
    AreWritableVars names vs
writable_vars names (one_var v) h = h.0
writable_vars names (more_vars v vs) h = (h.0, writable_vars names vs h.1)
