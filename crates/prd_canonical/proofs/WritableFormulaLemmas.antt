-- Formulas that are spelled with leaves that can be written can be written.
use Rattle.std.proofs.Common.{ℕ, List, [], ◌∷◌, ◌++◌}
use Rattle.prd_grammar.specs.declared.leaf.Leaf.TheVariants.{Open, Close}
use Rattle.prd_grammar.specs.Trees.{const_of_name, spell_const, spell_term, spell_terms, Tail, equals, member_of}
use Rattle.prd_grammar.specs.Trees.{with_pairs, spell_tail, spell_vars, term_of_first, FormulaTree, conj, disj, neg}
use Rattle.prd_grammar.specs.Trees.{some, grouped, holds, compared, atom, spell_formula, FormulaTrees, no_formulas}
use Rattle.prd_grammar.specs.Trees.{formulas, spell_formulas, SuchTrees, last_such, more_such, spell_such}
use Rattle.prd_canonical.specs.Writable.{IsWritableTail, IsWritableFormula, AreWritableFormulas, AreWritableSuch}
use Rattle.prd_canonical.specs.WritableLeaves.{ArePlacedLeaves}
use Rattle.prd_canonical.proofs.WritableNameLemmas.{placed_front, placed_back}
use Rattle.prd_canonical.proofs.WritableTermLemmas.{writable_const, writable_term, writable_terms, writable_pairs}
use Rattle.prd_canonical.proofs.WritableTermLemmas.{writable_vars}

writable_tail : (names : List (List ℕ)) (tail : Tail) → ArePlacedLeaves names (spell_tail tail) →
    IsWritableTail names tail
writable_tail names (equals t) h = writable_term names t h.1
writable_tail names (member_of t) h = writable_term names t h.1
writable_tail names (with_pairs ps) h = writable_pairs names ps h.1

mutual
  pub writable_formula : (names : List (List ℕ)) (f : FormulaTree) → ArePlacedLeaves names (spell_formula f) →
      IsWritableFormula names f
  writable_formula names (conj fs) h = writable_formulas names fs h.1.1
  writable_formula names (disj fs) h = writable_formulas names fs h.1.1
  writable_formula names (neg w f) h =
      writable_formula names f (placed_front names (spell_formula f) (Close ∷ []) h.1.1)
  writable_formula names (some vs f) h =
      let inner = (placed_back names (spell_vars vs) (Open ∷ (spell_formula f ++ Close ∷ [])) h.1).1 in (
        writable_vars names vs (placed_front names (spell_vars vs) _ h.1),
        writable_formula names f (placed_front names (spell_formula f) (Close ∷ []) inner),
      )
  writable_formula names (grouped f) h =
      writable_formula names f (placed_front names (spell_formula f) (Close ∷ []) h.1)
  writable_formula names (holds p ts) h =
      writable_terms names ts (placed_front names (spell_terms ts) (Close ∷ []) h.1.1.1.1)
  writable_formula names (compared t tail) h =
      let first = spell_term (term_of_first t) in (
        writable_term names (term_of_first t) (placed_front names first (spell_tail tail) h),
        writable_tail names tail (placed_back names first (spell_tail tail) h),
      )
  writable_formula names (atom n ts) h =
      let name = spell_const (const_of_name n) in (
        writable_const names (const_of_name n) (placed_front names name (Open ∷ spell_terms ts) h),
        writable_terms names ts (placed_back names name (Open ∷ spell_terms ts) h).1,
      )

  pub writable_formulas : (names : List (List ℕ)) (fs : FormulaTrees) → ArePlacedLeaves names (spell_formulas fs) →
      AreWritableFormulas names fs
  writable_formulas names no_formulas h = tt
  writable_formulas names (formulas f fs) h = (
    writable_formula names f (placed_front names (spell_formula f) (spell_formulas fs) h),
    writable_formulas names fs (placed_back names (spell_formula f) (spell_formulas fs) h),
  )

pub writable_such : (names : List (List ℕ)) (fs : SuchTrees) → ArePlacedLeaves names (spell_such fs) →
    AreWritableSuch names fs
writable_such names (last_such f) h = writable_formula names f (placed_front names (spell_formula f) (Open ∷ []) h)
writable_such names (more_such f fs) h = (
  writable_formula names f (placed_front names (spell_formula f) (spell_such fs) h),
  writable_such names fs (placed_back names (spell_formula f) (spell_such fs) h),
)
