-- The leaves that formulas of the canonical spelling lead to.
use Rattle.std.proofs.Common.{ℕ, List, ◌∷◌, map, refl, codes}
use Rattle.rif_lex.specs.Spelling.{Gap, joined, space, Spelled}
use Rattle.prd_grammar.specs.declared.leaf.Keyword.TheVariants.{And, Or, Not, Exists}
use Rattle.prd_grammar.specs.declared.leaf.Builtin.TheVariants.{Pred as PredBuiltin}
use Rattle.prd_grammar.specs.declared.leaf.Leaf.{Leaf}
use Rattle.prd_grammar.specs.declared.leaf.Leaf.TheVariants.{Open, Hash}
use Rattle.prd_writing.specs.Canonical.{closing, gap_before, listed, pred_text, term_spelling, member_spelling}
use Rattle.prd_writing.specs.Canonical.{atom_spelling, formula_spelling}
use Rattle.prd_canonical.specs.CanonicalTrees.{canonical_name, canonical_term, canonical_terms, canonical_tail}
use Rattle.prd_canonical.specs.CanonicalTrees.{canonical_first, canonical_formula, canonical_formulas}
use Rattle.prd_grammar.specs.Trees.{NameTree, constant, variable, call, func_known, TermTree, TermTrees}
use Rattle.prd_grammar.specs.Trees.{Tail, equals, member_of, with_pairs, FirstTerm, first_constant, first_variable}
use Rattle.prd_grammar.specs.Trees.{first_call, term_of_first, FormulaTree, conj, disj, neg, some, grouped, holds}
use Rattle.prd_grammar.specs.Trees.{compared, atom, FormulaTrees, no_formulas, formulas}
use Rattle.prd_grammar.specs.Values.{name_value, pred_value, term_value, terms_value, pairs_value, tail_value}
use Rattle.prd_grammar.specs.Values.{vars_value, formula_value, formulas_value}
use Rattle.prd_canonical.specs.Writable.{IsWritableName, IsWritableTerm, AreWritableTerms, IsWritableTail}
use Rattle.prd_canonical.specs.Writable.{IsWritableFormula, AreWritableFormulas}
use Rattle.prd_grammar.proofs.CallerLemmas.{put_name, put_term, put_terms, put_tail, put_formula, put_formulas}
use Rattle.prd_writing.proofs.CallerLemmas.{spelled_and, spelled_or, spelled_not, spelled_exists, spelled_equal}
use Rattle.prd_writing.proofs.CallerLemmas.{spelled_member, spelled_frame, spelled_atom, spelled_holds}
use Rattle.prd_canonical.proofs.CanonicalLeavesLemmas.{Lead, lead_as}
use Rattle.prd_canonical.proofs.LeadingTokenLemmas.{lead_opening, lead_closing, lead_open_square, lead_hash}
use Rattle.prd_canonical.proofs.LeadingTokenLemmas.{lead_equal}
use Rattle.prd_canonical.proofs.LeadingTokenLemmas.{lead_word, lead_external}
use Rattle.prd_canonical.proofs.LeadingConstantLemmas.{lead_name, pred_ascii, pred_known_by}
use Rattle.prd_canonical.proofs.LeadingTermLemmas.{lead_term, lead_terms, lead_pairs, lead_vars}

pub lead_member : {rest : List Spelled} {ls : List Leaf} (names : List (List ℕ)) (o c : TermTree) (gap : Gap) →
    IsWritableTerm names o → IsWritableTerm names c → Lead rest ls →
    Lead (member_spelling names (term_value names o) (term_value names c) gap rest)
    (put_term (canonical_term o) (Hash ∷ put_term (canonical_term c) ls))
lead_member names o c gap wo wc more = lead_term names o space wo (lead_hash (lead_term names c gap wc more))

pub lead_atom : {rest : List Spelled} {ls : List Leaf} (names : List (List ℕ)) (n : NameTree) (ts : TermTrees)
    (gap : Gap) → IsWritableName n → AreWritableTerms names ts → Lead rest ls →
    Lead (atom_spelling names (name_value n) (terms_value names ts) gap rest)
    (put_name (canonical_name n) (Open ∷ put_terms (canonical_terms ts) ls))
lead_atom names n ts gap wn wt more = lead_name n joined wn (lead_opening joined (lead_terms names ts gap wt more))

-- the first term of a formula
lead_first : {rest : List Spelled} {ls : List Leaf} (names : List (List ℕ)) (t : FirstTerm) (gap : Gap) →
    IsWritableTerm names (term_of_first t) → Lead rest ls →
    Lead (term_spelling names (term_value names (term_of_first t)) gap rest)
    (put_term (term_of_first (canonical_first t)) ls)
lead_first names (first_constant c) gap w more = lead_term names (constant c) gap w more
lead_first names (first_variable v) gap w more = lead_term names (variable v) gap w more
lead_first names (first_call f ts) gap w more = lead_term names (call (func_known f) ts) gap w more

lead_compared : {rest : List Spelled} {ls : List Leaf} (names : List (List ℕ)) (t : FirstTerm) (tail : Tail)
    (gap : Gap) → IsWritableTerm names (term_of_first t) → IsWritableTail names tail → Lead rest ls →
    Lead (formula_spelling names (tail_value names (term_value names (term_of_first t)) tail) gap rest)
    (put_term (term_of_first (canonical_first t)) (put_tail (canonical_tail tail) ls))
lead_compared {rest} names t (equals u) gap wt wu more =
    lead_as (spelled_equal names (term_value names (term_of_first t)) (term_value names u) gap rest)
    (lead_first names t space wt (lead_equal (lead_term names u gap wu more)))
lead_compared {rest} names t (member_of u) gap wt wu more =
    lead_as (spelled_member names (term_value names (term_of_first t)) (term_value names u) gap rest)
    (lead_first names t space wt (lead_hash (lead_term names u gap wu more)))
lead_compared {rest} names t (with_pairs ps) gap wt wp more =
    lead_as (spelled_frame names (term_value names (term_of_first t)) (pairs_value names ps) gap rest)
    (lead_first names t joined wt (lead_open_square (lead_pairs names ps gap wp more)))

mutual
  pub lead_formula : {rest : List Spelled} {ls : List Leaf} (names : List (List ℕ)) (f : FormulaTree) (gap : Gap) →
      IsWritableFormula names f → Lead rest ls →
      Lead (formula_spelling names (formula_value names f) gap rest) (put_formula (canonical_formula f) ls)
  lead_formula {rest} names (conj fs) gap w more =
      lead_as (spelled_and names (formulas_value names fs) gap rest)
      (lead_word And (codes "And") joined refl refl refl (lead_opening joined (lead_formulas names fs gap w more)))
  lead_formula {rest} names (disj fs) gap w more =
      lead_as (spelled_or names (formulas_value names fs) gap rest)
      (lead_word Or (codes "Or") joined refl refl refl (lead_opening joined (lead_formulas names fs gap w more)))
  lead_formula {rest} names (neg n f) gap w more =
      lead_as (spelled_not names (formula_value names f) gap rest)
      (lead_word Not (codes "Not") joined refl refl refl
      (lead_opening joined (lead_formula names f joined w (lead_closing gap more))))
  lead_formula {rest} names (some vs f) gap w more =
      lead_as (spelled_exists names (vars_value names vs) (formula_value names f) gap rest)
      (lead_word Exists (codes "Exists") space refl refl refl
      (lead_vars names vs w.0 (lead_opening joined (lead_formula names f joined w.1 (lead_closing gap more)))))
  lead_formula names (grouped f) gap w more = lead_formula names f gap w more
  lead_formula {rest} names (holds p ts) gap w more =
      lead_as (spelled_holds names (pred_value p) (terms_value names ts) gap rest)
      (lead_external (pred_text (pred_value p)) (PredBuiltin (pred_value p)) (pred_ascii (pred_value p))
      (pred_known_by (pred_value p)) (lead_terms names ts joined w (lead_closing gap more)))
  lead_formula names (compared t tail) gap w more = lead_compared names t tail gap w.0 w.1 more
  lead_formula {rest} names (atom n ts) gap w more =
      lead_as (spelled_atom names (name_value n) (terms_value names ts) gap rest)
      (lead_atom names n ts gap w.0 w.1 more)

  -- with the bracket that ends them
  lead_formulas : {rest : List Spelled} {ls : List Leaf} (names : List (List ℕ)) (fs : FormulaTrees) (gap : Gap) →
      AreWritableFormulas names fs → Lead rest ls →
      Lead (listed (map (formula_spelling names) (formulas_value names fs)) (closing gap ∷ rest))
      (put_formulas (canonical_formulas fs) ls)
  lead_formulas names no_formulas gap w more = lead_closing gap more
  lead_formulas names (formulas f fs) gap w more =
      lead_formula names f (gap_before (map (formula_spelling names) (formulas_value names fs))) w.0
      (lead_formulas names fs gap w.1 more)
