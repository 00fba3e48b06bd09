-- The leaves that terms, pairs and variables of the canonical spelling lead to.
use Rattle.std.proofs.Common.{ℕ, List, ◌∷◌, map}
use Rattle.rif_lex.specs.Spelling.{Gap, joined, space, Spelled}
use Rattle.prd_grammar.specs.declared.leaf.Builtin.TheVariants.{Func as FuncBuiltin}
use Rattle.prd_grammar.specs.declared.leaf.Leaf.{Leaf}
use Rattle.prd_grammar.specs.declared.leaf.Leaf.TheVariants.{Arrow, OpenSquare}
use Rattle.prd_writing.specs.Canonical.{closing, close_square, gap_before, listed, spaced, func_text, var_spelling}
use Rattle.prd_writing.specs.Canonical.{term_spelling, pair_spelling, frame_spelling}
use Rattle.prd_canonical.specs.CanonicalTrees.{canonical_term, canonical_terms, canonical_pairs}
use Rattle.prd_grammar.specs.Trees.{TermTree, constant, variable, call, TermTrees, no_terms, terms}
use Rattle.prd_grammar.specs.Trees.{PairTrees, last_pair, pairs, Vars, one_var, more_vars}
use Rattle.prd_grammar.specs.Values.{const_value, func_value, term_value, terms_value, pairs_value, vars_value}
use Rattle.prd_grammar.specs.Values.{place_of}
use Rattle.prd_canonical.specs.Writable.{IsWritableTerm, AreWritableTerms, AreWritablePairs, AreWritableVars}
use Rattle.prd_grammar.proofs.CallerLemmas.{put_term, put_terms, put_pairs, put_vars}
use Rattle.prd_writing.proofs.CallerLemmas.{spelled_const, spelled_var, spelled_call}
use Rattle.prd_canonical.proofs.CanonicalLeavesLemmas.{Lead, lead_as}
use Rattle.prd_canonical.proofs.LeadingTokenLemmas.{lead_closing, lead_open_square, lead_close_square, lead_arrow}
use Rattle.prd_canonical.proofs.LeadingTokenLemmas.{lead_external, lead_var}
use Rattle.prd_canonical.proofs.LeadingConstantLemmas.{lead_const, func_ascii, func_known_by}

mutual
  pub lead_term : {rest : List Spelled} {ls : List Leaf} (names : List (List ℕ)) (t : TermTree) (gap : Gap) →
      IsWritableTerm names t → Lead rest ls →
      Lead (term_spelling names (term_value names t) gap rest) (put_term (canonical_term t) ls)
  lead_term {rest} names (constant c) gap w more =
      lead_as (spelled_const names (const_value c) gap rest) (lead_const (const_value c) gap w more)
  lead_term {rest} names (variable v) gap w more =
      lead_as (spelled_var names (place_of names v) gap rest) (lead_var names v gap w more)
  lead_term {rest} names (call f ts) gap w more =
      lead_as (spelled_call names (func_value f) (terms_value names ts) gap rest)
      (lead_external (func_text (func_value f)) (FuncBuiltin (func_value f)) (func_ascii (func_value f))
      (func_known_by (func_value f)) (lead_terms names ts joined w (lead_closing gap more)))

  -- with the bracket that ends them
  pub lead_terms : {rest : List Spelled} {ls : List Leaf} (names : List (List ℕ)) (ts : TermTrees) (gap : Gap) →
      AreWritableTerms names ts → Lead rest ls →
      Lead (listed (map (term_spelling names) (terms_value names ts)) (closing gap ∷ rest))
      (put_terms (canonical_terms ts) ls)
  lead_terms names no_terms gap w more = lead_closing gap more
  lead_terms names (terms t ts) gap w more =
      lead_term names t (gap_before (map (term_spelling names) (terms_value names ts))) w.0
      (lead_terms names ts gap w.1 more)

lead_pair : {rest : List Spelled} {ls : List Leaf} (names : List (List ℕ)) (s v : TermTree) (gap : Gap) →
    IsWritableTerm names s → IsWritableTerm names v → Lead rest ls →
    Lead (pair_spelling names (term_value names s, term_value names v) gap rest)
    (put_term (canonical_term s) (Arrow ∷ put_term (canonical_term v) ls))
lead_pair names s v gap ws wv more = lead_term names s joined ws (lead_arrow (lead_term names v gap wv more))

-- with the bracket that ends them
pub lead_pairs : {rest : List Spelled} {ls : List Leaf} (names : List (List ℕ)) (ps : PairTrees) (gap : Gap) →
    AreWritablePairs names ps → Lead rest ls →
    Lead (listed (map (pair_spelling names) (pairs_value names ps)) (close_square gap ∷ rest))
    (put_pairs (canonical_pairs ps) ls)
lead_pairs names (last_pair s v) gap w more = lead_pair names s v joined w.0 w.1 (lead_close_square gap more)
lead_pairs names (pairs s v ps) gap w more =
    lead_pair names s v (gap_before (map (pair_spelling names) (pairs_value names ps))) w.0 w.1.0
    (lead_pairs names ps gap w.1.1 more)

pub lead_frame : {rest : List Spelled} {ls : List Leaf} (names : List (List ℕ)) (o : TermTree) (ps : PairTrees)
    (gap : Gap) → IsWritableTerm names o → AreWritablePairs names ps → Lead rest ls →
    Lead (frame_spelling names (term_value names o) (pairs_value names ps) gap rest)
    (put_term (canonical_term o) (OpenSquare ∷ put_pairs (canonical_pairs ps) ls))
lead_frame names o ps gap wo wp more =
    lead_term names o joined wo (lead_open_square (lead_pairs names ps gap wp more))

pub lead_vars : {rest : List Spelled} {ls : List Leaf} (names : List (List ℕ)) (vs : Vars) →
    AreWritableVars names vs → Lead rest ls →
    Lead (spaced (map (var_spelling names) (vars_value names vs)) rest) (put_vars vs ls)
lead_vars names (one_var v) w more = lead_var names v space w more
lead_vars names (more_vars v vs) w more = lead_var names v space w.0 (lead_vars names vs w.1 more)
