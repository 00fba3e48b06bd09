-- What is spelled may come: terms, their lists, pairs, and what begins with a name.
use Rattle.std.proofs.Common.{◌≡◌, refl, ap, sym, ◌∙◌, ℕ, List, [], ◌∷◌, ◌++◌, Some}
use Rattle.std.specs.declared.option.Option.{Option}
use Rattle.prd_grammar.specs.declared.leaf.Literal.TheVariants.{Integer, Boolean, String, Iri as IriLiteral}
use Rattle.prd_grammar.specs.declared.leaf.Literal.TheVariants.{Local as LocalLiteral, OfNoType}
use Rattle.prd_grammar.specs.declared.leaf.Leaf.{Leaf}
use Rattle.prd_grammar.specs.declared.leaf.Leaf.TheVariants.{Close as CloseLeaf, CloseSquare as CloseSquareLeaf}
use Rattle.prd_grammar.specs.declared.leaf.Leaf.TheVariants.{Arrow as ArrowLeaf, Var}
use Rattle.prd_recognition.specs.declared.want.Want.{Want}
use Rattle.prd_recognition.specs.declared.want.Want.TheVariants.{Variable, Term, Terms, Pairs, Arrow, Close}
use Rattle.prd_grammar.specs.Trees.{const_int, const_string, const_typed, const_iri, const_curie, const_local}
use Rattle.prd_grammar.specs.Trees.{const_true, const_false, NameTree, name_iri, name_curie, name_local}
use Rattle.prd_grammar.specs.Trees.{name_typed_iri, name_typed_local, spell_name, func_known, func_unknown}
use Rattle.prd_grammar.specs.Trees.{func_undeclared, TermTree, constant, variable, call, TermTrees, no_terms, terms}
use Rattle.prd_grammar.specs.Trees.{spell_term, spell_terms, PairTrees, last_pair, pairs, spell_pairs, Vars, one_var}
use Rattle.prd_grammar.specs.Trees.{more_vars, spell_vars}
use Rattle.prd_recognition.specs.Following.{after, followed, named_next, next}
use Rattle.prd_recognition.proofs.AfterLemmas.{after_parts}

-- a want that goes with a term, and then with these wants
abbrev pub StartsWithTerm : Want → List Want → Type 0
StartsWithTerm w more = (t : TermTree) (ws : List Want) (rest : List Leaf) →
    after (Some (w ∷ ws)) (spell_term t ++ rest) ≡ after (Some (Term ∷ (more ++ ws))) (spell_term t ++ rest)

terms_start : StartsWithTerm Terms (Terms ∷ [])
terms_start (constant (const_int z)) ws rest = refl
terms_start (constant (const_string t)) ws rest = refl
terms_start (constant (const_typed literal known)) ws rest = refl
terms_start (constant (const_iri t)) ws rest = refl
terms_start (constant (const_curie t)) ws rest = refl
terms_start (constant (const_local t)) ws rest = refl
terms_start (constant const_true) ws rest = refl
terms_start (constant const_false) ws rest = refl
terms_start (variable v) ws rest = refl
terms_start (call f ts) ws rest = refl

pairs_start : StartsWithTerm Pairs (Arrow ∷ Term ∷ Pairs ∷ [])
pairs_start (constant (const_int z)) ws rest = refl
pairs_start (constant (const_string t)) ws rest = refl
pairs_start (constant (const_typed literal known)) ws rest = refl
pairs_start (constant (const_iri t)) ws rest = refl
pairs_start (constant (const_curie t)) ws rest = refl
pairs_start (constant (const_local t)) ws rest = refl
pairs_start (constant const_true) ws rest = refl
pairs_start (constant const_false) ws rest = refl
pairs_start (variable v) ws rest = refl
pairs_start (call f ts) ws rest = refl

arguments_end : (ts : TermTrees) (ws : List Want) (rest : List Leaf) →
    after (Some (Terms ∷ Close ∷ ws)) ((spell_terms ts ++ CloseLeaf ∷ []) ++ rest)
    ≡ after (Some (Terms ∷ Close ∷ ws)) (spell_terms ts ++ CloseLeaf ∷ rest)
arguments_end ts ws rest = after_parts (Some (Terms ∷ Close ∷ ws)) (spell_terms ts) (CloseLeaf ∷ []) rest

mutual
  pub going_term : (t : TermTree) (ws : List Want) (rest : List Leaf) →
      after (Some (Term ∷ ws)) (spell_term t ++ rest) ≡ after (Some ws) rest
  going_term (constant (const_int z)) ws rest = refl
  going_term (constant (const_string t)) ws rest = refl
  going_term (constant (const_typed literal known)) ws rest = refl
  going_term (constant (const_iri t)) ws rest = refl
  going_term (constant (const_curie t)) ws rest = refl
  going_term (constant (const_local t)) ws rest = refl
  going_term (constant const_true) ws rest = refl
  going_term (constant const_false) ws rest = refl
  going_term (variable v) ws rest = refl
  going_term (call (func_known f) ts) ws rest =
      arguments_end ts ws rest ∙ going_terms ts (Close ∷ ws) (CloseLeaf ∷ rest)
  going_term (call func_unknown ts) ws rest = arguments_end ts ws rest
      ∙ going_terms ts (Close ∷ ws) (CloseLeaf ∷ rest)
  going_term (call func_undeclared ts) ws rest =
      arguments_end ts ws rest ∙ going_terms ts (Close ∷ ws) (CloseLeaf ∷ rest)

  pub going_terms : (ts : TermTrees) (ws : List Want) (rest : List Leaf) →
      after (Some (Terms ∷ ws)) (spell_terms ts ++ rest) ≡ after (Some ws) rest
  going_terms no_terms ws rest = refl
  going_terms (terms t ts) ws rest =
      after_parts (Some (Terms ∷ ws)) (spell_term t) (spell_terms ts) rest
      ∙ (terms_start t ws (spell_terms ts ++ rest)
      ∙ (going_term t (Terms ∷ ws) (spell_terms ts ++ rest) ∙ going_terms ts ws rest))

-- the arguments of a built-in, and the bracket behind them
pub going_arguments : (ts : TermTrees) (ws : List Want) (rest : List Leaf) →
    after (Some (Terms ∷ Close ∷ ws)) ((spell_terms ts ++ CloseLeaf ∷ []) ++ rest) ≡ after (Some ws) rest
going_arguments ts ws rest = arguments_end ts ws rest ∙ going_terms ts (Close ∷ ws) (CloseLeaf ∷ rest)

-- the two terms of a pair, where the spelling goes on behind them
going_pair_of : (s v : TermTree) (ls : List Leaf) (ws : List Want) (rest : List Leaf) →
    after (Some (Term ∷ Arrow ∷ Term ∷ ws)) ((spell_term s ++ ArrowLeaf ∷ (spell_term v ++ ls)) ++ rest)
    ≡ after (Some ws) (ls ++ rest)
going_pair_of s v ls ws rest =
    after_parts (Some (Term ∷ Arrow ∷ Term ∷ ws)) (spell_term s) (ArrowLeaf ∷ (spell_term v ++ ls)) rest
    ∙ (going_term s (Arrow ∷ Term ∷ ws) (ArrowLeaf ∷ ((spell_term v ++ ls) ++ rest))
    ∙ (after_parts (Some (Term ∷ ws)) (spell_term v) ls rest ∙ going_term v ws (ls ++ rest)))

pair_starts : (s : TermTree) (ls : List Leaf) (ws : List Want) (rest : List Leaf) →
    after (Some (Pairs ∷ ws)) ((spell_term s ++ ls) ++ rest)
    ≡ after (Some (Term ∷ Arrow ∷ Term ∷ Pairs ∷ ws)) ((spell_term s ++ ls) ++ rest)
pair_starts s ls ws rest =
    after_parts (Some (Pairs ∷ ws)) (spell_term s) ls rest
    ∙ (pairs_start s ws (ls ++ rest)
    ∙ sym (after_parts (Some (Term ∷ Arrow ∷ Term ∷ Pairs ∷ ws)) (spell_term s) ls rest))

-- pairs behind a first one
going_more_pairs : (ps : PairTrees) (ws : List Want) (rest : List Leaf) →
    after (Some (Pairs ∷ ws)) (spell_pairs ps ++ rest)
    ≡ after (Some (Term ∷ Arrow ∷ Term ∷ Pairs ∷ ws)) (spell_pairs ps ++ rest)
going_more_pairs (last_pair s v) ws rest = pair_starts s (ArrowLeaf ∷ (spell_term v ++ CloseSquareLeaf ∷ [])) ws rest
going_more_pairs (pairs s v ps) ws rest = pair_starts s (ArrowLeaf ∷ (spell_term v ++ spell_pairs ps)) ws rest

pub going_pairs : (ps : PairTrees) (ws : List Want) (rest : List Leaf) →
    after (Some (Term ∷ Arrow ∷ Term ∷ Pairs ∷ ws)) (spell_pairs ps ++ rest) ≡ after (Some ws) rest
going_pairs (last_pair s v) ws rest = going_pair_of s v (CloseSquareLeaf ∷ []) (Pairs ∷ ws) rest
going_pairs (pairs s v ps) ws rest =
    going_pair_of s v (spell_pairs ps) (Pairs ∷ ws) rest ∙ (going_more_pairs ps ws rest ∙ going_pairs ps ws rest)

-- what has still to come behind leaves, where a term or a name begins a want, and this comes behind it
abbrev pub after_named : Want → Want → Want → List Want → List Leaf → Option (List Want)
after_named w name other ws [] = Some (w ∷ ws)
after_named w name other ws (l ∷ ls) = after (followed (named_next name other l) ws) ls

pub going_named_term : (w name other : Want) (t : TermTree) (ws : List Want) (rest : List Leaf) →
    (end : Option (List Want)) → after (Some (name ∷ ws)) rest ≡ end → after (Some (other ∷ ws)) rest ≡ end →
    after_named w name other ws (spell_term t ++ rest) ≡ end
going_named_term w name other (constant (const_int z)) ws rest end named not_named = not_named
going_named_term w name other (constant (const_string s)) ws rest end named not_named = not_named
going_named_term w name other (constant (const_typed (Integer z) known)) ws rest end named not_named = not_named
going_named_term w name other (constant (const_typed (Boolean b) known)) ws rest end named not_named = not_named
going_named_term w name other (constant (const_typed (String s) known)) ws rest end named not_named = not_named
going_named_term w name other (constant (const_typed (IriLiteral s) known)) ws rest end named not_named = named
going_named_term w name other (constant (const_typed (LocalLiteral s) known)) ws rest end named not_named = named
going_named_term w name other (constant (const_typed OfNoType known)) ws rest end named not_named = not_named
going_named_term w name other (constant (const_iri s)) ws rest end named not_named = named
going_named_term w name other (constant (const_curie s)) ws rest end named not_named = named
going_named_term w name other (constant (const_local s)) ws rest end named not_named = named
going_named_term w name other (constant const_true) ws rest end named not_named = not_named
going_named_term w name other (constant const_false) ws rest end named not_named = not_named
going_named_term w name other (variable v) ws rest end named not_named = not_named
going_named_term w name other (call (func_known f) ts) ws rest end named not_named =
    going_arguments ts (other ∷ ws) rest ∙ not_named
going_named_term w name other (call func_unknown ts) ws rest end named not_named =
    going_arguments ts (other ∷ ws) rest ∙ not_named
going_named_term w name other (call func_undeclared ts) ws rest end named not_named =
    going_arguments ts (other ∷ ws) rest ∙ not_named

pub going_name : (w name other : Want) (n : NameTree) (ws : List Want) (rest : List Leaf) →
    after_named w name other ws (spell_name n ++ rest) ≡ after (Some (name ∷ ws)) rest
going_name w name other (name_iri t) ws rest = refl
going_name w name other (name_curie t) ws rest = refl
going_name w name other (name_local t) ws rest = refl
going_name w name other (name_typed_iri t known) ws rest = refl
going_name w name other (name_typed_local t known) ws rest = refl

-- a want that stays behind each variable
abbrev pub StaysBehindVars : Want → Type 0
StaysBehindVars w = (v : List ℕ) → next w (Var v) ≡ Some (w ∷ [])

-- the variables behind a first one
going_more_vars : (w : Want) → StaysBehindVars w → (vs : Vars) (ws : List Want) (rest : List Leaf) →
    after (Some (w ∷ ws)) (spell_vars vs ++ rest) ≡ after (Some (w ∷ ws)) rest
going_more_vars w stays (one_var v) ws rest = ap (λ o. after (followed o ws) rest) (stays v)
going_more_vars w stays (more_vars v vs) ws rest =
    ap (λ o. after (followed o ws) (spell_vars vs ++ rest)) (stays v) ∙ going_more_vars w stays vs ws rest

pub going_vars : (w : Want) → StaysBehindVars w → (vs : Vars) (ws : List Want) (rest : List Leaf) →
    after (Some (Variable ∷ w ∷ ws)) (spell_vars vs ++ rest) ≡ after (Some (w ∷ ws)) rest
going_vars w stays (one_var v) ws rest = refl
going_vars w stays (more_vars v vs) ws rest = going_more_vars w stays vs ws rest
