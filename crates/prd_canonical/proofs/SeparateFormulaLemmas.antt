-- The canonical spelling of formulas is tokens of which each ends before the next.
use Rattle.std.proofs.Common.{ℕ, List, ◌∷◌, map, refl, sym, subst, codes}
use Rattle.rif_tree.specs.declared.builtin.Pred.{Pred}
use Rattle.rif_tree.specs.declared.builtin.Pred.TheVariants.{NumericEqual, NumericNotEqual, NumericLessThan}
use Rattle.rif_tree.specs.declared.builtin.Pred.TheVariants.{NumericLessThanOrEqual, NumericGreaterThan}
use Rattle.rif_tree.specs.declared.builtin.Pred.TheVariants.{NumericGreaterThanOrEqual, BooleanEqual}
use Rattle.rif_tree.specs.declared.builtin.Pred.TheVariants.{BooleanLessThan, BooleanGreaterThan, StartsWith}
use Rattle.rif_tree.specs.declared.builtin.Pred.TheVariants.{EndsWith, Contains, IsLiteralInteger, IsLiteralString}
use Rattle.rif_tree.specs.declared.builtin.Pred.TheVariants.{IsLiteralBoolean}
use Rattle.rif_lex.specs.declared.token.Kind.TheVariants.{Curie, Hash, Equal as EqualSign}
use Rattle.rif_lex.specs.Spelling.{IsToken, Gap, joined, space, Spelled, AreSeparate}
use Rattle.prd_writing.specs.Canonical.{spelled, opening, closing, open_square, close_square, arrow, gap_before}
use Rattle.prd_writing.specs.Canonical.{listed, spaced, var_spelling, pred_text, term_spelling, pair_spelling}
use Rattle.prd_writing.specs.Canonical.{frame_spelling, member_spelling, equal_spelling, atom_spelling}
use Rattle.prd_writing.specs.Canonical.{formula_spelling}
use Rattle.prd_grammar.specs.Trees.{NameTree, TermTree, TermTrees, PairTrees, last_pair, pairs, equals, member_of}
use Rattle.prd_grammar.specs.Trees.{with_pairs, Vars, one_var, more_vars, term_of_first, FormulaTree, conj, disj, neg}
use Rattle.prd_grammar.specs.Trees.{some, grouped, holds, compared, atom, FormulaTrees, no_formulas, formulas}
use Rattle.prd_grammar.specs.Values.{name_value, pred_value, term_value, terms_value, pairs_value, vars_value}
use Rattle.prd_grammar.specs.Values.{formula_value, formulas_value, place_of}
use Rattle.prd_canonical.specs.Writable.{Ends, IsWritableName, IsWritableTerm, AreWritableTerms, AreWritablePairs}
use Rattle.prd_canonical.specs.Writable.{AreWritableVars, IsWritableFormula, AreWritableFormulas}
use Rattle.prd_writing.proofs.CallerLemmas.{spelled_and, spelled_or, spelled_not, spelled_exists, spelled_equal}
use Rattle.prd_writing.proofs.CallerLemmas.{spelled_member, spelled_frame, spelled_atom, spelled_holds}
use Rattle.prd_canonical.proofs.SeparateLemmas.{separate_opening, separate_const, separate_var, separate_external}
use Rattle.prd_canonical.proofs.SeparateLemmas.{separate_term, separate_terms, ends_in_list}

pred_token : (p : Pred) → IsToken (record { kind = Curie; text = pred_text p })
pred_token NumericEqual = refl
pred_token NumericNotEqual = refl
pred_token NumericLessThan = refl
pred_token NumericLessThanOrEqual = refl
pred_token NumericGreaterThan = refl
pred_token NumericGreaterThanOrEqual = refl
pred_token BooleanEqual = refl
pred_token BooleanLessThan = refl
pred_token BooleanGreaterThan = refl
pred_token StartsWith = refl
pred_token EndsWith = refl
pred_token Contains = refl
pred_token IsLiteralInteger = refl
pred_token IsLiteralString = refl
pred_token IsLiteralBoolean = refl

separate_pair : (names : List (List ℕ)) (s v : TermTree) (gap : Gap) (rest : List Spelled) →
    IsWritableTerm names s → IsWritableTerm names v → AreSeparate rest → Ends gap rest →
    AreSeparate (pair_spelling names (term_value names s, term_value names v) gap rest)
separate_pair names s v gap rest ws wv h e =
    separate_term names s joined (arrow ∷ term_spelling names (term_value names v) gap rest) ws
    (refl, refl, separate_term names v gap rest wv h e) refl

separate_pairs : (names : List (List ℕ)) (ps : PairTrees) (rest : List Spelled) →
    AreWritablePairs names ps → AreSeparate rest → Ends joined rest →
    AreSeparate (listed (map (pair_spelling names) (pairs_value names ps)) rest)
separate_pairs names (last_pair s v) rest w h e = separate_pair names s v joined rest w.0 w.1 h e
separate_pairs names (pairs s v ps) rest w h e =
    let more = map (pair_spelling names) (pairs_value names ps) in
    separate_pair names s v (gap_before more) (listed more rest) w.0 w.1.0
    (separate_pairs names ps rest w.1.1 h e) (ends_in_list more rest e)

pub separate_frame : (names : List (List ℕ)) (o : TermTree) (ps : PairTrees) (gap : Gap) (rest : List Spelled) →
    IsWritableTerm names o → AreWritablePairs names ps → AreSeparate rest →
    AreSeparate (frame_spelling names (term_value names o) (pairs_value names ps) gap rest)
separate_frame names o ps gap rest wo wp h =
    separate_term names o joined
    (open_square ∷ listed (map (pair_spelling names) (pairs_value names ps)) (close_square gap ∷ rest)) wo
    (refl, refl, separate_pairs names ps (close_square gap ∷ rest) wp (refl, refl, h) refl) refl

pub separate_member : (names : List (List ℕ)) (o c : TermTree) (gap : Gap) (rest : List Spelled) →
    IsWritableTerm names o → IsWritableTerm names c → AreSeparate rest → Ends gap rest →
    AreSeparate (member_spelling names (term_value names o) (term_value names c) gap rest)
separate_member names o c gap rest wo wc h e =
    separate_term names o space
    (spelled Hash (codes "#") space ∷ term_spelling names (term_value names c) gap rest) wo
    (refl, refl, separate_term names c gap rest wc h e) refl

separate_equal : (names : List (List ℕ)) (t u : TermTree) (gap : Gap) (rest : List Spelled) →
    IsWritableTerm names t → IsWritableTerm names u → AreSeparate rest → Ends gap rest →
    AreSeparate (equal_spelling names (term_value names t) (term_value names u) gap rest)
separate_equal names t u gap rest wt wu h e =
    separate_term names t space
    (spelled EqualSign (codes "=") space ∷ term_spelling names (term_value names u) gap rest) wt
    (refl, refl, separate_term names u gap rest wu h e) refl

pub separate_atom : (names : List (List ℕ)) (n : NameTree) (ts : TermTrees) (gap : Gap) (rest : List Spelled) →
    IsWritableName n → AreWritableTerms names ts → AreSeparate rest →
    AreSeparate (atom_spelling names (name_value n) (terms_value names ts) gap rest)
separate_atom names n ts gap rest wn wt h =
    let inside = listed (map (term_spelling names) (terms_value names ts)) (closing gap ∷ rest) in
    separate_const (name_value n) joined (opening ∷ inside) wn
    (separate_opening inside (separate_terms names ts (closing gap ∷ rest) wt (refl, refl, h) refl)) refl

pub separate_vars : (names : List (List ℕ)) (vs : Vars) (rest : List Spelled) → AreWritableVars names vs →
    AreSeparate rest → AreSeparate (spaced (map (var_spelling names) (vars_value names vs)) rest)
separate_vars names (one_var v) rest w h = separate_var names (place_of names v) space rest w h refl
separate_vars names (more_vars v vs) rest w h =
    separate_var names (place_of names v) space (spaced (map (var_spelling names) (vars_value names vs)) rest) w.0
    (separate_vars names vs rest w.1 h) refl

mutual
  pub separate_formula : (names : List (List ℕ)) (f : FormulaTree) (gap : Gap) (rest : List Spelled) →
      IsWritableFormula names f → AreSeparate rest → Ends gap rest →
      AreSeparate (formula_spelling names (formula_value names f) gap rest)
  separate_formula names (conj fs) gap rest w h e =
      let inside = listed (map (formula_spelling names) (formulas_value names fs)) (closing gap ∷ rest) in
      subst AreSeparate (sym (spelled_and names (formulas_value names fs) gap rest))
      (refl, refl, separate_opening inside (separate_formulas names fs (closing gap ∷ rest) w (refl, refl, h) refl))
  separate_formula names (disj fs) gap rest w h e =
      let inside = listed (map (formula_spelling names) (formulas_value names fs)) (closing gap ∷ rest) in
      subst AreSeparate (sym (spelled_or names (formulas_value names fs) gap rest))
      (refl, refl, separate_opening inside (separate_formulas names fs (closing gap ∷ rest) w (refl, refl, h) refl))
  separate_formula names (neg n f) gap rest w h e =
      let inside = formula_spelling names (formula_value names f) joined (closing gap ∷ rest) in
      subst AreSeparate (sym (spelled_not names (formula_value names f) gap rest)) (
        refl,
        refl,
        separate_opening inside
            (separate_formula names f joined (closing gap ∷ rest) w (refl, refl, h) refl),
      )
  separate_formula names (some vs f) gap rest w h e =
      let inside = formula_spelling names (formula_value names f) joined (closing gap ∷ rest) in
      subst AreSeparate (sym (spelled_exists names (vars_value names vs) (formula_value names f) gap rest)) (
        refl,
        refl,
        separate_vars names vs (opening ∷ inside) w.0
            (separate_opening inside (separate_formula names f joined (closing gap ∷ rest) w.1 (refl, refl, h) refl)),
      )
  separate_formula names (grouped f) gap rest w h e = separate_formula names f gap rest w h e
  separate_formula names (holds p ts) gap rest w h e =
      subst AreSeparate (sym (spelled_holds names (pred_value p) (terms_value names ts) gap rest))
      (separate_external (pred_text (pred_value p)) (map (term_spelling names) (terms_value names ts)) gap rest
      (pred_token (pred_value p))
      (separate_terms names ts (closing joined ∷ closing gap ∷ rest) w (refl, refl, (refl, refl, h)) refl))
  separate_formula names (compared t (equals u)) gap rest w h e =
      subst AreSeparate (sym (spelled_equal names (term_value names (term_of_first t)) (term_value names u) gap rest))
      (separate_equal names (term_of_first t) u gap rest w.0 w.1 h e)
  separate_formula names (compared t (member_of u)) gap rest w h e =
      subst AreSeparate (sym
      (spelled_member names (term_value names (term_of_first t)) (term_value names u) gap rest))
      (separate_member names (term_of_first t) u gap rest w.0 w.1 h e)
  separate_formula names (compared t (with_pairs ps)) gap rest w h e =
      subst AreSeparate (sym
      (spelled_frame names (term_value names (term_of_first t)) (pairs_value names ps) gap rest))
      (separate_frame names (term_of_first t) ps gap rest w.0 w.1 h)
  separate_formula names (atom n ts) gap rest w h e =
      subst AreSeparate (sym (spelled_atom names (name_value n) (terms_value names ts) gap rest))
      (separate_atom names n ts gap rest w.0 w.1 h)

  pub separate_formulas : (names : List (List ℕ)) (fs : FormulaTrees) (rest : List Spelled) →
      AreWritableFormulas names fs → AreSeparate rest → Ends joined rest →
      AreSeparate (listed (map (formula_spelling names) (formulas_value names fs)) rest)
  separate_formulas names no_formulas rest w h e = h
  separate_formulas names (formulas f fs) rest w h e =
      let more = map (formula_spelling names) (formulas_value names fs) in
      separate_formula names f (gap_before more) (listed more rest) w.0 (separate_formulas names fs rest w.1 h e)
      (ends_in_list more rest e)
