-- The canonical spelling is tokens of which each ends before the next.
use Rattle.std.proofs.Common.{◌≡◌, ℕ, ◌==◌, ◌&&◌, not, Bool, true, false, List, [], ◌∷◌, ◌++◌, length, map, get_or}
use Rattle.std.proofs.Common.{refl, ap, sym, subst, codes}
use Rattle.std.proofs.lemmas.Bool.{eqb-true}
use Rattle.rif_tree.specs.declared.builtin.Func.{Func}
use Rattle.rif_tree.specs.declared.builtin.Func.TheVariants.{NumericAdd, NumericSubtract, NumericMultiply}
use Rattle.rif_tree.specs.declared.builtin.Func.TheVariants.{NumericIntegerDivide, NumericIntegerMod, Not as NotFunc}
use Rattle.rif_tree.specs.declared.builtin.Func.TheVariants.{Concat, StringLength}
use Rattle.rif_values.specs.declared.constant.Const.{Const}
use Rattle.rif_values.specs.declared.constant.Const.TheVariants.{Int as IntConst, Bool as BoolConst, Str as StrConst}
use Rattle.rif_values.specs.declared.constant.Const.TheVariants.{Iri as IriConst, Local as LocalConst, Fresh}
use Rattle.rif_lex.specs.declared.piece.Piece.TheVariants.{Lexeme}
use Rattle.rif_lex.specs.declared.token.Kind.{Kind}
use Rattle.rif_lex.specs.declared.token.Kind.TheVariants.{Word, Curie, Local, Var, Int}
use Rattle.rif_lex.specs.Characters.{begins, begins_name}
use Rattle.rif_lex.specs.Pieces.{piece_at}
use Rattle.rif_lex.specs.Spelling.{IsToken, Gap, joined, gap_text, Spelled, spelled_text, ends_name, ends_before}
use Rattle.rif_lex.specs.Spelling.{AreSeparate}
use Rattle.rif_lex.proofs.CallerLemmas.{constants_are_tokens, forms_are_tokens}
use Rattle.prd_writing.specs.Canonical.{Writing, opening, closing, gap_before, listed, const_spelling, var_spelling}
use Rattle.prd_writing.specs.Canonical.{func_text, external_spelling, term_spelling}
use Rattle.prd_grammar.specs.Trees.{TermTree, constant, variable, call, TermTrees, no_terms, terms}
use Rattle.prd_grammar.specs.Values.{const_value, func_value, term_value, terms_value, place_of}
use Rattle.prd_canonical.specs.Writable.{HasNames, IsNameText, IsWritableConst, IsWritableTerm, AreWritableTerms}
use Rattle.prd_canonical.specs.Writable.{Ends}
use Rattle.prd_writing.proofs.CallerLemmas.{spelled_const, spelled_var, spelled_call}

and_first : (a b : Bool) → a && b ≡ true → a ≡ true
and_first true b h = refl
and_first false b h = h

and_second : (a b : Bool) → a && b ≡ true → b ≡ true
and_second true b h = h
and_second false b h = cc

both : (a b : Bool) → a ≡ true → b ≡ true → a && b ≡ true
both true true h k = refl
both true false h k = k
both false b h k = h

ends_as_name : (rest : List ℕ) → ends_before Word rest ≡ true → ends_name rest ≡ true
ends_as_name rest e = and_first (ends_name rest) (not (begins 58 rest)) e

ends_as_int : (rest : List ℕ) → ends_before Word rest ≡ true → ends_before Int rest ≡ true
ends_as_int rest e = both (not (begins_name rest)) (not (begins 58 rest))
    (and_first (not (begins_name rest)) (not (begins 62 rest)) (ends_as_name rest e))
    (and_second (ends_name rest) (not (begins 58 rest)) e)

-- no token begins with a star
no_star_by : (k : Kind) (b : ℕ) (bs : List ℕ) (is : Bool) → (b == 42) ≡ is →
    piece_at (b ∷ bs) ≡ Lexeme k (length (b ∷ bs)) → (b == 42) ≡ false
no_star_by k b bs false e token = e
no_star_by k b bs true e token =
    let star : b ≡ 42 = eqb-true b 42 e in
    let none = subst (λ x. piece_at (x ∷ bs) ≡ Lexeme k (length (x ∷ bs))) star token in cc

no_star_text : (k : Kind) (text more : List ℕ) → piece_at text ≡ Lexeme k (length text) →
    begins 42 (text ++ more) ≡ false
no_star_text k [] more token = cc
no_star_text k (b ∷ bs) more token = no_star_by k b bs (b == 42) refl token

no_star : (ws : List Spelled) → AreSeparate ws → begins 42 (spelled_text ws) ≡ false
no_star [] separate = refl
no_star (s ∷ ss) separate =
    no_star_text s.token.kind s.token.text (gap_text s.gap ++ spelled_text ss) separate.0

pub separate_opening : (rest : List Spelled) → AreSeparate rest → AreSeparate (opening ∷ rest)
separate_opening rest separate = (refl, ap not (no_star rest separate), separate)

name_token : (t : List ℕ) → HasNames t → IsToken (record { kind = Local; text = codes "_" ++ t })
name_token [] names = absurd names
name_token (b ∷ bs) names = constants_are_tokens.names b bs names

var_token : (t : List ℕ) → HasNames t → IsToken (record { kind = Var; text = codes "?" ++ t })
var_token [] names = absurd names
var_token (b ∷ bs) names =
    (forms_are_tokens Var (63 ∷ b ∷ bs)).1 (record { first = b; more = bs; is = refl; names = names })

pub separate_const : (c : Const) (gap : Gap) (rest : List Spelled) → IsWritableConst c → AreSeparate rest →
    Ends gap rest → AreSeparate (const_spelling c gap rest)
separate_const (IntConst z) gap rest w s e =
    (constants_are_tokens.integers z w.small, ends_as_int (gap_text gap ++ spelled_text rest) e, s)
separate_const (BoolConst b) gap rest w s e = (constants_are_tokens.truths b, e, s)
separate_const (StrConst t) gap rest w s e = (constants_are_tokens.strings t, refl, s)
separate_const (IriConst t) gap rest w s e = (constants_are_tokens.iris t w.inside, refl, s)
separate_const (LocalConst t) gap rest w s e =
    (name_token t w.names, ends_as_name (gap_text gap ++ spelled_text rest) e, s)
separate_const (Fresh k) gap rest w s e = absurd w

pub separate_var : (names : List (List ℕ)) (v : ℕ) (gap : Gap) (rest : List Spelled) →
    IsNameText (get_or names v []) → AreSeparate rest → Ends gap rest → AreSeparate (var_spelling names v gap rest)
separate_var names v gap rest w s e =
    (var_token (get_or names v []) w.names, ends_as_name (gap_text gap ++ spelled_text rest) e, s)

-- the name of a built-in is one token, which `(` ends
func_token : (f : Func) → IsToken (record { kind = Curie; text = func_text f })
func_token NumericAdd = refl
func_token NumericSubtract = refl
func_token NumericMultiply = refl
func_token NumericIntegerDivide = refl
func_token NumericIntegerMod = refl
func_token NotFunc = refl
func_token Concat = refl
func_token StringLength = refl

pub separate_external : (name : List ℕ) (ws : List Writing) (gap : Gap) (rest : List Spelled) →
    IsToken (record { kind = Curie; text = name }) → AreSeparate (listed ws (closing joined ∷ closing gap ∷ rest)) →
    AreSeparate (external_spelling name ws gap rest)
separate_external name ws gap rest token s = (
  refl,
  refl,
  (
    refl,
    ap not (no_star_text Curie name (40 ∷ spelled_text (listed ws (closing joined ∷ closing gap ∷ rest))) token),
    (token, refl, separate_opening (listed ws (closing joined ∷ closing gap ∷ rest)) s),
  ),
)

-- a member of a list ends before what follows it there
pub ends_in_list : (ws : List Writing) (rest : List Spelled) → Ends joined rest →
    Ends (gap_before ws) (listed ws rest)
ends_in_list [] rest e = e
ends_in_list (w ∷ ws) rest e = refl

mutual
  pub separate_term : (names : List (List ℕ)) (t : TermTree) (gap : Gap) (rest : List Spelled) →
      IsWritableTerm names t → AreSeparate rest → Ends gap rest →
      AreSeparate (term_spelling names (term_value names t) gap rest)
  separate_term names (constant c) gap rest w s e =
      subst AreSeparate (sym (spelled_const names (const_value c) gap rest))
      (separate_const (const_value c) gap rest w s e)
  separate_term names (variable v) gap rest w s e =
      subst AreSeparate (sym (spelled_var names (place_of names v) gap rest))
      (separate_var names (place_of names v) gap rest w s e)
  separate_term names (call f ts) gap rest w s e =
      subst AreSeparate (sym (spelled_call names (func_value f) (terms_value names ts) gap rest))
      (separate_external (func_text (func_value f)) (map (term_spelling names) (terms_value names ts)) gap rest
      (func_token (func_value f))
      (separate_terms names ts (closing joined ∷ closing gap ∷ rest) w (refl, refl, (refl, refl, s)) refl))

  pub separate_terms : (names : List (List ℕ)) (ts : TermTrees) (rest : List Spelled) →
      AreWritableTerms names ts → AreSeparate rest → Ends joined rest →
      AreSeparate (listed (map (term_spelling names) (terms_value names ts)) rest)
  separate_terms names no_terms rest w s e = s
  separate_terms names (terms t ts) rest w s e =
      let more = map (term_spelling names) (terms_value names ts) in
      separate_term names t (gap_before more) (listed more rest) w.0 (separate_terms names ts rest w.1 s e)
      (ends_in_list more rest e)
