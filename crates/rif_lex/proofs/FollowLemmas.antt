-- A token stays it where something else follows that it ends before.
use Rattle.std.proofs.Common.{◌≡◌, ℕ, List, [], ◌∷◌, ◌++◌, length, take, refl, ap, ◌∙◌, sym, subst, arith, true}
use Rattle.std.proofs.Common.{false, not}
use Rattle.std.proofs.lemmas.Bool.{not-true}
use Rattle.std.proofs.lemmas.List.{append-nil, append_cancel_left, take_at, take_all}
use Rattle.rif_lex.specs.declared.class.Class.{Class}
use Rattle.rif_lex.specs.declared.class.Class.TheVariants.{Minus}
use Rattle.rif_lex.specs.declared.token.Kind.{Kind}
use Rattle.rif_lex.specs.declared.token.Kind.TheVariants.{Word, Curie, Local, Var, Int, Str, Iri, Open, Close}
use Rattle.rif_lex.specs.declared.token.Kind.TheVariants.{OpenSquare, CloseSquare, Equal, Hash, HashHash, Arrow}
use Rattle.rif_lex.specs.declared.token.Kind.TheVariants.{Carets}
use Rattle.rif_lex.specs.declared.piece.Piece.TheVariants.{Lexeme}
use Rattle.rif_lex.specs.Characters.{class_at, begins, begins_name, is_name}
use Rattle.rif_lex.specs.Pieces.{piece_at}
use Rattle.rif_lex.specs.Forms.{AreNames, IsWord, IsCurie, IsNamed, HasForm}
use Rattle.rif_lex.specs.Spelling.{FormsAreTokens, ends_name, ends_before}
use Rattle.rif_lex.proofs.TestLemmas.{both, both_not}
use Rattle.rif_lex.proofs.FormLemmas.{CannotGoOn, piece_of_form}
use Rattle.rif_lex.proofs.SplitLemmas.{IsSplit, piece_splits}

minus_before : (bs rest new : List ℕ) → begins 62 new ≡ false → begins 62 (bs ++ rest) ≡ false →
    begins 62 (bs ++ new) ≡ false
minus_before [] rest new never was = never
minus_before (b ∷ bs) rest new never was = was

name_before : (c : Class) (bs rest new : List ℕ) → begins 62 new ≡ false → is_name c (bs ++ rest) ≡ true →
    is_name c (bs ++ new) ≡ true
name_before Minus bs rest new never is =
    ap not (minus_before bs rest new never (not-true (begins 62 (bs ++ rest)) is))
name_before c bs rest new never is = is

-- names are names before all that doesn't begin with `>`
names_before : (bs rest new : List ℕ) → begins 62 new ≡ false → AreNames bs rest → AreNames bs new
names_before [] rest new never names = tt
names_before (b ∷ bs) rest new never names =
    (name_before (class_at b) bs rest new never names.0, names_before bs rest new never names.1)

word_before : (text rest new : List ℕ) → begins 62 new ≡ false → IsWord text rest → IsWord text new
word_before text rest new never w =
    record {
      first = w.first;
      more = w.more;
      is = w.is;
      letter = w.letter;
      names =
          names_before w.more rest new never w.names;
    }

curie_before : (text rest new : List ℕ) → begins 62 new ≡ false → IsCurie text rest → IsCurie text new
curie_before text rest new never c = record {
  word = c.word;
  more = c.more;
  is = c.is;
  is_word = word_before c.word (58 ∷ c.more ++ rest) (58 ∷ c.more ++ new) refl c.is_word;
  names = names_before c.more rest new never c.names;
}

named_before : (sign : ℕ) (text rest new : List ℕ) → begins 62 new ≡ false → IsNamed sign text rest →
    IsNamed sign text new
named_before sign text rest new never n = record {
  first = n.first;
  more = n.more;
  is = n.is;
  names = names_before (n.first ∷ n.more) rest new never n.names;
}

-- names end before the text
record NamesEnd (rest : List ℕ) : Type 0 where
  name : begins_name rest ≡ false
  arrow : begins 62 rest ≡ false

names_end_before : (rest : List ℕ) → ends_name rest ≡ true → NamesEnd rest
names_end_before rest ends = let s = both_not (begins_name rest) (begins 62 rest) ends in
    record { name = s.0; arrow = s.1 }

-- a form that stands before one text stands before each that it ends before, and can't go on there
followed : (k : Kind) (text rest new : List ℕ) → ends_before k new ≡ true → HasForm k text rest →
    HasForm k text new × CannotGoOn k new
followed Word text rest new ends form =
    let s = both (ends_name new) (not (begins 58 new)) ends in
    let stop = names_end_before new s.0 in
    (word_before text rest new stop.arrow form, (stop.name, not-true (begins 58 new) s.1))
followed Curie text rest new ends form = let stop = names_end_before new ends in
    (curie_before text rest new stop.arrow form, stop.name)
followed Local text rest new ends form = let stop = names_end_before new ends in
    (named_before 95 text rest new stop.arrow form, stop.name)
followed Var text rest new ends form = let stop = names_end_before new ends in
    (named_before 63 text rest new stop.arrow form, stop.name)
followed Int text rest new ends form = (form, both_not (begins_name new) (begins 58 new) ends)
followed Open text rest new ends form = (form, not-true (begins 42 new) ends)
followed Hash text rest new ends form = (form, not-true (begins 35 new) ends)
followed Str text rest new ends form = (form, tt)
followed Iri text rest new ends form = (form, tt)
followed Close text rest new ends form = (form, tt)
followed OpenSquare text rest new ends form = (form, tt)
followed CloseSquare text rest new ends form = (form, tt)
followed Equal text rest new ends form = (form, tt)
followed HashHash text rest new ends form = (form, tt)
followed Arrow text rest new ends form = (form, tt)
followed Carets text rest new ends form = (form, tt)

-- each token ends before the end
ends_at_end : (k : Kind) → ends_before k [] ≡ true
ends_at_end Word = refl
ends_at_end Curie = refl
ends_at_end Local = refl
ends_at_end Var = refl
ends_at_end Int = refl
ends_at_end Open = refl
ends_at_end Hash = refl
ends_at_end k = refl

front_piece : (k : Kind) (n : ℕ) (text new : List ℕ) (at : IsSplit k n text) → ends_before k new ≡ true →
    piece_at (at.front ++ new) ≡ Lexeme k n
front_piece k n text new at ends =
    let before = followed k at.front at.rest new ends at.form in
    piece_of_form k at.front new before.0 before.1 ∙ ap (Lexeme k) (sym at.long)

pub split_front : (k : Kind) (n : ℕ) (text : List ℕ) (at : IsSplit k n text) → take n text ≡ at.front
split_front k n text at = ap (take n) at.whole ∙ take_at at.front at.rest n (sym at.long)

-- a token's text is, alone, one token of its kind
pub piece_alone : (k : Kind) (n : ℕ) (text : List ℕ) → piece_at text ≡ Lexeme k n →
    piece_at (take n text) ≡ Lexeme k n
piece_alone k n text is =
    let at = piece_splits k n text is in
    let alone = front_piece k n text [] at (ends_at_end k) in
    subst (λ (x : List ℕ). piece_at x ≡ Lexeme k n) (append-nil at.front ∙ sym (split_front k n text at)) alone

-- a text that is one token is that token where it ends before what follows
pub piece_at-append : (k : Kind) (text rest : List ℕ) → piece_at text ≡ Lexeme k (length text) →
    ends_before k rest ≡ true →
    piece_at (text ++ rest) ≡ Lexeme k (length text)
piece_at-append k text rest is ends =
    let at = piece_splits k (length text) text is in
    let whole : at.front ≡ text = sym (split_front k (length text) text at)
    ∙ take_all (length text) text (omega arith) in
    subst (λ (x : List ℕ). piece_at (x ++ rest) ≡ Lexeme k (length text)) whole
    (front_piece k (length text) text rest at ends)

-- Nothing goes on a token at the end.
stops_at_end : (k : Kind) (text : List ℕ) → HasForm k text [] → CannotGoOn k []
stops_at_end k text form = (followed k text [] [] (ends_at_end k) form).1

token_of_form : (k : Kind) (text : List ℕ) → HasForm k text [] → piece_at text ≡ Lexeme k (length text)
token_of_form k text form =
    subst (λ (x : List ℕ). piece_at x ≡ Lexeme k (length text)) (append-nil text)
    (piece_of_form k text [] form (stops_at_end k text form))

form_of_token : (k : Kind) (text : List ℕ) → piece_at text ≡ Lexeme k (length text) → HasForm k text []
form_of_token k text is =
    let at = piece_splits k (length text) text is in
    let front : at.front ≡ text =
    sym (split_front k (length text) text at) ∙ take_all (length text) text (omega arith) in
    let whole : at.front ++ at.rest ≡ at.front ++ [] = sym at.whole ∙ (sym front ∙ sym (append-nil at.front)) in
    let rest : at.rest ≡ [] = append_cancel_left at.front at.rest [] whole in
    subst (λ (x : List ℕ). HasForm k x []) front (subst (HasForm k at.front) rest at.form)

pub forms_are_tokens : FormsAreTokens
forms_are_tokens k text = (form_of_token k text, token_of_form k text)
