-- The piece at the front of a text is the longest token that has a form there.
use Rattle.std.proofs.Common.{◌≡◌, ℕ, ◌+◌, ◌≤◌, List, [], ◌∷◌, ◌++◌, length, take, drop, suc, refl, ap, ◌∙◌, sym}
use Rattle.std.proofs.Common.{subst, arith, true, false, ◌==◌, ◌||◌, inl, inr, length-append, length-take-le}
use Rattle.std.proofs.Common.{append_assoc}
use Rattle.std.proofs.lemmas.Bool.{eqb-true}
use Rattle.std.proofs.lemmas.List.{take-append-drop, drop_at, take_at}
use Rattle.std.specs.List.{AllByRecursion}
use Rattle.rif_lex.specs.declared.token.Kind.{Kind}
use Rattle.rif_lex.specs.declared.token.Kind.TheVariants.{Word, Curie, Local, Var, Int, Str, Iri, Open as OpenToken}
use Rattle.rif_lex.specs.declared.token.Kind.TheVariants.{Close as CloseToken, OpenSquare as OpenSquareToken}
use Rattle.rif_lex.specs.declared.token.Kind.TheVariants.{CloseSquare as CloseSquareToken, Equal as EqualToken}
use Rattle.rif_lex.specs.declared.token.Kind.TheVariants.{Hash as HashToken, HashHash, Arrow, Carets}
use Rattle.rif_lex.specs.declared.piece.Piece.TheVariants.{Lexeme}
use Rattle.rif_lex.specs.Characters.{class_at, begins, begins_name, is_name, is_digit, is_first_digit}
use Rattle.rif_lex.specs.Pieces.{name_length, digits_length, named, word_to, integer_to, piece_at}
use Rattle.rif_lex.specs.Forms.{AreNames, IsWord, IsCurie, IsNamed, IsNumber, HasForm, MayEnd, IsLongest}
use Rattle.rif_lex.specs.Forms.{TokensAreLongest}
use Rattle.rif_lex.specs.Scanning.{FitsIn}
use Rattle.rif_lex.proofs.TestLemmas.{by_test, differs}
use Rattle.rif_lex.proofs.FitLemmas.{piece_fits}
use Rattle.rif_lex.proofs.FormLemmas.{CannotGoOn, names_at_least, names_more, digits_at_least, curie_at, is_first}
use Rattle.rif_lex.proofs.FormLemmas.{piece_of_form}
use Rattle.rif_lex.proofs.SplitLemmas.{piece_splits}

-- No form goes beyond the piece.

lexeme_fits : (k : Kind) (n : ℕ) (text : List ℕ) → piece_at text ≡ Lexeme k n → (1 ≤ n) × (n ≤ length text)
lexeme_fits k n text is = subst (λ p. FitsIn p (length text)) is (piece_fits text)

same_end : (kind k : Kind) (m n : ℕ) → Lexeme kind m ≡ Lexeme k n → m ≤ n
same_end kind k m n e = let end : m ≡ n = cc in omega arith

word_reaches : (k : Kind) (n : ℕ) (text rest : List ℕ) → IsWord text rest → piece_at (text ++ rest) ≡ Lexeme k n →
    length text ≤ n
word_reaches k n text rest w e =
    let whole = w.is in
    let piece : word_to (1 + name_length (w.more ++ rest)) (w.first ∷ (w.more ++ rest)) ≡ Lexeme k n =
    rw (whole, w.letter) at e in
    let names = names_at_least w.more rest w.names in
    let long = ap length whole in
    by_test (begins 58 (drop (1 + name_length (w.more ++ rest)) (w.first ∷ (w.more ++ rest)))) _ _ _ piece
    (λ _ f. omega (arith, same_end _ _ _ _ f))
    (λ _ f. omega (arith, same_end _ _ _ _ f))

curie_reaches : (k : Kind) (n : ℕ) (text rest : List ℕ) → IsCurie text rest → piece_at (text ++ rest) ≡ Lexeme k n →
    length text ≤ n
curie_reaches k n text rest c e =
    let b = c.is_word.first in
    let bs = c.is_word.more in
    let whole : text ≡ b ∷ (bs ++ 58 ∷ c.more) = c.is ∙ ap (λ w. w ++ 58 ∷ c.more) c.is_word.is in
    let assoc : (bs ++ 58 ∷ c.more) ++ rest ≡ bs ++ (58 ∷ c.more ++ rest) = append_assoc bs (58 ∷ c.more) rest in
    let piece = rw (whole, assoc) at e in
    let same = sym (curie_at b bs c.more rest c.is_word.letter c.is_word.names) ∙ piece in
    omega (
      arith,
      same_end _ _ _ _ same,
      names_at_least c.more rest c.names,
      ap length whole,
      length-append bs (58 ∷ c.more),
    )

named_reaches : (kind k : Kind) (n first : ℕ) (more rest : List ℕ) → AreNames (first ∷ more) rest →
    named kind (name_length (first ∷ more ++ rest)) ≡ Lexeme k n →
    suc (suc (length more)) ≤ n
named_reaches kind k n first more rest names e =
    by_test (name_length (first ∷ more ++ rest) == 0) _ _ _ e (λ _ f. cc)
    (λ _ f. omega (arith, same_end _ _ _ _ f, names_at_least (first ∷ more) rest names))

digits_reach : (k : Kind) (n b : ℕ) (ds rest : List ℕ) → AllByRecursion (λ d. is_digit (class_at d) ≡ true) ds →
    integer_to (1 + digits_length (ds ++ rest)) (b ∷ (ds ++ rest)) ≡ Lexeme k n → suc (length ds) ≤ n
digits_reach k n b ds rest digits e =
    by_test (begins_name (drop (1 + digits_length (ds ++ rest)) (b ∷ (ds ++ rest))) || begins 58
    (drop (1 + digits_length (ds ++ rest)) (b ∷ (ds ++ rest)))) _ _ _ e
    (λ _ f. cc)
    (λ _ f. omega (arith, same_end _ _ _ _ f, digits_at_least ds rest digits))

number_reaches : (k : Kind) (n : ℕ) (text rest : List ℕ) → IsNumber text → piece_at (text ++ rest) ≡ Lexeme k n →
    length text ≤ n
number_reaches k n text rest number e =
    let is = number.is in
    let piece = rw (is, is_first (class_at number.first) number.first_digit) at e in
    omega (arith, digits_reach k n number.first number.more rest number.digits piece, ap length is)

negative_reaches : (k : Kind) (n : ℕ) (text rest : List ℕ) → IsNumber text →
    piece_at (45 ∷ text ++ rest) ≡ Lexeme k n → suc (length text) ≤ n
negative_reaches k n text rest number e =
    let is = number.is in
    let arrow = differs (λ x. is_first_digit (class_at x)) number.first 62 number.first_digit refl in
    let digit = is_first (class_at number.first) number.first_digit in
    let all : AllByRecursion (λ d. is_digit (class_at d) ≡ true) (number.first ∷ number.more) =
    (rw digit refl, number.digits) in
    let piece = rw (is, arrow, number.first_digit) at e in
    omega (arith, digits_reach k n 45 (number.first ∷ number.more) rest all piece, ap length is)

int_reaches : (k : Kind) (n : ℕ) (text rest : List ℕ) → HasForm Int text rest →
    piece_at (text ++ rest) ≡ Lexeme k n → length text ≤ n
int_reaches k n text rest form e = elim form [
  | inl naught ↦ omega (arith, (lexeme_fits k n (text ++ rest) e).0, ap length naught)
  | inr other ↦ elim other [
    | inl number ↦ number_reaches k n text rest number e
    | inr (ds, is, number) ↦ omega (arith, negative_reaches k n ds rest number (rw is at e), ap length is)
  ]
]

-- a form that needs no look at what follows
whole_reaches : (kind k : Kind) (n : ℕ) (text rest : List ℕ) → CannotGoOn kind rest → HasForm kind text rest →
    piece_at (text ++ rest) ≡ Lexeme k n → length text ≤ n
whole_reaches kind k n text rest stops form e = same_end _ _ _ _ (sym (piece_of_form kind text rest form stops) ∙ e)

form_reaches : (kind k : Kind) (n : ℕ) (text rest : List ℕ) → HasForm kind text rest →
    piece_at (text ++ rest) ≡ Lexeme k n → length text ≤ n
form_reaches Word k n text rest form e = word_reaches k n text rest form e
form_reaches Curie k n text rest form e = curie_reaches k n text rest form e
form_reaches Local k n text rest form e =
    let is = form.is in omega (
      arith,
      named_reaches Local k n form.first form.more rest form.names (rw is at e),
      ap length is,
    )
form_reaches Var k n text rest form e =
    let is = form.is in omega (
      arith,
      named_reaches Var k n form.first form.more rest form.names (rw is at e),
      ap length is,
    )
form_reaches Int k n text rest form e = int_reaches k n text rest form e
form_reaches Str k n text rest form e = whole_reaches Str k n text rest tt form e
form_reaches Iri k n text rest form e = whole_reaches Iri k n text rest tt form e
form_reaches OpenToken k n text rest form e = omega (arith, (lexeme_fits k n (text ++ rest) e).0, ap length form)
form_reaches HashToken k n text rest form e = omega (arith, (lexeme_fits k n (text ++ rest) e).0, ap length form)
form_reaches CloseToken k n text rest form e = whole_reaches CloseToken k n text rest tt form e
form_reaches OpenSquareToken k n text rest form e = whole_reaches OpenSquareToken k n text rest tt form e
form_reaches CloseSquareToken k n text rest form e = whole_reaches CloseSquareToken k n text rest tt form e
form_reaches EqualToken k n text rest form e = whole_reaches EqualToken k n text rest tt form e
form_reaches HashHash k n text rest form e = whole_reaches HashHash k n text rest tt form e
form_reaches Arrow k n text rest form e = whole_reaches Arrow k n text rest tt form e
form_reaches Carets k n text rest form e = whole_reaches Carets k n text rest tt form e

-- A longest form can't go on.

-- no form has one byte more
NoneIsLonger : List ℕ → List ℕ → Type 0
NoneIsLonger text rest = (k : Kind) (c : ℕ) (cs : List ℕ) → rest ≡ c ∷ cs → HasForm k (text ++ c ∷ []) cs → ⊥

-- a rest whose first byte may not be a name character
no_name : (rest : List ℕ) → ((c : ℕ) (cs : List ℕ) → rest ≡ c ∷ cs → is_name (class_at c) cs ≡ true → ⊥) →
    begins_name rest ≡ false
no_name [] never = refl
no_name (c ∷ cs) never = elim (is_name (class_at c) cs) as (λ v. is_name (class_at c) cs ≡ v → v ≡ false) [
  | true ↦ λ is. absurd (never c cs refl is)
  | false ↦ λ _. refl
] refl

-- a rest whose first byte may not be this one
no_byte : (b : ℕ) (rest : List ℕ) → ((cs : List ℕ) → rest ≡ b ∷ cs → ⊥) → begins b rest ≡ false
no_byte b [] never = refl
no_byte b (c ∷ cs) never = elim (c == b) as (λ v. (c == b) ≡ v → v ≡ false) [
  | true ↦ λ is. (let same : c ≡ b = eqb-true c b is in absurd (never cs (ap (λ (x : ℕ). x ∷ cs) same)))
  | false ↦ λ _. refl
] refl

word_more : (text : List ℕ) (c : ℕ) (cs : List ℕ) → IsWord text (c ∷ cs) → is_name (class_at c) cs ≡ true →
    IsWord (text ++ c ∷ []) cs
word_more text c cs w is = record {
  first = w.first;
  more = w.more ++ c ∷ [];
  is = ap (λ (x : List ℕ). x ++ c ∷ []) w.is;
  letter = w.letter;
  names = names_more w.more c cs w.names is;
}

curie_more : (text : List ℕ) (c : ℕ) (cs : List ℕ) → IsCurie text (c ∷ cs) → is_name (class_at c) cs ≡ true →
    IsCurie (text ++ c ∷ []) cs
curie_more text c cs u is = record {
  word = u.word;
  more = u.more ++ c ∷ [];
  is = ap (λ (x : List ℕ). x ++ c ∷ []) u.is ∙ append_assoc u.word (58 ∷ u.more) (c ∷ []);
  is_word = subst (λ (x : List ℕ). IsWord u.word (58 ∷ x)) (sym (append_assoc u.more (c ∷ []) cs)) u.is_word;
  names = names_more u.more c cs u.names is;
}

named_more : (sign : ℕ) (text : List ℕ) (c : ℕ) (cs : List ℕ) → IsNamed sign text (c ∷ cs) →
    is_name (class_at c) cs ≡ true → IsNamed sign (text ++ c ∷ []) cs
named_more sign text c cs n is = record {
  first = n.first;
  more = n.more ++ c ∷ [];
  is = ap (λ (x : List ℕ). x ++ c ∷ []) n.is;
  names = names_more (n.first ∷ n.more) c cs n.names is;
}

at_rest : (kind : Kind) (text rest : List ℕ) (c : ℕ) (cs : List ℕ) → rest ≡ c ∷ cs → HasForm kind text rest →
    HasForm kind text (c ∷ cs)
at_rest kind text rest c cs same form = subst (HasForm kind text) same form

cannot_go_on : (kind : Kind) (text rest : List ℕ) → HasForm kind text rest → MayEnd kind rest →
    NoneIsLonger text rest → CannotGoOn kind rest
unfolding NoneIsLonger
cannot_go_on Word text rest form ends none = (
  no_name rest (λ c cs same is. none Word c cs same (word_more text c cs (at_rest Word text rest c cs same form) is)),
  no_byte 58 rest (λ cs same. none Curie 58 cs same
      (record { word = text; more = []; is = refl; is_word = at_rest Word text rest 58 cs same form; names = tt })),
)
cannot_go_on Curie text rest form ends none =
    no_name rest (λ c cs same is.
    none Curie c cs same (curie_more text c cs (at_rest Curie text rest c cs same form) is))
cannot_go_on Local text rest form ends none =
    no_name rest (λ c cs same is.
    none Local c cs same (named_more 95 text c cs (at_rest Local text rest c cs same form) is))
cannot_go_on Var text rest form ends none =
    no_name rest (λ c cs same is.
    none Var c cs same (named_more 63 text c cs (at_rest Var text rest c cs same form) is))
cannot_go_on Int text rest form ends none = ends
cannot_go_on OpenToken text rest form ends none = ends
cannot_go_on HashToken text rest form ends none =
    no_byte 35 rest (λ cs same. none HashHash 35 cs same (ap (λ (x : List ℕ). x ++ 35 ∷ []) form))
cannot_go_on Str text rest form ends none = tt
cannot_go_on Iri text rest form ends none = tt
cannot_go_on CloseToken text rest form ends none = tt
cannot_go_on OpenSquareToken text rest form ends none = tt
cannot_go_on CloseSquareToken text rest form ends none = tt
cannot_go_on EqualToken text rest form ends none = tt
cannot_go_on HashHash text rest form ends none = tt
cannot_go_on Arrow text rest form ends none = tt
cannot_go_on Carets text rest form ends none = tt

may_end : (kind : Kind) (rest : List ℕ) → CannotGoOn kind rest → MayEnd kind rest
may_end Int rest stops = stops
may_end OpenToken rest stops = stops
may_end Word rest stops = tt
may_end Curie rest stops = tt
may_end Local rest stops = tt
may_end Var rest stops = tt
may_end HashToken rest stops = tt
may_end Str rest stops = tt
may_end Iri rest stops = tt
may_end CloseToken rest stops = tt
may_end OpenSquareToken rest stops = tt
may_end CloseSquareToken rest stops = tt
may_end EqualToken rest stops = tt
may_end HashHash rest stops = tt
may_end Arrow rest stops = tt
may_end Carets rest stops = tt

-- The law, both ways.

longest_of_piece : (text : List ℕ) (kind : Kind) (n : ℕ) → piece_at text ≡ Lexeme kind n → IsLongest text kind n
longest_of_piece text kind n e =
    let split = piece_splits kind n text e in
    let taken : take n text ≡ split.front = ap (take n) split.whole
    ∙ take_at split.front split.rest n (sym split.long) in
    let left : drop n text ≡ split.rest = ap (drop n) split.whole
    ∙ drop_at split.front split.rest n (sym split.long) in
    record {
      within = (lexeme_fits kind n text e).1;
      form = rw (taken, left) split.form;
      longest = λ k m longer within form.
          let whole : piece_at (take m text ++ drop m text) ≡ Lexeme kind n = rw (take-append-drop m text) e in
          let reach = form_reaches k kind n (take m text) (drop m text) form whole in
          absurd (omega (arith, length-take-le m text within));
      ends = rw left (may_end kind split.rest split.stops);
    }

none_is_longer : (text : List ℕ) (kind : Kind) (n : ℕ) → IsLongest text kind n →
    NoneIsLonger (take n text) (drop n text)
unfolding NoneIsLonger
none_is_longer text kind n at = λ k c cs same form.
    let front = take n text ++ c ∷ [] in
    let whole : text ≡ front ++ cs =
    sym (take-append-drop n text)
    ∙ (ap (λ (x : List ℕ). take n text ++ x) same ∙ sym (append_assoc (take n text) (c ∷ []) cs)) in
    let long : length front ≡ suc n =
    omega (arith, length-append (take n text) (c ∷ []), length-take-le n text at.within) in
    let taken : take (suc n) text ≡ front = ap (take (suc n)) whole ∙ take_at front cs (suc n) long in
    let left : drop (suc n) text ≡ cs = ap (drop (suc n)) whole ∙ drop_at front cs (suc n) long in
    let within : suc n ≤ length text = omega (arith, ap length whole, length-append front cs) in
    at.longest k (suc n) (omega arith) within (rw (taken, left) form)

piece_of_longest : (text : List ℕ) (kind : Kind) (n : ℕ) → IsLongest text kind n → piece_at text ≡ Lexeme kind n
piece_of_longest text kind n at =
    let front = take n text in
    let rest = drop n text in
    let long : length front ≡ n = length-take-le n text at.within in
    let piece = piece_of_form kind front rest at.form
    (cannot_go_on kind front rest at.form at.ends (none_is_longer text kind n at)) in
    subst (λ (x : List ℕ). piece_at x ≡ Lexeme kind n) (take-append-drop n text)
    (subst (λ (i : ℕ). piece_at (front ++ rest) ≡ Lexeme kind i) long piece)

pub tokens_are_longest : TokensAreLongest
tokens_are_longest text kind n = (longest_of_piece text kind n, piece_of_longest text kind n)
