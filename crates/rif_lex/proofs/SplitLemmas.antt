-- From the piece at the front of a text to the form that it has.
use Rattle.std.proofs.Common.{◌≡◌, ℕ, ◌+◌, List, [], ◌∷◌, ◌++◌, length, take, drop, suc, refl, ap, ◌∙◌, sym, subst}
use Rattle.std.proofs.Common.{arith, true, false, cond, Bool, ◌==◌, ◌||◌, Some, None, inl, inr, length-append}
use Rattle.std.proofs.Common.{length-take-le, append_assoc}
use Rattle.std.proofs.lemmas.Bool.{eqb-true}
use Rattle.std.proofs.lemmas.List.{take-append-drop, drop-drop}
use Rattle.std.specs.List.{flat_map, AllByRecursion}
use Rattle.std.specs.declared.option.Option.{Option}
use Rattle.rif_lex.specs.declared.class.Class.{Class}
use Rattle.rif_lex.specs.declared.class.Class.TheVariants.{White, Letter, Zero, Digit, Underscore, Minus, Question}
use Rattle.rif_lex.specs.declared.class.Class.TheVariants.{Quote, Less, Open, Close, OpenSquare, CloseSquare, Equal}
use Rattle.rif_lex.specs.declared.class.Class.TheVariants.{Hash, Caret, Other}
use Rattle.rif_lex.specs.declared.token.Kind.{Kind}
use Rattle.rif_lex.specs.declared.token.Kind.TheVariants.{Word, Curie, Local, Var, Int, Str, Iri, Open as OpenToken}
use Rattle.rif_lex.specs.declared.token.Kind.TheVariants.{Close as CloseToken, OpenSquare as OpenSquareToken}
use Rattle.rif_lex.specs.declared.token.Kind.TheVariants.{CloseSquare as CloseSquareToken, Equal as EqualToken}
use Rattle.rif_lex.specs.declared.token.Kind.TheVariants.{Hash as HashToken, HashHash, Arrow, Carets}
use Rattle.rif_lex.specs.declared.piece.Piece.TheVariants.{Lexeme}
use Rattle.rif_lex.specs.Characters.{class_at, begins, begins_name, begins_number, is_name, is_digit, is_first_digit}
use Rattle.rif_lex.specs.Characters.{is_escape, is_inside_iri}
use Rattle.rif_lex.specs.Pieces.{name_length, digits_length, longer, string_length, escaped_length, iri_length}
use Rattle.rif_lex.specs.Pieces.{annotation_length, token_to, named, word_to, integer_to, piece_of, piece_at}
use Rattle.rif_lex.specs.Forms.{AreNames, IsNamed, IsNumber, Part, plain, escape, part_text, is_part, HasForm}
use Rattle.rif_lex.proofs.TestLemmas.{by_test, neither, longer_one, no_lexeme}
use Rattle.rif_lex.proofs.FitLemmas.{name_length_le, digits_length_le}
use Rattle.rif_lex.proofs.FormLemmas.{CannotGoOn, names_front, names_end}

-- a text begins with a token of n bytes that has a form, and that what follows can't go on
pub record IsSplit (k : Kind) (n : ℕ) (text : List ℕ) : Type 0 where
  pub front : List ℕ
  pub rest : List ℕ
  pub whole : text ≡ front ++ rest
  pub long : n ≡ length front
  pub form : HasForm k front rest
  pub stops : CannotGoOn k rest

first_and_rest : (c : ℕ) (bs : List ℕ) → begins c bs ≡ true → bs ≡ c ∷ drop 1 bs
first_and_rest c [] is = cc
first_and_rest c (b ∷ bs) is = let same : b ≡ c = eqb-true b c is in ap (λ (x : ℕ). x ∷ bs) same

-- what stands behind the names that follow a byte
behind_names : (b : ℕ) (bs : List ℕ) → drop (1 + name_length bs) (b ∷ bs) ≡ drop (name_length bs) bs
behind_names b bs = let one : 1 + name_length bs ≡ suc (name_length bs) = omega arith in rw one refl

length-front : (bs : List ℕ) → length (take (name_length bs) bs) ≡ name_length bs
length-front bs = length-take-le (name_length bs) bs (name_length_le bs)

word_split : (b : ℕ) (bs : List ℕ) → class_at b ≡ Letter → begins 58 (drop (name_length bs) bs) ≡ false →
    IsSplit Word (1 + name_length bs) (b ∷ bs)
word_split b bs letter none = record {
  front = b ∷ take (name_length bs) bs;
  rest = drop (name_length bs) bs;
  whole = ap (λ (x : List ℕ). b ∷ x) (sym (take-append-drop (name_length bs) bs));
  long = omega (arith, length-front bs);
  form = record { first = b; more = take (name_length bs) bs; is = refl; letter = letter; names = names_front bs };
  stops = (names_end bs, none);
}

curie_split : (b : ℕ) (bs ds : List ℕ) → class_at b ≡ Letter → drop (name_length bs) bs ≡ 58 ∷ ds →
    IsSplit Curie (1 + name_length bs + 1 + name_length ds) (b ∷ bs)
curie_split b bs ds letter colon =
    let u = take (name_length bs) bs in
    let more = take (name_length ds) ds in
    let rest = drop (name_length ds) ds in
    let behind : drop (name_length bs) bs ≡ 58 ∷ (more ++ rest) = colon
    ∙ ap (λ (x : List ℕ). 58 ∷ x) (sym (take-append-drop (name_length ds) ds)) in
    let parts : bs ≡ u ++ (58 ∷ (more ++ rest)) = sym (take-append-drop (name_length bs) bs)
    ∙ ap (λ (x : List ℕ). u ++ x) behind in
    let assoc : u ++ (58 ∷ (more ++ rest)) ≡ (u ++ 58 ∷ more) ++ rest = sym (append_assoc u (58 ∷ more) rest) in
    record {
      front = b ∷ (u ++ 58 ∷ more);
      rest = rest;
      whole = ap (λ (x : List ℕ). b ∷ x) (parts ∙ assoc);
      long = omega (arith, length-front bs, length-front ds, length-append u (58 ∷ more));
      form = record {
        word = b ∷ u;
        more = more;
        is = refl;
        is_word = record {
          first = b;
          more = u;
          is = refl;
          letter = letter;
          names =
              subst (AreNames u) behind (names_front bs);
        };
        names = names_front ds;
      };
      stops = names_end ds;
    }

same_split : (kind k : Kind) (m n : ℕ) (text : List ℕ) → Lexeme kind m ≡ Lexeme k n → IsSplit kind m text →
    IsSplit k n text
same_split kind k m n text same at =
    let kinds : kind ≡ k = cc in
    let ends : m ≡ n = cc in
    subst (λ x. IsSplit x n text) kinds (subst (λ (i : ℕ). IsSplit kind i text) ends at)

letter_split : (k : Kind) (n b : ℕ) (bs : List ℕ) → class_at b ≡ Letter →
    word_to (1 + name_length bs) (b ∷ bs) ≡ Lexeme k n → IsSplit k n (b ∷ bs)
letter_split k n b bs letter e =
    let at = behind_names b bs in
    by_test (begins 58 (drop (1 + name_length bs) (b ∷ bs))) _ _ _ e
    (λ colon f.
    let ds = drop 1 (drop (name_length bs) bs) in
    let behind = first_and_rest 58 (drop (name_length bs) bs) (subst (λ (x : List ℕ). begins 58 x ≡ true) at colon) in
    let past : drop (1 + name_length bs + 1) (b ∷ bs) ≡ ds = sym (drop-drop 1 (1 + name_length bs) (b ∷ bs))
    ∙ ap (drop 1) at in
    let same : Lexeme Curie (1 + name_length bs + 1 + name_length ds) ≡ Lexeme k n =
    subst (λ (x : List ℕ). Lexeme Curie (1 + name_length bs + 1 + name_length x) ≡ Lexeme k n) past f in
    same_split _ _ _ _ _ same (curie_split b bs ds letter behind))
    (λ none f. same_split _ _ _ _ _ f (word_split b bs letter (subst (λ (x : List ℕ). begins 58 x ≡ false) at none)))

named_front : (sign : ℕ) (bs : List ℕ) → (name_length bs == 0) ≡ false →
    IsNamed sign (sign ∷ take (name_length bs) bs) (drop (name_length bs) bs)
named_front sign [] some = cc
named_front sign (c ∷ cs) some =
    elim (is_name (class_at c) cs) as (λ v. is_name (class_at c) cs ≡ v →
    (cond v (suc (name_length cs)) 0 == 0) ≡ false →
    IsNamed sign (sign ∷ take (cond v (suc (name_length cs)) 0) (c ∷ cs))
    (drop (cond v (suc (name_length cs)) 0) (c ∷ cs))) [
      | true ↦ λ is _. record {
        first = c;
        more = take (name_length cs) cs;
        is = refl;
        names = (rw (take-append-drop (name_length cs) cs) is, names_front cs);
      }
      | false ↦ λ _ none. cc
    ] refl some

named_split : (kind k : Kind) (n sign : ℕ) (bs : List ℕ) →
    (IsNamed sign (sign ∷ take (name_length bs) bs) (drop (name_length bs) bs) →
    HasForm kind (sign ∷ take (name_length bs) bs) (drop (name_length bs) bs)) →
    CannotGoOn kind (drop (name_length bs) bs) → named kind (name_length bs) ≡ Lexeme k n → IsSplit k n (sign ∷ bs)
named_split kind k n sign bs of stops e =
    by_test (name_length bs == 0) _ _ _ e (λ _ f. cc) (λ some f. same_split kind k _ n (sign ∷ bs) f (record {
      front = sign ∷ take (name_length bs) bs;
      rest = drop (name_length bs) bs;
      whole = ap (λ (x : List ℕ). sign ∷ x) (sym (take-append-drop (name_length bs) bs));
      long = omega (arith, length-front bs);
      form = of (named_front sign bs some);
      stops = stops;
    }))

-- the bytes of the classes that have one
ByteOf : Class → ℕ → Type 0
ByteOf Zero b = b ≡ 48
ByteOf Underscore b = b ≡ 95
ByteOf Minus b = b ≡ 45
ByteOf Question b = b ≡ 63
ByteOf Quote b = b ≡ 34
ByteOf Less b = b ≡ 60
ByteOf Open b = b ≡ 40
ByteOf Close b = b ≡ 41
ByteOf OpenSquare b = b ≡ 91
ByteOf CloseSquare b = b ≡ 93
ByteOf Equal b = b ≡ 61
ByteOf Hash b = b ≡ 35
ByteOf Caret b = b ≡ 94
ByteOf _ b = Unit {0}

record HasClass (c : Class) (b : ℕ) : Type 0 where
  byte : ByteOf c b

either_of : (b : ℕ) (test : Bool) (x y : Class) → (test ≡ true → ByteOf x b) → HasClass y b →
    HasClass (cond test x y) b
either_of b true x y first second = record { byte = first refl }
either_of b false x y first second = second

has_class : (b : ℕ) → HasClass (class_at b) b
unfolding ByteOf
has_class b =
    either_of b _ Letter _ (λ _. tt)
    (either_of b _ White _ (λ _. tt) (either_of b _ Zero _ (eqb-true b 48) (either_of b _ Digit _ (λ _. tt)
    (either_of b _ Underscore _ (eqb-true b 95)
    (either_of b _ Minus _ (eqb-true b 45) (either_of b _ Question _ (eqb-true b 63)
    (either_of b _ Quote _ (eqb-true b 34) (either_of b _ Less _ (eqb-true b 60) (either_of b _ Open _ (eqb-true b 40)
    (either_of b _ Close _ (eqb-true b 41)
    (either_of b _ OpenSquare _ (eqb-true b 91) (either_of b _ CloseSquare _ (eqb-true b 93)
    (either_of b _ Equal _ (eqb-true b 61)
    (either_of b _ Hash _ (eqb-true b 35)
    (either_of b _ Caret Other (eqb-true b 94) (record { byte = tt }))))))))))))))))

byte_of : (c : Class) (b : ℕ) → class_at b ≡ c → ByteOf c b
byte_of c b is = subst (λ x. ByteOf x b) is (has_class b).byte

pub open_byte : (b : ℕ) → class_at b ≡ Open → b ≡ 40
unfolding ByteOf
open_byte b is = byte_of Open b is

digits_front : (bs : List ℕ) → AllByRecursion (λ d. is_digit (class_at d) ≡ true) (take (digits_length bs) bs)
digits_front [] = tt
digits_front (b ∷ bs) = elim (is_digit (class_at b)) as (λ v. is_digit (class_at b) ≡ v →
    AllByRecursion (λ d. is_digit (class_at d) ≡ true) (take (cond v (suc (digits_length bs)) 0) (b ∷ bs))) [
      | true ↦ λ is. (is, digits_front bs)
      | false ↦ λ _. tt
    ] refl

-- digits behind a first byte, and nothing that may not follow an integer
digits_split : (k : Kind) (n b : ℕ) (bs : List ℕ) →
    (AllByRecursion (λ d. is_digit (class_at d) ≡ true) (take (digits_length bs) bs) →
    HasForm Int (b ∷ take (digits_length bs) bs) (drop (digits_length bs) bs)) →
    integer_to (1 + digits_length bs) (b ∷ bs) ≡ Lexeme k n → IsSplit k n (b ∷ bs)
digits_split k n b bs of e =
    let one : 1 + digits_length bs ≡ suc (digits_length bs) = omega arith in
    by_test (begins_name (drop (1 + digits_length bs) (b ∷ bs)) || begins 58
    (drop (1 + digits_length bs) (b ∷ bs))) _ _ _ e (λ _ f. cc) (λ none f.
    same_split Int k _ n (b ∷ bs) f (record {
      front = b ∷ take (digits_length bs) bs;
      rest = drop (digits_length bs) bs;
      whole = ap (λ (x : List ℕ). b ∷ x) (sym (take-append-drop (digits_length bs) bs));
      long = omega (arith, length-take-le (digits_length bs) bs (digits_length_le bs));
      form = of (digits_front bs);
      stops = neither _ _ (rw one at none);
    }))

zero_split : (k : Kind) (n : ℕ) (bs : List ℕ) → integer_to 1 (48 ∷ bs) ≡ Lexeme k n → IsSplit k n (48 ∷ bs)
zero_split k n bs e = by_test (begins_name bs || begins 58 bs) _ _ _ e (λ _ f. cc)
    (λ none f. same_split Int k 1 n (48 ∷ bs) f (record {
      front = 48 ∷ [];
      rest = bs;
      whole = refl;
      long = refl;
      form = inl refl;
      stops = neither _ _ none;
    }))

-- a string's parts, up to its closing `"`
record IsParts (bs : List ℕ) (n : ℕ) : Type 0 where
  parts : List Part
  rest : List ℕ
  whole : bs ≡ flat_map part_text parts ++ 34 ∷ rest
  long : n ≡ suc (length (flat_map part_text parts))
  fit : AllByRecursion (λ p. is_part p ≡ true) parts

record IsEscaped (bs : List ℕ) (n : ℕ) : Type 0 where
  first : ℕ
  more : List ℕ
  left : ℕ
  is : bs ≡ first ∷ more
  long : n ≡ suc left
  is_escape : is_escape first ≡ true
  parts : IsParts more left

plain_part : (b n m : ℕ) (bs : List ℕ) → (b == 34) ≡ false → (b == 10) ≡ false → (b == 92) ≡ false → n ≡ suc m →
    IsParts bs m → IsParts (b ∷ bs) n
plain_part b n m bs quote feed backslash long at = record {
  parts = plain b ∷ at.parts;
  rest = at.rest;
  whole = ap (λ (x : List ℕ). b ∷ x) at.whole;
  long = long ∙ ap suc at.long;
  fit = (rw (quote, feed, backslash) refl, at.fit);
}

escape_part : (b n m : ℕ) (bs : List ℕ) → (b == 92) ≡ true → n ≡ suc m → IsEscaped bs m → IsParts (b ∷ bs) n
escape_part b n m bs backslash long at =
    let same : b ≡ 92 = eqb-true b 92 backslash in
    let whole : b ∷ bs ≡ 92 ∷ at.first ∷ (flat_map part_text at.parts.parts ++ 34 ∷ at.parts.rest) =
    ap (λ (x : ℕ). x ∷ bs) same ∙ ap (λ (x : List ℕ). 92 ∷ x)
    (at.is ∙ ap (λ (x : List ℕ). at.first ∷ x) at.parts.whole) in
    record {
      parts = escape at.first ∷ at.parts.parts;
      rest = at.parts.rest;
      whole = whole;
      long = long ∙ ap suc (at.long ∙ ap suc at.parts.long);
      fit = (at.is_escape, at.parts.fit);
    }

mutual
  string_parts : (bs : List ℕ) (n : ℕ) → string_length bs ≡ Some n → IsParts bs n
  string_parts [] n e = cc
  string_parts (b ∷ bs) n e =
      by_test (b == 34) _ _ _ e
      (λ is f. let same : b ≡ 34 = eqb-true b 34 is in let one : n ≡ 1 = cc in
      record { parts = []; rest = bs; whole = ap (λ (x : ℕ). x ∷ bs) same; long = one; fit = tt })
      (λ quote f. by_test (b == 10) _ _ _ f (λ _ g. cc) (λ feed g.
      by_test (b == 92) _ _ _ g
      (λ is h. let l = longer_one _ n h in escape_part b n l.0 bs is l.2 (escaped_parts bs l.0 l.1))
      (λ other h. let l = longer_one _ n h in plain_part b n l.0 bs quote feed other l.2 (string_parts bs l.0 l.1))))

  escaped_parts : (bs : List ℕ) (n : ℕ) → escaped_length bs ≡ Some n → IsEscaped bs n
  escaped_parts [] n e = cc
  escaped_parts (b ∷ bs) n e =
      by_test (is_escape b) _ _ _ e
      (λ is f. let l = longer_one _ n f in
      record {
        first = b;
        more = bs;
        left = l.0;
        is = refl;
        long = l.2;
        is_escape = is;
        parts =
            string_parts bs l.0 l.1;
      })
      (λ _ f. cc)

-- an IRI's bytes, up to its `>`
record IsInside (bs : List ℕ) (n : ℕ) : Type 0 where
  inside : List ℕ
  rest : List ℕ
  whole : bs ≡ inside ++ 62 ∷ rest
  long : n ≡ suc (length inside)
  fit : AllByRecursion (λ b. is_inside_iri b ≡ true) inside

iri_inside : (bs : List ℕ) (n : ℕ) → iri_length bs ≡ Some n → IsInside bs n
iri_inside [] n e = cc
iri_inside (b ∷ bs) n e =
    by_test (b == 62) _ _ _ e
    (λ is f. let same : b ≡ 62 = eqb-true b 62 is in let one : n ≡ 1 = cc in
    record { inside = []; rest = bs; whole = ap (λ (x : ℕ). x ∷ bs) same; long = one; fit = tt })
    (λ _ f. by_test (is_inside_iri b) _ _ _ f
    (λ is g. let l = longer_one _ n g in let at = iri_inside bs l.0 l.1 in record {
      inside = b ∷ at.inside;
      rest = at.rest;
      whole = ap (λ (x : List ℕ). b ∷ x) at.whole;
      long = l.2 ∙ ap suc at.long;
      fit = (is, at.fit);
    })
    (λ _ g. cc))

closed : (kind k : Kind) (n : ℕ) (o : Option ℕ) → token_to kind (longer 1 o) ≡ Lexeme k n →
    (m : ℕ) × (o ≡ Some m) × (Lexeme kind (suc m) ≡ Lexeme k n)
closed kind k n None e = cc
closed kind k n (Some m) e = (m, refl, subst (λ (i : ℕ). Lexeme kind i ≡ Lexeme k n) (omega arith) e)

string_split : (k : Kind) (n : ℕ) (bs : List ℕ) → token_to Str (longer 1 (string_length bs)) ≡ Lexeme k n →
    IsSplit k n (34 ∷ bs)
string_split k n bs e =
    let to = closed Str k n (string_length bs) e in
    let at = string_parts bs to.0 to.1 in
    let inside = flat_map part_text at.parts in
    same_split Str k (suc to.0) n (34 ∷ bs) to.2 (record {
      front = 34 ∷ (inside ++ 34 ∷ []);
      rest = at.rest;
      whole = ap (λ (x : List ℕ). 34 ∷ x) (at.whole ∙ sym (append_assoc inside (34 ∷ []) at.rest));
      long = ap suc (at.long ∙ omega (arith, length-append inside (34 ∷ [])));
      form = record { parts = at.parts; is = refl; fit = at.fit };
      stops = tt;
    })

iri_split : (k : Kind) (n : ℕ) (bs : List ℕ) → token_to Iri (longer 1 (iri_length bs)) ≡ Lexeme k n →
    IsSplit k n (60 ∷ bs)
iri_split k n bs e =
    let to = closed Iri k n (iri_length bs) e in
    let at = iri_inside bs to.0 to.1 in
    same_split Iri k (suc to.0) n (60 ∷ bs) to.2 (record {
      front = 60 ∷ (at.inside ++ 62 ∷ []);
      rest = at.rest;
      whole = ap (λ (x : List ℕ). 60 ∷ x) (at.whole ∙ sym (append_assoc at.inside (62 ∷ []) at.rest));
      long = ap suc (at.long ∙ omega (arith, length-append at.inside (62 ∷ [])));
      form = record { inside = at.inside; is = refl; fit = at.fit };
      stops = tt;
    })

-- a token of one sign, and of two
sign_split : (kind k : Kind) (n b : ℕ) (bs : List ℕ) → HasForm kind (b ∷ []) bs → CannotGoOn kind bs →
    Lexeme kind 1 ≡ Lexeme k n → IsSplit k n (b ∷ bs)
sign_split kind k n b bs form stops e =
    same_split kind k 1 n (b ∷ bs) e
    (record { front = b ∷ []; rest = bs; whole = refl; long = refl; form = form; stops = stops })

signs_split : (kind k : Kind) (n b c : ℕ) (bs : List ℕ) → begins c bs ≡ true →
    HasForm kind (b ∷ c ∷ []) (drop 1 bs) → CannotGoOn kind (drop 1 bs) → Lexeme kind 2 ≡ Lexeme k n →
    IsSplit k n (b ∷ bs)
signs_split kind k n b c bs is form stops e = same_split kind k 2 n (b ∷ bs) e (record {
  front = b ∷ c ∷ [];
  rest = drop 1 bs;
  whole = ap (λ (x : List ℕ). b ∷ x) (first_and_rest c bs is);
  long = refl;
  form = form;
  stops = stops;
})

first_is_digit : (c : Class) → is_first_digit c ≡ true → is_digit c ≡ true
first_is_digit Digit is = refl
first_is_digit c is = cc

-- digits that begin with one other than 0 are a number
number_front : (bs : List ℕ) → begins_number bs ≡ true →
    AllByRecursion (λ d. is_digit (class_at d) ≡ true) (take (digits_length bs) bs) →
    IsNumber (take (digits_length bs) bs)
number_front [] is digits = cc
number_front (b ∷ bs) is digits =
    let digit = first_is_digit (class_at b) is in
    let long : digits_length (b ∷ bs) ≡ suc (digits_length bs) = rw digit refl in
    let whole : take (digits_length (b ∷ bs)) (b ∷ bs) ≡ b ∷ take (digits_length bs) bs =
    ap (λ (i : ℕ). take i (b ∷ bs)) long in
    record { first = b; more = take (digits_length bs) bs; is = whole; first_digit = is; digits = digits_front bs }

-- a number behind a minus
minus_split : (k : Kind) (n : ℕ) (bs : List ℕ) → piece_of Minus (45 ∷ bs) ≡ Lexeme k n → IsSplit k n (45 ∷ bs)
minus_split k n bs e =
    by_test (begins 62 bs) _ _ _ e (λ is f. signs_split Arrow k n 45 62 bs is refl tt f) (λ _ f.
    by_test (begins_number bs) _ _ _ f
    (λ is g. digits_split k n 45 bs
    (λ digits. inr (inr (take (digits_length bs) bs, refl, number_front bs is digits))) g)
    (λ _ g. cc))

split_of : (c : Class) (k : Kind) (n b : ℕ) (bs : List ℕ) → class_at b ≡ c → ByteOf c b →
    piece_of c (b ∷ bs) ≡ Lexeme k n → IsSplit k n (b ∷ bs)
unfolding ByteOf
split_of White k n b bs is byte e = cc
split_of Letter k n b bs is byte e = letter_split k n b bs is e
split_of Zero k n b bs is byte e =
    subst (λ (x : ℕ). IsSplit k n (x ∷ bs)) (sym byte)
    (zero_split k n bs (subst (λ (x : ℕ). integer_to 1 (x ∷ bs) ≡ Lexeme k n) byte e))
split_of Digit k n b bs is byte e =
    digits_split k n b bs (λ digits.
    inr (inl (record {
      first = b;
      more = take (digits_length bs) bs;
      is = refl;
      first_digit =
          ap is_first_digit is;
      digits = digits;
    }))) e
split_of Underscore k n b bs is byte e = rw byte (named_split Local k n 95 bs (λ named. named) (names_end bs) e)
split_of Minus k n b bs is byte e = rw byte (minus_split k n bs (rw byte at e))
split_of Question k n b bs is byte e = rw byte (named_split Var k n 63 bs (λ named. named) (names_end bs) e)
split_of Quote k n b bs is byte e = rw byte (string_split k n bs e)
split_of Less k n b bs is byte e = rw byte (iri_split k n bs e)
split_of Open k n b bs is byte e = rw byte (by_test (begins 42 bs) _ _ _ e
    (λ _ f. no_lexeme k n (longer 2 (annotation_length (drop 1 bs))) f)
    (λ none f. sign_split OpenToken k n 40 bs refl none f))
split_of Close k n b bs is byte e = rw byte (sign_split CloseToken k n 41 bs refl tt e)
split_of OpenSquare k n b bs is byte e = rw byte (sign_split OpenSquareToken k n 91 bs refl tt e)
split_of CloseSquare k n b bs is byte e = rw byte (sign_split CloseSquareToken k n 93 bs refl tt e)
split_of Equal k n b bs is byte e = rw byte (sign_split EqualToken k n 61 bs refl tt e)
split_of Hash k n b bs is byte e = rw byte (by_test (begins 35 bs) _ _ _ e
    (λ two f. signs_split HashHash k n 35 35 bs two refl tt f) (λ none f. sign_split HashToken k n 35 bs refl none f))
split_of Caret k n b bs is byte e = rw byte (by_test (begins 94 bs) _ _ _ e
    (λ two f. signs_split Carets k n 94 94 bs two refl tt f) (λ _ f. cc))
split_of Other k n b bs is byte e = cc

-- a piece that is a token has its kind's form, and what follows can't go on it
pub piece_splits : (k : Kind) (n : ℕ) (text : List ℕ) → piece_at text ≡ Lexeme k n → IsSplit k n text
piece_splits k n [] e = cc
piece_splits k n (b ∷ bs) e = split_of (class_at b) k n b bs refl (byte_of (class_at b) b refl) e
