-- What is passed over at the front of a text is white space or an annotation.
use Rattle.std.proofs.Common.{◌≡◌, ◌⊎◌, ℕ, ◌+◌, List, [], ◌∷◌, ◌++◌, length, drop, suc, refl, ap, ◌∙◌, sym, arith}
use Rattle.std.proofs.Common.{true, false, ◌==◌, ◌||◌, ◌&&◌, Some, None, inl, inr}
use Rattle.std.proofs.lemmas.Bool.{eqb-true}
use Rattle.std.specs.declared.option.Option.{Option}
use Rattle.rif_lex.specs.declared.class.Class.{Class}
use Rattle.rif_lex.specs.declared.class.Class.TheVariants.{White, Letter, Zero, Digit, Underscore, Minus, Question}
use Rattle.rif_lex.specs.declared.class.Class.TheVariants.{Quote, Less, Open, Close, OpenSquare, CloseSquare, Equal}
use Rattle.rif_lex.specs.declared.class.Class.TheVariants.{Hash, Caret, Other}
use Rattle.rif_lex.specs.declared.token.Kind.{Kind}
use Rattle.rif_lex.specs.declared.token.Kind.TheVariants.{Str, Iri}
use Rattle.rif_lex.specs.declared.piece.Piece.TheVariants.{Blank}
use Rattle.rif_lex.specs.Characters.{class_at, begins, begins_two, begins_name, begins_number}
use Rattle.rif_lex.specs.Pieces.{name_length, digits_length, longer, annotation_length, token_to, blank_to}
use Rattle.rif_lex.specs.Pieces.{integer_to, piece_of, piece_at}
use Rattle.rif_lex.specs.Forms.{has_close, IsWhiteSpace, IsAnnotation, BlanksAreWhite}
use Rattle.rif_lex.proofs.TestLemmas.{by_test, both, neither, longer_one}
use Rattle.rif_lex.proofs.SplitLemmas.{open_byte}

-- what an annotation has inside, and what stands behind it
record IsClosed (bs : List ℕ) (n : ℕ) : Type 0 where
  inside : List ℕ
  rest : List ℕ
  is : bs ≡ inside ++ 42 ∷ 41 ∷ rest
  next : has_close (inside ++ 42 ∷ []) ≡ false
  long : n ≡ length inside + 2

closes : (b : ℕ) (bs : List ℕ) → begins_two 42 41 (b ∷ bs) ≡ true → b ∷ bs ≡ 42 ∷ 41 ∷ drop 1 bs
closes b [] close = let two = both (b == 42) false close in let never = two.1 in cc
closes b (c ∷ cs) close =
    let two = both (b == 42) (c == 41) close in
    let star : b ≡ 42 = eqb-true b 42 two.0 in
    let bracket : c ≡ 41 = eqb-true c 41 two.1 in
    cc

-- what begins a text with a star in it doesn't depend on what stands behind the star
first_before_star : (c : ℕ) (bs xs ys : List ℕ) → begins c (bs ++ 42 ∷ xs) ≡ begins c (bs ++ 42 ∷ ys)
first_before_star c [] xs ys = refl
first_before_star c (b ∷ bs) xs ys = refl

closed_of : (bs : List ℕ) (n : ℕ) → annotation_length bs ≡ Some n → IsClosed bs n
closed_of [] n e = cc
closed_of (b ∷ bs) n e = by_test (begins_two 42 41 (b ∷ bs)) _ _ _ e
    (λ close f. let two : n ≡ 2 = cc in
    record { inside = []; rest = drop 1 bs; is = closes b bs close; next = refl; long = omega arith })
    (λ goes_on f.
    let l = longer_one _ n f in
    let at = closed_of bs l.0 l.1 in
    let first = first_before_star 41 at.inside [] (41 ∷ at.rest) ∙ ap (begins 41) (sym at.is) in
    record {
      inside = b ∷ at.inside;
      rest = at.rest;
      is = ap (λ (x : List ℕ). b ∷ x) at.is;
      next = rw (first, goes_on) at.next;
      long = omega (arith, l.2, at.long);
    })

longer_as : (o : Option ℕ) (m n : ℕ) → o ≡ Some m → n ≡ suc m → longer 1 o ≡ Some n
longer_as o m n e long = rw e (ap Some (omega arith))

length_of : (inside rest : List ℕ) → has_close (inside ++ 42 ∷ []) ≡ false →
    annotation_length (inside ++ 42 ∷ 41 ∷ rest) ≡ Some (length inside + 2)
length_of [] rest next = refl
length_of (b ∷ bs) rest next =
    let none = neither (b == 42 && begins 41 (bs ++ 42 ∷ [])) (has_close (bs ++ 42 ∷ [])) next in
    let first = first_before_star 41 bs (41 ∷ rest) [] in
    rw (first, none.0) (longer_as _ (length bs + 2) (suc (length bs) + 2) (length_of bs rest none.1) (omega arith))

-- white space or an annotation, from the piece

no_blank_token : {P : Type 0} (kind : Kind) (o : Option ℕ) (n : ℕ) → token_to kind o ≡ Blank n → P
no_blank_token kind None n e = cc
no_blank_token kind (Some m) n e = cc

no_blank_integer : {P : Type 0} (end n : ℕ) (text : List ℕ) → integer_to end text ≡ Blank n → P
no_blank_integer end n text e =
    by_test (begins_name (drop end text) || begins 58 (drop end text)) _ _ _ e (λ _ f. cc) (λ _ f. cc)

annotation_at : (b n : ℕ) (bs : List ℕ) → b ≡ 40 → begins 42 bs ≡ true →
    blank_to (longer 2 (annotation_length (drop 1 bs))) ≡ Blank n → IsAnnotation (b ∷ bs) n
annotation_at b n [] bracket star e = cc
annotation_at b n (c ∷ cs) bracket star e =
    elim (annotation_length cs) as (λ v. annotation_length cs ≡ v → blank_to (longer 2 v) ≡ Blank n →
    IsAnnotation (b ∷ c ∷ cs) n) [
      | None ↦ λ _ f. cc
      | Some m ↦ λ is f. (
          let at = closed_of cs m is in
          let end : 2 + m ≡ n = cc in
          let same : c ≡ 42 = eqb-true c 42 star in
          let whole : b ∷ c ∷ cs ≡ 40 ∷ 42 ∷ (at.inside ++ 42 ∷ 41 ∷ at.rest) = let rest = at.is in cc in
          record { inside = at.inside; rest = at.rest; is = whole; next = at.next; long = omega (arith, at.long) })
    ] refl e

-- a blank piece by the class of its first byte
IsBlankOf : Class → ℕ → List ℕ → ℕ → Type 0
IsBlankOf White b bs n = n ≡ 1
IsBlankOf Open b bs n = (begins 42 bs ≡ true) × (blank_to (longer 2 (annotation_length (drop 1 bs))) ≡ Blank n)
IsBlankOf _ b bs n = ⊥

blank_of : (c : Class) (b n : ℕ) (bs : List ℕ) → piece_of c (b ∷ bs) ≡ Blank n → IsBlankOf c b bs n
unfolding IsBlankOf
blank_of White b n bs e = cc
blank_of Letter b n bs e = by_test (begins 58 (drop (1 + name_length bs) (b ∷ bs))) _ _ _ e (λ _ f. cc) (λ _ f. cc)
blank_of Zero b n bs e = no_blank_integer 1 n (b ∷ bs) e
blank_of Digit b n bs e = no_blank_integer (1 + digits_length bs) n (b ∷ bs) e
blank_of Underscore b n bs e = by_test (name_length bs == 0) _ _ _ e (λ _ f. cc) (λ _ f. cc)
blank_of Minus b n bs e = by_test (begins 62 bs) _ _ _ e (λ _ f. cc) (λ _ f.
    by_test (begins_number bs) _ _ _ f (λ _ g. no_blank_integer (1 + digits_length bs) n (b ∷ bs) g) (λ _ g. cc))
blank_of Question b n bs e = by_test (name_length bs == 0) _ _ _ e (λ _ f. cc) (λ _ f. cc)
blank_of Quote b n bs e = no_blank_token Str _ n e
blank_of Less b n bs e = no_blank_token Iri _ n e
blank_of Open b n bs e = by_test (begins 42 bs) _ _ _ e (λ star f. (star, f)) (λ _ f. cc)
blank_of Hash b n bs e = by_test (begins 35 bs) _ _ _ e (λ _ f. cc) (λ _ f. cc)
blank_of Caret b n bs e = by_test (begins 94 bs) _ _ _ e (λ _ f. cc) (λ _ f. cc)
blank_of Close b n bs e = cc
blank_of OpenSquare b n bs e = cc
blank_of CloseSquare b n bs e = cc
blank_of Equal b n bs e = cc
blank_of Other b n bs e = cc

blank_at : (c : Class) (b n : ℕ) (bs : List ℕ) → class_at b ≡ c → IsBlankOf c b bs n →
    IsWhiteSpace (b ∷ bs) n ⊎ IsAnnotation (b ∷ bs) n
unfolding IsBlankOf
blank_at White b n bs is blank = inl (record { first = b; rest = bs; is = refl; white = is; one = blank })
blank_at Open b n bs is blank = inr (annotation_at b n bs (open_byte b is) blank.0 blank.1)
blank_at c b n bs is blank = absurd blank

white_of_piece : (text : List ℕ) (n : ℕ) → piece_at text ≡ Blank n → IsWhiteSpace text n ⊎ IsAnnotation text n
white_of_piece [] n e = cc
white_of_piece (b ∷ bs) n e = blank_at (class_at b) b n bs refl (blank_of (class_at b) b n bs e)

white_piece : (text : List ℕ) (n : ℕ) → IsWhiteSpace text n → piece_at text ≡ Blank n
white_piece text n at = rw (at.is, at.white, at.one) refl

annotation_piece : (text : List ℕ) (n : ℕ) → IsAnnotation text n → piece_at text ≡ Blank n
annotation_piece text n at = rw (at.is, length_of at.inside at.rest at.next, at.long) (ap Blank (omega arith))

pub blanks_are_white : BlanksAreWhite
blanks_are_white text n = (
  white_of_piece text n,
  λ either. elim either [
    | inl space ↦ white_piece text n space
    | inr annotation ↦ annotation_piece text n annotation
  ],
)
