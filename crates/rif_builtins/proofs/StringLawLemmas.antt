-- Starting with, ending with and containing a text, in terms of concatenation, by bytes and by characters.
use Rattle.std.proofs.Common.{◌≡◌, ℕ, ◌+◌, ◌-◌, ◌≤◌, ◌==◌, ℤ, pos, ◌+ℤ◌, Bool, true, false, List}
use Rattle.std.proofs.Common.{[], ◌∷◌, ◌++◌, length, take, drop, nat_le, None, Some, refl, sym, ap}
use Rattle.std.proofs.Math.Seq.{take-append_seam, drop-append_seam}
use Rattle.std.proofs.Common.{map, suc, Option, subst, ◌∙◌, arith, cond, add-zero, append-nil, length-append, IsUtf8}
use Rattle.std.proofs.Common.{take-append-drop}
use Rattle.std.proofs.lemmas.Bool.Decides.{Decides-eqb}
use Rattle.std.proofs.lemmas.List.Prefix.{at_from_reads}
use Rattle.std.proofs.lemmas.Slice.Eq.{starts_is, ends_is}
use Rattle.std.proofs.lemmas.Str.{chars-append, encodes-append, encodes-chars, IsUtf8-take}
use Rattle.std.proofs.lemmas.Str.{IsCharBoundary-at_seam, IsCharBoundary-start, IsCharBoundary-from_rest, chars-nil}
use Rattle.std.specs.List.{flat_map, starts_with, ends_with}
use Rattle.std.specs.Option.{option_map, option_and_then}
use Rattle.std.specs.Str.{chars, encode_utf8_all, IsCharBoundary}
use Rattle.rif_values.specs.declared.constant.Const.TheVariants.{Int, Str}
use Rattle.rif_tree.specs.BuiltinNames.{takes}
use Rattle.rif_tree.specs.declared.builtin.Builtin.TheVariants.{Func as FuncBuiltin}
use Rattle.rif_tree.specs.declared.builtin.Func.TheVariants.{Concat, StringLength}
use Rattle.rif_builtins.specs.declared.strings.TheConstants.{MOST_CONCAT_BYTES}
use Rattle.rif_builtins.specs.Builtins.{func_value, concatenated, within_limit, concat_of, has_part}
use Rattle.rif_builtins.specs.BuiltinLaws.{of_strings}
use Rattle.rif_builtins.specs.BuiltinLaws.{ArePartsOfConcat, IsOfConcat, AreConcatsExact, AreByCharacters}
use Rattle.rif_builtins.proofs.StringLemmas.{place_of, or_of_right}

said : (b : Bool) → Some b ≡ Some true → b ≡ true
said b is = cc

starts_front : (text part : List ℕ) → starts_with ◌==◌ text part ≡ true → (rest : List ℕ) × (text ≡ part ++ rest)
starts_front text part is = (drop (length part) text, (starts_is Decides-eqb text part _ refl).0 is)

front_starts : (text part rest : List ℕ) → text ≡ part ++ rest → starts_with ◌==◌ text part ≡ true
front_starts text part rest is = (starts_is Decides-eqb text part _ refl).1 rest is

ends_back : (text part : List ℕ) → ends_with ◌==◌ text part ≡ true → (front : List ℕ) × (text ≡ front ++ part)
ends_back text part is = (take (length text - length part) text, (ends_is Decides-eqb text part _ refl).0 is)

back_ends : (text part front : List ℕ) → text ≡ front ++ part → ends_with ◌==◌ text part ≡ true
back_ends text part front is = (ends_is Decides-eqb text part _ refl).1 front is

has_between : (text part : List ℕ) → has_part text part ≡ true
    → (front : List ℕ) × (rest : List ℕ) × (text ≡ front ++ (part ++ rest))
has_between text part is =
    let place = place_of text part is in
    let behind : drop place.0 text ≡ part ++ drop (place.0 + length part) text =
    at_from_reads 0 text part place.0 place.2.fits place.2.reads in (
      take place.0 text,
      drop (place.0 + length part) text,
      sym (take-append-drop place.0 text) ∙ ap (λ (xs : List ℕ). take place.0 text ++ xs) behind,
    )

starts_has : (text part : List ℕ) → starts_with ◌==◌ text part ≡ true → has_part text part ≡ true
starts_has [] part is = is
starts_has (b ∷ text) part is = rw is refl

between_has : (front part rest : List ℕ) → has_part (front ++ (part ++ rest)) part ≡ true
between_has [] part rest = starts_has (part ++ rest) part (front_starts (part ++ rest) part rest refl)
between_has (b ∷ front) part rest =
    or_of_right (starts_with ◌==◌ (b ∷ (front ++ (part ++ rest))) part) (has_part (front ++ (part ++ rest)) part)
    (between_has front part rest)

pub parts_of_concat : ArePartsOfConcat
parts_of_concat text part = record {
  starts = (
    λ is. starts_front text part (said (starts_with ◌==◌ text part) is),
    λ found. ap Some (front_starts text part found.0 found.1),
  );
  ends = (
    λ is. ends_back text part (said (ends_with ◌==◌ text part) is),
    λ found. ap Some (back_ends text part found.0 found.1),
  );
  contains = (
    λ is. has_between text part (said (has_part text part) is),
    λ found. ap Some (subst (λ (whole : List ℕ). has_part whole part ≡ true) (sym found.2)
        (between_has found.0 part found.1)),
  );
}

-- what the concatenation of two texts is
whole_is : (joined whole : List ℕ)
    → option_and_then (λ text. Some (Str text)) (cond (nat_le (length joined) MOST_CONCAT_BYTES) (Some joined) None)
    ≡ Some (Str whole) → joined ≡ whole
whole_is joined whole =
    elim (nat_le (length joined) MOST_CONCAT_BYTES) as (λ v.
    option_and_then (λ text. Some (Str text)) (cond v (Some joined) None) ≡ Some (Str whole) → joined ≡ whole) [
      | true ↦ λ is. cc
      | false ↦ λ is. cc
    ]

length_is : (text : List ℕ) (m : ℤ) → func_value StringLength (Str text ∷ []) ≡ Some (Int m)
    → pos (length (chars text)) ≡ m
length_is text m is = cc

of_both : (s t whole : List ℕ) → of_strings Concat s t ≡ Some (Str whole) → whole ≡ s ++ t
of_both s t whole is = sym (whole_is (s ++ (t ++ [])) whole is) ∙ ap (λ (xs : List ℕ). s ++ xs) (append-nil t)

all_strings : (texts : List (List ℕ)) → concatenated (map Str texts) ≡ Some (flat_map (λ text. text) texts)
all_strings [] = refl
all_strings (text ∷ texts) = ap (option_map (λ (rest : List ℕ). text ++ rest)) (all_strings texts)

counted : (texts : List (List ℕ)) → length (map Str texts) ≡ length texts
counted [] = refl
counted (text ∷ texts) = ap suc (counted texts)

concat_value : (texts : List (List ℕ)) → takes (FuncBuiltin Concat) (length texts) ≡ true
    → func_value Concat (map Str texts) ≡ option_map Str (within_limit (flat_map (λ text. text) texts))
concat_value texts many =
    ap (λ v. cond v (option_map Str (concat_of (map Str texts))) None)
    (ap (takes (FuncBuiltin Concat)) (counted texts) ∙ many)
    ∙ ap (λ (o : Option (List ℕ)). option_map Str (option_and_then within_limit o)) (all_strings texts)

of_concat : (s t whole : List ℕ) → IsUtf8 s → of_strings Concat s t ≡ Some (Str whole) → IsOfConcat s t whole
of_concat s t whole utf8 is =
    let both = of_both s t whole is in record {
      starts = ap Some (front_starts whole s t both);
      ends = ap Some (back_ends whole t s both);
      length_of = λ m n of_s of_t. ap (λ (z : ℤ). Some (Int z)) (
          ap (λ (xs : List ℕ). pos (length (chars xs))) both
          ∙ ap (λ (xs : List ℕ). pos (length xs)) (chars-append s t utf8)
          ∙ ap pos (length-append (chars s) (chars t))
          ∙ ap (λ (z : ℤ). z +ℤ pos (length (chars t))) (length_is s m of_s)
          ∙ ap (λ (z : ℤ). m +ℤ z) (length_is t n of_t));
    }

pub concats_exact : AreConcatsExact
concats_exact = record {
  values = concat_value;
  parts = of_concat;
}

both_ways : (a b : Bool) → (a ≡ true → b ≡ true) → (b ≡ true → a ≡ true) → a ≡ b
both_ways true b to from = sym (to refl)
both_ways false true to from = from refl
both_ways false false to from = refl

-- a text of the characters that stand around another's
decoded : (text : List ℕ) (cs ds : List ℕ) → IsUtf8 text → chars text ≡ cs ++ ds
    → text ≡ encode_utf8_all cs ++ encode_utf8_all ds
decoded text cs ds utf8 is =
    sym (encodes-chars text utf8) ∙ ap encode_utf8_all is ∙ encodes-append cs ds

chars_start : (text part : List ℕ) → IsUtf8 text → IsUtf8 part
    → starts_with ◌==◌ text part ≡ starts_with ◌==◌ (chars text) (chars part)
chars_start text part of_text of_part =
    both_ways (starts_with ◌==◌ text part) (starts_with ◌==◌ (chars text) (chars part)) (λ is.
    let found = starts_front text part is in
    front_starts (chars text) (chars part) (chars found.0) (ap chars found.1 ∙ chars-append part found.0 of_part))
    (λ is.
    let found = starts_front (chars text) (chars part) is in
    front_starts text part (encode_utf8_all found.0) (decoded text (chars part) found.0 of_text found.1
    ∙ ap (λ (xs : List ℕ). xs ++ encode_utf8_all found.0) (encodes-chars part of_part)))

-- what stands before a character boundary
front_utf8 : (text front more : List ℕ) → IsUtf8 text → text ≡ front ++ more → IsCharBoundary text (length front)
    → IsUtf8 front
front_utf8 text front more utf8 is boundary =
    subst IsUtf8 (ap (take (length front)) is ∙ take-append_seam front more)
    (IsUtf8-take text (length front) utf8 boundary)

chars_end : (text part : List ℕ) → IsUtf8 text → IsUtf8 part
    → ends_with ◌==◌ text part ≡ ends_with ◌==◌ (chars text) (chars part)
chars_end text part of_text of_part =
    both_ways (ends_with ◌==◌ text part) (ends_with ◌==◌ (chars text) (chars part)) (λ is.
    let found = ends_back text part is in
    let front = front_utf8 text found.0 part of_text found.1
    (IsCharBoundary-at_seam text found.0 part found.1 of_part) in
    back_ends (chars text) (chars part) (chars found.0) (ap chars found.1 ∙ chars-append found.0 part front))
    (λ is.
    let found = ends_back (chars text) (chars part) is in
    back_ends text part (encode_utf8_all found.0) (decoded text found.0 (chars part) of_text found.1
    ∙ ap (λ (xs : List ℕ). encode_utf8_all found.0 ++ xs) (encodes-chars part of_part)))

has_nothing : (text : List ℕ) → has_part text [] ≡ true
has_nothing [] = refl
has_nothing (b ∷ text) = refl

-- a text that isn't empty begins at a character boundary of another
seam_boundary : (text front part rest : List ℕ) (b : ℕ) → text ≡ front ++ ((b ∷ part) ++ rest) → IsUtf8 (b ∷ part)
    → IsCharBoundary text (length front)
seam_boundary text front part rest b is utf8 =
    let behind : drop (length front) text ≡ (b ∷ part) ++ rest =
    ap (drop (length front)) is ∙ drop-append_seam front ((b ∷ part) ++ rest) in
    let start = IsCharBoundary-start (b ∷ part) utf8 in
    let begins : IsCharBoundary ((b ∷ part) ++ rest) 0 =
    (omega arith, λ _ high. start.1 (omega arith) high) in
    let within : length front ≤ length text =
    omega (arith, ap length is ∙ length-append front ((b ∷ part) ++ rest)) in
    subst (IsCharBoundary text) (add-zero (length front)) (IsCharBoundary-from_rest text (length front) 0 within
    (subst (λ (xs : List ℕ). IsCharBoundary xs 0) (sym behind) begins))

has_of_bytes : (text part : List ℕ) → IsUtf8 text → IsUtf8 part → has_part text part ≡ true
    → has_part (chars text) (chars part) ≡ true
has_of_bytes text [] of_text of_part is =
    subst (λ (cs : List ℕ). has_part (chars text) cs ≡ true) (sym chars-nil) (has_nothing (chars text))
has_of_bytes text (b ∷ part) of_text of_part is =
    let found = has_between text (b ∷ part) is in
    let front = found.0 in
    let more = (b ∷ part) ++ found.1 in
    let of_front = front_utf8 text front more of_text found.2
    (seam_boundary text front part found.1 b found.2 of_part) in
    let around : chars text ≡ chars front ++ (chars (b ∷ part) ++ chars found.1) =
    ap chars found.2 ∙ chars-append front more of_front
    ∙ ap (λ (cs : List ℕ). chars front ++ cs) (chars-append (b ∷ part) found.1 of_part) in
    subst (λ (cs : List ℕ). has_part cs (chars (b ∷ part)) ≡ true) (sym around)
    (between_has (chars front) (chars (b ∷ part)) (chars found.1))

has_of_chars : (text part : List ℕ) → IsUtf8 text → IsUtf8 part → has_part (chars text) (chars part) ≡ true
    → has_part text part ≡ true
has_of_chars text part of_text of_part is =
    let found = has_between (chars text) (chars part) is in
    let front = encode_utf8_all found.0 in
    let rest = encode_utf8_all found.1 in
    let around : text ≡ front ++ (part ++ rest) =
    decoded text found.0 (chars part ++ found.1) of_text found.2
    ∙ ap (λ (xs : List ℕ). front ++ xs) (encodes-append (chars part) found.1
    ∙ ap (λ (xs : List ℕ). xs ++ rest) (encodes-chars part of_part)) in
    subst (λ (xs : List ℕ). has_part xs part ≡ true) (sym around) (between_has front part rest)

pub by_characters : AreByCharacters
by_characters text part of_text of_part = record {
  starts = ap Some (chars_start text part of_text of_part);
  ends = ap Some (chars_end text part of_text of_part);
  contains = ap Some (both_ways (has_part text part) (has_part (chars text) (chars part))
      (has_of_bytes text part of_text of_part) (has_of_chars text part of_text of_part));
}
