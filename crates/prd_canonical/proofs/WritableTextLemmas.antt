-- Texts of tokens that may stand between `<` and `>`, or behind a name's sign.
use Rattle.std.proofs.Common.{◌≡◌, sym, subst, ap, refl, ℕ, ◌-◌, ◌≤◌, ◌==◌, nat_le, nat_lt, Bool, true, false, cond}
use Rattle.std.proofs.Common.{suc, zero, List, [], ◌∷◌, ◌++◌, length, drop, length-append, append-nil, arith, IsUtf8}
use Rattle.std.specs.List.{list_all, AllByRecursion}
use Rattle.std.specs.Str.{IsAscii}
use Rattle.std.proofs.lemmas.Bool.{ltb-true}
use Rattle.std.proofs.lemmas.Bool.Decides.{nat_tests}
use Rattle.std.proofs.lemmas.List.{take_at}
use Rattle.std.proofs.lemmas.Str.{IsUtf8-append, IsUtf8-nil, IsUtf8-from_ascii}
use Rattle.std.proofs.lemmas.Str.Ascii.{IsAscii-cons, IsAscii-nil}
use Rattle.rif_lex.specs.declared.class.Class.{Class}
use Rattle.rif_lex.specs.declared.class.Class.TheVariants.{White, Other}
use Rattle.rif_lex.specs.Characters.{class_at, is_name, is_inside_iri}
use Rattle.rif_lex.specs.Forms.{AreNames, IsWord, IsCurie, IsNamed, IsIri}
use Rattle.rif_lex.proofs.CallerLemmas.{both, differs}
use Rattle.prd_leaves.specs.Literals.{is_iri_text, are_name_characters, is_name_text}
use Rattle.prd_leaves.specs.Leaves.{inner}
use Rattle.prd_canonical.specs.Writable.{HasNames, IsNameText, IsIriText}

abbrev AreInside : List ℕ → Type 0
AreInside t = AllByRecursion (λ b. is_inside_iri b ≡ true) t

-- a byte below 33 is of no name character
below : (b c : ℕ) → nat_le 33 b ≡ false → 33 ≤ c → nat_le c b ≡ false
below b c low high = grind (arith, nat_tests)

apart : (b c : ℕ) → nat_le 33 b ≡ false → 33 ≤ c → (b == c) ≡ false
apart b c low high = grind (arith, nat_tests)

no_name_by : (white : Bool) (rest : List ℕ) → is_name (cond white White Other) rest ≡ false
no_name_by true rest = refl
no_name_by false rest = refl

no_name : (b : ℕ) (rest : List ℕ) → nat_le 33 b ≡ false → is_name (class_at b) rest ≡ false
no_name b rest low =
    rw (
      below b 97 low (omega arith),
      below b 65 low (omega arith),
      below b 128 low (omega arith),
      apart b 48 low (omega arith),
      below b 49 low (omega arith),
      apart b 95 low (omega arith),
      apart b 45 low (omega arith),
      apart b 63 low (omega arith),
      apart b 34 low (omega arith),
      apart b 60 low (omega arith),
      apart b 40 low (omega arith),
      apart b 41 low (omega arith),
      apart b 91 low (omega arith),
      apart b 93 low (omega arith),
      apart b 61 low (omega arith),
      apart b 35 low (omega arith),
      apart b 94 low (omega arith),
    ) (no_name_by _ rest)

name_is_high : (b : ℕ) (rest : List ℕ) → is_name (class_at b) rest ≡ true → nat_le 33 b ≡ true
name_is_high b rest is = elim (nat_le 33 b) as (λ v. nat_le 33 b ≡ v → v ≡ true) [
  | true ↦ λ _. refl
  | false ↦ λ low. (let none = no_name b rest low in cc)
] refl

-- a name character may stand in an IRI
name_inside : (b : ℕ) (rest : List ℕ) → is_name (class_at b) rest ≡ true → is_inside_iri b ≡ true
name_inside b rest is =
    let less = differs (λ x. is_name (class_at x) rest) b 60 is refl in
    let greater = differs (λ x. is_name (class_at x) rest) b 62 is refl in
    let quote = differs (λ x. is_name (class_at x) rest) b 34 is refl in
    rw (name_is_high b rest is, less, greater, quote) refl

names_inside : (bs rest : List ℕ) → AreNames bs rest → AreInside bs
names_inside [] rest names = tt
names_inside (b ∷ bs) rest names = (name_inside b (bs ++ rest) names.0, names_inside bs rest names.1)

inside_append : (xs ys : List ℕ) → AreInside xs → AreInside ys → AreInside (xs ++ ys)
inside_append [] ys first second = second
inside_append (x ∷ xs) ys first second = (first.0, inside_append xs ys first.1 second)

inside_drop : (n : ℕ) (xs : List ℕ) → AreInside xs → AreInside (drop n xs)
inside_drop zero xs all = all
inside_drop (suc n) [] all = tt
inside_drop (suc n) (x ∷ xs) all = inside_drop n xs all.1

word_inside : (word rest : List ℕ) → IsWord word rest → AreInside word
word_inside word rest w =
    let letter = ap (λ (c : Class). is_name c []) w.letter in
    subst AreInside (sym w.is) (name_inside w.first [] letter, names_inside w.more rest w.names)

curie_inside : (text : List ℕ) → IsCurie text [] → AreInside text
curie_inside text c =
    subst AreInside (sym c.is) (inside_append c.word (58 ∷ c.more) (word_inside c.word _ c.is_word) (
      refl,
      names_inside c.more [] c.names,
    ))

-- what stands in a CURIE behind some bytes
pub curie_rest : (text : List ℕ) (n : ℕ) → IsCurie text [] → IsUtf8 (drop n text) → IsIriText (drop n text)
curie_rest text n c utf8 = record { inside = inside_drop n text (curie_inside text c); utf8 = utf8 }

pub iri_inner : (text : List ℕ) → IsIri text → IsUtf8 (inner text) → IsIriText (inner text)
iri_inner text form utf8 =
    let long : length form.inside ≡ length (60 ∷ (form.inside ++ 62 ∷ [])) - 2 = omega (
      arith,
      length-append form.inside (62 ∷ []),
    ) in
    record {
      inside = rw form.is (subst AreInside (sym (take_at form.inside (62 ∷ []) _ long)) form.fit);
      utf8 = utf8;
    }

pub name_behind : (sign : ℕ) (text : List ℕ) → IsNamed sign text [] → IsUtf8 (drop 1 text) → IsNameText (drop 1 text)
name_behind sign text n utf8 =
    subst (λ (x : List ℕ). IsNameText (drop 1 x)) (sym n.is) (record {
      names = n.names;
      utf8 = subst (λ (x : List ℕ). IsUtf8 (drop 1 x)) n.is utf8;
    })

-- by the tests of typed literals
all_inside : (t : List ℕ) → list_all is_inside_iri t ≡ true → AreInside t
all_inside [] is = tt
all_inside (b ∷ bs) is =
    let parts = both (is_inside_iri b) (list_all is_inside_iri bs) is in (parts.0, all_inside bs parts.1)

pub iri_tested : (t : List ℕ) → is_iri_text t ≡ true → IsUtf8 t → IsIriText t
iri_tested t is utf8 = record { inside = all_inside t is; utf8 = utf8 }

name_characters : (t : List ℕ) → are_name_characters t ≡ true → AreNames t []
name_characters [] is = tt
name_characters (b ∷ bs) is =
    let parts = both (is_name (class_at b) bs) (are_name_characters bs) is in (
      subst (λ (x : List ℕ). is_name (class_at b) x ≡ true) (sym (append-nil bs)) parts.0,
      name_characters bs parts.1,
    )

has_names : (t : List ℕ) → is_name_text t ≡ true → HasNames t
has_names [] is = cc
has_names (b ∷ bs) is =
    name_characters (b ∷ bs) (both (nat_le 1 (length (b ∷ bs))) (are_name_characters (b ∷ bs)) is).1

pub name_tested : (t : List ℕ) → is_name_text t ≡ true → IsUtf8 t → IsNameText t
name_tested t is utf8 = record { names = has_names t is; utf8 = utf8 }

-- IRIs that are put together
ascii_tested : (t : List ℕ) → list_all (λ b. nat_lt b 128) t ≡ true → IsAscii t
ascii_tested [] is = IsAscii-nil
ascii_tested (b ∷ bs) is =
    let parts = both (nat_lt b 128) (list_all (λ c. nat_lt c 128) bs) is in
    IsAscii-cons b bs (ltb-true b 128 parts.0) (ascii_tested bs parts.1)

pub iri_computed : (t : List ℕ) → list_all is_inside_iri t ≡ true → list_all (λ b. nat_lt b 128) t ≡ true →
    IsIriText t
iri_computed t inside low = iri_tested t inside (IsUtf8-from_ascii t (ascii_tested t low))

pub iri_empty : IsIriText []
iri_empty = record { inside = tt; utf8 = IsUtf8-nil }

pub iri_append : (s t : List ℕ) → IsIriText s → IsIriText t → IsIriText (s ++ t)
iri_append s t first second = record {
  inside = inside_append s t first.inside second.inside;
  utf8 = IsUtf8-append s t first.utf8 second.utf8;
}
