-- Texts of ASCII, and those of constants as they are written, are of UTF-8.
use Rattle.std.proofs.Common.{◌≡◌, ℕ, ℤ, pos, negsuc, zero, suc, ◌^◌, ◌<◌, ◌≤◌, ◌==◌, nat_lt, Bool, true, false}
use Rattle.std.proofs.Common.{if◌then◌else◌, List, [], ◌∷◌, ◌++◌, refl, subst, arith, codes, IsUtf8}
use lib.Signed.{mag}
use lib.Utf8.{scalars, scalar, encodes, encode}
use Rattle.std.specs.Prelude.{IsAscii}
use Rattle.std.specs.Fmt.{signed_decimal}
use Rattle.std.specs.List.{flat_map, list_all}
use Rattle.std.proofs.lemmas.Bool.{ltb-true, ltb-false}
use Rattle.std.proofs.lemmas.Fmt.{IsAscii-decimal_wide}
use Rattle.std.proofs.lemmas.Str.{encode_ascii, IsUtf8-nil, IsUtf8-append, IsUtf8-from_ascii}
use Rattle.rif_values.specs.Writing.{escaped, truth_text, const_text}
use Rattle.rif_values.specs.declared.constant.Const.{Const}
use Rattle.rif_values.specs.declared.constant.Const.TheVariants.{Int, Bool as BoolConst, Str, Iri, Local, Fresh}
use Rattle.prd_canonical.specs.Writable.{IsWritableConst}
use Rattle.prd_leaves.proofs.CallerLemmas.{AreHigh, high_rest, high_apart, high_character, low_utf8, character_utf8}
use Rattle.prd_leaves.proofs.CallerLemmas.{both}

-- a text of ASCII
abbrev pub is_low : ℕ → Bool
is_low b = nat_lt b 128

abbrev pub is_low_text : List ℕ → Bool
is_low_text t = list_all is_low t

pub low_text : (t : List ℕ) → is_low_text t ≡ true → IsUtf8 t
low_text [] h = IsUtf8-nil
low_text (b ∷ bs) h =
    let parts = both (is_low b) (is_low_text bs) h in
    IsUtf8-append (b ∷ []) bs (low_utf8 b (ltb-true _ _ parts.0)) (low_text bs parts.1)

-- integers

signed_ascii : (z : ℤ) → mag z < 2 ^ 127 → IsAscii (signed_decimal z)
signed_ascii (pos n) small i = IsAscii-decimal_wide n (omega arith) i
signed_ascii (negsuc n) small zero = omega arith
signed_ascii (negsuc n) small (suc i) = IsAscii-decimal_wide (suc n) (omega arith) i

-- strings

either_utf8 : (test : Bool) (x y : List ℕ) → IsUtf8 x → IsUtf8 y → IsUtf8 (if test then x else y)
either_utf8 true x y first second = first
either_utf8 false x y first second = second

escaped_low : (b : ℕ) → b < 128 → IsUtf8 (escaped b)
escaped_low b low =
    either_utf8 (b == 34) (codes "\\\"") _ (low_text (codes "\\\"") refl)
    (either_utf8 (b == 92) (codes "\\\\") _ (low_text (codes "\\\\") refl)
    (either_utf8 (b == 10) (codes "\\n") _ (low_text (codes "\\n") refl)
    (either_utf8 (b == 9) (codes "\\t") _ (low_text (codes "\\t") refl)
    (either_utf8 (b == 13) (codes "\\r") (b ∷ []) (low_text (codes "\\r") refl) (low_utf8 b low)))))

escaped_high : (b : ℕ) → 128 ≤ b → escaped b ≡ b ∷ []
escaped_high b high =
    rw (
      high_apart b 34 high (omega arith),
      high_apart b 92 high (omega arith),
      high_apart b 10 high (omega arith),
      high_apart b 9 high (omega arith),
      high_apart b 13 high (omega arith),
    ) refl

escaped_past : (bs rest : List ℕ) → AreHigh bs → flat_map escaped (bs ++ rest) ≡ bs ++ flat_map escaped rest
escaped_past [] rest high = refl
escaped_past (b ∷ bs) rest high =
    rw (escaped_high b (high 0 (omega arith)), escaped_past bs rest (high_rest b bs high)) refl

escaped_characters : (cs : List ℕ) → scalars cs ≡ true → IsUtf8 (flat_map escaped (encodes cs))
escaped_characters [] all = IsUtf8-nil
escaped_characters (c ∷ cs) all =
    let parts = both (scalar c) (scalars cs) all in
    let more = escaped_characters cs parts.1 in
    elim (nat_lt c 128) as (λ v. nat_lt c 128 ≡ v → IsUtf8 (flat_map escaped (encode c ++ encodes cs))) [
      | true ↦ λ low. rw (encode_ascii c (ltb-true _ _ low))
          (IsUtf8-append (escaped c) (flat_map escaped (encodes cs)) (escaped_low c (ltb-true _ _ low)) more)
      | false ↦ λ high. rw (escaped_past (encode c) (encodes cs) (high_character c (ltb-false _ _ high)))
          (IsUtf8-append (encode c) (flat_map escaped (encodes cs)) (character_utf8 c parts.0) more)
    ] refl

escaped_utf8 : (t : List ℕ) → IsUtf8 t → IsUtf8 (flat_map escaped t)
escaped_utf8 t utf8 =
    subst (λ (x : List ℕ). IsUtf8 (flat_map escaped x)) utf8.1.1 (escaped_characters utf8.0 utf8.1.0)

-- constants

truth_utf8 : (b : Bool) → IsUtf8 (truth_text b)
truth_utf8 true = low_text (codes "true") refl
truth_utf8 false = low_text (codes "false") refl

pub const_utf8 : (c : Const) → IsWritableConst c → IsUtf8 (const_text c)
const_utf8 (Int z) w = IsUtf8-from_ascii (signed_decimal z) (signed_ascii z w.small)
const_utf8 (BoolConst b) w = truth_utf8 b
const_utf8 (Str t) w =
    IsUtf8-append (codes "\"") (flat_map escaped t ++ codes "\"") (low_text (codes "\"") refl)
    (IsUtf8-append (flat_map escaped t) (codes "\"") (escaped_utf8 t w) (low_text (codes "\"") refl))
const_utf8 (Iri t) w =
    IsUtf8-append (codes "<") (t ++ codes ">") (low_text (codes "<") refl)
    (IsUtf8-append t (codes ">") w.utf8 (low_text (codes ">") refl))
const_utf8 (Local t) w = IsUtf8-append (codes "_") t (low_text (codes "_") refl) w.utf8
const_utf8 (Fresh k) w = absurd w
