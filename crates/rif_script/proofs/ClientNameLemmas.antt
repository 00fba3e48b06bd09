-- A client's name is a text without a space.
use Rattle.std.proofs.Common.{◌≡◌, ◌≢◌, ◌<◌, ℕ, zero, suc, true, List, [], ◌∷◌, ap, sym, arith, IsUtf8}
use Rattle.std.specs.List.{list_all}
use Rattle.std.specs.Str.{IsAscii}
use Rattle.std.proofs.lemmas.Bool.{and_parts}
use Rattle.std.proofs.lemmas.Bool.Decides.{nat_tests}
use Rattle.std.proofs.lemmas.Str.{IsUtf8-from_ascii}
use Rattle.rif_script.specs.Jobs.{is_client_character, is_client_name}

low_character : (b : ℕ) → is_client_character b ≡ true → b < 128
low_character b is = grind (arith, nat_tests)

low_characters : (text : List ℕ) → list_all is_client_character text ≡ true → IsAscii text
low_characters [] all i = omega arith
low_characters (b ∷ bs) all zero = low_character b (and_parts _ _ all).0
low_characters (b ∷ bs) all (suc i) = low_characters bs (and_parts _ _ all).1 i

pub client_text : (text : List ℕ) → is_client_name text ≡ true → IsUtf8 text
client_text text is = IsUtf8-from_ascii text (low_characters text (and_parts _ _ is).1)

abbrev pub HasNoSpace : List ℕ → Type 0
HasNoSpace [] = Unit {0}
HasNoSpace (b ∷ bs) = (b ≢ 32) × HasNoSpace bs

no_space : (b : ℕ) → is_client_character b ≡ true → b ≢ 32
no_space b is same = absurd (cc (sym (ap is_client_character same)))

spaceless : (text : List ℕ) → list_all is_client_character text ≡ true → HasNoSpace text
spaceless [] all = tt
spaceless (b ∷ bs) all =
    let parts = and_parts _ _ all in (no_space b parts.0, spaceless bs parts.1)

pub client_spaceless : (text : List ℕ) → is_client_name text ≡ true → HasNoSpace text
client_spaceless text is = spaceless text (and_parts _ _ is).1
