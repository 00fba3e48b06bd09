-- Characters by their bytes. In UTF-8 each byte from 128 on is a part of a character from U+0080 on.
-- Source: the project's own (docs/FORMATS.md, "Tokens").
use Rattle.std.specs.Prelude.{ℕ, ◌==◌, ◌&&◌, ◌||◌, nat_le, not, Bool, true, false, if◌then◌else◌, List, [], ◌∷◌}
use Rattle.rif_lex.specs.declared.class.Class.{Class}
use Rattle.rif_lex.specs.declared.class.Class.TheVariants.{White, Letter, Zero, Digit, Underscore, Minus, Question}
use Rattle.rif_lex.specs.declared.class.Class.TheVariants.{Quote, Less, Open, Close, OpenSquare, CloseSquare, Equal}
use Rattle.rif_lex.specs.declared.class.Class.TheVariants.{Hash, Caret, Other}

abbrev pub is_between : ℕ → ℕ → ℕ → Bool
is_between low high b = nat_le low b && nat_le b high

-- what a byte can begin
abbrev pub class_at : ℕ → Class
class_at b =
    if is_between 97 122 b || is_between 65 90 b || nat_le 128 b then Letter
    else (if b == 32 || b == 10 || b == 9 || b == 13 then White
    else (if b == 48 then Zero
    else (if is_between 49 57 b then Digit
    else (if b == 95 then Underscore
    else (if b == 45 then Minus
    else (if b == 63 then Question
    else (if b == 34 then Quote
    else (if b == 60 then Less
    else (if b == 40 then Open
    else (if b == 41 then Close
    else (if b == 91 then OpenSquare
    else (if b == 93 then CloseSquare
    else (if b == 61 then Equal
    else (if b == 35 then Hash
    else (if b == 94 then Caret
    else Other)))))))))))))))

-- the text begins with the byte
abbrev pub begins : ℕ → List ℕ → Bool
begins c [] = false
begins c (b ∷ bs) = b == c

-- the text begins with the two bytes
abbrev pub begins_two : ℕ → ℕ → List ℕ → Bool
begins_two c d [] = false
begins_two c d (b ∷ bs) = b == c && begins d bs

-- a byte of the class is one of a name character before the rest: `-` isn't where `>` follows
abbrev pub is_name : Class → List ℕ → Bool
is_name Letter rest = true
is_name Zero rest = true
is_name Digit rest = true
is_name Underscore rest = true
is_name Minus rest = not (begins 62 rest)
is_name _ rest = false

-- the text begins with a name character
abbrev pub begins_name : List ℕ → Bool
begins_name [] = false
begins_name (b ∷ bs) = is_name (class_at b) bs

abbrev pub is_digit : Class → Bool
is_digit Zero = true
is_digit Digit = true
is_digit _ = false

-- a digit other than 0
abbrev pub is_first_digit : Class → Bool
is_first_digit Digit = true
is_first_digit _ = false

-- the text begins with a digit other than 0
abbrev pub begins_number : List ℕ → Bool
begins_number [] = false
begins_number (b ∷ bs) = is_first_digit (class_at b)

-- what may follow a backslash: `"`, `\`, `n`, `t` or `r`
abbrev pub is_escape : ℕ → Bool
is_escape b = b == 34 || b == 92 || b == 110 || b == 116 || b == 114

-- the text begins with what may follow a backslash
abbrev pub begins_escape : List ℕ → Bool
begins_escape [] = false
begins_escape (b ∷ bs) = is_escape b

-- what may stand between `<` and `>`
abbrev pub is_inside_iri : ℕ → Bool
is_inside_iri b = nat_le 33 b && not (b == 60 || b == 62 || b == 34)
