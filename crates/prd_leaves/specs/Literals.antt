-- Typed literals, integers and strings by their texts.
--     integer_of text       the integer of digits with a sign, and none where it is out of range
--     unescaped text        a string's text, with its escapes undone
-- literal_of iri text the text of a typed literal as its type reads it, and nothing where it isn't a spelling of it
-- Source: the project's own (docs/FORMATS.md, "Tokens" and "Typed literals"); the types are RIF-DTB's, "Constants and
-- Symbol Spaces".
use Rattle.std.specs.Prelude.{ℕ, ◌==◌, ◌&&◌, ◌||◌, nat_le, ℤ, int_le, Bool, true, false, if◌then◌else◌, List, [], ◌∷◌}
use Rattle.std.specs.Prelude.{◌++◌, length, codes, bytes_eq, Option, Some, None}
use Rattle.std.specs.List.{list_all}
use Rattle.std.specs.Str.Parse.{signed_digits_value, without_leading_sign}
use Rattle.rif_values.specs.declared.integer.TheConstants.{LEAST_INTEGER, GREATEST_INTEGER}
use Rattle.rif_lex.specs.Characters.{is_between, is_inside_iri, is_name, class_at}
use Rattle.prd_grammar.specs.declared.leaf.Literal.{Literal}
use Rattle.prd_grammar.specs.declared.leaf.Literal.TheVariants.{Integer, Boolean, String, Iri, Local, OfNoType}
use Rattle.prd_grammar.specs.Prefixes.{xs_namespace, rif_namespace}

-- whether an integer is one of documents
abbrev pub in_range : ℤ → Bool
in_range z = int_le LEAST_INTEGER z && int_le z GREATEST_INTEGER

abbrev pub integer_of : List ℕ → Option ℤ
integer_of text = if in_range (signed_digits_value 10 text) then Some (signed_digits_value 10 text) else None

-- the character that an escape's last byte stands for
abbrev pub escape_of : ℕ → ℕ
escape_of b = if b == 110 then 10 else (if b == 116 then 9 else (if b == 114 then 13 else b))

-- the flag says that a backslash stands before
abbrev pub unescaped_from : Bool → List ℕ → List ℕ
unescaped_from escape [] = []
unescaped_from true (b ∷ bs) = escape_of b ∷ unescaped_from false bs
unescaped_from false (b ∷ bs) = if b == 92 then unescaped_from true bs else b ∷ unescaped_from false bs

abbrev pub unescaped : List ℕ → List ℕ
unescaped text = unescaped_from false text

-- digits, of which there is one at least, behind a sign or none
abbrev pub is_integer_text : List ℕ → Bool
is_integer_text text =
    nat_le 1 (length (without_leading_sign text)) && list_all (is_between 48 57) (without_leading_sign text)

-- a text that may stand between `<` and `>`
abbrev pub is_iri_text : List ℕ → Bool
is_iri_text text = list_all is_inside_iri text

-- a text that may stand behind `_`: name characters, of which there is one at least
abbrev pub are_name_characters : List ℕ → Bool
are_name_characters [] = true
are_name_characters (b ∷ bs) = is_name (class_at b) bs && are_name_characters bs

abbrev pub is_name_text : List ℕ → Bool
is_name_text text = nat_le 1 (length text) && are_name_characters text

abbrev pub boolean_of : List ℕ → Option Literal
boolean_of text =
    if bytes_eq text (codes "true") || bytes_eq text (codes "1") then Some (Boolean true)
    else (if bytes_eq text (codes "false") || bytes_eq text (codes "0") then Some (Boolean false) else None)

-- whether the IRI is that of one of the five types
abbrev pub is_type : List ℕ → Bool
is_type iri =
    bytes_eq iri (xs_namespace ++ codes "integer") || (bytes_eq iri (xs_namespace ++ codes "boolean")
    || (bytes_eq iri (xs_namespace ++ codes "string") || (bytes_eq iri (rif_namespace ++ codes "iri")
    || bytes_eq iri (rif_namespace ++ codes "local"))))

abbrev pub literal_of : List ℕ → List ℕ → Option Literal
literal_of iri text =
    if bytes_eq iri (xs_namespace ++ codes "integer") then
    (if is_integer_text text then Some (Integer (integer_of text)) else None)
    else (if bytes_eq iri (xs_namespace ++ codes "boolean") then boolean_of text
    else (if bytes_eq iri (xs_namespace ++ codes "string") then Some (String text)
    else (if bytes_eq iri (rif_namespace ++ codes "iri") then (if is_iri_text text then Some (Iri text) else None)
    else (if bytes_eq iri (rif_namespace ++ codes "local") then
    (if is_name_text text then Some (Local text) else None)
    else Some OfNoType))))
