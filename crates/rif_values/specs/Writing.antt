-- Constants and facts as text.
--     const_text c     a constant as it is written
--     fact_text f      a fact as it is written
-- Source: the project's own (docs/FORMATS.md, "Constants and facts").
use Rattle.std.specs.Prelude.{ℕ, Bool, true, false, List, [], ◌∷◌, ◌++◌, codes, decimal, if◌then◌else◌, ◌==◌}
use Rattle.std.specs.Fmt.{signed_decimal}
use Rattle.std.specs.List.{flat_map}
use Rattle.rif_values.specs.declared.constant.Const.{Const}
use Rattle.rif_values.specs.declared.constant.Const.TheVariants.{Int, Bool as BoolConst, Str, Iri, Local, Fresh}
use Rattle.rif_values.specs.declared.fact.Fact.{Fact}
use Rattle.rif_values.specs.declared.fact.Fact.TheVariants.{Atom, Frame, Member}

-- a byte of a string: the quote, the backslash, the line feed, the tab and the carriage return as escapes
abbrev pub escaped : ℕ → List ℕ
escaped b =
    if b == 34 then codes "\\\""
    else (if b == 92 then codes "\\\\"
    else (if b == 10 then codes "\\n"
    else (if b == 9 then codes "\\t"
    else (if b == 13 then codes "\\r"
    else b ∷ []))))

abbrev pub truth_text : Bool → List ℕ
truth_text true = codes "true"
truth_text false = codes "false"

abbrev pub const_text : Const → List ℕ
const_text (Int n) = signed_decimal n
const_text (BoolConst b) = truth_text b
const_text (Str t) = codes "\"" ++ flat_map escaped t ++ codes "\""
const_text (Iri t) = codes "<" ++ t ++ codes ">"
const_text (Local t) = codes "_" ++ t
const_text (Fresh k) = codes "@" ++ decimal k

abbrev pub after_space : Const → List ℕ
after_space c = codes " " ++ const_text c

-- one after another, with one space between two
abbrev pub spaced : List Const → List ℕ
spaced [] = []
spaced (c ∷ cs) = const_text c ++ flat_map after_space cs

abbrev pub fact_text : Fact → List ℕ
fact_text (Atom p cs) = const_text p ++ codes "(" ++ spaced cs ++ codes ")"
fact_text (Frame o s v) = const_text o ++ codes "[" ++ const_text s ++ codes "->" ++ const_text v ++ codes "]"
fact_text (Member o c) = const_text o ++ codes " # " ++ const_text c
