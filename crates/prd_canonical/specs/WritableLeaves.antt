-- Which leaves can be written so that they are read back. No public clause cites this module.
--     IsWritableLeaf l          what the leaf stands for can be written
--     IsPlacedLeaf names l      the same, where a variable is written by its place among the names
--     AreIriPrefixes prefixes   each prefix that is declared has a text that may stand between `<` and `>`
use Rattle.std.specs.Prelude.{ℕ, pos, List, [], ◌∷◌, IsUtf8}
use Rattle.std.specs.List.{AllByRecursion}
use Rattle.rif_lex.specs.Spelling.{Written, IsToken}
use Rattle.prd_grammar.specs.declared.leaf.Leaf.{Leaf}
use Rattle.prd_grammar.specs.declared.leaf.Leaf.TheVariants.{Int, Str, Typed, Iri, Curie, Local, Var}
use Rattle.prd_grammar.specs.Prefixes.{Prefixes}
use Rattle.prd_grammar.specs.Values.{integer_or, text_or, literal_value}
use Rattle.prd_canonical.specs.Writable.{IsNameText, IsIriText, IsWritableInt, IsWritableConst, IsWritableVar}

abbrev pub IsWritableLeaf : Leaf → Type 0
IsWritableLeaf (Int z) = IsWritableInt (integer_or (pos 0) z)
IsWritableLeaf (Str t) = IsUtf8 t
IsWritableLeaf (Typed literal) = IsWritableConst (literal_value literal)
IsWritableLeaf (Iri t) = IsIriText t
IsWritableLeaf (Curie t) = IsIriText (text_or [] t)
IsWritableLeaf (Local t) = IsNameText t
IsWritableLeaf (Var v) = IsNameText v
IsWritableLeaf _ = Unit {0}

abbrev pub AreWritableLeaves : List Leaf → Type 0
AreWritableLeaves [] = Unit {0}
AreWritableLeaves (l ∷ ls) = IsWritableLeaf l × AreWritableLeaves ls

abbrev pub IsPlacedLeaf : List (List ℕ) → Leaf → Type 0
IsPlacedLeaf names (Var v) = IsWritableVar names v
IsPlacedLeaf names l = IsWritableLeaf l

abbrev pub ArePlacedLeaves : List (List ℕ) → List Leaf → Type 0
ArePlacedLeaves names [] = Unit {0}
ArePlacedLeaves names (l ∷ ls) = IsPlacedLeaf names l × ArePlacedLeaves names ls

abbrev pub AreIriPrefixes : Prefixes → Type 0
AreIriPrefixes [] = Unit {0}
AreIriPrefixes (entry ∷ more) = IsIriText entry.1 × AreIriPrefixes more

-- each name may stand behind a sign
abbrev pub AreNameTexts : List (List ℕ) → Type 0
AreNameTexts [] = Unit {0}
AreNameTexts (n ∷ ns) = IsNameText n × AreNameTexts ns

-- a token of its kind, whose text is UTF-8
pub record IsTextToken (w : Written) : Type 0 where
  pub form : IsToken w
  pub utf8 : IsUtf8 w.text

abbrev pub AreTextTokens : List Written → Type 0
AreTextTokens ws = AllByRecursion IsTextToken ws
