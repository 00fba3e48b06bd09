-- Constants as they are written, and the tokens that they are.
-- Source: the project's own (docs/FORMATS.md, "Constants and facts").
use Rattle.std.specs.Prelude.{◌≡◌, ◌<◌, ◌^◌, ℕ, ℤ, Bool, true, List, [], ◌∷◌}
use lib.Signed.{mag}
use Rattle.std.specs.List.{AllByRecursion}
use Rattle.rif_values.specs.declared.constant.Const.{Const}
use Rattle.rif_values.specs.declared.constant.Const.TheVariants.{Int as IntConst, Bool as BoolConst, Str as StrConst}
use Rattle.rif_values.specs.declared.constant.Const.TheVariants.{Iri as IriConst, Local as LocalConst}
use Rattle.rif_values.specs.Writing.{const_text}
use Rattle.rif_lex.specs.declared.token.Kind.{Kind}
use Rattle.rif_lex.specs.declared.token.Kind.TheVariants.{Word, Local, Int, Str, Iri}
use Rattle.rif_lex.specs.Characters.{is_inside_iri}
use Rattle.rif_lex.specs.Forms.{AreNames}
use Rattle.rif_lex.specs.Spelling.{IsToken}

-- the constant as it is written is, alone, one token of the kind
abbrev pub IsWrittenAs : Const → Kind → Type 0
IsWrittenAs c kind = IsToken (record { kind = kind; text = const_text c })

-- Law: a constant as it is written is one token: an integer of up to 128 bits, a truth value, a string, an IRI whose
-- bytes may stand in one, and a local name of name characters.
pub record ConstantsAreTokens : Type 0 where
  pub integers : (z : ℤ) → mag z < 2 ^ 127 → IsWrittenAs (IntConst z) Int
  pub truths : (b : Bool) → IsWrittenAs (BoolConst b) Word
  pub strings : (t : List ℕ) → IsWrittenAs (StrConst t) Str
  pub iris : (t : List ℕ) → AllByRecursion (λ b. is_inside_iri b ≡ true) t → IsWrittenAs (IriConst t) Iri
  pub names : (first : ℕ) (more : List ℕ) → AreNames (first ∷ more) [] → IsWrittenAs (LocalConst (first ∷ more)) Local
