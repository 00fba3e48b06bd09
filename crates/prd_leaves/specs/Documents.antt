-- What the tokens of a document lead to: the document with its prefixes, or the refusal that decides.
--     IsRead tokens bytes doc prefixes      the tokens of these bytes are a document at which no refusal stands
--     IsRefused tokens bytes refusal        the refusal stands at its place
--     OneOutcome                            law: tokens lead to one of these, and to one value of it
-- Source: the project's own (docs/FORMATS.md, "Grammar" and "Refusals").
use Rattle.std.specs.Prelude.{◌≡◌, ℕ, zero, suc, List, [], ◌∷◌, length}
use Rattle.rif_refusals.specs.declared.refusal.Refusal.{Refusal}
use Rattle.rif_refusals.specs.declared.fault.Fault.{Fault}
use Rattle.rif_refusals.specs.declared.fault.Fault.TheVariants.{Refused, OutOfMemory}
use Rattle.rif_tree.specs.declared.rule.Doc.{Doc}
use Rattle.rif_lex.specs.declared.token.Token.{Token}
use Rattle.rif_lex.specs.Places.{first_place, place_past}
use Rattle.prd_grammar.specs.declared.cause.Cause.{Cause}
use Rattle.prd_leaves.specs.Leaves.{leaves_of}
use Rattle.prd_grammar.specs.Prefixes.{Prefixes}
use Rattle.prd_grammar.specs.Refusals.{IsClear, IsRefusedAt, refusal_at}
use Rattle.prd_grammar.specs.Trees.{DocumentTree, spell_document}
use Rattle.prd_grammar.specs.Values.{document_prefixes, document_value}

-- the line of a token, or of the end, which is just past the last character
abbrev pub line_of : List ℕ → List Token → ℕ → ℕ
line_of bytes [] i = (place_past first_place bytes).line
line_of bytes (t ∷ ts) zero = t.line
line_of bytes (t ∷ ts) (suc i) = line_of bytes ts i

-- and the column
abbrev pub column_of : List ℕ → List Token → ℕ → ℕ
column_of bytes [] i = (place_past first_place bytes).col
column_of bytes (t ∷ ts) zero = t.col
column_of bytes (t ∷ ts) (suc i) = column_of bytes ts i

pub record IsRead (tokens : List Token) (bytes : List ℕ) (doc : Doc) (prefixes : Prefixes) : Type 0 where
  pub tree : DocumentTree
  pub spelled : spell_document tree ≡ leaves_of bytes tokens
  pub clear : IsClear (leaves_of bytes tokens) (length tokens)
  pub value : document_value tree ≡ doc
  pub declared : document_prefixes tree ≡ prefixes

pub record IsRefused (tokens : List Token) (bytes : List ℕ) (refusal : Refusal) : Type 0 where
  pub place : ℕ
  pub cause : Cause
  pub decides : IsRefusedAt (leaves_of bytes tokens) place cause
  pub is : refusal ≡ refusal_at cause (line_of bytes tokens place) (column_of bytes tokens place)

-- the document of the tokens, with some prefixes
abbrev pub IsDocumentOf : List Token → List ℕ → Doc → Type 0
IsDocumentOf tokens bytes doc = (prefixes : Prefixes) × IsRead tokens bytes doc prefixes

-- a call that gives no document has no memory, or tells the refusal
abbrev pub RefusesDocument : List Token → List ℕ → Fault → Type 0
RefusesDocument tokens bytes OutOfMemory = Unit {0}
RefusesDocument tokens bytes (Refused refusal) = IsRefused tokens bytes refusal

-- Law: tokens are one document at most, have one refusal at most, and not both.
pub record OneOutcome : Type 0 where
  pub one_document : (tokens : List Token) (bytes : List ℕ) (a b : Doc) (p q : Prefixes) →
      IsRead tokens bytes a p → IsRead tokens bytes b q → (a ≡ b) × (p ≡ q)
  pub one_refusal : (tokens : List Token) (bytes : List ℕ) (a b : Refusal) →
      IsRefused tokens bytes a → IsRefused tokens bytes b → a ≡ b
  pub not_both : (tokens : List Token) (bytes : List ℕ) (doc : Doc) (prefixes : Prefixes) (refusal : Refusal) →
      IsRead tokens bytes doc prefixes → IsRefused tokens bytes refusal → ⊥
