-- What the canonical text of a document that was read leads to.
--     IsTooDeep tokens bytes     the tokens are refused at a bracket that stands inside 64 open ones
--     IsReadBack bytes doc       the bytes are read as the document, without prefixes, or a bracket is too deep
--     CanonicalIsReadBack        law
-- Source: the project's own (docs/FORMATS.md, "Canonical text", "Limits" and "Refusals").
use Rattle.std.specs.Prelude.{◌≡◌, ◌⊎◌, ℕ, List, [], Ok, Err}
use Rattle.rif_refusals.specs.declared.refusal.Refusal.TheVariants.{InputTooLong, TooDeep}
use Rattle.rif_tree.specs.declared.rule.Doc.{Doc}
use Rattle.rif_lex.specs.declared.token.Token.{Token}
use Rattle.rif_lex.specs.Lexing.{lexed}
use Rattle.prd_writing.specs.Canonical.{canonical_text}
use Rattle.prd_leaves.specs.Documents.{IsRead, IsRefused}
use Rattle.prd_grammar.specs.Prefixes.{Prefixes}

abbrev pub IsTooDeep : List Token → List ℕ → Type 0
IsTooDeep tokens bytes = (line : ℕ) × (col : ℕ) × IsRefused tokens bytes (TooDeep line col)

abbrev pub IsReadBack : List ℕ → Doc → Type 0
IsReadBack bytes doc = (tokens : List Token) × ((lexed bytes ≡ Ok tokens)
    × (IsRead tokens bytes doc [] ⊎ IsTooDeep tokens bytes))

-- Law: the canonical text of a document that was read is too long for an input, or it is read back.
abbrev pub CanonicalIsReadBack : Type 0
CanonicalIsReadBack = (bytes : List ℕ) (tokens : List Token) (doc : Doc) (prefixes : Prefixes) →
    lexed bytes ≡ Ok tokens → IsRead tokens bytes doc prefixes →
    (lexed (canonical_text doc) ≡ Err InputTooLong) ⊎ IsReadBack (canonical_text doc) doc
