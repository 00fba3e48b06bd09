-- That the tokens of a canonical text are told apart.
--     CanonicalIsSeparate    law
-- Source: the project's own (docs/FORMATS.md, "Canonical text").
use Rattle.std.specs.Prelude.{◌≡◌, ℕ, List, Ok}
use Rattle.rif_tree.specs.declared.rule.Doc.{Doc}
use Rattle.rif_lex.specs.declared.token.Token.{Token}
use Rattle.rif_lex.specs.Lexing.{lexed}
use Rattle.rif_lex.specs.Spelling.{AreSeparate}
use Rattle.prd_writing.specs.Canonical.{canonical_spelling}
use Rattle.prd_leaves.specs.Documents.{IsRead}
use Rattle.prd_grammar.specs.Prefixes.{Prefixes}

-- Law: the canonical text of a document that was read is its tokens, with a space, a line feed or nothing between
-- two, and each of them ends where the next may begin.
abbrev pub CanonicalIsSeparate : Type 0
CanonicalIsSeparate = (bytes : List ℕ) (tokens : List Token) (doc : Doc) (prefixes : Prefixes) →
    lexed bytes ≡ Ok tokens → IsRead tokens bytes doc prefixes → AreSeparate (canonical_spelling doc)
