-- The document of a job as bytes of its own. No public clause cites this module.
--     IsDocumentText text doc prefixes   the text is this document, with these prefixes
--     RefusesText text fault             a call that gives none has no memory, or tells why the text is none
use Rattle.std.specs.Prelude.{◌≡◌, ◌⊎◌, ℕ, List, Ok, Err}
use Rattle.rif_refusals.specs.declared.fault.Fault.{Fault}
use Rattle.rif_refusals.specs.declared.fault.Fault.TheVariants.{Refused, OutOfMemory}
use Rattle.rif_tree.specs.declared.rule.Doc.{Doc}
use Rattle.rif_lex.specs.declared.token.Token.{Token}
use Rattle.rif_lex.specs.Lexing.{lexed}
use Rattle.prd_leaves.specs.Documents.{IsRead, IsRefused}
use Rattle.prd_grammar.specs.Prefixes.{Prefixes}

abbrev pub IsDocumentText : List ℕ → Doc → Prefixes → Type 0
IsDocumentText text doc prefixes = (tokens : List Token) × (lexed text ≡ Ok tokens) × IsRead tokens text doc prefixes

abbrev pub RefusesText : List ℕ → Fault → Type 0
RefusesText text OutOfMemory = Unit {0}
RefusesText text (Refused refusal) =
    (lexed text ≡ Err refusal)
    ⊎ ((tokens : List Token) × (lexed text ≡ Ok tokens) × IsRefused tokens text refusal)
