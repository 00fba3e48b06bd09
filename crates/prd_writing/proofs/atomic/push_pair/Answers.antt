use Rattle.std.proofs.Common.{◌∙◌, ◌∷◌}
use Rattle.rif_lex.specs.Spelling.{joined}
use Rattle.prd_writing.specs.Canonical.{arrow, term_spelling}
use Rattle.prd_writing.proofs.atomic.push_pair.Goals as goal

pub returns : goal.returns
returns c = λ gap rest.
    c.in_ok-push_term-2.ensures gap rest
    ∙ (c.in_ok-push_bytes.ensures _
    ∙ c.in_ok-push_term.ensures joined (arrow ∷ term_spelling c.args.names.now c.args.pair.now.1 gap rest))
