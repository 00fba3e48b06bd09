use Rattle.std.proofs.Common.{◌++◌, map, ◌∙◌, ◌∷◌}
use Rattle.rif_lex.specs.Spelling.{spelled_text, gap_text, joined}
use Rattle.prd_writing.specs.Canonical.{opening, closing, listed, term_spelling}
use Rattle.prd_writing.proofs.atomic.push_atom.Goals as goal

pub returns : goal.returns
returns c = λ gap rest.
    c.in_ok-push_bytes-2.ensures (gap_text gap ++ spelled_text rest)
    ∙ (c.in_ok-push_terms.ensures (closing gap ∷ rest)
    ∙ (c.in_ok-push_bytes.ensures _
    ∙ c.in_ok-push_constant.ensures joined
    (opening ∷ listed (map (term_spelling c.args.names.now) c.args.arguments.now) (closing gap ∷ rest))))
