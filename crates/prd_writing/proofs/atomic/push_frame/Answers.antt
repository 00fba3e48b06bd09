use Rattle.std.proofs.Common.{◌++◌, map, ◌∙◌, ◌∷◌}
use Rattle.rif_lex.specs.Spelling.{spelled_text, gap_text, joined}
use Rattle.prd_writing.specs.Canonical.{open_square, close_square, listed, pair_spelling}
use Rattle.prd_writing.proofs.atomic.push_frame.Goals as goal

pub returns : goal.returns
returns c = λ gap rest.
    c.in_ok-push_bytes-2.ensures (gap_text gap ++ spelled_text rest)
    ∙ (c.in_ok-push_pairs.ensures (close_square gap ∷ rest)
    ∙ (c.in_ok-push_bytes.ensures _
    ∙ c.in_ok-push_term.ensures joined
    (open_square ∷ listed (map (pair_spelling c.args.names.now) c.args.pairs.now) (close_square gap ∷ rest))))
