use Rattle.std.proofs.Common.{◌++◌, ◌∙◌, ◌∷◌}
use Rattle.rif_lex.specs.Spelling.{spelled_text, gap_text}
use Rattle.prd_writing.specs.Canonical.{closing}
use Rattle.prd_writing.proofs.action.push_action.Goals as goal

pub returns : goal.returns
returns c = λ gap rest.
    c.in_ok-push_bytes-2.ensures (gap_text gap ++ spelled_text rest)
    ∙ (c.in_ok-push_acted.ensures (closing gap ∷ rest)
    ∙ (c.in_ok-push_bytes.ensures _ ∙ c.in_ok-push_verb.ensures _))
