use Rattle.std.proofs.Common.{◌++◌, ◌∙◌, ◌∷◌}
use Rattle.rif_lex.specs.Spelling.{spelled_text, gap_text, joined}
use Rattle.prd_writing.specs.Canonical.{closing}
use Rattle.prd_writing.proofs.formula.push_holds.Goals as goal

pub returns : goal.returns
returns c = λ gap rest.
    c.in_ok-push_bytes-3.ensures (gap_text gap ++ spelled_text rest)
    ∙ (c.in_ok-push_terms.ensures (closing joined ∷ closing gap ∷ rest)
    ∙ (c.in_ok-push_bytes-2.ensures _ ∙ (c.in_ok-push_pred.ensures _ ∙ c.in_ok-push_bytes.ensures _)))
