use Rattle.std.proofs.Common.{◌++◌, ◌∙◌, ◌∷◌, codes}
use Rattle.rif_lex.specs.Spelling.{spelled_text, gap_text, joined, space}
use Rattle.prd_writing.specs.Canonical.{word, opening, closing}
use Rattle.prd_writing.proofs.action.push_new.Goals as goal

pub returns : goal.returns
returns c = λ gap rest.
    c.in_ok-push_bytes-2.ensures (gap_text gap ++ spelled_text rest)
    ∙ (c.in_ok-push_var.ensures space (word (codes "New") joined ∷ opening ∷ closing joined ∷ closing gap ∷ rest)
    ∙ c.in_ok-push_bytes.ensures _)
