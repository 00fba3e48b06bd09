use Rattle.std.proofs.Common.{◌∙◌, ◌∷◌, codes}
use Rattle.rif_lex.specs.Spelling.{spelled_text, space}
use Rattle.prd_writing.specs.Canonical.{word}
use Rattle.prd_writing.proofs.rule.push_if.Goals as goal

pub returns : goal.returns
returns c = λ rest.
    c.in_ok-push_bytes-2.ensures (spelled_text rest)
    ∙ (c.in_ok-push_formula.ensures space (word (codes "Then") space ∷ rest) ∙ c.in_ok-push_bytes.ensures _)
