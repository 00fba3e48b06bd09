use Rattle.std.proofs.Common.{◌∙◌}
use Rattle.rif_lex.specs.Spelling.{joined, space}
use Rattle.prd_writing.specs.Canonical.{term_spelling}
use Rattle.prd_writing.proofs.action.push_two.Goals as goal

pub returns : goal.returns
returns c = λ rest.
    c.in_ok-push_term-2.ensures joined rest
    ∙ (c.in_ok-push_bytes.ensures _
    ∙ c.in_ok-push_term.ensures space (term_spelling c.args.names.now c.args.slot.now joined rest))
