use Rattle.std.proofs.Common.{◌++◌, ◌∙◌, ◌∷◌}
use Rattle.rif_lex.specs.Spelling.{spelled_text, gap_text, joined, space}
use Rattle.prd_writing.specs.Canonical.{closing, open_square, close_square, arrow, var_spelling, term_spelling}
use Rattle.prd_writing.proofs.action.push_slot.Goals as goal

pub returns : goal.returns
returns c = λ gap rest.
    let last = close_square joined ∷ closing gap ∷ rest in
    let value = arrow ∷ var_spelling c.args.names.now c.args.var joined last in
    let slot = open_square ∷ term_spelling c.args.names.now c.args.slot.now joined value in
    c.in_ok-push_bytes-5.ensures (gap_text gap ++ spelled_text rest)
    ∙ (c.in_ok-push_var-2.ensures joined last
    ∙ (c.in_ok-push_bytes-4.ensures _
    ∙ (c.in_ok-push_term-2.ensures joined value
    ∙ (c.in_ok-push_bytes-3.ensures _
    ∙ (c.in_ok-push_term.ensures joined slot
    ∙ (c.in_ok-push_bytes-2.ensures _
    ∙ (c.in_ok-push_var.ensures space (term_spelling c.args.names.now c.args.object.now joined slot)
    ∙ c.in_ok-push_bytes.ensures _)))))))
