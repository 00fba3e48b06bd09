use Rattle.std.proofs.Common.{◌+◌, ◌∙◌, ap, length}
use Rattle.rif_builtins.proofs.StringLemmas.{bytes_within, stops_at_string}
use Rattle.rif_builtins.proofs.strings.concatenated_length.Goals as goal

pub returns-in_err-total-in-Str : goal.returns-in_err-total-in-Str
returns-in_err-total-in-Str c =
    let item = c.argument-item in
    c.from_residual.ensures ∙ stops_at_string c.args.arguments.now c.loop-argument.argument-index
    c.loop-argument.total item.result c.in-Str.text c.loop-argument-test.true item.is c.in-Str.is
    c.loop-argument.invariant.same
    (c.in_err-total-in-Str.ensures ∙ ap (λ bs. bytes_within (c.loop-argument.total + length bs)) c.bytes.ensures)
