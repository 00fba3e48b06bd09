use Rattle.std.proofs.Common.{◌∙◌, arith}
use Rattle.std.proofs.lemmas.Result.{err_from_is_err_and}
use Rattle.rif_script.proofs.ClientLemmas.{less_is_left, line_ends, line_goes_on, not_empty}
use Rattle.rif_script.proofs.script.read_script.Goals as goal

pub returns-in_err-script : goal.returns-in_err-script
returns-in_err-script c =
    let some_ = not_empty c.loop-rest.rest.now c.is_empty.result c.is_empty.ensures c.loop-rest-test.true in
    let p = err_from_is_err_and c.from_residual-in_err-script.result c.from_residual-in_err-script.ensures.1 in
    rw (p.1, p.2) (line_ends c.args.prefixes.now c.loop-rest.number c.loop-rest.script c.loop-rest.rest.now _ _ some_
    c.first_line.ensures.line c.first_line.ensures.behind _ c.in_err-script.field-0.0 c.loop-rest.invariant.lines
    c.in_err-script.ensures.is)

pub loop-rest-smaller : goal.loop-rest-smaller
loop-rest-smaller c =
    let some_ = not_empty c.loop-rest.rest.now c.is_empty.result c.is_empty.ensures c.loop-rest-test.true in
    less_is_left c.loop-rest.rest.now c.first_line.result.1.now some_ c.first_line.ensures.behind

pub loop-rest-preserved : goal.loop-rest-preserved
loop-rest-preserved c =
    let some_ = not_empty c.loop-rest.rest.now c.is_empty.result c.is_empty.ensures c.loop-rest-test.true in
    let less = less_is_left c.loop-rest.rest.now c.first_line.result.1.now some_ c.first_line.ensures.behind in
    let counted = c.loop-rest.invariant.counted in
    record {
      few = c.in_ok-script.ensures.few;
      counted = omega (arith, less, counted);
      lines = c.loop-rest.invariant.lines
          ∙ line_goes_on c.args.prefixes.now c.loop-rest.number c.loop-rest.script c.loop-rest.rest.now _ _ some_
          c.first_line.ensures.line c.first_line.ensures.behind c.in_ok-script.script c.in_ok-script.ensures.is;
    }
