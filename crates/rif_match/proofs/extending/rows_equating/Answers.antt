use Rattle.std.proofs.Common.{[]}
use Rattle.rif_builtins.specs.Extensions.{equal_row}
use Rattle.rif_values.proofs.CallerLemmas.{found_step}
use Rattle.rif_match.proofs.extending.rows_equating.Goals as goal

pub loop-row-preserved : goal.loop-row-preserved
loop-row-preserved c =
    found_step (equal_row c.args.left.now c.args.right.now) c.args.rows.now c.loop-row.row-index c.row-item.result
    c.in_ok-found.found
    [] c.loop-row.all.items c.push_found.new.all.items c.loop-row-test.true c.row-item.is c.in_ok-found.ensures
    c.loop-row.invariant c.in_ok-push_found.ensures
