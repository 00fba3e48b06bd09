use Rattle.rif_builtins.specs.Extensions.{holds_at}
use Rattle.rif_builtins.specs.Values.{values_of}
use Rattle.rif_values.proofs.CallerLemmas.{kept_step}
use Rattle.rif_match.proofs.extending.rows_where.Goals as goal

pub loop-row-preserved : goal.loop-row-preserved
loop-row-preserved c =
    kept_step (λ row. holds_at c.args.pred (values_of row c.args.terms.now)) c.args.rows.now c.loop-row.row-index
    c.row-item.result
    c.in_ok-kept.kept c.loop-row.all.items c.push_kept.new.all.items c.loop-row-test.true c.row-item.is
    c.in_ok-kept.ensures
    c.loop-row.invariant c.in_ok-push_kept.ensures
