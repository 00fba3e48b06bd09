use Rattle.std.proofs.Common.{ap, not, ◌==◌}
use Rattle.std.specs.List.{list_any}
use Rattle.rif_values.proofs.GatheringLemmas.{kept_step}
use Rattle.rif_values.proofs.rows.pairs_without.Goals as goal

pub loop-pair-preserved : goal.loop-pair-preserved
loop-pair-preserved c =
    kept_step (λ pair. not (list_any (λ v. v == pair.0) c.args.vars.now)) c.args.pairs.now c.loop-pair.pair-index
    c.pair-item.result
    (not c.has_var.result) c.loop-pair.items.items c.push_kept.new.items.items c.loop-pair-test.true c.pair-item.is
    (ap not c.has_var.ensures) c.loop-pair.invariant c.in_ok-push_kept.ensures
