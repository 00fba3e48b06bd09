use Rattle.std.proofs.Common.{arith}
use Rattle.rif_facts.specs.Fates.{fate_kept}
use Rattle.rif_facts.proofs.FatesLemmas.{fate_before}
use Rattle.rif_facts.proofs.fates.Fates.of.Goals as goal

pub loop-left-preserved : goal.loop-left-preserved
loop-left-preserved c =
    let within = c.loop-left.invariant.0 in
    let i = c.index-changes-left.is in
    let some = c.loop-left-test.true in (
      omega arith,
      λ q.
          fate_before c.args.changes.now c.loop-left.left c.index-changes-left.result q
          (fate_kept c.loop-left.fates q)
          (fate_kept c.note.new.self q) some within i (c.loop-left.invariant.1 q) (c.in_ok-note.ensures q),
    )
