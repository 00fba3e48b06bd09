use Rattle.std.proofs.Common.{◌≡◌, take}
use Rattle.rif_script.specs.Trace.{firing_count}
use Rattle.rif_script.proofs.trace.firings.Given as goal

abbrev pub invariant-loop-turn : goal.invariant-loop-turn
invariant-loop-turn l = l.count ≡ firing_count (take l.turn-index l.turns)
