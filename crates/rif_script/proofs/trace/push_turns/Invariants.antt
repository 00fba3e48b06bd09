use Rattle.std.proofs.Common.{◌≡◌, ◌+◌, ◌++◌, drop}
use Rattle.rif_script.specs.Trace.{turns_text}
use Rattle.rif_script.proofs.trace.push_turns.Given as goal

abbrev pub invariant-loop-before : goal.invariant-loop-before
invariant-loop-before l =
    l.out.items ++ turns_text l.job (l.before + 1) (drop l.before l.turns) ≡
    l.fn.out.items ++ turns_text l.job 1 l.turns
