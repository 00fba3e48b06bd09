use Rattle.std.proofs.Common.{◌≡◌, take, map}
use Rattle.rule_scopes.specs.Numbering.{numbered_pair}
use Rattle.rule_scopes.proofs.numbered_term.numbered_pairs.Given as goal

abbrev pub invariant-loop-pair : goal.invariant-loop-pair
invariant-loop-pair l = l.all.items ≡ map (numbered_pair l.scope) (take l.pair-index l.pairs)
