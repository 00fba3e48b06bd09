use Rattle.std.proofs.Common.{◌≡◌, take}
use Rattle.rif_match.proofs.extending.copy_terms.Given as goal

abbrev pub invariant-loop-term : goal.invariant-loop-term
invariant-loop-term l = l.items.items ≡ take l.term-index l.terms
