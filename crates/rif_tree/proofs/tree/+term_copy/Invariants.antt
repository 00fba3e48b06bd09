use Rattle.std.proofs.Common.{◌≡◌, take}
use Rattle.rif_tree.proofs.tree.+term_copy.Given as goal

abbrev pub invariant-copy_terms-loop-term : goal.invariant-copy_terms-loop-term
invariant-copy_terms-loop-term l = l.items.items ≡ take l.term-index l.terms
