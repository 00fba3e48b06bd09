use Rattle.rif_safe.proofs.RulesLemmas.{IsSafeSoFar}
use Rattle.rif_safe.proofs.arranging.safe_doc_of.Given as goal

abbrev pub invariant-loop-place : goal.invariant-loop-place
invariant-loop-place l = IsSafeSoFar l.doc l.rules.items l.place
