use Rattle.std.proofs.Common.{◌≡◌, take, map}
use Rattle.rule_scopes.specs.Numbering.{numbered_term}
use Rattle.rule_scopes.proofs.numbered_term.+term.Given as goal

abbrev pub invariant-numbered_terms-loop-term : goal.invariant-numbered_terms-loop-term
invariant-numbered_terms-loop-term l = l.all.items ≡ map (numbered_term l.scope) (take l.term-index l.terms)
