use Rattle.std.proofs.Common.{◌≡◌, ◌++◌, List, map, drop, true}
use Rattle.rif_lex.specs.Spelling.{Spelled}
use Rattle.prd_writing.specs.Canonical.{term_spelling}
use Rattle.prd_writing.specs.Writing.{left_text}
use Rattle.prd_writing.proofs.term.+term_writing.Given as goal

abbrev pub invariant-push_terms-loop-term : goal.invariant-push_terms-loop-term
invariant-push_terms-loop-term l =
    (rest : List Spelled) →
    l.out.items ++ left_text l.is_first (map (term_spelling l.names) (drop l.term-index l.terms)) rest
    ≡ l.fn.out.items ++ left_text true (map (term_spelling l.names) l.terms) rest
