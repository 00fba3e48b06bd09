use Rattle.std.proofs.Common.{◌≡◌, ◌++◌, List, map, drop, true}
use Rattle.rif_lex.specs.Spelling.{Spelled}
use Rattle.prd_writing.specs.Canonical.{pair_spelling}
use Rattle.prd_writing.specs.Writing.{left_text}
use Rattle.prd_writing.proofs.atomic.push_pairs.Given as goal

abbrev pub invariant-loop-pair : goal.invariant-loop-pair
invariant-loop-pair l =
    (rest : List Spelled) →
    l.out.items ++ left_text l.is_first (map (pair_spelling l.names) (drop l.pair-index l.pairs)) rest
    ≡ l.fn.out.items ++ left_text true (map (pair_spelling l.names) l.pairs) rest
