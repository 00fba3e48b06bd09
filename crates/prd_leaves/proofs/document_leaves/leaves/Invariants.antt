use Rattle.std.proofs.Common.{◌≡◌, ◌++◌, [], drop, map}
use Rattle.rif_lex.specs.Spelling.{written}
use Rattle.prd_leaves.specs.Leaves.{leaves_from, leaves_of, prefixes_from}
use Rattle.prd_leaves.specs.LeafSteps.{front_from}
use Rattle.prd_leaves.proofs.document_leaves.leaves.Given as goal

abbrev pub invariant-loop-at : goal.invariant-loop-at
invariant-loop-at l = record {
  so_far : l.found.items ++ leaves_from l.prefixes (front_from [] l.found.items) (map (written l.bytes)
      (drop l.at l.tokens))
      ≡ leaves_of l.bytes l.tokens;
  declared : l.prefixes ≡ prefixes_from [] [] l.found.items;
}
