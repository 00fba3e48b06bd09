use Rattle.std.proofs.Common.{◌≡◌, ◌++◌, suc, drop}
use Rattle.rif_builtins.specs.Extensions.{base_of}
use Rattle.rif_match.specs.ConflictSet.{conflict_set, instances_from}
use Rattle.rif_match.proofs.listing.list_instances.Given as goal

abbrev pub invariant-loop-place : goal.invariant-loop-place
invariant-loop-place l =
    l.all.items ++ instances_from (suc l.place) (drop l.place l.doc)
    (base_of l.facts.list) ≡ conflict_set l.doc l.facts.list
