use Rattle.std.proofs.Common.{◌≡◌, ◌++◌, take, filter_map}
use Rattle.rif_builtins.specs.Extensions.{match_fact}
use Rattle.rif_match.proofs.extending.push_matching.Given as goal

abbrev pub invariant-loop-fact : goal.invariant-loop-fact
invariant-loop-fact l =
    l.all.items ≡ l.fn.all.items ++ filter_map (match_fact l.pattern l.row) (take l.fact-index l.candidates)
