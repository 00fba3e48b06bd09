use Rattle.std.proofs.Common.{◌≡◌, take, drop, map, filter, flat_map, length, ◌==◌, [], ◌∷◌}
use Rattle.rif_builtins.specs.Extensions.{base_of, in_turn, through}
use Rattle.rif_match.proofs.extending.+through.Given as goal

abbrev pub invariant-rows_through_each-loop-member : goal.invariant-rows_through_each-loop-member
invariant-rows_through_each-loop-member l =
    in_turn (map (through (base_of l.facts.list)) (drop l.member-index l.members)) l.found.items ≡ in_turn
    (map (through (base_of l.facts.list)) l.members) l.initial.found.items

abbrev pub invariant-rows_through_any-loop-branch : goal.invariant-rows_through_any-loop-branch
invariant-rows_through_any-loop-branch l =
    l.all.items ≡ flat_map (λ branch. through (base_of l.facts.list) branch l.rows) (take l.branch-index l.branches)

abbrev pub invariant-rows_outside-loop-row : goal.invariant-rows_outside-loop-row
invariant-rows_outside-loop-row l =
    l.all.items ≡ filter (λ row. length (through (base_of l.facts.list) l.inner (row ∷ [])) == 0)
    (take l.row-index l.rows)
