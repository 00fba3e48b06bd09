use Rattle.std.proofs.Common.{◌≡◌, drop, map}
use Rattle.rif_builtins.specs.Extensions.{base_of, in_turn, matched, slots_of}
use Rattle.rif_match.proofs.extending.rows_through_slots.Given as goal

abbrev pub invariant-loop-pair : goal.invariant-loop-pair
invariant-loop-pair l =
    in_turn (map (matched (base_of l.facts.list)) (slots_of l.object (drop l.pair-index l.pairs))) l.found.items
    ≡ in_turn (map (matched (base_of l.facts.list)) (slots_of l.object l.pairs)) l.initial.found.items
