use Rattle.std.proofs.Common.{ap, ◌∙◌}
use Rattle.std.specs.List.{dedup}
use Rattle.std.proofs.lemmas.List.Filters.{dedup_is}
use Rattle.rif_values.specs.Sets.{ordered}
use Rattle.rif_sets.proofs.SetsSorted.{dedup_is_ordered, written_back}
use Rattle.rif_sets.proofs.sets.sorted_set.Goals as goal

-- what is left is the slice that was sorted, written back and deduped
pub returns : goal.returns
returns g c =
    let long = c.in_ok-sort.ensures.len ∙ c.as_mut_slice.ensures.len in
    let laws = g.met.K.Ord in
    let sort = c.in_ok-sort.ensures in
    c.from_vec.ensures ∙ dedup_is _ _ _ c.dedup.ensures.filtered
    ∙ ap (dedup g.K.PartialEq.eq) (written_back _ _ c.sort.new.self long)
    ∙ dedup_is_ordered laws.total laws.matches_eq _ _ sort.stable sort.sorted
    ∙ ap (ordered g.K.Ord.cmp) c.as_mut_slice.ensures.value
