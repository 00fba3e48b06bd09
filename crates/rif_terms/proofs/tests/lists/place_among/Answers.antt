use Rattle.rif_values.proofs.CallerLemmas.{const_order_is, exact_consts, total_consts}
use Rattle.rif_sets.proofs.CallerLemmas.{set_ordered}
use Rattle.rif_terms.proofs.tests.lists.place_among.Goals as goal

pub find_in_set-requires : goal.find_in_set-requires
find_in_set-requires c =
    rw (c.as_slice.ensures, c.in_ok-set.ensures, const_order_is)
    (set_ordered total_consts exact_consts c.args.all.items)
