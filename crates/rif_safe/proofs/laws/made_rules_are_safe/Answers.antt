use Rattle.rif_safe.proofs.SafeLemmas.{made_safe}
use Rattle.rif_safe.proofs.laws.made_rules_are_safe.Goals as goal

pub returns : goal.returns
returns c =
    made_safe c.numbering_is_scoped.ensures c.block_is_scoped.ensures c.names_are_given.ensures
    c.numbers_are_in_order.ensures c.taken_is_ready.ensures c.left_is_unbound.ensures
    c.arrangement_is_scoped.ensures
