use Rattle.std.specs.Map.{keys_of}
use Rattle.rif_values.proofs.CallerLemmas.{fact_order_is}
use Rattle.rif_facts.proofs.KeyedLemmas.{in_order}
use Rattle.rif_facts.proofs.net_change.changed_lists.Goals as goal

pub returns-clause-sorted : goal.returns-clause-sorted
returns-clause-sorted c =
    in_order _ fact_order_is (keys_of c.args.own.entries) c.into_iter-fact-iterator.ensures.into_iter_gives.5
