use Rattle.std.proofs.Common.{◌∙◌}
use Rattle.rif_values.proofs.OrderLemmas.{fact_order_is}
use Rattle.rif_values.proofs.fact.Fact.cmp.Goals as goal

pub returns : goal.returns
returns c = c.cmp.ensures ∙ (λ i. fact_order_is i c.args.self.now c.args.other.now)
