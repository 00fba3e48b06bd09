use Rattle.std.proofs.Common.{List, Bool, ap, ◌∙◌}
use Rattle.rif_values.specs.declared.fact.Fact.{Fact}
use Rattle.rif_values.proofs.CallerLemmas.{fact_order_is}
use Rattle.rif_facts.specs.Marks.{mark_at}
use Rattle.rif_facts.proofs.KeyedLemmas.{looked_up}
use Rattle.rif_facts.proofs.marked.MarkedFacts.mark.Goals as goal

pub returns-clause-mark : goal.returns-clause-mark
returns-clause-mark c =
    c.copied.ensures ∙ c.get.ensures.value ∙ looked_up _ fact_order_is c.self.inside.entries.entries c.args.fact.now
    ∙ ap (λ (es : List (Fact × Bool)). mark_at es c.args.fact.now) c.self.view_is
