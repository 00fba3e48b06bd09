use Rattle.std.proofs.Common.{List, ap, ◌∙◌, None}
use Rattle.rif_values.specs.declared.fact.Fact.{Fact}
use Rattle.rif_values.specs.declared.change.Delta.{Delta}
use Rattle.rif_values.specs.Order.{fact_cmp}
use Rattle.rif_values.specs.Sets.{patched}
use Rattle.rif_facts.proofs.facts.Facts.apply.Goals as goal

pub returns-clause-ok : goal.returns-clause-ok
returns-clause-ok c =
    let made =
    ap (λ (list : List Fact). patched fact_cmp list c.in_ok-room.room.added c.in_ok-room.room.removed)
    c.in_ok-room.ensures.list
    ∙ ap (λ (d : Delta). patched fact_cmp c.args.self.now.list d.added d.removed) c.in_ok-room.ensures.made
    ∙ c.in_ok-delta.ensures.leads in
    c.commit.ensures ∙ (λ i. record { list = made i; room = None })
