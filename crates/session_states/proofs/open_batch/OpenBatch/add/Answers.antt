use Rattle.std.proofs.Common.{◌∙◌, ap, subst, sym, List}
use Rattle.session_states.specs.declared.item.Entry.{Entry}
use Rattle.session_states.specs.Batches.{IsLawful}
use Rattle.session_states.specs.OpenBatches.{takes_more}
use Rattle.session_states.proofs.OpenLemmas.{lawful_more}
use Rattle.session_states.proofs.open_batch.OpenBatch.add.Goals as goal

pub invariant_of-self : goal.invariant_of-self
invariant_of-self c =
    subst IsLawful (sym c.in-Ok.ensures.items)
    (lawful_more c.self.inside.entries.items c.args.entry c.self.invariant
    (c.if-not-takes_more.ensures ∙ ap (λ batch. takes_more batch.entries) (sym c.self.view_is)))
