use Rattle.std.proofs.Common.{◌∙◌}
use Rattle.rif_facts.specs.Marks.{counted}
use Rattle.rif_facts.proofs.MarksLemmas.{set_kept}
use Rattle.rif_facts.proofs.TurnedLemmas.{object_found}
use Rattle.rif_facts.proofs.indexed.IndexedFacts.of_object.Goals as goal

pub returns : goal.returns
returns c =
    c.in_ok-append.ensures.items
    ∙ object_found c.args.object.now c.in_ok-copy.field-0 c.in_ok-copy-2.field-0 (counted c.args.self.now)
    c.in_ok-found.found.items c.in_ok-memberships.memberships.items
    (set_kept (λ e. e.1) c.args.self.now c.of_run.ensures.marked.sorted) c.in_ok-copy.ensures c.in_ok-copy-2.ensures
    c.in_ok-found.ensures.facts c.in_ok-memberships.ensures.facts
