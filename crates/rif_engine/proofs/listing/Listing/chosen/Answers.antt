use Rattle.std.proofs.Common.{◌≡◌, IfOk, List, subst}
use Rattle.prd_relation.specs.Choice.{chosen_instance}
use Rattle.prd_relation.specs.RuleSystem.{system_of}
use Rattle.prd_relation.specs.declared.moment.Moment.{Moment}
use Rattle.rif_engine.proofs.listing.Listing.chosen.Goals as goal

pub returns-clause-chosen : goal.returns-clause-chosen
returns-clause-chosen c =
    subst (λ (ms : List Moment). IfOk c.choose_plain.result
    (λ chosen. chosen ≡ chosen_instance (system_of c.args.doc.now) ms))
    c.in_ok-list_newest.ensures.listed c.choose_plain.ensures
