use Rattle.std.proofs.Common.{◌≡◌, ◌∙◌, IfOk, ap, subst}
use Rattle.rif_actions.specs.Uses.{value_of_first}
use Rattle.rif_actions.proofs.LeastValueLemmas.{least_is_first}
use Rattle.rif_actions.proofs.blocks.least_of_slot.Goals as goal

pub returns : goal.returns
returns c =
    subst (λ value. IfOk c.value_of_first.result (λ found. found ≡ value))
    (ap value_of_first (c.as_slice.ensures ∙ c.in_ok-frames.ensures)
    ∙ least_is_first c.args.object c.args.slot c.args.facts.now.list)
    c.value_of_first.ensures
