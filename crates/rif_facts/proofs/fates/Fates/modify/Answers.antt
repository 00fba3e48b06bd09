use Rattle.std.proofs.Common.{refl, ◌∙◌, ap}
use Rattle.std.specs.Option.{option_or}
use Rattle.rif_facts.specs.Fates.{fate_kept}
use Rattle.rif_facts.proofs.FatesLemmas.{fate_of_both, modified}
use Rattle.rif_facts.proofs.fates.Fates.modify.Goals as goal

pub returns : goal.returns
returns c =
    λ q.
    let a = c.in_ok-decide.ensures q in
    fate_of_both (fate_kept c.args.self.now q) (fate_kept c.decide.new.self q) (fate_kept c.retract_slot.new.self q)
    _ _
    (c.in_ok-decide.ensures q) (c.in_ok-retract_slot.ensures q)
    ∙ ap (option_or (fate_kept c.args.self.now q))
    (modified _ c.args.object.now c.args.slot.now c.args.value.now c.in_ok-copy.field-0 c.in_ok-copy-2.field-0
    c.in_ok-copy-3.field-0 q c.in_ok-copy.ensures c.in_ok-copy-2.ensures c.in_ok-copy-3.ensures refl)
