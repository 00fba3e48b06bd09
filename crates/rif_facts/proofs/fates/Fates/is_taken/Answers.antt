use Rattle.std.proofs.Common.{ap, sym, ◌∙◌}
use Rattle.rif_values.specs.declared.fact.Fact.{Fact}
use Rattle.rif_facts.specs.Fates.{is_taken}
use Rattle.rif_facts.proofs.FatesLemmas.{taken_atom, taken_frame, taken_member}
use Rattle.rif_facts.proofs.fates.Fates.is_taken.Goals as goal

pub returns-in-Atom : goal.returns-in-Atom
returns-in-Atom c =
    taken_atom c.in-Atom.field-0 c.in-Atom.field-1 c.args.self.now.retracted.keys
    ∙ ap (λ (f : Fact). is_taken c.args.self.now.retracted.keys f) (sym c.in-Atom.is)

pub returns-in_ok-has_object_or_slot-in-Frame : goal.returns-in_ok-has_object_or_slot-in-Frame
returns-in_ok-has_object_or_slot-in-Frame c =
    c.in_ok-has_object_or_slot-in-Frame.ensures
    ∙ taken_frame c.in-Frame.object c.in-Frame.slot c.in-Frame.field-2 c.args.self.now.retracted.keys
    ∙ ap (λ (f : Fact). is_taken c.args.self.now.retracted.keys f) (sym c.in-Frame.is)

pub returns-in_ok-has_object-in-Member : goal.returns-in_ok-has_object-in-Member
returns-in_ok-has_object-in-Member c =
    c.in_ok-has_object-in-Member.ensures
    ∙ taken_member c.in-Member.object c.in-Member.field-1 c.args.self.now.retracted.keys
    ∙ ap (λ (f : Fact). is_taken c.args.self.now.retracted.keys f) (sym c.in-Member.is)
