use Rattle.std.proofs.Common.{◌∙◌}
use Rattle.rif_facts.proofs.RunsLemmas.{is_first_atom, is_first_value, is_first_frame_of, is_first_membership}
use Rattle.rif_facts.proofs.runs.Run.first.Goals as goal

pub returns-in_ok-copy-in-Atoms : goal.returns-in_ok-copy-in-Atoms
returns-in_ok-copy-in-Atoms c =
    is_first_atom c.args.self.now c.in-Atoms.predicate c.in_ok-copy-in-Atoms.field-0 c.in_ok-none-in-Atoms.none
    c.in-Atoms.is c.in_ok-copy-in-Atoms.ensures (c.in_ok-none-in-Atoms.ensures ∙ c.new.ensures.items)

pub returns-in_ok-copy-in-SlotValues-2 : goal.returns-in_ok-copy-in-SlotValues-2
returns-in_ok-copy-in-SlotValues-2 c =
    is_first_value c.args.self.now c.in-SlotValues.object c.in-SlotValues.slot c.in_ok-copy-in-SlotValues.field-0
    c.in_ok-copy-in-SlotValues-2.field-0 c.least.result c.in-SlotValues.is c.in_ok-copy-in-SlotValues.ensures
    c.in_ok-copy-in-SlotValues-2.ensures c.least.ensures

pub returns-in_ok-copy-in-FramesOf : goal.returns-in_ok-copy-in-FramesOf
returns-in_ok-copy-in-FramesOf c =
    is_first_frame_of c.args.self.now c.in-FramesOf.object c.in_ok-copy-in-FramesOf.field-0
    c.least-in-FramesOf.result c.least-in-FramesOf-2.result c.in-FramesOf.is c.in_ok-copy-in-FramesOf.ensures
    c.least-in-FramesOf.ensures c.least-in-FramesOf-2.ensures

pub returns-in_ok-copy-in-MembershipsOf : goal.returns-in_ok-copy-in-MembershipsOf
returns-in_ok-copy-in-MembershipsOf c =
    is_first_membership c.args.self.now c.in-MembershipsOf.object c.in_ok-copy-in-MembershipsOf.field-0
    c.least-in-MembershipsOf.result c.in-MembershipsOf.is c.in_ok-copy-in-MembershipsOf.ensures
    c.least-in-MembershipsOf.ensures
