use Rattle.std.proofs.Common.{◌∙◌, ap₂, sym, subst}
use Rattle.rif_builtins.specs.declared.pattern.Pattern.{Pattern}
use Rattle.rif_builtins.specs.declared.pattern.Pattern.TheVariants.{Slot, Member}
use Rattle.rif_match.specs.Narrowing.{IsKeyFor, frame_key, member_key}
use Rattle.rif_match.proofs.NarrowingLemmas.{frame_key_is, member_key_is}
use Rattle.rif_match.proofs.narrowing.narrowest_key.Goals as goal

pub returns-in_ok-slot-in-Slot : goal.returns-in_ok-slot-in-Slot
returns-in_ok-slot-in-Slot c =
    let row = c.args.row.now in
    let frame = c.in-Slot in
    subst (λ (p : Pattern). IsKeyFor p row c.frame_key.result) (sym frame.is)
    (subst (IsKeyFor (Slot frame.object frame.slot frame.field-2) row)
    (ap₂ frame_key (sym c.in_ok-object-in-Slot.ensures) (sym c.in_ok-slot-in-Slot.ensures)
    ∙ sym c.frame_key.ensures)
    (frame_key_is row frame.object frame.slot frame.field-2))

pub returns-in_ok-class-in-Member : goal.returns-in_ok-class-in-Member
returns-in_ok-class-in-Member c =
    let row = c.args.row.now in
    let member = c.in-Member in
    subst (λ (p : Pattern). IsKeyFor p row c.member_key.result) (sym member.is)
    (subst (IsKeyFor (Member member.object member.class) row)
    (ap₂ member_key (sym c.in_ok-object-in-Member.ensures) (sym c.in_ok-class-in-Member.ensures)
    ∙ sym c.member_key.ensures)
    (member_key_is row member.object member.class))
