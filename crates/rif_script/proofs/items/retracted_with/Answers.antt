use Rattle.std.proofs.Common.{◌∙◌, sym}
use Rattle.rif_script.proofs.FirstLeafLemmas.{first_seen, sign_first, slot_first}
use Rattle.rif_script.proofs.items.retracted_with.Goals as goal

pub returns-then-is_fact_sign : goal.returns-then-is_fact_sign
returns-then-is_fact_sign c =
    let rest = c.in-Some.rest in
    let leaf = c.in-Some.leaf in
    let front = first_seen c.args.at rest leaf c.in_ok-leaf.field-0 c.in-Some.is c.in_ok-leaf.ensures in
    let sign = sym c.is_fact_sign.ensures ∙ c.if-is_fact_sign.true in
    rw (sign_first c.args.object c.args.at rest leaf front sign) c.retracted_fact.ensures

pub returns-else-is_fact_sign : goal.returns-else-is_fact_sign
returns-else-is_fact_sign c =
    let rest = c.in-Some.rest in
    let leaf = c.in-Some.leaf in
    let front = first_seen c.args.at rest leaf c.in_ok-leaf.field-0 c.in-Some.is c.in_ok-leaf.ensures in
    let sign = sym c.is_fact_sign.ensures ∙ c.if-is_fact_sign.false in
    rw (slot_first c.args.object c.args.at rest leaf front sign) c.retracted_slot.ensures
