use Rattle.std.proofs.Common.{rules, ◌≡◌, ◌∙◌, ℤ, [], subst, sym}
use Rattle.std.proofs.lemmas.Int.{to_z-of_z}
use mir.Syntax.{w32}
use mir.Val.{SFits, to_z, of_z}
use Rattle.rif_tree.specs.declared.tree.Formula.TheVariants.{And}
use Rattle.ready_order.specs.Divisions.{arrangement_told}
use Rattle.rif_safe.specs.Safeness.{IsMade, arranged_rule, scoped_rule}
use Rattle.rif_safe.proofs.MadeLemmas.{arranged_alike, made_as, scoped_as, with_formula}
use Rattle.rif_safe.proofs.rule.scoped_rule.Goals as goal

pub returns : goal.returns
returns c =
    let number = c.args.rule_number in
    let priority = c.args.priority in
    let fits : SFits w32 priority = search rules in
    let same : to_z w32 (of_z w32 priority) ≡ priority = to_z-of_z w32 priority fits in
    let others = with_formula c.args.rule (And []) in
    let a = arrangement_told c.in_ok-division.division in
    made_as (scoped_rule number priority c.args.rule) (arranged_rule number priority c.args.rule a)
    c.arranged_rule.result
    (scoped_as number priority c.args.rule a (sym c.too_many_branches.ensures ∙ c.if-too_many_branches.false)
    c.in_ok-division.ensures)
    (subst (λ made. IsMade made c.arranged_rule.result) (arranged_alike number priority c.args.rule (And []) a)
    (subst (λ (p : ℤ). IsMade (arranged_rule number p others a) c.arranged_rule.result) same
    c.arranged_rule.ensures))
