use Rattle.std.proofs.Common.{◌∙◌, ℕ, Bool, Some, cond, get_or, ap, sym, add-one}
use Rattle.std.specs.declared.option.Option.{Option}
use Rattle.rif_tree.specs.Variables.{has_variable}
use Rattle.ready_order.specs.Arranging.{least_with}
use Rattle.ready_order.proofs.LeastLemmas.{least_more}
use Rattle.ready_order.proofs.division.least_without.Goals as goal

pub loop-var-preserved : goal.loop-var-preserved
loop-var-preserved c =
    let bound = c.args.bound.now in
    let least = c.loop-var.least in
    let v = get_or c.args.vars.now c.loop-var.var-index 0 in
    rw add-one (c.lesser_unless-least.ensures
    ∙ ap (λ (is_bound : Bool). cond is_bound least (Some (least_with v least))) c.has_variable.ensures
    ∙ ap (λ (o : Option ℕ). cond (has_variable bound v) o (Some (least_with v o))) c.loop-var.invariant
    ∙ sym (least_more bound c.args.vars.now c.loop-var.var-index 0 c.loop-var-test.true))
