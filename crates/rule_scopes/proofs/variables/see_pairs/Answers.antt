use Rattle.std.proofs.Common.{ap, ◌∙◌, sym}
use Rattle.rif_tree.specs.Variables.{variables_of, variables_of_pair}
use Rattle.rule_scopes.specs.declared.misplaced.Misplaced.{Misplaced}
use Rattle.rule_scopes.specs.Misplaced.{seen_used}
use Rattle.rule_scopes.proofs.OccurrenceLemmas.{used_append, used_more}
use Rattle.rule_scopes.proofs.variables.see_pairs.Goals as goal

pub loop-pair-preserved : goal.loop-pair-preserved
loop-pair-preserved c =
    let held = c.args.held.now in
    let pair = c.pair-item.result in
    let second = variables_of pair.1 in
    let both = c.see_term-in-loop-pair.ensures
    ∙ ap (λ (k : Misplaced). seen_used k held second) c.see_term.ensures
    ∙ sym (used_append c.loop-pair.found held (variables_of pair.0) second) in
    used_more variables_of_pair c.args.found.now c.loop-pair.found c.see_term-in-loop-pair.new.found held
    c.args.pairs.now c.loop-pair.pair-index pair c.loop-pair-test.true c.pair-item.is c.loop-pair.invariant both
