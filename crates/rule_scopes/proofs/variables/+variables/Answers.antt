use Rattle.rif_tree.specs.Variables.{variables_of}
use Rattle.rule_scopes.proofs.OccurrenceLemmas.{used_more}
use Rattle.rule_scopes.proofs.variables.+variables.Goals as goal

pub see_each-loop-term-preserved : goal.see_each-loop-term-preserved
see_each-loop-term-preserved t c =
    used_more variables_of c.args.found.now c.loop-term.found c.see_term.new.found c.args.held.now c.args.terms.now
    c.loop-term.term-index c.term-item.result c.loop-term-test.true c.term-item.is c.loop-term.invariant
    c.see_term.ensures
