use Rattle.rule_scopes.specs.Occurrences.{occurrences_in}
use Rattle.rule_scopes.proofs.OccurrenceLemmas.{seen_more}
use Rattle.rule_scopes.proofs.occurrences.+occurrences.Goals as goal

pub see_formulas-loop-formula-preserved : goal.see_formulas-loop-formula-preserved
see_formulas-loop-formula-preserved t c =
    seen_more (occurrences_in c.args.held.now) c.args.found.now c.loop-formula.found c.see_formula.new.found
    c.args.formulas.now c.loop-formula.formula-index c.formula-item.result c.loop-formula-test.true
    c.formula-item.is c.loop-formula.invariant c.in_ok-see_formula.ensures
