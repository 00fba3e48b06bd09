use Rattle.rif_tree.specs.declared.tree.Level.{Level}
use Rattle.rule_scopes.specs.Misplaced.{seen_all}
use Rattle.rule_scopes.specs.Occurrences.{levels_occurrences}
use Rattle.rule_scopes.proofs.OccurrenceLemmas.{held_more, levels_more}
use Rattle.rule_scopes.proofs.occurrences.see_levels.Goals as goal

pub loop-level-preserved : goal.loop-level-preserved
loop-level-preserved c =
    let start = c.args.held.now.items in
    let levels = c.args.levels.now in
    let held = c.loop-level.held.items in
    let more = c.see_level.new.held.items in
    let i = c.loop-level.level-index in
    let level = c.level-item.result in
    let within = c.loop-level-test.true in
    let said = c.in_ok-see_level.ensures in
    record {
      found = levels_more (seen_all c.args.found.now (levels_occurrences start levels)) c.loop-level.found
          c.see_level.new.found held more levels i level within c.level-item.is c.loop-level.invariant.found
          said.found said.held;
      held = held_more (λ (one : Level). one.vars) start held more levels i level within c.level-item.is
          c.loop-level.invariant.held said.held;
    }
