use Rattle.std.proofs.Common.{rules, ◌≡◌, ◌++◌, ◌∙◌, map, length}
use Rattle.std.specs.List.{flat_map}
use Rattle.rule_scopes.specs.Numbering.{declared_in, each_form, numbering_of}
use Rattle.rule_scopes.proofs.NumberingLemmas.{level_declared, level_numbered}
use Rattle.rule_scopes.proofs.numbered_rule.push_levels.Goals as goal

pub loop-level-preserved : goal.loop-level-preserved
loop-level-preserved c =
    let scope = c.args.scope.now in
    let levels = c.args.levels.now in
    let i = c.loop-level.level-index in
    let within = c.loop-level-test.true in
    let level = c.level-item.result in
    let is = c.level-item.is in
    let declared = c.loop-level.declared.items in
    let later = c.push_numbered.new.declared.items in
    let before = c.loop-level.made.items in
    let new = c.push_numbered.new.made.items in
    let more : later ≡ declared ++ flat_map declared_in level.such_that = search rules in
    let said : new ≡ before ++ each_form (map numbering_of level.such_that) scope (length declared) =
    search rules in record {
      made = level_numbered scope levels i level before new declared later within is more said
          ∙ c.loop-level.invariant.made;
      declared = level_declared levels i level declared later within is more ∙ c.loop-level.invariant.declared;
    }
