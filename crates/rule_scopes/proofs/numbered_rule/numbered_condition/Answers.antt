use Rattle.std.proofs.Common.{rules, ◌≡◌, ◌++◌, ◌∙◌, ap, sym, map, length}
use Rattle.std.specs.List.{flat_map}
use Rattle.std.specs.Option.{option_to_list}
use Rattle.rif_tree.specs.declared.tree.Formula.TheVariants.{And}
use Rattle.rule_scopes.specs.Numbering.{declared_in, each_form, numbering_of}
use Rattle.rule_scopes.proofs.NumberingLemmas.{forms_append}
use Rattle.rule_scopes.proofs.numbered_rule.numbered_condition.Goals as goal

pub returns-clause-condition : goal.returns-clause-condition
returns-clause-condition c =
    let scope = c.args.scope.now in
    let declared = c.args.declared.now.items in
    let fs = flat_map (λ level. level.such_that) c.args.rule.now.levels in
    let gs = option_to_list c.args.rule.now.condition in
    let later = c.push_levels.new.declared.items in
    let first = each_form (map numbering_of fs) scope (length declared) in
    let behind : later ≡ declared ++ flat_map declared_in fs = search rules in
    let made : c.from_vec.result ≡ first ++ each_form (map numbering_of gs) scope (length later) = search rules in
    ap (λ us. And us)
    (made ∙ ap (λ vs. first ++ each_form (map numbering_of gs) scope (length vs)) behind
    ∙ sym (forms_append fs gs scope declared))
