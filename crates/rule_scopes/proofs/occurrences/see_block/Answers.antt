use Rattle.std.proofs.Common.{◌≡◌, ◌<◌, List, length, get_or, subst}
use Rattle.rif_tree.specs.declared.rule.Decl.{Decl}
use Rattle.rule_scopes.specs.Misplaced.{seen_all}
use Rattle.rule_scopes.specs.Occurrences.{block_occurrences}
use Rattle.rule_scopes.proofs.OccurrenceLemmas.{block_more}
use Rattle.rule_scopes.proofs.occurrences.see_block.Goals as goal

pub loop-decl-preserved : goal.loop-decl-preserved
loop-decl-preserved c =
    let decls = c.args.rule.now.decls in
    let actions = c.args.rule.now.actions in
    let i = c.loop-decl.decl-index in
    let decl = c.decl-item.result in
    let same = c.as_slice-decl-items.ensures in
    let within = subst (λ (ds : List Decl). i < length ds) same c.loop-decl-test.true in
    let is = subst (λ (ds : List Decl). decl ≡ get_or ds i decl) same c.decl-item.is in
    let whole = seen_all c.args.found.now (block_occurrences c.args.held.items decls actions) in
    block_more whole c.loop-decl.found c.see_decl.new.found c.loop-decl.inside.items c.see_decl.new.held.items decls
    actions i decl within is c.loop-decl.invariant c.in_ok-see_decl.ensures.found c.in_ok-see_decl.ensures.held
