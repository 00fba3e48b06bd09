use Rattle.std.proofs.Common.{◌≡◌, ◌∙◌, ◌<◌, ℕ, suc, List, Ok, Err, add-one, ap, get_or, length, subst, sym}
use Rattle.rif_tree.specs.declared.rule.Rule.{Rule}
use Rattle.rif_safe.specs.Safeness.{IsMade, safe_rule}
use Rattle.rif_safe.proofs.RulesLemmas.{IsSafeSoFar, one_more_safe, refused_here}
use Rattle.rif_safe.proofs.arranging.safe_doc_of.Goals as goal

pub returns-in-Err-clause-refused : goal.returns-in-Err-clause-refused
returns-in-Err-clause-refused c =
    let place = c.loop-place.place in
    let rule = c.rule-item.result in
    let same = c.as_slice-rule-items.ensures in
    refused_here c.args.doc.now c.loop-place.rules.items place rule c.in-Err.fault c.loop-place.invariant
    (subst (λ (rules : List Rule). place < length rules) same c.loop-place-test.true)
    (c.rule-item.is ∙ ap (λ rules. get_or rules place rule) same)
    (subst (λ (n : ℕ). IsMade (safe_rule n rule) (Err c.in-Err.fault)) c.number_at.ensures c.in-Err.ensures)

pub loop-place-preserved : goal.loop-place-preserved
loop-place-preserved c =
    let place = c.loop-place.place in
    let rule = c.rule-item.result in
    let same = c.as_slice-rule-items.ensures in
    let made = c.in-Ok.made in
    let is : safe_rule (suc place) rule ≡ Ok made =
    subst (λ (n : ℕ). safe_rule n rule ≡ Ok made) c.number_at.ensures c.in-Ok.ensures in
    subst (λ (n : ℕ). IsSafeSoFar c.args.doc.now c.push.new.self.items n) (sym (add-one place))
    (one_more_safe c.args.doc.now c.loop-place.rules.items c.push.new.self.items place rule made
    c.loop-place.invariant
    (subst (λ (rules : List Rule). place < length rules) same c.loop-place-test.true)
    (c.rule-item.is ∙ ap (λ rules. get_or rules place rule) same) is (c.made_rules_are_safe.ensures
    (suc place) rule made is)
    c.in_ok-push-in-Ok.ensures.items)
