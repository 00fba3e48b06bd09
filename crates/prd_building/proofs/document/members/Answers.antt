use Rattle.std.proofs.Common.{refl, drop, length, rules, ◌≡◌, ◌++◌, ap, ◌∙◌, ℤ}
use Rattle.std.proofs.lemmas.Int.{to_z-of_z}
use mir.Syntax.{w32}
use mir.Val.{SFits, to_z, of_z}
use Rattle.prd_building.specs.Building.{opened_by, next_rule_at}
use Rattle.prd_building.proofs.BuildingMembers.{members_pass, members_none, members_rule}
use Rattle.prd_building.proofs.document.members.Goals as goal

pub returns-in-None : goal.returns-in-None
returns-in-None c =
    let fits : SFits w32 c.in-Some.priority = search rules in
    let same : to_z w32 (of_z w32 c.in-Some.priority) ≡ c.in-Some.priority = to_z-of_z w32 c.in-Some.priority fits in
    members_none c.args.most c.loop-left.rules c.args.names.now c.args.leaves.now c.loop-left.groups.items
    c.pop_front.new.self.items c.in-Some.priority c.pop_front.result
    c.member_sign-sign.result c.loop-left.at c.loop-left.left c.in_ok-at.at c.len.result c.in_ok-next_rule.field-0 _
    c.loop-left.invariant c.loop-left-test.true c.pop_front.ensures.items c.in-Some.is
    c.member_sign-sign.ensures c.in-Rule.is c.in_ok-at.ensures.behind c.len.ensures c.in-None.is
    (c.in_ok-next_rule.ensures
    ∙ ap (λ (p : ℤ). next_rule_at p (drop c.len.result c.args.names.now) c.args.most
    (drop c.in_ok-at.at c.args.leaves.now)) same)

pub loop-left-preserved-in-Some-2 : goal.loop-left-preserved-in-Some-2
loop-left-preserved-in-Some-2 c =
    let fits : SFits w32 c.in-Some.priority = search rules in
    let same : to_z w32 (of_z w32 c.in-Some.priority) ≡ c.in-Some.priority = to_z-of_z w32 c.in-Some.priority fits in
    members_rule c.args.most c.loop-left.rules c.push.new.self c.args.names.now c.args.leaves.now
    c.loop-left.groups.items c.pop_front.new.self.items c.passed.new.groups.items c.in-Some.priority
    c.pop_front.result
    c.member_sign-sign.result c.loop-left.at c.loop-left.left c.in_ok-at.at c.in-Some-2.next _ c.len.result
    c.in-Some-2.one c.in_ok-next_rule.field-0 _ c.loop-left.invariant c.loop-left-test.true refl
    c.pop_front.ensures.items c.in-Some.is c.member_sign-sign.ensures c.in-Rule.is
    (c.in_ok-at.ensures.groups
    ∙ ap (λ (p : ℤ). opened_by c.member_sign-sign.result p (drop c.loop-left.at c.args.leaves.now)
    ++ c.pop_front.new.self.items) same)
    c.in_ok-at.ensures.behind c.len.ensures c.in-Some-2.is
    (c.in_ok-next_rule.ensures
    ∙ ap (λ (p : ℤ). next_rule_at p (drop c.len.result c.args.names.now) c.args.most
    (drop c.in_ok-at.at c.args.leaves.now)) same)
    c.in_ok-push-in-Some-2.ensures.ok

pub loop-left-preserved : goal.loop-left-preserved
loop-left-preserved c =
    let fits : SFits w32 c.in-Some.priority = search rules in
    let same : to_z w32 (of_z w32 c.in-Some.priority) ≡ c.in-Some.priority = to_z-of_z w32 c.in-Some.priority fits in
    members_pass c.args.most c.loop-left.rules
    (drop (length c.loop-left.rules) c.args.names.now) c.args.leaves.now c.loop-left.groups.items
    c.pop_front.new.self.items c.passed.new.groups.items c.in-Some.priority
    c.pop_front.result c.member_sign-sign.result c.loop-left.at c.loop-left.left c.in_ok-at.at _ _
    c.loop-left.invariant c.loop-left-test.true refl c.pop_front.ensures.items c.in-Some.is
    c.member_sign-sign.ensures c.in_default-sign.not-Rule
    (c.in_ok-at.ensures.groups
    ∙ ap (λ (p : ℤ). opened_by c.member_sign-sign.result p (drop c.loop-left.at c.args.leaves.now)
    ++ c.pop_front.new.self.items) same)
    c.in_ok-at.ensures.behind
