-- How the loop over members goes on.
use Rattle.std.proofs.Common.{◌≡◌, ℕ, ◌+◌, ◌-◌, ◌≤◌, suc, ℤ, List, [], ◌∷◌, ◌++◌, length, length-append, Option, Some}
use Rattle.std.proofs.Common.{None, refl, ap, ◌∙◌, sym, arith, drop}
use Rattle.std.proofs.lemmas.List.{drop-drop}
use Rattle.std.specs.Option.{option_to_list}
use Rattle.rif_tree.specs.declared.rule.Rule.{Rule}
use Rattle.prd_grammar.specs.declared.leaf.Leaf.{Leaf}
use Rattle.prd_building.specs.declared.signs.MemberSign.{MemberSign}
use Rattle.prd_building.specs.declared.signs.MemberSign.TheVariants.{Close as MembersEnd}
use Rattle.prd_building.specs.declared.signs.MemberSign.TheVariants.{Prefix as PrefixMember}
use Rattle.prd_building.specs.declared.signs.MemberSign.TheVariants.{Group as GroupMember, Rule as RuleMember}
use Rattle.prd_building.specs.Signs.{member_sign}
use Rattle.prd_building.specs.Building.{Read, Names, with_rest, after, with_front, opened_by, behind_member}
use Rattle.prd_building.specs.Building.{next_rule_at, members_at}
use Rattle.prd_building.proofs.BuildingLists.{with_more}

pub pass_step : (most : ℕ) (p : ℤ) (ps : List ℤ) (all : List Names) (n : ℕ) (ss : List Leaf) (sign : MemberSign) →
    member_sign ss ≡ sign → (sign ≡ RuleMember → ⊥) →
    members_at most (p ∷ ps) all (suc n) ss
    ≡ members_at most (opened_by sign p ss ++ ps) all n (behind_member sign ss)
pass_step most p ps all n ss MembersEnd e un = rw (e, members_at) refl
pass_step most p ps all n ss PrefixMember e un = rw (e, members_at) refl
pass_step most p ps all n ss GroupMember e un = rw (e, members_at) refl
pass_step most p ps all n ss RuleMember e un = absurd (un refl)

abbrev pub rules_on : ℕ → ℤ → List ℤ → List Names → ℕ → Rule → List Leaf → Read (List Rule)
rules_on most p ps all n r rest = with_front (r ∷ []) (members_at most (p ∷ ps) (drop 1 all) n rest)

pub rule_step : (most : ℕ) (p : ℤ) (ps : List ℤ) (all : List Names) (n : ℕ) (ss : List Leaf) →
    member_sign ss ≡ RuleMember →
    members_at most (p ∷ ps) all (suc n) ss ≡ after (next_rule_at p all most ss) (rules_on most p ps all n)
rule_step most p ps all n ss e = rw (e, members_at) refl

-- the stack of a loop that took one from it
taken : (o : Option ℤ) (p : ℤ) (before ps : List ℤ) → before ≡ option_to_list o ++ ps → o ≡ Some p → before ≡ p ∷ ps
taken o p before ps e some = e ∙ ap (λ x. option_to_list x ++ ps) some

pub members_pass : (most : ℕ) (rules : List Rule) (all : List Names) (leaves : List Leaf) (before ps groups : List ℤ)
    (p : ℤ) (o : Option ℤ) (sign : MemberSign) (at left next n : ℕ) (whole : Read (List Rule)) →
    with_front rules (members_at most before all left (drop at leaves)) ≡ whole → 1 ≤ left → n ≡ left - 1 →
    before ≡ option_to_list o ++ ps → o ≡ Some p →
    sign ≡ member_sign (drop at leaves) → (sign ≡ RuleMember → ⊥) →
    groups ≡ opened_by sign p (drop at leaves) ++ ps → drop next leaves ≡ behind_member sign (drop at leaves) →
    with_front rules (members_at most groups all n (drop next leaves)) ≡ whole
members_pass most rules all leaves before ps groups p o sign at left next n whole held some is stack top test un
    opened behind =
    let e : left ≡ suc n = omega arith in
    let step = ap (λ x. members_at most x all left (drop at leaves)) (taken o p before ps stack top)
    ∙ (ap (λ k. members_at most (p ∷ ps) all k (drop at leaves)) e
    ∙ pass_step most p ps all n (drop at leaves) sign (sym test) un) in
    ap (λ x. with_front rules (members_at most x all n (drop next leaves))) opened
    ∙ (ap (λ x. with_front rules (members_at most (opened_by sign p (drop at leaves) ++ ps) all n x)) behind
    ∙ (ap (with_front rules) (sym step) ∙ held))

members_rule_is : (most : ℕ) (rules : List Rule) (all : List Names) (leaves : List Leaf) (before ps : List ℤ) (p : ℤ)
    (o : Option ℤ) (sign : MemberSign) (at left n : ℕ) (whole : Read (List Rule)) →
    with_front rules (members_at most before all left (drop at leaves)) ≡ whole → 1 ≤ left → n ≡ left - 1 →
    before ≡ option_to_list o ++ ps → o ≡ Some p →
    sign ≡ member_sign (drop at leaves) → sign ≡ RuleMember →
    with_front rules (after (next_rule_at p all most (drop at leaves)) (rules_on most p ps all n)) ≡ whole
members_rule_is most rules all leaves before ps p o sign at left n whole held some is stack top test ruled =
    let e : left ≡ suc n = omega arith in
    let step = ap (λ x. members_at most x all left (drop at leaves)) (taken o p before ps stack top)
    ∙ (ap (λ k. members_at most (p ∷ ps) all k (drop at leaves)) e
    ∙ rule_step most p ps all n (drop at leaves) (sym test ∙ ruled)) in
    ap (with_front rules) (sym step) ∙ held

pub members_none : (most : ℕ) (rules : List Rule) (names : List Names) (leaves : List Leaf) (before ps : List ℤ)
    (p : ℤ) (o : Option ℤ) (sign : MemberSign) (at left next count : ℕ) (found : Option (Rule × ℕ))
    (whole : Read (List Rule)) →
    with_front rules (members_at most before (drop (length rules) names) left (drop at leaves)) ≡ whole → 1 ≤ left →
    before ≡ option_to_list o ++ ps → o ≡ Some p →
    sign ≡ member_sign (drop at leaves) → sign ≡ RuleMember →
    drop next leaves ≡ behind_member sign (drop at leaves) → count ≡ length rules →
    found ≡ None → with_rest leaves found ≡ next_rule_at p (drop count names) most (drop next leaves) → None ≡ whole
members_none most rules names leaves before ps p o sign at left next count found whole held some stack top test rule
    behind counted none one =
    let here : drop next leaves ≡ drop at leaves = behind ∙ ap (λ s. behind_member s (drop at leaves)) rule in
    let given : None ≡ next_rule_at p (drop (length rules) names) most (drop at leaves) =
    ap (with_rest leaves) (sym none)
    ∙ (one ∙ (ap (λ k. next_rule_at p (drop k names) most (drop next leaves)) counted
    ∙ ap (next_rule_at p (drop (length rules) names) most) here)) in
    ap (λ r. with_front rules (after r (rules_on most p ps (drop (length rules) names) (left - 1)))) given
    ∙ members_rule_is most rules (drop (length rules) names) leaves before ps p o sign at left
    (left - 1) whole held some refl stack top test rule

pub members_rule : (most : ℕ) (rules new : List Rule) (names : List Names) (leaves : List Leaf)
    (before ps groups : List ℤ) (p : ℤ) (o : Option ℤ) (sign : MemberSign) (at left next end n count : ℕ) (r : Rule)
    (found : Option (Rule × ℕ)) (whole : Read (List Rule)) →
    with_front rules (members_at most before (drop (length rules) names) left (drop at leaves)) ≡ whole → 1 ≤ left →
    n ≡ left - 1 → before ≡ option_to_list o ++ ps → o ≡ Some p →
    sign ≡ member_sign (drop at leaves) → sign ≡ RuleMember → groups ≡ opened_by sign p (drop at leaves) ++ ps →
    drop next leaves ≡ behind_member sign (drop at leaves) → count ≡ length rules →
    found ≡ Some (r, end) → with_rest leaves found ≡ next_rule_at p (drop count names) most (drop next leaves) →
    new ≡ rules ++ r ∷ [] →
    with_front new (members_at most groups (drop (length new) names) n (drop end leaves)) ≡ whole
members_rule most rules new names leaves before ps groups p o sign at left next end n count r found whole held some is
    stack top test rule opened behind counted there one more =
    let here : drop next leaves ≡ drop at leaves = behind ∙ ap (λ s. behind_member s (drop at leaves)) rule in
    let given : Some (r, drop end leaves) ≡ next_rule_at p (drop (length rules) names) most (drop at leaves) =
    ap (with_rest leaves) (sym there)
    ∙ (one ∙ (ap (λ k. next_rule_at p (drop k names) most (drop next leaves)) counted
    ∙ ap (next_rule_at p (drop (length rules) names) most) here)) in
    let longer : length new ≡ length rules + 1 = ap length more ∙ length-append rules (r ∷ []) in
    let less : drop (length new) names ≡ drop 1 (drop (length rules) names) = ap (λ k. drop k names) longer
    ∙ sym (drop-drop 1 (length rules) names) in
    let still : groups ≡ p ∷ ps = opened ∙ ap (λ s. opened_by s p (drop at leaves) ++ ps) rule in
    ap (λ x. with_front x (members_at most groups (drop (length new) names) n (drop end leaves))) more
    ∙ (ap (λ x. with_front (rules ++ r ∷ []) (members_at most x (drop (length new) names) n (drop end leaves))) still
    ∙ (ap (λ x. with_front (rules ++ r ∷ []) (members_at most (p ∷ ps) x n (drop end leaves))) less
    ∙ (sym (with_more rules r (members_at most (p ∷ ps) (drop 1 (drop (length rules) names)) n (drop end leaves)))
    ∙ (ap (λ x. with_front rules (after x (rules_on most p ps (drop (length rules) names) n))) given
    ∙ members_rule_is most rules
    (drop (length rules) names) leaves before ps p o sign at left n whole held some is stack top test rule))))
