-- A document that is spelled is built to its value, so leaves are one document at most.
use Rattle.std.proofs.Common.{◌≡◌, ℕ, ◌+◌, ◌≤◌, zero, suc, ℤ, pos, List, [], ◌∷◌, ◌++◌, length, length-append, map}
use Rattle.std.proofs.Common.{Option, Some, None, refl, ap, ◌∙◌, sym, append_assoc, append-nil, arith}
use Rattle.rif_tree.specs.declared.rule.Rule.{Rule}
use Rattle.rif_tree.specs.declared.rule.Doc.{Doc}
use Rattle.prd_grammar.specs.declared.leaf.Leaf.{Leaf}
use Rattle.prd_grammar.specs.declared.leaf.Leaf.TheVariants.{Close}
use Rattle.prd_building.specs.declared.signs.MemberSign.TheVariants.{Rule as RuleMember}
use Rattle.prd_grammar.specs.Trees.{RuleTree, for_all, for_all_such, if_then, block, spell_rule, StrategyTree}
use Rattle.prd_grammar.specs.Trees.{no_strategy, strategy_iri, strategy_curie, PriorityTree, no_priority, priority}
use Rattle.prd_grammar.specs.Trees.{GroupTree, group, MemberTrees, no_members, rule_member, group_member, spell_group}
use Rattle.prd_grammar.specs.Trees.{spell_members, PrefixTrees, no_group, one_group, prefix, spell_prefixes}
use Rattle.prd_grammar.specs.Trees.{DocumentTree, document, spell_document}
use Rattle.prd_grammar.specs.Values.{rule_names, rule_value, priority_in, group_rules, member_rules, rules_behind}
use Rattle.prd_grammar.specs.Values.{document_value}
use Rattle.prd_building.specs.Signs.{member_sign}
use Rattle.prd_building.specs.Building.{Read, Names, after, with_front, members_at, doc_of, doc_at, Builds}
use Rattle.prd_building.proofs.BuildingMembers.{rule_step, rules_on}
use Rattle.prd_building.proofs.BuildingRuleLemmas.{rule_built}

abbrev pub names_of : List Rule → List Names
names_of rs = map (λ r. r.names) rs

pub rule_begins : (r : RuleTree) (rest : List Leaf) → member_sign (spell_rule r ++ rest) ≡ RuleMember
rule_begins (for_all vs r) rest = refl
rule_begins (for_all_such vs fs r) rest = refl
rule_begins (if_then f b) rest = refl
rule_begins (block b) rest = refl

pub rule_some : (r : RuleTree) → 1 ≤ length (spell_rule r)
rule_some (for_all vs r) = omega arith
rule_some (for_all_such vs fs r) = omega arith
rule_some (if_then f b) = omega arith
rule_some (block b) = omega arith

-- the number of steps that the loop takes over members, before so many more
abbrev mutual
  pub group_steps : GroupTree → ℕ → ℕ
  group_steps (group s q ms) m = suc (member_steps ms m)

  pub member_steps : MemberTrees → ℕ → ℕ
  member_steps no_members m = suc m
  member_steps (rule_member r ms) m = suc (member_steps ms m)
  member_steps (group_member g ms) m = group_steps g (member_steps ms m)

pub with_nothing : {X : Type 0} (r : Read (List X)) → with_front [] r ≡ r
with_nothing None = refl
with_nothing (Some r) = refl

with_both : {X : Type 0} (xs ys : List X) (r : Read (List X)) →
    with_front xs (with_front ys r) ≡ with_front (xs ++ ys) r
with_both xs ys None = refl
with_both xs ys (Some r) = ap (λ all. Some (all, r.1)) (sym (append_assoc xs ys r.0))

pub names_both : (xs ys : List Rule) (all : List Names) →
    names_of (xs ++ ys) ++ all ≡ names_of xs ++ (names_of ys ++ all)
names_both [] ys all = refl
names_both (x ∷ xs) ys all = ap (λ more. x.names ∷ more) (names_both xs ys all)

group_step : (most : ℕ) (p : ℤ) (ps : List ℤ) (all : List Names) (n : ℕ) (s : StrategyTree) (q : PriorityTree)
    (ms : MemberTrees) (rest : List Leaf) →
    members_at most (p ∷ ps) all (suc n) (spell_group (group s q ms) ++ rest)
    ≡ members_at most (priority_in p q ∷ p ∷ ps) all n (spell_members ms ++ rest)
group_step most p ps all n no_strategy no_priority ms rest = refl
group_step most p ps all n no_strategy (priority z) ms rest = refl
group_step most p ps all n (strategy_iri t) no_priority ms rest = refl
group_step most p ps all n (strategy_iri t) (priority z) ms rest = refl
group_step most p ps all n (strategy_curie t) no_priority ms rest = refl
group_step most p ps all n (strategy_curie t) (priority z) ms rest = refl

pub group_length : (s : StrategyTree) (q : PriorityTree) (ms : MemberTrees) →
    2 + length (spell_members ms) ≤ length (spell_group (group s q ms))
group_length no_strategy no_priority ms = omega arith
group_length no_strategy (priority z) ms = omega arith
group_length (strategy_iri t) no_priority ms = omega arith
group_length (strategy_iri t) (priority z) ms = omega arith
group_length (strategy_curie t) no_priority ms = omega arith
group_length (strategy_curie t) (priority z) ms = omega arith

mutual
  group_built : (most : ℕ) (g : GroupTree) (p : ℤ) (ps : List ℤ) (all : List Names) (m : ℕ) (rest : List Leaf) →
      length (spell_group g) ≤ most →
      members_at most (p ∷ ps) (names_of (group_rules p g) ++ all) (group_steps g m) (spell_group g ++ rest)
      ≡ with_front (group_rules p g) (members_at most (p ∷ ps) all m rest)
  group_built most (group s q ms) p ps all m rest h =
      let k = group_length s q ms in
      group_step most p ps (names_of (member_rules (priority_in p q) ms) ++ all) (member_steps ms m) s q ms rest
      ∙ members_built most ms (priority_in p q) (p ∷ ps) all m rest (omega arith)

  members_built : (most : ℕ) (ms : MemberTrees) (p : ℤ) (ps : List ℤ) (all : List Names) (m : ℕ) (rest : List Leaf) →
      length (spell_members ms) ≤ most →
      members_at most (p ∷ ps) (names_of (member_rules p ms) ++ all) (member_steps ms m) (spell_members ms ++ rest)
      ≡ with_front (member_rules p ms) (members_at most ps all m rest)
  members_built most no_members p ps all m rest h = sym (with_nothing (members_at most ps all m rest))
  members_built most (rule_member r ms) p ps all m rest h =
      let k = length-append (spell_rule r) (spell_members ms) in
      let s = rule_some r in
      ap (members_at most (p ∷ ps) (rule_names r ∷ (names_of (member_rules p ms) ++ all)) (suc (member_steps ms m)))
      (append_assoc (spell_rule r) (spell_members ms) rest)
      ∙ (rule_step most p ps (rule_names r ∷ (names_of (member_rules p ms) ++ all)) (member_steps ms m)
      (spell_rule r ++ (spell_members ms ++ rest)) (rule_begins r (spell_members ms ++ rest))
      ∙ (ap (λ x. after x (rules_on most p ps (rule_names r ∷ (names_of (member_rules p ms) ++ all))
      (member_steps ms m))) (rule_built p r most (spell_members ms ++ rest) (omega arith))
      ∙ (ap (with_front (rule_value p r ∷ [])) (members_built most ms p ps all m rest (omega arith))
      ∙ with_both (rule_value p r ∷ []) (member_rules p ms) (members_at most ps all m rest))))
  members_built most (group_member g ms) p ps all m rest h =
      let k = length-append (spell_group g) (spell_members ms) in
      ap (λ x. members_at most (p ∷ ps) x (group_steps g (member_steps ms m))
      ((spell_group g ++ spell_members ms) ++ rest)) (names_both (group_rules p g) (member_rules p ms) all)
      ∙ (ap (members_at most (p ∷ ps) (names_of (group_rules p g) ++ (names_of (member_rules p ms) ++ all))
      (group_steps g (member_steps ms m))) (append_assoc (spell_group g) (spell_members ms) rest)
      ∙ (group_built most g p ps (names_of (member_rules p ms) ++ all) (member_steps ms m) (spell_members ms ++ rest)
      (omega arith)
      ∙ (ap (with_front (group_rules p g)) (members_built most ms p ps all m rest (omega arith))
      ∙ with_both (group_rules p g) (member_rules p ms) (members_at most ps all m rest))))

abbrev pub prefix_steps : PrefixTrees → ℕ → ℕ
prefix_steps no_group m = suc (suc m)
prefix_steps (one_group g) m = group_steps g (suc (suc m))
prefix_steps (prefix name iri ps) m = suc (prefix_steps ps m)

prefixes_built : (most : ℕ) (ps : PrefixTrees) (m : ℕ) → length (spell_prefixes ps) ≤ most →
    members_at most (pos 0 ∷ []) (names_of (rules_behind ps)) (prefix_steps ps m) (spell_prefixes ps)
    ≡ Some (rules_behind ps, [])
prefixes_built most no_group m h = refl
prefixes_built most (one_group g) m h =
    let k = length-append (spell_group g) (Close ∷ []) in
    ap (λ x. members_at most (pos 0 ∷ []) x (group_steps g (suc (suc m))) (spell_group g ++ Close ∷ []))
    (sym (append-nil (names_of (group_rules (pos 0) g))))
    ∙ (group_built most g (pos 0) [] [] (suc (suc m)) (Close ∷ []) (omega arith)
    ∙ ap (λ rs. Some (rs, [])) (append-nil (group_rules (pos 0) g)))
prefixes_built most (prefix name iri ps) m h = prefixes_built most ps m (omega arith)

-- so many steps are enough, and leave some
pub record Left (n k : ℕ) (steps : ℕ → ℕ) : Type 0 where
  pub more : ℕ
  pub is : n ≡ steps more
  pub few : n ≤ more + k

mutual
  group_left : (g : GroupTree) (n : ℕ) → length (spell_group g) ≤ n → Left n (length (spell_group g)) (group_steps g)
  group_left (group s q ms) zero h = absurd (let k = group_length s q ms in omega arith)
  group_left (group s q ms) (suc n) h =
      let k = group_length s q ms in
      let l : Left n (length (spell_members ms)) (member_steps ms) = member_left ms n (omega arith) in
      record { more = l.more; is = ap suc l.is; few = let f = l.few in omega arith }

  member_left : (ms : MemberTrees) (n : ℕ) → length (spell_members ms) ≤ n →
      Left n (length (spell_members ms)) (member_steps ms)
  member_left no_members zero h = absurd (omega arith)
  member_left no_members (suc n) h = record { more = n; is = refl; few = omega arith }
  member_left (rule_member r ms) zero h =
      absurd (let k = length-append (spell_rule r) (spell_members ms) in let s = rule_some r in omega arith)
  member_left (rule_member r ms) (suc n) h =
      let k = length-append (spell_rule r) (spell_members ms) in
      let s = rule_some r in
      let l : Left n (length (spell_members ms)) (member_steps ms) = member_left ms n (omega arith) in
      record { more = l.more; is = ap suc l.is; few = let f = l.few in omega arith }
  member_left (group_member g ms) n h =
      let k = length-append (spell_group g) (spell_members ms) in
      let a : Left n (length (spell_group g)) (group_steps g) = group_left g n (omega arith) in
      let f = a.few in
      let b : Left a.more (length (spell_members ms)) (member_steps ms) = member_left ms a.more (omega arith) in
      let e = b.few in
      record { more = b.more; is = a.is ∙ ap (group_steps g) b.is; few = omega arith }

ending : (g : GroupTree) (n k more : ℕ) → n ≡ group_steps g more → 2 ≤ more → n + 2 ≤ more + k →
    Left n k (prefix_steps (one_group g))
ending g n k zero e h i = absurd (omega arith)
ending g n k (suc zero) e h i = absurd (omega arith)
ending g n k (suc (suc m)) e h i = record { more = m; is = e; few = omega arith }

pub prefix_left : (ps : PrefixTrees) (n : ℕ) → length (spell_prefixes ps) + 1 ≤ n →
    Left n (length (spell_prefixes ps) + 1) (prefix_steps ps)
prefix_left no_group zero h = absurd (omega arith)
prefix_left no_group (suc zero) h = absurd (omega arith)
prefix_left no_group (suc (suc n)) h = record { more = n; is = refl; few = omega arith }
prefix_left (one_group g) n h =
    let k = length-append (spell_group g) (Close ∷ []) in
    let a : Left n (length (spell_group g)) (group_steps g) = group_left g n (omega arith) in
    let f = a.few in
    ending g n (length (spell_group g ++ Close ∷ []) + 1) a.more a.is (omega arith) (omega arith)
prefix_left (prefix name iri ps) zero h = absurd (omega arith)
prefix_left (prefix name iri ps) (suc n) h =
    let l : Left n (length (spell_prefixes ps) + 1) (prefix_steps ps) = prefix_left ps n (omega arith) in
    record { more = l.more; is = ap suc l.is; few = let f = l.few in omega arith }

pub doc_built : (t : DocumentTree) →
    doc_at (names_of (document_value t).rules) (spell_document t) ≡ Some (document_value t)
doc_built (document ps) =
    let l : Left (length (spell_document (document ps))) (length (spell_prefixes ps) + 1) (prefix_steps ps) =
    prefix_left ps (length (spell_document (document ps))) (omega arith) in
    ap doc_of (ap (λ n. members_at (length (spell_document (document ps))) (pos 0 ∷ [])
    (names_of (rules_behind ps)) n (spell_prefixes ps)) l.is
    ∙ prefixes_built (length (spell_document (document ps))) ps l.more (omega arith))

pub builds : (leaves : List Leaf) (all : List Names) (o : Option Doc) → o ≡ doc_at all leaves → Builds leaves all o
builds leaves all o e t spelled named = e
    ∙ (ap (doc_at all) (sym spelled) ∙ (ap (λ x. doc_at x (spell_document t)) named ∙ doc_built t))
