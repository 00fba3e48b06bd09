-- Where no refusal stands, each rule that is read has a priority in range.
use Rattle.std.proofs.Common.{◌≡◌, ◌≤ℤ◌, ◌&&◌, ℤ, pos, neg_ℤ, int_le, Bool, true, false, not, List, [], ◌∷◌, ◌++◌}
use Rattle.std.proofs.Common.{refl, subst, arith, Some, None}
use Rattle.std.proofs.lemmas.Bool.{not-false}
use Rattle.std.proofs.lemmas.Int.{ints}
use Rattle.rif_refusals.specs.Limits.{most_priority}
use Rattle.rif_tree.specs.declared.rule.Rule.{Rule}
use Rattle.prd_grammar.specs.declared.leaf.Keyword.TheVariants.{Group}
use Rattle.prd_grammar.specs.declared.leaf.Leaf.{Leaf}
use Rattle.prd_grammar.specs.declared.leaf.Leaf.TheVariants.{Key, Int, Iri, Curie, Open, Close}
use Rattle.prd_grammar.specs.Progress.{Progress, at_start, progress_with, progress_from}
use Rattle.prd_grammar.specs.Refusals.{is_priority}
use Rattle.prd_grammar.specs.Trees.{spell_rule, StrategyTree, no_strategy, strategy_iri, strategy_curie}
use Rattle.prd_grammar.specs.Trees.{spell_strategy, PriorityTree, no_priority, priority, spell_priority, GroupTree}
use Rattle.prd_grammar.specs.Trees.{group, MemberTrees, no_members, rule_member, group_member, spell_group}
use Rattle.prd_grammar.specs.Trees.{spell_members, PrefixTrees, no_group, one_group, prefix, spell_prefixes}
use Rattle.prd_grammar.specs.Trees.{DocumentTree, document, spell_document}
use Rattle.prd_grammar.specs.Values.{priority_in, group_rules, member_rules, rules_behind, document_value}
use Rattle.prd_limits.proofs.CountingLimitLemmas.{Clear, passed}

pub record InRange (z : ℤ) : Type 0 where
  pub low : neg_ℤ (pos most_priority) ≤ℤ z
  pub high : z ≤ℤ (pos most_priority)

abbrev pub AreInRange : List Rule → Type 0
AreInRange [] = Unit {0}
AreInRange (r ∷ rs) = InRange r.priority × AreInRange rs

both_true : (a b : Bool) → (a && b) ≡ true → (a ≡ true) × (b ≡ true)
both_true true true e = (refl, refl)
both_true true false e = cc
both_true false b e = cc

at_most : (a b : ℤ) → int_le a b ≡ true → a ≤ℤ b
at_most a b h = grind (arith, ints)

in_range : (z : ℤ) → is_priority z ≡ true → InRange z
in_range z e =
    let both = both_true (int_le (neg_ℤ (pos most_priority)) z) (int_le z (pos most_priority)) e in
    record { low = at_most (neg_ℤ (pos most_priority)) z both.0; high = at_most z (pos most_priority) both.1 }

clear_apart : (xs ys : List Leaf) (p : Progress) → Clear p (xs ++ ys) → Clear (progress_from p xs) ys
clear_apart [] ys p clear = clear
clear_apart (x ∷ xs) ys p clear = clear_apart xs ys (progress_with p x) clear.1

clear_front : (xs ys : List Leaf) (p : Progress) → Clear p (xs ++ ys) → Clear p xs
clear_front [] ys p clear = tt
clear_front (x ∷ xs) ys p clear = (clear.0, clear_front xs ys (progress_with p x) clear.1)

both_in_range : (rs more : List Rule) → AreInRange rs → AreInRange more → AreInRange (rs ++ more)
both_in_range [] more first rest = rest
both_in_range (r ∷ rs) more first rest = (first.0, both_in_range rs more first.1 rest)

-- the priority of a group's head
head_in_range : (q : PriorityTree) (z : ℤ) (p : Progress) (ls : List Leaf) → p.in_head ≡ true →
    Clear p (spell_priority q ++ ls) → InRange z → InRange (priority_in z q)
head_in_range no_priority z p ls head clear ok = ok
head_in_range (priority None) z p ls head clear ok = ok
head_in_range (priority (Some y)) z p ls head clear ok =
    let bad = (passed p (Int (Some y)) clear.0).priority in
    let good : not (is_priority y) ≡ false =
    subst (λ (in_head : Bool). (in_head && not (is_priority y)) ≡ false) head bad in
    in_range y (not-false (is_priority y) good)

group_head : (s : StrategyTree) (q : PriorityTree) (z : ℤ) (p : Progress) (ls : List Leaf) → p.in_head ≡ true →
    Clear p (spell_strategy s ++ (spell_priority q ++ ls)) → InRange z → InRange (priority_in z q)
group_head no_strategy q z p ls head clear ok = head_in_range q z p ls head clear ok
group_head (strategy_iri t) q z p ls head clear ok = head_in_range q z (progress_with p (Iri t)) ls head clear.1 ok
group_head (strategy_curie t) q z p ls head clear ok =
    head_in_range q z (progress_with p (Curie t)) ls head clear.1 ok

mutual
  group_in_range : (g : GroupTree) (z : ℤ) (p : Progress) → Clear p (spell_group g) → InRange z →
      AreInRange (group_rules z g)
  group_in_range (group s q ms) z p clear ok =
      let within = progress_with p (Key Group) in
      let inner = clear_apart (spell_priority q) (Open ∷ spell_members ms) (progress_from within (spell_strategy s))
      (clear_apart (spell_strategy s) (spell_priority q ++ Open ∷ spell_members ms) within clear.1) in
      members_in_range ms (priority_in z q) _ inner.1
      (group_head s q z within (Open ∷ spell_members ms) refl clear.1 ok)

  members_in_range : (ms : MemberTrees) (z : ℤ) (p : Progress) → Clear p (spell_members ms) → InRange z →
      AreInRange (member_rules z ms)
  members_in_range no_members z p clear ok = tt
  members_in_range (rule_member r ms) z p clear ok =
      (ok, members_in_range ms z _ (clear_apart (spell_rule r) (spell_members ms) p clear) ok)
  members_in_range (group_member g ms) z p clear ok =
      both_in_range (group_rules z g) (member_rules z ms)
      (group_in_range g z p (clear_front (spell_group g) (spell_members ms) p clear) ok)
      (members_in_range ms z _ (clear_apart (spell_group g) (spell_members ms) p clear) ok)

prefixes_in_range : (ps : PrefixTrees) (p : Progress) → Clear p (spell_prefixes ps) → AreInRange (rules_behind ps)
prefixes_in_range no_group p clear = tt
prefixes_in_range (one_group g) p clear =
    group_in_range g (pos 0) p (clear_front (spell_group g) (Close ∷ []) p clear) (in_range (pos 0) refl)
prefixes_in_range (prefix name iri ps) p clear = prefixes_in_range ps _ clear.1.1.1.1.1

pub document_in_range : (t : DocumentTree) → Clear at_start (spell_document t) → AreInRange (document_value t).rules
document_in_range (document ps) clear = prefixes_in_range ps _ clear.1.1
