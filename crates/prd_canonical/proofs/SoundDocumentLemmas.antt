-- Where a document is sound, its canonical tree is.
use Rattle.std.proofs.Common.{◌≡◌, ◌≤ℤ◌, ℤ, pos, neg_ℤ, int_le, true, false, List, [], ◌∷◌, ◌++◌, refl, arith}
use Rattle.std.proofs.lemmas.Bool.{and_from, not_from_true}
use Rattle.std.proofs.lemmas.Int.{ints}
use Rattle.rif_refusals.specs.Limits.{most_priority}
use Rattle.rif_tree.specs.declared.rule.Rule.{Rule}
use Rattle.prd_grammar.specs.declared.leaf.Leaf.{Leaf}
use Rattle.prd_grammar.specs.declared.leaf.Leaf.TheVariants.{Open, Close}
use Rattle.prd_grammar.specs.declared.bracket.Bracket.{Bracket}
use Rattle.prd_grammar.specs.declared.bracket.Bracket.TheVariants.{Plain}
use Rattle.prd_grammar.specs.Refusals.{is_priority}
use Rattle.prd_grammar.specs.Trees.{RuleTree, spell_rule, StrategyTree, no_strategy, strategy_iri, strategy_curie}
use Rattle.prd_grammar.specs.Trees.{spell_strategy, PriorityTree, no_priority, priority, spell_priority, GroupTree}
use Rattle.prd_grammar.specs.Trees.{group, MemberTrees, no_members, rule_member, group_member, spell_group}
use Rattle.prd_grammar.specs.Trees.{spell_members, PrefixTrees, no_group, one_group, prefix, spell_prefixes}
use Rattle.prd_grammar.specs.Trees.{DocumentTree, document, spell_document}
use Rattle.prd_grammar.specs.Values.{priority_in, group_rules, member_rules, rules_behind, document_value}
use Rattle.prd_canonical.specs.CanonicalTrees.{canonical_rule, canonical_member, canonical_group, canonical_members}
use Rattle.prd_canonical.specs.CanonicalTrees.{around_members, canonical_prefixes, canonical_document}
use Rattle.prd_limits.proofs.CallerLemmas.{InRange, AreInRange}
use Rattle.prd_canonical.proofs.SoundLeaves.{AreSound, regrouped, grouped_back}
use Rattle.prd_canonical.proofs.SoundRuleLemmas.{rule_sound}

at_most_is : (a b : ℤ) → a ≤ℤ b → int_le a b ≡ true
at_most_is a b h = grind (arith, ints)

is_in_range : (z : ℤ) → InRange z → is_priority z ≡ true
is_in_range z ok = and_from (int_le (neg_ℤ (pos most_priority)) z) (int_le z (pos most_priority))
    (at_most_is (neg_ℤ (pos most_priority)) z ok.low) (at_most_is z (pos most_priority) ok.high)

first_in_range : (rs more : List Rule) → AreInRange (rs ++ more) → AreInRange rs
first_in_range [] more ok = tt
first_in_range (r ∷ rs) more ok = (ok.0, first_in_range rs more ok.1)

rest_in_range : (rs more : List Rule) → AreInRange (rs ++ more) → AreInRange more
rest_in_range [] more ok = ok
rest_in_range (r ∷ rs) more ok = rest_in_range rs more ok.1

-- a group's head says nothing of what stands behind it
behind_strategy : (s : StrategyTree) (bs : List Bracket) (ls : List Leaf) →
    AreSound (Plain ∷ bs) Plain true (spell_strategy s ++ ls) → AreSound (Plain ∷ bs) Plain true ls
behind_strategy no_strategy bs ls sound = sound
behind_strategy (strategy_iri t) bs ls sound = sound.1
behind_strategy (strategy_curie t) bs ls sound = sound.1

behind_priority : (q : PriorityTree) (bs : List Bracket) (ls : List Leaf) →
    AreSound (Plain ∷ bs) Plain true (spell_priority q ++ ls) → AreSound (Plain ∷ bs) Plain true ls
behind_priority no_priority bs ls sound = sound
behind_priority (priority z) bs ls sound = sound.1

behind_head : (s : StrategyTree) (q : PriorityTree) (ms : MemberTrees) (bs : List Bracket) (rest : List Leaf) →
    AreSound (Plain ∷ bs) Plain false (spell_group (group s q ms) ++ rest) →
    AreSound (Plain ∷ Plain ∷ bs) Plain false (spell_members ms ++ rest)
behind_head s q ms bs rest sound =
    let members = Open ∷ spell_members ms in
    let behind = behind_strategy s bs ((spell_priority q ++ members) ++ rest)
    (regrouped (Plain ∷ bs) Plain true (spell_strategy s) (spell_priority q ++ members) rest sound.1) in
    let inner = regrouped (Plain ∷ bs) Plain true (spell_priority q) members rest behind in
    (behind_priority q bs (members ++ rest) inner).1

-- what the members of a group come to in a canonical tree, before others
abbrev AddsMembers : (MemberTrees → MemberTrees) → Type 0
AddsMembers before = (cs : List Bracket) (others : MemberTrees) (more : List Leaf) →
    AreSound (Plain ∷ cs) Plain false (spell_members others ++ more) →
    AreSound (Plain ∷ cs) Plain false (spell_members (before others) ++ more)

-- a rule in a group of its own, before others
alone_sound : (z : ℤ) (r : RuleTree) → InRange z →
    ((cs : List Bracket) (more : List Leaf) → AreSound (Plain ∷ cs) Plain false more →
    AreSound (Plain ∷ cs) Plain false (spell_rule (canonical_rule r) ++ more)) →
    AddsMembers (group_member (canonical_member z r))
alone_sound z r ok adds cs others more sound =
    let rule = spell_rule (canonical_rule r) in
    let rest = spell_members others in
    let inner = grouped_back (Plain ∷ Plain ∷ cs) Plain false (rule ++ Close ∷ []) rest more
    (grouped_back (Plain ∷ Plain ∷ cs) Plain false rule (Close ∷ []) (rest ++ more)
    (adds (Plain ∷ cs) (Close ∷ (rest ++ more)) (refl, sound))) in
    (refl, (not_from_true (is_priority z) (is_in_range z ok), (refl, inner)))

mutual
  group_sound : (g : GroupTree) (z : ℤ) (bs : List Bracket) (rest : List Leaf) →
      AreSound (Plain ∷ bs) Plain false (spell_group g ++ rest) → AreInRange (group_rules z g) →
      AreSound (Plain ∷ bs) Plain false rest × AddsMembers (canonical_group z g)
  group_sound (group s q ms) z bs rest sound ok =
      members_sound ms (priority_in z q) (Plain ∷ bs) rest (behind_head s q ms bs rest sound) ok

  -- with the bracket behind them
  members_sound : (ms : MemberTrees) (z : ℤ) (bs : List Bracket) (rest : List Leaf) →
      AreSound (Plain ∷ bs) Plain false (spell_members ms ++ rest) → AreInRange (member_rules z ms) →
      AreSound bs Plain false rest × AddsMembers (canonical_members z ms)
  members_sound no_members z bs rest sound ok = (sound.1, λ cs others more t. t)
  members_sound (rule_member r ms) z bs rest sound ok =
      let a = (rule_sound r).goes bs (spell_members ms ++ rest)
      (regrouped (Plain ∷ bs) Plain false (spell_rule r) (spell_members ms) rest sound) in
      let b = members_sound ms z bs rest a.0 ok.1 in
      let adds = alone_sound z r ok.0 a.1 in
      (b.0, λ cs others more t. adds cs (canonical_members z ms others) more (b.1 cs others more t))
  members_sound (group_member g ms) z bs rest sound ok =
      let a = group_sound g z bs (spell_members ms ++ rest)
      (regrouped (Plain ∷ bs) Plain false (spell_group g) (spell_members ms) rest sound)
      (first_in_range (group_rules z g) (member_rules z ms) ok) in
      let b = members_sound ms z bs rest a.0 (rest_in_range (group_rules z g) (member_rules z ms) ok) in
      (b.0, λ cs others more t. a.1 cs (canonical_members z ms others) more (b.1 cs others more t))

around_sound : (ms : MemberTrees) → AreSound (Plain ∷ Plain ∷ []) Plain false (spell_members ms ++ Close ∷ []) →
    AreSound (Plain ∷ []) Plain false (spell_prefixes (around_members ms))
around_sound no_members sound = (refl, tt)
around_sound (rule_member r ms) sound = (refl, (refl, sound))
around_sound (group_member g ms) sound = (refl, (refl, sound))

prefixes_sound : (ps : PrefixTrees) → AreSound (Plain ∷ []) Plain false (spell_prefixes ps) →
    AreInRange (rules_behind ps) → AreSound (Plain ∷ []) Plain false (spell_prefixes (canonical_prefixes ps))
prefixes_sound no_group sound ok = sound
prefixes_sound (one_group g) sound ok =
    around_sound (canonical_group (pos 0) g no_members)
    ((group_sound g (pos 0) [] (Close ∷ []) sound ok).1 (Plain ∷ []) no_members (Close ∷ []) (refl, (refl, tt)))
prefixes_sound (prefix name iri ps) sound ok = prefixes_sound ps sound.1.1.1.1.1 ok

pub document_sound : (t : DocumentTree) → AreSound [] Plain false (spell_document t) →
    AreInRange (document_value t).rules → AreSound [] Plain false (spell_document (canonical_document t))
document_sound (document ps) sound ok = (refl, (refl, prefixes_sound ps sound.1.1 ok))
