-- What is spelled may come: groups, prefixes, and whole documents.
use Rattle.std.proofs.Common.{◌≡◌, refl, sym, ap, ◌∙◌, List, [], ◌∷◌, ◌++◌, Some, append-nil}
use Rattle.prd_grammar.specs.declared.leaf.Leaf.{Leaf}
use Rattle.prd_grammar.specs.declared.leaf.Leaf.TheVariants.{Open as OpenLeaf, Close as CloseLeaf}
use Rattle.prd_recognition.specs.declared.want.Want.{Want}
use Rattle.prd_recognition.specs.declared.want.Want.TheVariants.{Prefixes, GroupHead, Members, Rule, Close}
use Rattle.prd_grammar.specs.Trees.{RuleTree, for_all, for_all_such, if_then, block, spell_rule, StrategyTree}
use Rattle.prd_grammar.specs.Trees.{no_strategy, strategy_iri, strategy_curie, spell_strategy, PriorityTree}
use Rattle.prd_grammar.specs.Trees.{no_priority, priority, spell_priority, GroupTree, group, MemberTrees, no_members}
use Rattle.prd_grammar.specs.Trees.{rule_member, group_member, spell_group, spell_members, PrefixTrees, no_group}
use Rattle.prd_grammar.specs.Trees.{one_group, prefix, spell_prefixes, DocumentTree, document, spell_document}
use Rattle.prd_recognition.specs.Following.{after, at_first}
use Rattle.prd_recognition.proofs.AfterLemmas.{after_parts}
use Rattle.prd_recognition.proofs.GoingRuleLemmas.{going_rule}

-- what stands before a group's members
going_head : (s : StrategyTree) (p : PriorityTree) (ls : List Leaf) (ws : List Want) (rest : List Leaf) →
    after (Some (GroupHead ∷ ws)) ((spell_strategy s ++ (spell_priority p ++ OpenLeaf ∷ ls)) ++ rest)
    ≡ after (Some (Members ∷ ws)) (ls ++ rest)
going_head no_strategy no_priority ls ws rest = refl
going_head no_strategy (priority z) ls ws rest = refl
going_head (strategy_iri t) no_priority ls ws rest = refl
going_head (strategy_iri t) (priority z) ls ws rest = refl
going_head (strategy_curie t) no_priority ls ws rest = refl
going_head (strategy_curie t) (priority z) ls ws rest = refl

-- a rule that is a member begins as it does elsewhere
member_starts : (r : RuleTree) (ws : List Want) (rest : List Leaf) →
    after (Some (Members ∷ ws)) (spell_rule r ++ rest) ≡ after (Some (Rule ∷ Members ∷ ws)) (spell_rule r ++ rest)
member_starts (for_all vs r) ws rest = refl
member_starts (for_all_such vs fs r) ws rest = refl
member_starts (if_then f b) ws rest = refl
member_starts (block b) ws rest = refl

-- what a group is spelled with behind its first word
abbrev behind_word : GroupTree → List Leaf
behind_word (group s p ms) = spell_strategy s ++ (spell_priority p ++ OpenLeaf ∷ spell_members ms)

group_member_starts : (g : GroupTree) (ws : List Want) (rest : List Leaf) →
    after (Some (Members ∷ ws)) (spell_group g ++ rest)
    ≡ after (Some (GroupHead ∷ Members ∷ ws)) (behind_word g ++ rest)
group_member_starts (group s p ms) ws rest = refl

document_group_starts : (g : GroupTree) (ws : List Want) (rest : List Leaf) →
    after (Some (Prefixes ∷ ws)) (spell_group g ++ rest)
    ≡ after (Some (GroupHead ∷ Close ∷ ws)) (behind_word g ++ rest)
document_group_starts (group s p ms) ws rest = refl

mutual
  going_group : (g : GroupTree) (ws : List Want) (rest : List Leaf) →
      after (Some (GroupHead ∷ ws)) (behind_word g ++ rest) ≡ after (Some ws) rest
  going_group (group s p ms) ws rest = going_head s p (spell_members ms) ws rest ∙ going_members ms ws rest

  going_members : (ms : MemberTrees) (ws : List Want) (rest : List Leaf) →
      after (Some (Members ∷ ws)) (spell_members ms ++ rest) ≡ after (Some ws) rest
  going_members no_members ws rest = refl
  going_members (rule_member r ms) ws rest =
      after_parts (Some (Members ∷ ws)) (spell_rule r) (spell_members ms) rest
      ∙ (member_starts r ws (spell_members ms ++ rest)
      ∙ (going_rule r (Members ∷ ws) (spell_members ms ++ rest) ∙ going_members ms ws rest))
  going_members (group_member g ms) ws rest =
      after_parts (Some (Members ∷ ws)) (spell_group g) (spell_members ms) rest
      ∙ (group_member_starts g ws (spell_members ms ++ rest)
      ∙ (going_group g (Members ∷ ws) (spell_members ms ++ rest) ∙ going_members ms ws rest))

going_prefixes : (ps : PrefixTrees) (ws : List Want) (rest : List Leaf) →
    after (Some (Prefixes ∷ ws)) (spell_prefixes ps ++ rest) ≡ after (Some ws) rest
going_prefixes no_group ws rest = refl
going_prefixes (one_group g) ws rest =
    after_parts (Some (Prefixes ∷ ws)) (spell_group g) (CloseLeaf ∷ []) rest
    ∙ (document_group_starts g ws (CloseLeaf ∷ rest) ∙ going_group g (Close ∷ ws) (CloseLeaf ∷ rest))
going_prefixes (prefix name iri ps) ws rest = going_prefixes ps ws rest

pub goes : (t : DocumentTree) → after at_first (spell_document t) ≡ Some []
goes (document ps) = ap (after (Some (Prefixes ∷ []))) (sym (append-nil (spell_prefixes ps)))
    ∙ going_prefixes ps [] []
