-- The canonical spelling of a document has the leaves of its canonical tree.
use Rattle.std.proofs.Common.{◌≡◌, ℕ, ℤ, pos, Bool, true, false, true≢false, List, [], ◌∷◌, ◌++◌, map, refl, ap, ◌∙◌}
use Rattle.std.proofs.Common.{sym, subst, codes, append_assoc, append-nil}
use Rattle.rif_tree.specs.declared.tree.Level.{Level}
use Rattle.rif_tree.specs.declared.rule.Rule.{Rule}
use Rattle.rif_lex.specs.Spelling.{joined, space, line_feed, Spelled}
use Rattle.prd_grammar.specs.declared.leaf.Keyword.TheVariants.{Document, Group, Forall, Such, That, If, Then, Do}
use Rattle.prd_grammar.specs.declared.leaf.Leaf.{Leaf}
use Rattle.prd_grammar.specs.declared.leaf.Leaf.TheVariants.{Key, Open, Close}
use Rattle.prd_writing.specs.Canonical.{word, closing, opening, listed, spaced, formula_spelling, block_spelling}
use Rattle.prd_writing.specs.Canonical.{such_spelling}
use Rattle.prd_writing.specs.Canonical.{levels_spelling, group_spelling, groups_spelling, some_rules_spelling}
use Rattle.prd_writing.specs.Canonical.{rules_spelling, canonical_spelling, action_spelling, decl_spelling}
use Rattle.prd_canonical.specs.CanonicalTrees.{canonical_block, canonical_such, canonical_rule, canonical_member}
use Rattle.prd_canonical.specs.CanonicalTrees.{canonical_group, canonical_members, around_members, canonical_prefixes}
use Rattle.prd_canonical.specs.CanonicalTrees.{canonical_document}
use Rattle.prd_grammar.specs.Trees.{BlockTree, SuchTrees, last_such, more_such, RuleTree, for_all, for_all_such}
use Rattle.prd_grammar.specs.Trees.{if_then}
use Rattle.prd_grammar.specs.Trees.{block, GroupTree, group, MemberTrees, no_members, rule_member, group_member}
use Rattle.prd_grammar.specs.Trees.{PrefixTrees, no_group, one_group, prefix, DocumentTree, document, spell_document}
use Rattle.prd_grammar.specs.Values.{block_decls, block_actions, such_value, rule_levels, rule_block, rule_names}
use Rattle.prd_grammar.specs.Values.{rule_value, priority_in, group_rules, member_rules, rules_behind, document_value}
use Rattle.prd_canonical.specs.Writable.{IsWritableInt, IsWritableBlock, AreWritableSuch, IsWritableRule}
use Rattle.prd_canonical.specs.Writable.{IsWritableGroup}
use Rattle.prd_canonical.specs.Writable.{AreWritableMembers, AreWritablePrefixes, IsWritableDocument}
use Rattle.prd_grammar.proofs.CallerLemmas.{put_block, put_such, put_rule, put_group, put_members}
use Rattle.prd_grammar.proofs.CallerLemmas.{put_document, put_document_alone}
use Rattle.prd_canonical.proofs.SeparateRuleLemmas.{rule_of, groups_both}
use Rattle.prd_canonical.proofs.CanonicalLeavesLemmas.{Lead, lead_end, lead_as}
use Rattle.prd_canonical.proofs.LeadingTokenLemmas.{lead_opening, lead_closing, lead_word}
use Rattle.prd_canonical.proofs.LeadingConstantLemmas.{lead_integer}
use Rattle.prd_canonical.proofs.LeadingTermLemmas.{lead_vars}
use Rattle.prd_canonical.proofs.LeadingFormulaLemmas.{lead_formula}
use Rattle.prd_canonical.proofs.LeadingActionLemmas.{lead_block}

-- with the bracket behind them
lead_such : {rest : List Spelled} {ls : List Leaf} (names : List (List ℕ)) (fs : SuchTrees) →
    AreWritableSuch names fs → Lead rest ls →
    Lead (spaced (map (formula_spelling names) (such_value names fs)) (opening ∷ rest))
    (put_such (canonical_such fs) ls)
lead_such names (last_such f) w more = lead_formula names f space w (lead_opening joined more)
lead_such names (more_such f fs) w more = lead_formula names f space w.0 (lead_such names fs w.1 more)

lead_such_that : {rest : List Spelled} {ls : List Leaf} (names : List (List ℕ)) (fs : SuchTrees) →
    AreWritableSuch names fs → Lead rest ls →
    Lead (such_spelling names (such_value names fs) (opening ∷ rest))
    (Key Such ∷ Key That ∷ put_such (canonical_such fs) ls)
lead_such_that names (last_such f) w more =
    lead_word Such (codes "such") space refl refl refl
    (lead_word That (codes "that") space refl refl refl (lead_such names (last_such f) w more))
lead_such_that names (more_such f fs) w more =
    lead_word Such (codes "such") space refl refl refl
    (lead_word That (codes "that") space refl refl refl (lead_such names (more_such f fs) w more))

-- the block of a rule with these names and levels
lead_do : {rest : List Spelled} {ls : List Leaf} (p : ℤ) (names : List (List ℕ)) (levels : List Level) (b : BlockTree)
    (r : RuleTree) → rule_block r ≡ b → IsWritableBlock names b → Lead rest ls →
    Lead (block_spelling (rule_of p names levels r) rest) (Key Do ∷ Open ∷ put_block (canonical_block b) ls)
lead_do {rest} {ls} p names levels b r is w more =
    subst (λ (x : BlockTree). Lead (word (codes "Do") joined ∷ opening
    ∷ spaced (map (decl_spelling names) (block_decls names x))
    (listed (map (action_spelling names) (block_actions names x)) (closing joined ∷ rest)))
    (Key Do ∷ Open ∷ put_block (canonical_block b) ls)) (sym is)
    (lead_word Do (codes "Do") joined refl refl refl (lead_opening joined (lead_block names b joined w more)))

lead_levels : {rest : List Spelled} {ls : List Leaf} (p : ℤ) (names : List (List ℕ)) (levels : List Level)
    (r : RuleTree) → IsWritableRule names r → Lead rest ls →
    Lead (levels_spelling (rule_of p names levels r) (rule_levels names r) rest) (put_rule (canonical_rule r) ls)
lead_levels p names levels (for_all vs r) w more =
    lead_word Forall (codes "Forall") space refl refl refl
    (lead_vars names vs w.0 (lead_opening joined (lead_levels p names levels r w.1 (lead_closing joined more))))
lead_levels p names levels (for_all_such vs fs r) w more =
    lead_word Forall (codes "Forall") space refl refl refl
    (lead_vars names vs w.0
    (lead_such_that names fs w.1.0 (lead_levels p names levels r w.1.1 (lead_closing joined more))))
lead_levels p names levels (if_then f b) w more =
    lead_word If (codes "If") space refl refl refl
    (lead_formula names f space w.0
    (lead_word Then (codes "Then") space refl refl refl (lead_do p names levels b (if_then f b) refl w.1 more)))
lead_levels p names levels (block b) w more = lead_do p names levels b (block b) refl w more

lead_group : {rest : List Spelled} {ls : List Leaf} (p : ℤ) (r : RuleTree) → IsWritableInt p →
    IsWritableRule (rule_names r) r → Lead rest ls →
    Lead (group_spelling (rule_value p r) rest) (Key Group ∷ put_group (canonical_member p r) ls)
lead_group p r priority w more =
    lead_word Group (codes "Group") space refl refl refl
    (lead_integer p joined priority (lead_opening joined
    (lead_levels p (rule_names r) (rule_levels (rule_names r) r) r w (lead_closing line_feed more))))

-- the tokens behind the rules, and their leaves
abbrev behind_rules : List Spelled
behind_rules = closing joined ∷ closing line_feed ∷ []

lead_behind : Lead behind_rules (Close ∷ Close ∷ [])
lead_behind = lead_closing joined (lead_closing line_feed lead_end)

-- the rules of a group and of members, each in its own group, before other members
mutual
  lead_group_rules : {rest : List Spelled} (ls : List Leaf) (p : ℤ) (g : GroupTree) (others : MemberTrees) →
      IsWritableGroup p g → Lead rest (put_members others ls) →
      Lead (groups_spelling (group_rules p g) rest) (put_members (canonical_group p g others) ls)
  lead_group_rules ls p (group s q ms) others w more = lead_members ls (priority_in p q) ms others w more

  lead_members : {rest : List Spelled} (ls : List Leaf) (p : ℤ) (ms others : MemberTrees) →
      AreWritableMembers p ms → Lead rest (put_members others ls) →
      Lead (groups_spelling (member_rules p ms) rest) (put_members (canonical_members p ms others) ls)
  lead_members ls p no_members others w more = more
  lead_members ls p (rule_member r ms) others w more =
      lead_group p r w.0 w.1.0 (lead_members ls p ms others w.1.1 more)
  lead_members {rest} ls p (group_member g ms) others w more =
      lead_as (groups_both (group_rules p g) (member_rules p ms) rest)
      (lead_group_rules ls p g (canonical_members p ms others) w.0 (lead_members ls p ms others w.1 more))

-- there are members exactly where there are rules

abbrev are_no_members : MemberTrees → Bool
are_no_members no_members = true
are_no_members _ = false

abbrev are_no_rules : List Rule → Bool
are_no_rules [] = true
are_no_rules (r ∷ rs) = false

mutual
  same_in_group : (p : ℤ) (g : GroupTree) (others : MemberTrees) (rs : List Rule) →
      are_no_rules rs ≡ are_no_members others →
      are_no_rules (group_rules p g ++ rs) ≡ are_no_members (canonical_group p g others)
  same_in_group p (group s q ms) others rs same = same_in_members (priority_in p q) ms others rs same

  same_in_members : (p : ℤ) (ms others : MemberTrees) (rs : List Rule) → are_no_rules rs ≡ are_no_members others →
      are_no_rules (member_rules p ms ++ rs) ≡ are_no_members (canonical_members p ms others)
  same_in_members p no_members others rs same = same
  same_in_members p (rule_member r ms) others rs same = refl
  same_in_members p (group_member g ms) others rs same =
      ap are_no_rules (append_assoc (group_rules p g) (member_rules p ms) rs)
      ∙ same_in_group p g (canonical_members p ms others) (member_rules p ms ++ rs)
      (same_in_members p ms others rs same)

lead_no_rules : Lead (rules_spelling []) (Key Document ∷ Open ∷ Close ∷ [])
lead_no_rules =
    lead_word Document (codes "Document") joined refl refl refl
    (lead_opening joined (lead_closing line_feed lead_end))

lead_some_rules : (rs : List Rule) (ls : List Leaf) → Lead (groups_spelling rs behind_rules) ls →
    Lead (some_rules_spelling rs) (Key Document ∷ Open ∷ Key Group ∷ Open ∷ ls)
lead_some_rules rs ls inside =
    lead_word Document (codes "Document") joined refl refl refl (lead_opening joined
    (lead_word Group (codes "Group") joined refl refl refl (lead_opening line_feed inside)))

lead_rules : (rs : List Rule) (ms : MemberTrees) → are_no_rules rs ≡ are_no_members ms →
    Lead (groups_spelling rs behind_rules) (put_members ms (Close ∷ [])) →
    Lead (rules_spelling rs) (put_document (document (around_members ms)) [])
lead_rules [] no_members same inside = lead_no_rules
lead_rules [] (rule_member q ms) same inside = absurd (true≢false same)
lead_rules [] (group_member g ms) same inside = absurd (true≢false same)
lead_rules (r ∷ rs) no_members same inside = absurd (true≢false (sym same))
lead_rules (r ∷ rs) (rule_member q ms) same inside = lead_some_rules (r ∷ rs) _ inside
lead_rules (r ∷ rs) (group_member g ms) same inside = lead_some_rules (r ∷ rs) _ inside

lead_prefixes : (ps : PrefixTrees) → AreWritablePrefixes ps →
    Lead (rules_spelling (rules_behind ps)) (put_document (document (canonical_prefixes ps)) [])
lead_prefixes no_group w = lead_no_rules
lead_prefixes (one_group g) w =
    lead_rules (group_rules (pos 0) g) (canonical_group (pos 0) g no_members)
    (ap are_no_rules (sym (append-nil (group_rules (pos 0) g))) ∙ same_in_group (pos 0) g no_members [] refl)
    (lead_group_rules (Close ∷ []) (pos 0) g no_members w lead_behind)
lead_prefixes (prefix name iri ps) w = lead_prefixes ps w

-- the canonical spelling of what a tree stands for is of UTF-8, and leads to the leaves of its canonical tree
pub canonical_leads : (t : DocumentTree) → IsWritableDocument t →
    Lead (canonical_spelling (document_value t)) (spell_document (canonical_document t))
canonical_leads (document ps) w =
    subst (λ (ls : List Leaf). Lead (canonical_spelling (document_value (document ps))) ls)
    (put_document_alone (canonical_document (document ps))) (lead_prefixes ps w)
