-- Each document that is read can be written so that it is read back.
use Rattle.std.proofs.Common.{◌≡◌, ℕ, ℤ, pos, List, [], ◌∷◌, ◌++◌, subst, sym, Some, None, Ok}
use Rattle.rif_lex.specs.declared.token.Token.{Token}
use Rattle.rif_lex.specs.Lexing.{lexed}
use Rattle.prd_grammar.specs.declared.leaf.Keyword.TheVariants.{Then, Do}
use Rattle.prd_grammar.specs.declared.leaf.Leaf.TheVariants.{Key, Open, Close}
use Rattle.prd_leaves.specs.Leaves.{leaves_of}
use Rattle.prd_grammar.specs.Trees.{spell_vars, spell_formula, spell_block, spell_such, RuleTree, for_all}
use Rattle.prd_grammar.specs.Trees.{for_all_such}
use Rattle.prd_grammar.specs.Trees.{if_then, block, spell_rule, spell_strategy, PriorityTree, no_priority, priority}
use Rattle.prd_grammar.specs.Trees.{spell_priority, GroupTree, group, MemberTrees, no_members, rule_member}
use Rattle.prd_grammar.specs.Trees.{group_member}
use Rattle.prd_grammar.specs.Trees.{spell_group, spell_members, PrefixTrees, no_group, one_group, prefix}
use Rattle.prd_grammar.specs.Trees.{spell_prefixes}
use Rattle.prd_grammar.specs.Trees.{DocumentTree, document, spell_document}
use Rattle.prd_grammar.specs.Values.{rule_names, priority_in}
use Rattle.prd_canonical.specs.Writable.{IsWritableInt, IsWritableRule, IsWritableGroup, AreWritableMembers}
use Rattle.prd_canonical.specs.Writable.{AreWritablePrefixes, IsWritableDocument}
use Rattle.prd_canonical.specs.WritableLeaves.{AreWritableLeaves, ArePlacedLeaves}
use Rattle.prd_canonical.proofs.WritableIntegerLemmas.{writable_zero}
use Rattle.prd_canonical.proofs.WritableLeafLemmas.{writable_leaves}
use Rattle.prd_canonical.proofs.WritableNameLemmas.{writable_front, writable_back, placed_front, placed_back}
use Rattle.prd_canonical.proofs.WritableNameLemmas.{placed_leaves}
use Rattle.prd_canonical.proofs.WritableTermLemmas.{writable_vars}
use Rattle.prd_canonical.proofs.WritableFormulaLemmas.{writable_formula, writable_such}
use Rattle.prd_canonical.proofs.WritableActionLemmas.{writable_block}

writable_rule : (names : List (List ℕ)) (r : RuleTree) → ArePlacedLeaves names (spell_rule r) → IsWritableRule names r
writable_rule names (for_all vs r) h =
    let more = (placed_back names (spell_vars vs) (Open ∷ (spell_rule r ++ Close ∷ [])) h.1).1 in (
      writable_vars names vs (placed_front names (spell_vars vs) _ h.1),
      writable_rule names r (placed_front names (spell_rule r) (Close ∷ []) more),
    )
writable_rule names (for_all_such vs fs r) h =
    let more = (placed_back names (spell_vars vs) _ h.1).1.1 in
    let inner = placed_back names (spell_such fs) (spell_rule r ++ Close ∷ []) more in (
      writable_vars names vs (placed_front names (spell_vars vs) _ h.1),
      (
        writable_such names fs (placed_front names (spell_such fs) (spell_rule r ++ Close ∷ []) more),
        writable_rule names r (placed_front names (spell_rule r) (Close ∷ []) inner),
      ),
    )
writable_rule names (if_then f b) h =
    let more = placed_back names (spell_formula f) (Key Then ∷ Key Do ∷ Open ∷ spell_block b) h.1 in (
      writable_formula names f (placed_front names (spell_formula f) (Key Then ∷ Key Do ∷ Open ∷ spell_block b) h.1),
      writable_block names b more.1.1.1,
    )
writable_rule names (block b) h = writable_block names b h.1.1

-- the priority of a group, where that around it can be written
writable_priority : (p : ℤ) (q : PriorityTree) → IsWritableInt p → AreWritableLeaves (spell_priority q) →
    IsWritableInt (priority_in p q)
writable_priority p no_priority outer h = outer
writable_priority p (priority None) outer h = outer
writable_priority p (priority (Some z)) outer h = h.0

mutual
  writable_group : (p : ℤ) (g : GroupTree) → IsWritableInt p → AreWritableLeaves (spell_group g) → IsWritableGroup p g
  writable_group p (group s q ms) outer h =
      let more = writable_back (spell_strategy s) (spell_priority q ++ Open ∷ spell_members ms) h.1 in
      writable_members (priority_in p q) ms
      (writable_priority p q outer (writable_front (spell_priority q) (Open ∷ spell_members ms) more))
      (writable_back (spell_priority q) (Open ∷ spell_members ms) more).1

  writable_members : (p : ℤ) (ms : MemberTrees) → IsWritableInt p → AreWritableLeaves (spell_members ms) →
      AreWritableMembers p ms
  writable_members p no_members outer h = tt
  writable_members p (rule_member r ms) outer h = (
    outer,
    (
      writable_rule (rule_names r) r
          (placed_leaves (spell_rule r) (writable_front (spell_rule r) (spell_members ms) h)),
      writable_members p ms outer (writable_back (spell_rule r) (spell_members ms) h),
    ),
  )
  writable_members p (group_member g ms) outer h = (
    writable_group p g outer (writable_front (spell_group g) (spell_members ms) h),
    writable_members p ms outer (writable_back (spell_group g) (spell_members ms) h),
  )

writable_prefixes : (ps : PrefixTrees) → AreWritableLeaves (spell_prefixes ps) → AreWritablePrefixes ps
writable_prefixes no_group h = tt
writable_prefixes (one_group g) h =
    writable_group (pos 0) g writable_zero (writable_front (spell_group g) (Close ∷ []) h)
writable_prefixes (prefix name iri ps) h = writable_prefixes ps h.1.1.1.1.1

writable_document : (t : DocumentTree) → AreWritableLeaves (spell_document t) → IsWritableDocument t
writable_document (document ps) h = writable_prefixes ps h.1.1

-- each document that is read can be written
pub read_is_writable : (bytes : List ℕ) (tokens : List Token) (t : DocumentTree) → lexed bytes ≡ Ok tokens →
    spell_document t ≡ leaves_of bytes tokens → IsWritableDocument t
read_is_writable bytes tokens t e spells =
    writable_document t (subst AreWritableLeaves (sym spells) (writable_leaves bytes tokens e))
