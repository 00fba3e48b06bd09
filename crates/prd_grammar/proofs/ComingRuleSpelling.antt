-- The leaves of a tree and others behind them, as one list that is built from its end: actions, rules and documents.
use Rattle.std.proofs.Common.{◌≡◌, List, [], ◌∷◌, ◌++◌, refl, ap, ◌∙◌, append-nil}
use Rattle.prd_grammar.specs.declared.leaf.Keyword.TheVariants.{Document, Prefix, Group, Forall, Such, That, If, Then}
use Rattle.prd_grammar.specs.declared.leaf.Keyword.TheVariants.{Do, New, Assert, Retract, Modify}
use Rattle.prd_grammar.specs.declared.leaf.Leaf.{Leaf}
use Rattle.prd_grammar.specs.declared.leaf.Leaf.TheVariants.{Key, Word, Int, Iri, Curie, Var, Open, Close, OpenSquare}
use Rattle.prd_grammar.specs.declared.leaf.Leaf.TheVariants.{CloseSquare, Hash, Arrow}
use Rattle.prd_grammar.specs.Trees.{spell_term, spell_pairs, spell_vars, spell_formula, TargetTree, target_member}
use Rattle.prd_grammar.specs.Trees.{target_frame, target_atom, spell_target, ActionTree, assert, retract}
use Rattle.prd_grammar.specs.Trees.{retract_slot}
use Rattle.prd_grammar.specs.Trees.{retract_object, modify, spell_action, ActionTrees, last_action, actions}
use Rattle.prd_grammar.specs.Trees.{spell_actions, BlockTree, acts, new_object, slot_value, spell_block, SuchTrees}
use Rattle.prd_grammar.specs.Trees.{last_such, more_such, spell_such, RuleTree, for_all, for_all_such, if_then, block}
use Rattle.prd_grammar.specs.Trees.{spell_rule}
use Rattle.prd_grammar.specs.Trees.{StrategyTree, no_strategy, strategy_iri, strategy_curie, spell_strategy}
use Rattle.prd_grammar.specs.Trees.{PriorityTree, no_priority, priority, spell_priority, GroupTree, group}
use Rattle.prd_grammar.specs.Trees.{MemberTrees}
use Rattle.prd_grammar.specs.Trees.{no_members, rule_member, group_member, spell_group, spell_members, PrefixTrees}
use Rattle.prd_grammar.specs.Trees.{no_group, one_group, prefix, spell_prefixes, DocumentTree, document}
use Rattle.prd_grammar.specs.Trees.{spell_document}
use Rattle.prd_grammar.proofs.ComingSpelling.{two_put, closed_put, put_name, put_term, put_terms, put_term_is}
use Rattle.prd_grammar.proofs.ComingSpelling.{put_pairs, put_pairs_is, put_vars, put_vars_is, put_formula}
use Rattle.prd_grammar.proofs.ComingSpelling.{put_formula_is, put_atom_is}

-- actions

abbrev pub put_target : TargetTree → List Leaf → List Leaf
put_target (target_member o c) ls = put_term o (Hash ∷ put_term c ls)
put_target (target_frame o ps) ls = put_term o (OpenSquare ∷ put_pairs ps ls)
put_target (target_atom n ts) ls = put_name n (Open ∷ put_terms ts ls)

put_target_is : (t : TargetTree) (ls : List Leaf) → put_target t ls ≡ spell_target t ++ ls
put_target_is (target_member o c) ls =
    two_put (spell_term o) (Hash ∷ spell_term c) ls _ _ (put_term_is o _) (ap (λ r. Hash ∷ r) (put_term_is c ls))
put_target_is (target_frame o ps) ls =
    two_put (spell_term o) (OpenSquare ∷ spell_pairs ps) ls _ _ (put_term_is o _)
    (ap (λ r. OpenSquare ∷ r) (put_pairs_is ps ls))
put_target_is (target_atom n ts) ls = put_atom_is n ts ls

abbrev pub put_action : ActionTree → List Leaf → List Leaf
put_action (assert t) ls = Key Assert ∷ Open ∷ put_target t (Close ∷ ls)
put_action (retract t) ls = Key Retract ∷ Open ∷ put_target t (Close ∷ ls)
put_action (retract_slot o s) ls = Key Retract ∷ Open ∷ put_term o (put_term s (Close ∷ ls))
put_action (retract_object o) ls = Key Retract ∷ Open ∷ put_term o (Close ∷ ls)
put_action (modify o ps) ls = Key Modify ∷ Open ∷ put_term o (OpenSquare ∷ put_pairs ps (Close ∷ ls))

put_action_is : (a : ActionTree) (ls : List Leaf) → put_action a ls ≡ spell_action a ++ ls
put_action_is (assert t) ls =
    ap (λ r. Key Assert ∷ Open ∷ r) (closed_put (spell_target t) ls _ Close (put_target_is t _))
put_action_is (retract t) ls =
    ap (λ r. Key Retract ∷ Open ∷ r) (closed_put (spell_target t) ls _ Close (put_target_is t _))
put_action_is (retract_slot o s) ls =
    ap (λ r. Key Retract ∷ Open ∷ r)
    (two_put (spell_term o) (spell_term s ++ Close ∷ []) ls _ _ (put_term_is o _)
    (closed_put (spell_term s) ls _ Close (put_term_is s _)))
put_action_is (retract_object o) ls =
    ap (λ r. Key Retract ∷ Open ∷ r) (closed_put (spell_term o) ls _ Close (put_term_is o _))
put_action_is (modify o ps) ls =
    ap (λ r. Key Modify ∷ Open ∷ r)
    (two_put (spell_term o) (OpenSquare ∷ (spell_pairs ps ++ Close ∷ [])) ls _ _ (put_term_is o _)
    (ap (λ r. OpenSquare ∷ r) (closed_put (spell_pairs ps) ls _ Close (put_pairs_is ps _))))

abbrev pub put_actions : ActionTrees → List Leaf → List Leaf
put_actions (last_action a) ls = put_action a (Close ∷ ls)
put_actions (actions a more) ls = put_action a (put_actions more ls)

put_actions_is : (all : ActionTrees) (ls : List Leaf) → put_actions all ls ≡ spell_actions all ++ ls
put_actions_is (last_action a) ls = closed_put (spell_action a) ls _ Close (put_action_is a _)
put_actions_is (actions a more) ls =
    two_put (spell_action a) (spell_actions more) ls _ _ (put_action_is a _) (put_actions_is more ls)

abbrev pub put_block : BlockTree → List Leaf → List Leaf
put_block (acts a) ls = put_actions a ls
put_block (new_object v b) ls = Open ∷ Var v ∷ Key New ∷ Open ∷ Close ∷ Close ∷ put_block b ls
put_block (slot_value v o s b) ls =
    Open ∷ Var v
    ∷ put_term o (OpenSquare ∷ put_term s (Arrow ∷ Var v ∷ CloseSquare ∷ Close ∷ put_block b ls))

put_block_is : (b : BlockTree) (ls : List Leaf) → put_block b ls ≡ spell_block b ++ ls
put_block_is (acts a) ls = put_actions_is a ls
put_block_is (new_object v b) ls =
    ap (λ r. Open ∷ Var v ∷ Key New ∷ Open ∷ Close ∷ Close ∷ r) (put_block_is b ls)
put_block_is (slot_value v o s b) ls =
    let slot = Arrow ∷ Var v ∷ CloseSquare ∷ Close ∷ spell_block b in
    ap (λ r. Open ∷ Var v ∷ r)
    (two_put (spell_term o) (OpenSquare ∷ (spell_term s ++ slot)) ls _ _ (put_term_is o _)
    (ap (λ r. OpenSquare ∷ r)
    (two_put (spell_term s) slot ls _ _ (put_term_is s _)
    (ap (λ r. Arrow ∷ Var v ∷ CloseSquare ∷ Close ∷ r) (put_block_is b ls)))))

-- rules

abbrev pub put_such : SuchTrees → List Leaf → List Leaf
put_such (last_such f) ls = put_formula f (Open ∷ ls)
put_such (more_such f fs) ls = put_formula f (put_such fs ls)

put_such_is : (fs : SuchTrees) (ls : List Leaf) → put_such fs ls ≡ spell_such fs ++ ls
put_such_is (last_such f) ls = closed_put (spell_formula f) ls _ Open (put_formula_is f _)
put_such_is (more_such f fs) ls =
    two_put (spell_formula f) (spell_such fs) ls _ _ (put_formula_is f _) (put_such_is fs ls)

abbrev pub put_rule : RuleTree → List Leaf → List Leaf
put_rule (for_all vs r) ls = Key Forall ∷ put_vars vs (Open ∷ put_rule r (Close ∷ ls))
put_rule (for_all_such vs fs r) ls =
    Key Forall ∷ put_vars vs (Key Such ∷ Key That ∷ put_such fs (put_rule r (Close ∷ ls)))
put_rule (if_then f b) ls = Key If ∷ put_formula f (Key Then ∷ Key Do ∷ Open ∷ put_block b ls)
put_rule (block b) ls = Key Do ∷ Open ∷ put_block b ls

put_rule_is : (r : RuleTree) (ls : List Leaf) → put_rule r ls ≡ spell_rule r ++ ls
put_rule_is (for_all vs r) ls =
    ap (λ x. Key Forall ∷ x)
    (two_put (spell_vars vs) (Open ∷ (spell_rule r ++ Close ∷ [])) ls _ _ (put_vars_is vs _)
    (ap (λ x. Open ∷ x) (closed_put (spell_rule r) ls _ Close (put_rule_is r _))))
put_rule_is (for_all_such vs fs r) ls =
    let inner = spell_rule r ++ Close ∷ [] in
    ap (λ x. Key Forall ∷ x)
    (two_put (spell_vars vs) (Key Such ∷ Key That ∷ (spell_such fs ++ inner)) ls _ _ (put_vars_is vs _)
    (ap (λ x. Key Such ∷ Key That ∷ x)
    (two_put (spell_such fs) inner ls _ _ (put_such_is fs _)
    (closed_put (spell_rule r) ls _ Close (put_rule_is r _)))))
put_rule_is (if_then f b) ls =
    ap (λ x. Key If ∷ x)
    (two_put (spell_formula f) (Key Then ∷ Key Do ∷ Open ∷ spell_block b) ls _ _ (put_formula_is f _)
    (ap (λ x. Key Then ∷ Key Do ∷ Open ∷ x) (put_block_is b ls)))
put_rule_is (block b) ls = ap (λ x. Key Do ∷ Open ∷ x) (put_block_is b ls)

-- documents

abbrev pub put_strategy : StrategyTree → List Leaf → List Leaf
put_strategy no_strategy ls = ls
put_strategy (strategy_iri t) ls = Iri t ∷ ls
put_strategy (strategy_curie t) ls = Curie t ∷ ls

put_strategy_is : (s : StrategyTree) (ls : List Leaf) → put_strategy s ls ≡ spell_strategy s ++ ls
put_strategy_is no_strategy ls = refl
put_strategy_is (strategy_iri t) ls = refl
put_strategy_is (strategy_curie t) ls = refl

abbrev pub put_priority : PriorityTree → List Leaf → List Leaf
put_priority no_priority ls = ls
put_priority (priority z) ls = Int z ∷ ls

put_priority_is : (p : PriorityTree) (ls : List Leaf) → put_priority p ls ≡ spell_priority p ++ ls
put_priority_is no_priority ls = refl
put_priority_is (priority z) ls = refl

-- a group is put without its first word
abbrev mutual
  pub put_group : GroupTree → List Leaf → List Leaf
  put_group (group s p ms) ls = put_strategy s (put_priority p (Open ∷ put_members ms ls))

  pub put_members : MemberTrees → List Leaf → List Leaf
  put_members no_members ls = Close ∷ ls
  put_members (rule_member r ms) ls = put_rule r (put_members ms ls)
  put_members (group_member g ms) ls = Key Group ∷ put_group g (put_members ms ls)

mutual
  put_group_is : (g : GroupTree) (ls : List Leaf) → Key Group ∷ put_group g ls ≡ spell_group g ++ ls
  put_group_is (group s p ms) ls =
      ap (λ r. Key Group ∷ r)
      (two_put (spell_strategy s) (spell_priority p ++ Open ∷ spell_members ms) ls _ _ (put_strategy_is s _)
      (two_put (spell_priority p) (Open ∷ spell_members ms) ls _ _ (put_priority_is p _)
      (ap (λ r. Open ∷ r) (put_members_is ms ls))))

  put_members_is : (ms : MemberTrees) (ls : List Leaf) → put_members ms ls ≡ spell_members ms ++ ls
  put_members_is no_members ls = refl
  put_members_is (rule_member r ms) ls =
      two_put (spell_rule r) (spell_members ms) ls _ _ (put_rule_is r _) (put_members_is ms ls)
  put_members_is (group_member g ms) ls =
      two_put (spell_group g) (spell_members ms) ls _ _ (put_group_is g _) (put_members_is ms ls)

abbrev pub put_prefixes : PrefixTrees → List Leaf → List Leaf
put_prefixes no_group ls = Close ∷ ls
put_prefixes (one_group g) ls = Key Group ∷ put_group g (Close ∷ ls)
put_prefixes (prefix name iri ps) ls = Key Prefix ∷ Open ∷ Word name ∷ Iri iri ∷ Close ∷ put_prefixes ps ls

put_prefixes_is : (ps : PrefixTrees) (ls : List Leaf) → put_prefixes ps ls ≡ spell_prefixes ps ++ ls
put_prefixes_is no_group ls = refl
put_prefixes_is (one_group g) ls = closed_put (spell_group g) ls _ Close (put_group_is g _)
put_prefixes_is (prefix name iri ps) ls =
    ap (λ r. Key Prefix ∷ Open ∷ Word name ∷ Iri iri ∷ Close ∷ r) (put_prefixes_is ps ls)

abbrev pub put_document : DocumentTree → List Leaf → List Leaf
put_document (document ps) ls = Key Document ∷ Open ∷ put_prefixes ps ls

-- with nothing behind it, it is the spelling
pub put_document_alone : (t : DocumentTree) → put_document t [] ≡ spell_document t
put_document_alone (document ps) =
    ap (λ r. Key Document ∷ Open ∷ r) (put_prefixes_is ps [] ∙ append-nil (spell_prefixes ps))
