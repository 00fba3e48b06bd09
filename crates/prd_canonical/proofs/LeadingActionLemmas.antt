-- The leaves that actions and blocks of the canonical spelling lead to.
use Rattle.std.proofs.Common.{ℕ, List, ◌∷◌, map, refl, codes}
use Rattle.rif_lex.specs.Spelling.{Gap, joined, space, Spelled}
use Rattle.prd_grammar.specs.declared.leaf.Keyword.TheVariants.{New, Assert, Retract, Modify}
use Rattle.prd_grammar.specs.declared.leaf.Leaf.{Leaf}
use Rattle.prd_writing.specs.Canonical.{closing, gap_before, listed, spaced, target_spelling, action_spelling}
use Rattle.prd_writing.specs.Canonical.{decl_spelling}
use Rattle.prd_canonical.specs.CanonicalTrees.{canonical_target, canonical_action, canonical_actions}
use Rattle.prd_canonical.specs.CanonicalTrees.{canonical_block}
use Rattle.prd_grammar.specs.Trees.{TargetTree, target_member, target_frame, target_atom, ActionTree, assert}
use Rattle.prd_grammar.specs.Trees.{retract, retract_slot, retract_object, modify, ActionTrees, last_action, actions}
use Rattle.prd_grammar.specs.Trees.{BlockTree, acts, new_object, slot_value}
use Rattle.prd_grammar.specs.Values.{target_value, action_value, actions_value, block_decls, block_actions}
use Rattle.prd_canonical.specs.Writable.{IsWritableTarget, IsWritableAction, AreWritableActions, IsWritableBlock}
use Rattle.prd_grammar.proofs.CallerLemmas.{put_target, put_action, put_actions, put_block}
use Rattle.prd_canonical.proofs.CanonicalLeavesLemmas.{Lead}
use Rattle.prd_canonical.proofs.LeadingTokenLemmas.{lead_opening, lead_closing, lead_open_square, lead_close_square}
use Rattle.prd_canonical.proofs.LeadingTokenLemmas.{lead_arrow, lead_word, lead_var}
use Rattle.prd_canonical.proofs.LeadingTermLemmas.{lead_term, lead_frame}
use Rattle.prd_canonical.proofs.LeadingFormulaLemmas.{lead_member, lead_atom}

lead_target : {rest : List Spelled} {ls : List Leaf} (names : List (List ℕ)) (t : TargetTree) (gap : Gap) →
    IsWritableTarget names t → Lead rest ls →
    Lead (target_spelling names (target_value names t) gap rest) (put_target (canonical_target t) ls)
lead_target names (target_member o c) gap w more = lead_member names o c gap w.0 w.1 more
lead_target names (target_frame o ps) gap w more = lead_frame names o ps gap w.0 w.1 more
lead_target names (target_atom n ts) gap w more = lead_atom names n ts gap w.0 w.1 more

lead_action : {rest : List Spelled} {ls : List Leaf} (names : List (List ℕ)) (a : ActionTree) (gap : Gap) →
    IsWritableAction names a → Lead rest ls →
    Lead (action_spelling names (action_value names a) gap rest) (put_action (canonical_action a) ls)
lead_action names (assert t) gap w more =
    lead_word Assert (codes "Assert") joined refl refl refl
    (lead_opening joined (lead_target names t joined w (lead_closing gap more)))
lead_action names (retract t) gap w more =
    lead_word Retract (codes "Retract") joined refl refl refl
    (lead_opening joined (lead_target names t joined w (lead_closing gap more)))
lead_action names (retract_slot o s) gap w more =
    lead_word Retract (codes "Retract") joined refl refl refl
    (lead_opening joined (lead_term names o space w.0 (lead_term names s joined w.1 (lead_closing gap more))))
lead_action names (retract_object o) gap w more =
    lead_word Retract (codes "Retract") joined refl refl refl
    (lead_opening joined (lead_term names o joined w (lead_closing gap more)))
lead_action names (modify o ps) gap w more =
    lead_word Modify (codes "Modify") joined refl refl refl
    (lead_opening joined (lead_frame names o ps joined w.0 w.1 (lead_closing gap more)))

-- with the bracket that ends them
lead_actions : {rest : List Spelled} {ls : List Leaf} (names : List (List ℕ)) (all : ActionTrees) (gap : Gap) →
    AreWritableActions names all → Lead rest ls →
    Lead (listed (map (action_spelling names) (actions_value names all)) (closing gap ∷ rest))
    (put_actions (canonical_actions all) ls)
lead_actions names (last_action a) gap w more = lead_action names a joined w (lead_closing gap more)
lead_actions names (actions a more) gap w others =
    lead_action names a (gap_before (map (action_spelling names) (actions_value names more))) w.0
    (lead_actions names more gap w.1 others)

-- what stands in a block's brackets, and the bracket that ends it
pub lead_block : {rest : List Spelled} {ls : List Leaf} (names : List (List ℕ)) (b : BlockTree) (gap : Gap) →
    IsWritableBlock names b → Lead rest ls →
    Lead (spaced (map (decl_spelling names) (block_decls names b))
    (listed (map (action_spelling names) (block_actions names b)) (closing gap ∷ rest)))
    (put_block (canonical_block b) ls)
lead_block names (acts a) gap w more = lead_actions names a gap w more
lead_block names (new_object v b) gap w more =
    lead_opening joined (lead_var names v space w.0
    (lead_word New (codes "New") joined refl refl refl (lead_opening joined (lead_closing joined
    (lead_closing space (lead_block names b gap w.1 more))))))
lead_block names (slot_value v o s b) gap w more =
    lead_opening joined (lead_var names v space w.0
    (lead_term names o joined w.1.0 (lead_open_square
    (lead_term names s joined w.1.1.0 (lead_arrow
    (lead_var names v joined w.0 (lead_close_square joined
    (lead_closing space (lead_block names b gap w.1.1.1 more)))))))))
