-- Actions and blocks that are spelled with leaves that can be written can be written.
use Rattle.std.proofs.Common.{ℕ, List, [], ◌∷◌, ◌++◌}
use Rattle.prd_grammar.specs.declared.leaf.Leaf.TheVariants.{Var, Open, Close, OpenSquare, CloseSquare, Hash, Arrow}
use Rattle.prd_grammar.specs.Trees.{const_of_name, spell_const, spell_term, spell_terms, spell_pairs, TargetTree}
use Rattle.prd_grammar.specs.Trees.{target_member, target_frame, target_atom, spell_target, ActionTree, assert}
use Rattle.prd_grammar.specs.Trees.{retract}
use Rattle.prd_grammar.specs.Trees.{retract_slot, retract_object, modify, spell_action, ActionTrees, last_action}
use Rattle.prd_grammar.specs.Trees.{actions, spell_actions, BlockTree, acts, new_object, slot_value, spell_block}
use Rattle.prd_canonical.specs.Writable.{IsWritableTarget, IsWritableAction, AreWritableActions, IsWritableBlock}
use Rattle.prd_canonical.specs.WritableLeaves.{ArePlacedLeaves}
use Rattle.prd_canonical.proofs.WritableNameLemmas.{placed_front, placed_back}
use Rattle.prd_canonical.proofs.WritableTermLemmas.{writable_const, writable_term, writable_terms, writable_pairs}

writable_target : (names : List (List ℕ)) (t : TargetTree) → ArePlacedLeaves names (spell_target t) →
    IsWritableTarget names t
writable_target names (target_member o c) h = (
  writable_term names o (placed_front names (spell_term o) (Hash ∷ spell_term c) h),
  writable_term names c (placed_back names (spell_term o) (Hash ∷ spell_term c) h).1,
)
writable_target names (target_frame o ps) h = (
  writable_term names o (placed_front names (spell_term o) (OpenSquare ∷ spell_pairs ps) h),
  writable_pairs names ps (placed_back names (spell_term o) (OpenSquare ∷ spell_pairs ps) h).1,
)
writable_target names (target_atom n ts) h =
    let name = spell_const (const_of_name n) in (
      writable_const names (const_of_name n) (placed_front names name (Open ∷ spell_terms ts) h),
      writable_terms names ts (placed_back names name (Open ∷ spell_terms ts) h).1,
    )

writable_action : (names : List (List ℕ)) (a : ActionTree) → ArePlacedLeaves names (spell_action a) →
    IsWritableAction names a
writable_action names (assert t) h = writable_target names t (placed_front names (spell_target t) (Close ∷ []) h.1.1)
writable_action names (retract t) h = writable_target names t (placed_front names (spell_target t) (Close ∷ []) h.1.1)
writable_action names (retract_slot o s) h =
    let more = placed_back names (spell_term o) (spell_term s ++ Close ∷ []) h.1.1 in (
      writable_term names o (placed_front names (spell_term o) _ h.1.1),
      writable_term names s (placed_front names (spell_term s) (Close ∷ []) more),
    )
writable_action names (retract_object o) h =
    writable_term names o (placed_front names (spell_term o) (Close ∷ []) h.1.1)
writable_action names (modify o ps) h =
    let more = (placed_back names (spell_term o) (OpenSquare ∷ (spell_pairs ps ++ Close ∷ [])) h.1.1).1 in (
      writable_term names o (placed_front names (spell_term o) _ h.1.1),
      writable_pairs names ps (placed_front names (spell_pairs ps) (Close ∷ []) more),
    )

writable_actions : (names : List (List ℕ)) (all : ActionTrees) → ArePlacedLeaves names (spell_actions all) →
    AreWritableActions names all
writable_actions names (last_action a) h =
    writable_action names a (placed_front names (spell_action a) (Close ∷ []) h)
writable_actions names (actions a more) h = (
  writable_action names a (placed_front names (spell_action a) (spell_actions more) h),
  writable_actions names more (placed_back names (spell_action a) (spell_actions more) h),
)

pub writable_block : (names : List (List ℕ)) (b : BlockTree) → ArePlacedLeaves names (spell_block b) →
    IsWritableBlock names b
writable_block names (acts a) h = writable_actions names a h
writable_block names (new_object v b) h = (h.1.0, writable_block names b h.1.1.1.1.1.1)
writable_block names (slot_value v o s b) h =
    let slot = (placed_back names (spell_term o) _ h.1.1).1 in
    let more = placed_back names (spell_term s) (Arrow ∷ Var v ∷ CloseSquare ∷ Close ∷ spell_block b) slot in (
      h.1.0,
      (
        writable_term names o (placed_front names (spell_term o) _ h.1.1),
        (
          writable_term names s (placed_front names (spell_term s) _ slot),
          writable_block names b more.1.1.1.1,
        ),
      ),
    )
