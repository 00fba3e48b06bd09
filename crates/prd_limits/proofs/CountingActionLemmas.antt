-- Along an action one action is counted, and along a block its actions.
use Rattle.std.proofs.Common.{◌≡◌, ℕ, suc, List, [], ◌∷◌, ◌++◌, ◌∙◌}
use Rattle.prd_grammar.specs.declared.leaf.Leaf.{Leaf}
use Rattle.prd_grammar.specs.declared.leaf.Leaf.TheVariants.{Var, Open, Close, OpenSquare, CloseSquare, Hash, Arrow}
use Rattle.prd_grammar.specs.Trees.{const_of_name, spell_const, spell_term, spell_terms, spell_pairs, TargetTree}
use Rattle.prd_grammar.specs.Trees.{target_member, target_frame, target_atom, spell_target, ActionTree, assert}
use Rattle.prd_grammar.specs.Trees.{retract, retract_slot, retract_object, modify, spell_action, ActionTrees}
use Rattle.prd_grammar.specs.Trees.{last_action, actions, spell_actions, BlockTree, acts, new_object, slot_value}
use Rattle.prd_grammar.specs.Trees.{spell_block}
use Rattle.prd_limits.proofs.CountingFolds.{course}
use Rattle.prd_limits.proofs.CountingTermLemmas.{apart, const_course, term_course, terms_course, pairs_course}

target_course : (t : TargetTree) (rest : List Leaf) (d a : ℕ) → course (spell_target t ++ rest) d a ≡ course rest d a
target_course (target_member o c) rest d a = apart (spell_term o) (Hash ∷ spell_term c) rest d a
    ∙ (term_course o _ d a ∙ term_course c rest d a)
target_course (target_frame o ps) rest d a = apart (spell_term o) (OpenSquare ∷ spell_pairs ps) rest d a
    ∙ (term_course o _ d a ∙ pairs_course ps rest (suc d) a)
target_course (target_atom n ts) rest d a = apart (spell_const (const_of_name n)) (Open ∷ spell_terms ts) rest d a
    ∙ (const_course (const_of_name n) _ d a ∙ terms_course ts rest (suc d) a)

pub action_course : (x : ActionTree) (rest : List Leaf) (d a : ℕ) →
    course (spell_action x ++ rest) d a ≡ course rest d (suc a)
action_course (assert t) rest d a = apart (spell_target t) (Close ∷ []) rest (suc d) (suc a)
    ∙ target_course t (Close ∷ rest) (suc d) (suc a)
action_course (retract t) rest d a = apart (spell_target t) (Close ∷ []) rest (suc d) (suc a)
    ∙ target_course t (Close ∷ rest) (suc d) (suc a)
action_course (retract_slot o s) rest d a = apart (spell_term o) (spell_term s ++ Close ∷ []) rest (suc d) (suc a)
    ∙ (term_course o _ (suc d) (suc a)
    ∙ (apart (spell_term s) (Close ∷ []) rest (suc d) (suc a) ∙ term_course s (Close ∷ rest) (suc d) (suc a)))
action_course (retract_object o) rest d a = apart (spell_term o) (Close ∷ []) rest (suc d) (suc a)
    ∙ term_course o (Close ∷ rest) (suc d) (suc a)
action_course (modify o ps) rest d a =
    apart (spell_term o) (OpenSquare ∷ (spell_pairs ps ++ Close ∷ [])) rest (suc d) (suc a)
    ∙ (term_course o _ (suc d) (suc a)
    ∙ (apart (spell_pairs ps) (Close ∷ []) rest (suc (suc d)) (suc a)
    ∙ pairs_course ps (Close ∷ rest) (suc (suc d)) (suc a)))

-- the actions of a block, added to those before
abbrev pub actions_add : ActionTrees → ℕ → ℕ
actions_add (last_action x) a = suc a
actions_add (actions x more) a = actions_add more (suc a)

abbrev pub block_adds : BlockTree → ℕ → ℕ
block_adds (acts xs) a = actions_add xs a
block_adds (new_object v b) a = block_adds b a
block_adds (slot_value v o s b) a = block_adds b a

-- with the bracket behind them
actions_course : (xs : ActionTrees) (rest : List Leaf) (d a : ℕ) →
    course (spell_actions xs ++ rest) d a ≡ course (Close ∷ rest) d (actions_add xs a)
actions_course (last_action x) rest d a = apart (spell_action x) (Close ∷ []) rest d a
    ∙ action_course x (Close ∷ rest) d a
actions_course (actions x more) rest d a = apart (spell_action x) (spell_actions more) rest d a
    ∙ (action_course x (spell_actions more ++ rest) d a ∙ actions_course more rest d (suc a))

-- with the bracket behind it
pub block_course : (b : BlockTree) (rest : List Leaf) (d a : ℕ) →
    course (spell_block b ++ rest) d a ≡ course (Close ∷ rest) d (block_adds b a)
block_course (acts xs) rest d a = actions_course xs rest d a
block_course (new_object v b) rest d a = block_course b rest d a
block_course (slot_value v o s b) rest d a =
    let more = Arrow ∷ Var v ∷ CloseSquare ∷ Close ∷ spell_block b in
    apart (spell_term o) (OpenSquare ∷ (spell_term s ++ more)) rest (suc d) a
    ∙ (term_course o _ (suc d) a
    ∙ (apart (spell_term s) more rest (suc (suc d)) a
    ∙ (term_course s _ (suc (suc d)) a ∙ block_course b rest d a)))
