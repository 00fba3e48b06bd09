-- What is spelled may come: targets, actions and blocks.
use Rattle.std.proofs.Common.{◌≡◌, refl, ap, ◌∙◌, ℕ, List, [], ◌∷◌, ◌++◌, if◌then◌else◌, Some, None}
use Rattle.std.specs.declared.option.Option.{Option}
use Rattle.std.proofs.lemmas.Slice.Eq.{bytes_eq-Decides}
use Rattle.prd_grammar.specs.declared.leaf.Leaf.{Leaf}
use Rattle.prd_grammar.specs.declared.leaf.Leaf.TheVariants.{Var, Open as OpenLeaf, Close as CloseLeaf}
use Rattle.prd_grammar.specs.declared.leaf.Leaf.TheVariants.{OpenSquare as OpenSquareLeaf}
use Rattle.prd_grammar.specs.declared.leaf.Leaf.TheVariants.{CloseSquare as CloseSquareLeaf, Hash, Arrow as ArrowLeaf}
use Rattle.prd_recognition.specs.declared.want.Want.{Want}
use Rattle.prd_recognition.specs.declared.want.Want.TheVariants.{Block, Actions, DeclRest, SameVariable, Target}
use Rattle.prd_recognition.specs.declared.want.Want.TheVariants.{TargetTail, TargetAfterName, Retracted}
use Rattle.prd_recognition.specs.declared.want.Want.TheVariants.{RetractedTail}
use Rattle.prd_recognition.specs.declared.want.Want.TheVariants.{RetractedAfterName, Term, Pairs, Close, OpenSquare}
use Rattle.prd_recognition.specs.declared.want.Want.TheVariants.{CloseSquare, Arrow}
use Rattle.prd_grammar.specs.Trees.{const_int, const_string, const_typed, const_iri, const_curie, const_local}
use Rattle.prd_grammar.specs.Trees.{const_true, const_false, spell_name, TermTree, constant, variable, call}
use Rattle.prd_grammar.specs.Trees.{spell_term, spell_terms, spell_pairs, TargetTree, target_member, target_frame}
use Rattle.prd_grammar.specs.Trees.{target_atom, spell_target, ActionTree, assert, retract, retract_slot}
use Rattle.prd_grammar.specs.Trees.{retract_object, modify, spell_action, ActionTrees, last_action, actions}
use Rattle.prd_grammar.specs.Trees.{spell_actions, BlockTree, acts, new_object, slot_value, spell_block}
use Rattle.prd_recognition.specs.Following.{after, followed}
use Rattle.prd_recognition.proofs.AfterLemmas.{after_parts}
use Rattle.prd_recognition.proofs.GoingTermLemmas.{StartsWithTerm, going_term, going_terms, going_pairs, after_named}
use Rattle.prd_recognition.proofs.GoingTermLemmas.{going_named_term, going_name}

target_is_named : (ws : List Want) (ls : List Leaf) →
    after (Some (Target ∷ ws)) ls ≡ after_named Target TargetAfterName TargetTail ws ls
target_is_named ws [] = refl
target_is_named ws (l ∷ ls) = refl

retracted_is_named : (ws : List Want) (ls : List Leaf) →
    after (Some (Retracted ∷ ws)) ls ≡ after_named Retracted RetractedAfterName RetractedTail ws ls
retracted_is_named ws [] = refl
retracted_is_named ws (l ∷ ls) = refl

-- a term that begins a target, or what is retracted, and what comes behind it
going_target_term : (o : TermTree) (ls : List Leaf) (ws : List Want) (rest : List Leaf) (end : Option (List Want)) →
    after (Some (TargetAfterName ∷ ws)) (ls ++ rest) ≡ end → after (Some (TargetTail ∷ ws)) (ls ++ rest) ≡ end →
    after (Some (Target ∷ ws)) ((spell_term o ++ ls) ++ rest) ≡ end
going_target_term o ls ws rest end n t =
    after_parts (Some (Target ∷ ws)) (spell_term o) ls rest
    ∙ (target_is_named ws (spell_term o ++ (ls ++ rest))
    ∙ going_named_term Target TargetAfterName TargetTail o ws (ls ++ rest) end n t)

going_retracted_term : (o : TermTree) (ls : List Leaf) (ws : List Want) (rest : List Leaf)
    (end : Option (List Want)) →
    after (Some (RetractedAfterName ∷ ws)) (ls ++ rest) ≡ end → after (Some (RetractedTail ∷ ws)) (ls ++ rest) ≡ end →
    after (Some (Retracted ∷ ws)) ((spell_term o ++ ls) ++ rest) ≡ end
going_retracted_term o ls ws rest end n t =
    after_parts (Some (Retracted ∷ ws)) (spell_term o) ls rest
    ∙ (retracted_is_named ws (spell_term o ++ (ls ++ rest))
    ∙ going_named_term Retracted RetractedAfterName RetractedTail o ws (ls ++ rest) end n t)

going_target : (t : TargetTree) (ws : List Want) (rest : List Leaf) →
    after (Some (Target ∷ ws)) (spell_target t ++ rest) ≡ after (Some ws) rest
going_target (target_member o c) ws rest =
    going_target_term o (Hash ∷ spell_term c) ws rest (after (Some ws) rest)
    (going_term c ws rest) (going_term c ws rest)
going_target (target_frame o ps) ws rest =
    going_target_term o (OpenSquareLeaf ∷ spell_pairs ps) ws rest (after (Some ws) rest)
    (going_pairs ps ws rest) (going_pairs ps ws rest)
going_target (target_atom n ts) ws rest =
    after_parts (Some (Target ∷ ws)) (spell_name n) (OpenLeaf ∷ spell_terms ts) rest
    ∙ (target_is_named ws (spell_name n ++ OpenLeaf ∷ (spell_terms ts ++ rest))
    ∙ (going_name Target TargetAfterName TargetTail n ws (OpenLeaf ∷ (spell_terms ts ++ rest))
    ∙ going_terms ts ws rest))

-- a target in the brackets of `Retract`, whose want ends with them
going_retracted : (t : TargetTree) (ws : List Want) (rest : List Leaf) →
    after (Some (Retracted ∷ ws)) (spell_target t ++ CloseLeaf ∷ rest) ≡ after (Some ws) rest
going_retracted (target_member o c) ws rest =
    going_retracted_term o (Hash ∷ spell_term c) ws (CloseLeaf ∷ rest) (after (Some ws) rest)
    (going_term c (Close ∷ ws) (CloseLeaf ∷ rest)) (going_term c (Close ∷ ws) (CloseLeaf ∷ rest))
going_retracted (target_frame o ps) ws rest =
    going_retracted_term o (OpenSquareLeaf ∷ spell_pairs ps) ws (CloseLeaf ∷ rest) (after (Some ws) rest)
    (going_pairs ps (Close ∷ ws) (CloseLeaf ∷ rest)) (going_pairs ps (Close ∷ ws) (CloseLeaf ∷ rest))
going_retracted (target_atom n ts) ws rest =
    after_parts (Some (Retracted ∷ ws)) (spell_name n) (OpenLeaf ∷ spell_terms ts) (CloseLeaf ∷ rest)
    ∙ (retracted_is_named ws (spell_name n ++ OpenLeaf ∷ (spell_terms ts ++ CloseLeaf ∷ rest))
    ∙ (going_name Retracted RetractedAfterName RetractedTail n ws (OpenLeaf ∷ (spell_terms ts ++ CloseLeaf ∷ rest))
    ∙ going_terms ts (Close ∷ ws) (CloseLeaf ∷ rest)))

slot_starts : StartsWithTerm RetractedTail (Close ∷ [])
slot_starts (constant (const_int z)) ws rest = refl
slot_starts (constant (const_string t)) ws rest = refl
slot_starts (constant (const_typed literal known)) ws rest = refl
slot_starts (constant (const_iri t)) ws rest = refl
slot_starts (constant (const_curie t)) ws rest = refl
slot_starts (constant (const_local t)) ws rest = refl
slot_starts (constant const_true) ws rest = refl
slot_starts (constant const_false) ws rest = refl
slot_starts (variable v) ws rest = refl
slot_starts (call f ts) ws rest = refl

slot_of_name_starts : StartsWithTerm RetractedAfterName (Close ∷ [])
slot_of_name_starts (constant (const_int z)) ws rest = refl
slot_of_name_starts (constant (const_string t)) ws rest = refl
slot_of_name_starts (constant (const_typed literal known)) ws rest = refl
slot_of_name_starts (constant (const_iri t)) ws rest = refl
slot_of_name_starts (constant (const_curie t)) ws rest = refl
slot_of_name_starts (constant (const_local t)) ws rest = refl
slot_of_name_starts (constant const_true) ws rest = refl
slot_of_name_starts (constant const_false) ws rest = refl
slot_of_name_starts (variable v) ws rest = refl
slot_of_name_starts (call f ts) ws rest = refl

-- the slot behind an object, and the bracket behind it
going_slot : (w : Want) → StartsWithTerm w (Close ∷ []) → (s : TermTree) (ws : List Want) (rest : List Leaf) →
    after (Some (w ∷ ws)) ((spell_term s ++ CloseLeaf ∷ []) ++ rest) ≡ after (Some ws) rest
going_slot w starts s ws rest =
    after_parts (Some (w ∷ ws)) (spell_term s) (CloseLeaf ∷ []) rest
    ∙ (starts s ws (CloseLeaf ∷ rest) ∙ going_term s (Close ∷ ws) (CloseLeaf ∷ rest))

going_modified : (o : TermTree) (ls : List Leaf) (ws : List Want) (rest : List Leaf) →
    after (Some (Term ∷ OpenSquare ∷ ws)) ((spell_term o ++ OpenSquareLeaf ∷ ls) ++ rest)
    ≡ after (Some ws) (ls ++ rest)
going_modified o ls ws rest =
    after_parts (Some (Term ∷ OpenSquare ∷ ws)) (spell_term o) (OpenSquareLeaf ∷ ls) rest
    ∙ going_term o (OpenSquare ∷ ws) (OpenSquareLeaf ∷ (ls ++ rest))

going_action : (a : ActionTree) (ws : List Want) (rest : List Leaf) →
    after (Some (Actions ∷ ws)) (spell_action a ++ rest) ≡ after (Some (Actions ∷ ws)) rest
going_action (assert t) ws rest =
    after_parts (Some (Target ∷ Close ∷ Actions ∷ ws)) (spell_target t) (CloseLeaf ∷ []) rest
    ∙ going_target t (Close ∷ Actions ∷ ws) (CloseLeaf ∷ rest)
going_action (retract t) ws rest =
    after_parts (Some (Retracted ∷ Actions ∷ ws)) (spell_target t) (CloseLeaf ∷ []) rest
    ∙ going_retracted t (Actions ∷ ws) rest
going_action (retract_slot o s) ws rest =
    going_retracted_term o (spell_term s ++ CloseLeaf ∷ []) (Actions ∷ ws) rest (after (Some (Actions ∷ ws)) rest)
    (going_slot RetractedAfterName slot_of_name_starts s (Actions ∷ ws) rest)
    (going_slot RetractedTail slot_starts s (Actions ∷ ws) rest)
going_action (retract_object o) ws rest =
    going_retracted_term o (CloseLeaf ∷ []) (Actions ∷ ws) rest (after (Some (Actions ∷ ws)) rest) refl refl
going_action (modify o ps) ws rest =
    going_modified o (spell_pairs ps ++ CloseLeaf ∷ []) (Term ∷ Arrow ∷ Term ∷ Pairs ∷ Close ∷ Actions ∷ ws) rest
    ∙ (after_parts (Some (Term ∷ Arrow ∷ Term ∷ Pairs ∷ Close ∷ Actions ∷ ws)) (spell_pairs ps) (CloseLeaf ∷ []) rest
    ∙ going_pairs ps (Close ∷ Actions ∷ ws) (CloseLeaf ∷ rest))

going_actions : (acs : ActionTrees) (ws : List Want) (rest : List Leaf) →
    after (Some (Actions ∷ ws)) (spell_actions acs ++ rest) ≡ after (Some ws) rest
going_actions (last_action a) ws rest =
    after_parts (Some (Actions ∷ ws)) (spell_action a) (CloseLeaf ∷ []) rest ∙ going_action a ws (CloseLeaf ∷ rest)
going_actions (actions a more) ws rest =
    after_parts (Some (Actions ∷ ws)) (spell_action a) (spell_actions more) rest
    ∙ (going_action a ws (spell_actions more ++ rest) ∙ going_actions more ws rest)

-- the actions of a block begin as all actions do
action_first : (a : ActionTree) (ls : List Leaf) (ws : List Want) (rest : List Leaf) →
    after (Some (Block ∷ ws)) ((spell_action a ++ ls) ++ rest)
    ≡ after (Some (Actions ∷ ws)) ((spell_action a ++ ls) ++ rest)
action_first (assert t) ls ws rest = refl
action_first (retract t) ls ws rest = refl
action_first (retract_slot o s) ls ws rest = refl
action_first (retract_object o) ls ws rest = refl
action_first (modify o ps) ls ws rest = refl

actions_first : (acs : ActionTrees) (ws : List Want) (rest : List Leaf) →
    after (Some (Block ∷ ws)) (spell_actions acs ++ rest) ≡ after (Some (Actions ∷ ws)) (spell_actions acs ++ rest)
actions_first (last_action a) ws rest = action_first a (CloseLeaf ∷ []) ws rest
actions_first (actions a more) ws rest = action_first a (spell_actions more) ws rest

abbrev slot_wants : List ℕ → List Want
slot_wants v = Term ∷ Arrow ∷ SameVariable v ∷ CloseSquare ∷ Close ∷ []

object_starts : (v : List ℕ) → StartsWithTerm (DeclRest v) (OpenSquare ∷ slot_wants v)
object_starts v (constant (const_int z)) ws rest = refl
object_starts v (constant (const_string t)) ws rest = refl
object_starts v (constant (const_typed literal known)) ws rest = refl
object_starts v (constant (const_iri t)) ws rest = refl
object_starts v (constant (const_curie t)) ws rest = refl
object_starts v (constant (const_local t)) ws rest = refl
object_starts v (constant const_true) ws rest = refl
object_starts v (constant const_false) ws rest = refl
object_starts v (variable u) ws rest = refl
object_starts v (call f ts) ws rest = refl

going_object : (v : List ℕ) (o : TermTree) (ls : List Leaf) (ws : List Want) (rest : List Leaf) →
    after (Some (DeclRest v ∷ ws)) ((spell_term o ++ OpenSquareLeaf ∷ ls) ++ rest)
    ≡ after (Some (slot_wants v ++ ws)) (ls ++ rest)
going_object v o ls ws rest =
    after_parts (Some (DeclRest v ∷ ws)) (spell_term o) (OpenSquareLeaf ∷ ls) rest
    ∙ (object_starts v o ws (OpenSquareLeaf ∷ (ls ++ rest))
    ∙ going_term o (OpenSquare ∷ (slot_wants v ++ ws)) (OpenSquareLeaf ∷ (ls ++ rest)))

-- a declaration's slot, and its variable again
going_value : (v : List ℕ) (s : TermTree) (ls : List Leaf) (ws : List Want) (rest : List Leaf) →
    after (Some (slot_wants v ++ ws)) ((spell_term s ++ ArrowLeaf ∷ Var v ∷ CloseSquareLeaf ∷ CloseLeaf ∷ ls) ++ rest)
    ≡ after (Some ws) (ls ++ rest)
going_value v s ls ws rest =
    after_parts (Some (slot_wants v ++ ws)) (spell_term s) (ArrowLeaf ∷ Var v ∷ CloseSquareLeaf ∷ CloseLeaf ∷ ls) rest
    ∙ (going_term s (Arrow ∷ SameVariable v ∷ CloseSquare ∷ Close ∷ ws)
    (ArrowLeaf ∷ Var v ∷ CloseSquareLeaf ∷ CloseLeaf ∷ (ls ++ rest))
    ∙ ap (λ b. after (followed (if b then Some [] else None) (CloseSquare ∷ Close ∷ ws))
    (CloseSquareLeaf ∷ CloseLeaf ∷ (ls ++ rest)))
    ((bytes_eq-Decides v v).1 refl))

pub going_block : (b : BlockTree) (ws : List Want) (rest : List Leaf) →
    after (Some (Block ∷ ws)) (spell_block b ++ rest) ≡ after (Some ws) rest
going_block (acts acs) ws rest = actions_first acs ws rest ∙ going_actions acs ws rest
going_block (new_object v b) ws rest = going_block b ws rest
going_block (slot_value v o s b) ws rest =
    going_object v o (spell_term s ++ ArrowLeaf ∷ Var v ∷ CloseSquareLeaf ∷ CloseLeaf ∷ spell_block b)
    (Block ∷ ws) rest
    ∙ (going_value v s (spell_block b) (Block ∷ ws) rest ∙ going_block b ws rest)
