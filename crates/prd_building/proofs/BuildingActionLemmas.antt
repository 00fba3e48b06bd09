-- Targets, actions, declarations and blocks that are spelled are built to their values.
use Rattle.std.proofs.Common.{◌≡◌, ℕ, ◌≤◌, zero, suc, true, false, List, [], ◌∷◌, ◌++◌, length, length-append, Some}
use Rattle.std.proofs.Common.{refl, ap, ◌∙◌, append_assoc, arith, drop}
use Rattle.rif_tree.specs.declared.tree.Term.{Term}
use Rattle.rif_tree.specs.declared.rule.Target.TheVariants.{Atom as AtomTarget, Frame as FrameTarget}
use Rattle.rif_tree.specs.declared.rule.Target.TheVariants.{Member as MemberTarget}
use Rattle.rif_tree.specs.declared.rule.Action.TheVariants.{Assert, Retract, RetractSlot, Modify}
use Rattle.rif_tree.specs.declared.rule.Decl.TheVariants.{Slot, New}
use Rattle.prd_grammar.specs.declared.leaf.Leaf.{Leaf}
use Rattle.prd_grammar.specs.declared.leaf.Leaf.TheVariants.{Var, Open, Close, CloseSquare, Arrow, Hash, OpenSquare}
use Rattle.prd_building.specs.declared.signs.TailSign.TheVariants.{Other as OtherSign}
use Rattle.prd_grammar.specs.Trees.{const_int, const_string, const_typed, const_iri, const_curie, const_local}
use Rattle.prd_grammar.specs.Trees.{const_true, const_false, NameTree, name_iri, name_curie, name_local}
use Rattle.prd_grammar.specs.Trees.{name_typed_iri, name_typed_local, spell_name, TermTree, constant, variable, call}
use Rattle.prd_grammar.specs.Trees.{TermTrees, spell_term, spell_terms, PairTrees, spell_pairs, TargetTree}
use Rattle.prd_grammar.specs.Trees.{target_member, target_frame, target_atom, spell_target, ActionTree, assert}
use Rattle.prd_grammar.specs.Trees.{retract, retract_slot, retract_object, modify, spell_action, ActionTrees}
use Rattle.prd_grammar.specs.Trees.{last_action, actions, spell_actions, BlockTree, acts, new_object, slot_value}
use Rattle.prd_grammar.specs.Trees.{spell_block}
use Rattle.prd_grammar.specs.Values.{place_of, name_value, term_value, pairs_value, target_value, action_value}
use Rattle.prd_grammar.specs.Values.{actions_value, block_decls, block_actions}
use Rattle.prd_building.specs.Signs.{first, leaf_name, closes, opens, ends_decls, is_atom, tail_sign, begins_new}
use Rattle.prd_building.specs.Building.{Names, after, items_at, term_at, terms_at, pairs_at, targeted_at, atom_at}
use Rattle.prd_building.specs.Building.{target_at, retracted, retracted_at, retract_at, assert_at, modify_at}
use Rattle.prd_building.specs.Building.{action_at}
use Rattle.prd_building.specs.Building.{actions_at, slot_at, decl_at, block_at}
use Rattle.prd_building.proofs.BuildingTermLemmas.{items_more, term_built, terms_built, pairs_built}

-- what a term begins with
no_atom : (t : TermTree) (ss : List Leaf) → opens ss ≡ false → is_atom (spell_term t ++ ss) ≡ false
no_atom (constant (const_int z)) ss e = e
no_atom (constant (const_string s)) ss e = e
no_atom (constant (const_typed l known)) ss e = e
no_atom (constant (const_iri s)) ss e = e
no_atom (constant (const_curie s)) ss e = e
no_atom (constant (const_local s)) ss e = e
no_atom (constant const_true) ss e = e
no_atom (constant const_false) ss e = e
no_atom (variable v) ss e = refl
no_atom (call f ts) ss e = refl

no_open : (t : TermTree) (rest : List Leaf) → opens (spell_term t ++ rest) ≡ false
no_open (constant (const_int z)) rest = refl
no_open (constant (const_string s)) rest = refl
no_open (constant (const_typed l known)) rest = refl
no_open (constant (const_iri s)) rest = refl
no_open (constant (const_curie s)) rest = refl
no_open (constant (const_local s)) rest = refl
no_open (constant const_true) rest = refl
no_open (constant const_false) rest = refl
no_open (variable v) rest = refl
no_open (call f ts) rest = refl

no_tail : (t : TermTree) (rest : List Leaf) → tail_sign (spell_term t ++ rest) ≡ OtherSign
no_tail (constant (const_int z)) rest = refl
no_tail (constant (const_string s)) rest = refl
no_tail (constant (const_typed l known)) rest = refl
no_tail (constant (const_iri s)) rest = refl
no_tail (constant (const_curie s)) rest = refl
no_tail (constant (const_local s)) rest = refl
no_tail (constant const_true) rest = refl
no_tail (constant const_false) rest = refl
no_tail (variable v) rest = refl
no_tail (call f ts) rest = refl

no_new : (t : TermTree) (rest : List Leaf) → begins_new (spell_term t ++ rest) ≡ false
no_new (constant (const_int z)) rest = refl
no_new (constant (const_string s)) rest = refl
no_new (constant (const_typed l known)) rest = refl
no_new (constant (const_iri s)) rest = refl
no_new (constant (const_curie s)) rest = refl
no_new (constant (const_local s)) rest = refl
no_new (constant const_true) rest = refl
no_new (constant const_false) rest = refl
no_new (variable v) rest = refl
no_new (call f ts) rest = refl

is_name : (m : NameTree) (ts : TermTrees) (rest : List Leaf) →
    is_atom ((spell_name m ++ Open ∷ spell_terms ts) ++ rest) ≡ true
is_name (name_iri s) ts rest = refl
is_name (name_curie s) ts rest = refl
is_name (name_local s) ts rest = refl
is_name (name_typed_iri s known) ts rest = refl
is_name (name_typed_local s known) ts rest = refl

atom_step : (names : Names) (n : ℕ) (m : NameTree) (ts : TermTrees) (rest : List Leaf) →
    atom_at names n ((spell_name m ++ Open ∷ spell_terms ts) ++ rest)
    ≡ after (terms_at names n (spell_terms ts ++ rest)) (λ us more. Some (AtomTarget (name_value m) us, drop 1 more))
atom_step names n (name_iri s) ts rest = refl
atom_step names n (name_curie s) ts rest = refl
atom_step names n (name_local s) ts rest = refl
atom_step names n (name_typed_iri s known) ts rest = refl
atom_step names n (name_typed_local s known) ts rest = refl

atom_built : (names : Names) (m : NameTree) (ts : TermTrees) (n : ℕ) (rest : List Leaf) →
    length (spell_target (target_atom m ts)) ≤ n →
    atom_at names n (spell_target (target_atom m ts) ++ rest) ≡ Some (target_value names (target_atom m ts), rest)
atom_built names m ts n rest h =
    let k = length-append (spell_name m) (Open ∷ spell_terms ts) in
    atom_step names n m ts rest
    ∙ ap (λ r. after r (λ us more. Some (AtomTarget (name_value m) us, drop 1 more)))
    (terms_built names ts n n rest (omega arith) (omega arith))

member_on : (names : Names) (o : Term) (c : TermTree) (n : ℕ) (rest : List Leaf) → length (spell_term c) ≤ n →
    targeted_at names n o (Hash ∷ (spell_term c ++ rest)) ≡ Some (MemberTarget o (term_value names c), rest)
member_on names o c n rest h =
    ap (λ r. after r (λ d more. Some (MemberTarget o d, more))) (term_built names c n rest h)

frame_on : (names : Names) (o : Term) (ps : PairTrees) (n : ℕ) (rest : List Leaf) → length (spell_pairs ps) ≤ n →
    targeted_at names n o (OpenSquare ∷ (spell_pairs ps ++ rest)) ≡ Some (FrameTarget o (pairs_value names ps), rest)
frame_on names o ps n rest h =
    ap (λ r. after r (λ slots more. Some (FrameTarget o slots, drop 1 more))) (pairs_built names ps n n rest h h)

target_by_name : (names : Names) (n : ℕ) (ss : List Leaf) → is_atom ss ≡ true →
    target_at names n ss ≡ atom_at names n ss
target_by_name names n ss e = rw e refl

target_by_term : (names : Names) (n : ℕ) (ss : List Leaf) → is_atom ss ≡ false →
    target_at names n ss ≡ after (term_at names n ss) (targeted_at names n)
target_by_term names n ss e = rw e refl

target_of : (names : Names) (n : ℕ) (o : TermTree) (ss : List Leaf) → opens ss ≡ false → length (spell_term o) ≤ n →
    target_at names n (spell_term o ++ ss) ≡ targeted_at names n (term_value names o) ss
target_of names n o ss e h = target_by_term names n (spell_term o ++ ss) (no_atom o ss e)
    ∙ ap (λ r. after r (targeted_at names n)) (term_built names o n ss h)

pub target_built : (names : Names) (t : TargetTree) (n : ℕ) (rest : List Leaf) → length (spell_target t) ≤ n →
    target_at names n (spell_target t ++ rest) ≡ Some (target_value names t, rest)
target_built names (target_member o c) n rest h =
    let k = length-append (spell_term o) (Hash ∷ spell_term c) in
    ap (target_at names n) (append_assoc (spell_term o) (Hash ∷ spell_term c) rest)
    ∙ (target_of names n o (Hash ∷ (spell_term c ++ rest)) refl (omega arith)
    ∙ member_on names (term_value names o) c n rest (omega arith))
target_built names (target_frame o ps) n rest h =
    let k = length-append (spell_term o) (OpenSquare ∷ spell_pairs ps) in
    ap (target_at names n) (append_assoc (spell_term o) (OpenSquare ∷ spell_pairs ps) rest)
    ∙ (target_of names n o (OpenSquare ∷ (spell_pairs ps ++ rest)) refl (omega arith)
    ∙ frame_on names (term_value names o) ps n rest (omega arith))
target_built names (target_atom m ts) n rest h =
    target_by_name names n (spell_target (target_atom m ts) ++ rest) (is_name m ts rest)
    ∙ atom_built names m ts n rest h

retract_by_name : (names : Names) (n : ℕ) (ss : List Leaf) → is_atom ss ≡ true →
    retract_at names n ss ≡ after (atom_at names n ss) retracted
retract_by_name names n ss e = rw e refl

retract_by_term : (names : Names) (n : ℕ) (ss : List Leaf) → is_atom ss ≡ false →
    retract_at names n ss ≡ after (term_at names n ss) (retracted_at names n)
retract_by_term names n ss e = rw e refl

retract_of : (names : Names) (n : ℕ) (o : TermTree) (ss : List Leaf) → opens ss ≡ false → length (spell_term o) ≤ n →
    retract_at names n (spell_term o ++ ss) ≡ retracted_at names n (term_value names o) ss
retract_of names n o ss e h = retract_by_term names n (spell_term o ++ ss) (no_atom o ss e)
    ∙ ap (λ r. after r (retracted_at names n)) (term_built names o n ss h)

retracted_slot : (names : Names) (n : ℕ) (o : Term) (ss : List Leaf) → tail_sign ss ≡ OtherSign →
    retracted_at names n o ss ≡ after (term_at names n ss) (λ s more. Some (RetractSlot o s, drop 1 more))
retracted_slot names n o ss e = rw (e, retracted_at) refl

retract_built : (names : Names) (t : TargetTree) (n : ℕ) (rest : List Leaf) → length (spell_target t) ≤ n →
    retract_at names n (spell_target t ++ Close ∷ rest) ≡ Some (Retract (target_value names t), rest)
retract_built names (target_member o c) n rest h =
    let k = length-append (spell_term o) (Hash ∷ spell_term c) in
    ap (retract_at names n) (append_assoc (spell_term o) (Hash ∷ spell_term c) (Close ∷ rest))
    ∙ (retract_of names n o (Hash ∷ (spell_term c ++ Close ∷ rest)) refl (omega arith)
    ∙ ap (λ r. after r retracted) (member_on names (term_value names o) c n (Close ∷ rest) (omega arith)))
retract_built names (target_frame o ps) n rest h =
    let k = length-append (spell_term o) (OpenSquare ∷ spell_pairs ps) in
    ap (retract_at names n) (append_assoc (spell_term o) (OpenSquare ∷ spell_pairs ps) (Close ∷ rest))
    ∙ (retract_of names n o (OpenSquare ∷ (spell_pairs ps ++ Close ∷ rest)) refl (omega arith)
    ∙ ap (λ r. after r retracted) (frame_on names (term_value names o) ps n (Close ∷ rest) (omega arith)))
retract_built names (target_atom m ts) n rest h =
    retract_by_name names n (spell_target (target_atom m ts) ++ Close ∷ rest) (is_name m ts (Close ∷ rest))
    ∙ ap (λ r. after r retracted) (atom_built names m ts n (Close ∷ rest) h)

pub action_built : (names : Names) (a : ActionTree) (n : ℕ) (rest : List Leaf) → length (spell_action a) ≤ n →
    action_at names n (spell_action a ++ rest) ≡ Some (action_value names a, rest)
action_built names (assert t) n rest h =
    let k = length-append (spell_target t) (Close ∷ []) in
    ap (assert_at names n) (append_assoc (spell_target t) (Close ∷ []) rest)
    ∙ ap (λ r. after r (λ u more. Some (Assert u, drop 1 more))) (target_built names t n (Close ∷ rest) (omega arith))
action_built names (retract t) n rest h =
    let k = length-append (spell_target t) (Close ∷ []) in
    ap (retract_at names n) (append_assoc (spell_target t) (Close ∷ []) rest)
    ∙ retract_built names t n rest (omega arith)
action_built names (retract_slot o s) n rest h =
    let k = length-append (spell_term o) (spell_term s ++ Close ∷ []) in
    let l = length-append (spell_term s) (Close ∷ []) in
    ap (retract_at names n) (append_assoc (spell_term o) (spell_term s ++ Close ∷ []) rest
    ∙ ap (λ more. spell_term o ++ more) (append_assoc (spell_term s) (Close ∷ []) rest))
    ∙ (retract_of names n o (spell_term s ++ Close ∷ rest) (no_open s (Close ∷ rest)) (omega arith)
    ∙ (retracted_slot names n (term_value names o) (spell_term s ++ Close ∷ rest) (no_tail s (Close ∷ rest))
    ∙ ap (λ r. after r (λ x more. Some (RetractSlot (term_value names o) x, drop 1 more)))
    (term_built names s n (Close ∷ rest) (omega arith))))
action_built names (retract_object o) n rest h =
    let k = length-append (spell_term o) (Close ∷ []) in
    ap (retract_at names n) (append_assoc (spell_term o) (Close ∷ []) rest)
    ∙ retract_of names n o (Close ∷ rest) refl (omega arith)
action_built names (modify o ps) n rest h =
    let k = length-append (spell_term o) (OpenSquare ∷ (spell_pairs ps ++ Close ∷ [])) in
    let l = length-append (spell_pairs ps) (Close ∷ []) in
    ap (modify_at names n) (append_assoc (spell_term o) (OpenSquare ∷ (spell_pairs ps ++ Close ∷ [])) rest
    ∙ ap (λ more. spell_term o ++ OpenSquare ∷ more) (append_assoc (spell_pairs ps) (Close ∷ []) rest))
    ∙ (ap (λ r. after r (λ x left. after (pairs_at names n (drop 1 left))
    (λ slots more. Some (Modify x slots, drop 2 more))))
    (term_built names o n (OpenSquare ∷ (spell_pairs ps ++ Close ∷ rest)) (omega arith))
    ∙ ap (λ r. after r (λ slots more. Some (Modify (term_value names o) slots, drop 2 more)))
    (pairs_built names ps n n (Close ∷ rest) (omega arith) (omega arith)))

action_begins : (a : ActionTree) (rest : List Leaf) → closes (spell_action a ++ rest) ≡ false
action_begins (assert t) rest = refl
action_begins (retract t) rest = refl
action_begins (retract_slot o s) rest = refl
action_begins (retract_object o) rest = refl
action_begins (modify o ps) rest = refl

no_decl : (a : ActionTree) (rest : List Leaf) → ends_decls (spell_action a ++ rest) ≡ true
no_decl (assert t) rest = refl
no_decl (retract t) rest = refl
no_decl (retract_slot o s) rest = refl
no_decl (retract_object o) rest = refl
no_decl (modify o ps) rest = refl

action_some : (a : ActionTree) → 1 ≤ length (spell_action a)
action_some (assert t) = omega arith
action_some (retract t) = omega arith
action_some (retract_slot o s) = omega arith
action_some (retract_object o) = omega arith
action_some (modify o ps) = omega arith

-- before the bracket that closes them
pub acts_built : (names : Names) (more : ActionTrees) (n most : ℕ) (rest : List Leaf) →
    length (spell_actions more) ≤ n → length (spell_actions more) ≤ most →
    items_at closes (action_at names most) n (spell_actions more ++ rest)
    ≡ Some (actions_value names more, Close ∷ rest)
acts_built names (last_action a) zero most rest h i =
    absurd (let k = length-append (spell_action a) (Close ∷ []) in omega arith)
acts_built names (last_action a) (suc zero) most rest h i =
    absurd (let k = length-append (spell_action a) (Close ∷ []) in let s = action_some a in omega arith)
acts_built names (last_action a) (suc (suc n)) most rest h i =
    let k = length-append (spell_action a) (Close ∷ []) in
    ap (items_at closes (action_at names most) (suc (suc n))) (append_assoc (spell_action a) (Close ∷ []) rest)
    ∙ items_more closes (action_at names most) (suc n) (spell_action a ++ Close ∷ rest) (Close ∷ rest) (Close ∷ rest)
    (action_value names a) []
    (action_begins a (Close ∷ rest)) (action_built names a most (Close ∷ rest) (omega arith)) refl
acts_built names (actions a more) zero most rest h i =
    absurd (let k = length-append (spell_action a) (spell_actions more) in let s = action_some a in omega arith)
acts_built names (actions a more) (suc n) most rest h i =
    let k = length-append (spell_action a) (spell_actions more) in
    let s = action_some a in
    ap (items_at closes (action_at names most) (suc n)) (append_assoc (spell_action a) (spell_actions more) rest)
    ∙ items_more closes (action_at names most) n (spell_action a ++ (spell_actions more ++ rest))
    (spell_actions more ++ rest) (Close ∷ rest) (action_value names a) (actions_value names more)
    (action_begins a (spell_actions more ++ rest))
    (action_built names a most (spell_actions more ++ rest) (omega arith))
    (acts_built names more n most rest (omega arith) (omega arith))

-- a block's actions
abbrev acts_of : BlockTree → ActionTrees
acts_of (acts a) = a
acts_of (new_object v b) = acts_of b
acts_of (slot_value v o s b) = acts_of b

same_acts : (names : Names) (b : BlockTree) → actions_value names (acts_of b) ≡ block_actions names b
same_acts names (acts a) = refl
same_acts names (new_object v b) = same_acts names b
same_acts names (slot_value v o s b) = same_acts names b

acts_within : (b : BlockTree) → length (spell_actions (acts_of b)) ≤ length (spell_block b)
acts_within (acts a) = omega arith
acts_within (new_object v b) = let k = acts_within b in omega arith
acts_within (slot_value v o s b) =
    let k = acts_within b in
    let l = length-append (spell_term o)
    (OpenSquare ∷ (spell_term s ++ Arrow ∷ Var v ∷ CloseSquare ∷ Close ∷ spell_block b)) in
    let m = length-append (spell_term s) (Arrow ∷ Var v ∷ CloseSquare ∷ Close ∷ spell_block b) in
    omega arith

acts_end : (a : ActionTrees) (rest : List Leaf) → ends_decls (spell_actions a ++ rest) ≡ true
acts_end (last_action a) rest = ap ends_decls (append_assoc (spell_action a) (Close ∷ []) rest)
    ∙ no_decl a (Close ∷ rest)
acts_end (actions a more) rest = ap ends_decls (append_assoc (spell_action a) (spell_actions more) rest)
    ∙ no_decl a (spell_actions more ++ rest)

decl_by_slot : (names : Names) (n : ℕ) (ss : List Leaf) → begins_new (drop 2 ss) ≡ false →
    decl_at names n ss ≡ slot_at names n (place_of names (leaf_name (first (drop 1 ss)))) (drop 2 ss)
decl_by_slot names n ss e = rw e refl

slot_built : (names : Names) (v : List ℕ) (o s : TermTree) (most : ℕ) (rest : List Leaf) →
    length (spell_term o) ≤ most → length (spell_term s) ≤ most →
    decl_at names most (Open ∷ Var v
    ∷ (spell_term o ++ OpenSquare ∷ (spell_term s ++ Arrow ∷ Var v ∷ CloseSquare ∷ Close ∷ rest)))
    ≡ Some (Slot (place_of names v) (term_value names o) (term_value names s), rest)
slot_built names v o s most rest h i =
    decl_by_slot names most
    (Open ∷ Var v ∷ (spell_term o ++ OpenSquare ∷ (spell_term s ++ Arrow ∷ Var v ∷ CloseSquare ∷ Close ∷ rest)))
    (no_new o (OpenSquare ∷ (spell_term s ++ Arrow ∷ Var v ∷ CloseSquare ∷ Close ∷ rest)))
    ∙ (ap (λ r. after r (λ x left. after (term_at names most (drop 1 left))
    (λ y more. Some (Slot (place_of names v) x y, drop 4 more))))
    (term_built names o most (OpenSquare ∷ (spell_term s ++ Arrow ∷ Var v ∷ CloseSquare ∷ Close ∷ rest)) h)
    ∙ ap (λ r. after r (λ y more. Some (Slot (place_of names v) (term_value names o) y, drop 4 more)))
    (term_built names s most (Arrow ∷ Var v ∷ CloseSquare ∷ Close ∷ rest) i))

decls_built : (names : Names) (b : BlockTree) (n most : ℕ) (rest : List Leaf) → length (spell_block b) ≤ n →
    length (spell_block b) ≤ most →
    items_at ends_decls (decl_at names most) n (spell_block b ++ rest)
    ≡ Some (block_decls names b, spell_actions (acts_of b) ++ rest)
decls_built names (acts (last_action a)) zero most rest h i =
    absurd (let k = length-append (spell_action a) (Close ∷ []) in let s = action_some a in omega arith)
decls_built names (acts (actions a more)) zero most rest h i =
    absurd (let k = length-append (spell_action a) (spell_actions more) in let s = action_some a in omega arith)
decls_built names (acts a) (suc n) most rest h i = rw (acts_end a rest) refl
decls_built names (new_object v b) zero most rest h i = absurd (omega arith)
decls_built names (new_object v b) (suc n) most rest h i =
    items_more ends_decls (decl_at names most) n (spell_block (new_object v b) ++ rest) (spell_block b ++ rest)
    (spell_actions (acts_of b) ++ rest) (New (place_of names v)) (block_decls names b)
    refl refl (decls_built names b n most rest (omega arith) (omega arith))
decls_built names (slot_value v o s b) zero most rest h i = absurd (omega arith)
decls_built names (slot_value v o s b) (suc n) most rest h i =
    let l = length-append (spell_term o)
    (OpenSquare ∷ (spell_term s ++ Arrow ∷ Var v ∷ CloseSquare ∷ Close ∷ spell_block b)) in
    let m = length-append (spell_term s) (Arrow ∷ Var v ∷ CloseSquare ∷ Close ∷ spell_block b) in
    ap (λ more. items_at ends_decls (decl_at names most) (suc n) (Open ∷ Var v ∷ more))
    (append_assoc (spell_term o)
    (OpenSquare ∷ (spell_term s ++ Arrow ∷ Var v ∷ CloseSquare ∷ Close ∷ spell_block b)) rest
    ∙ ap (λ more. spell_term o ++ OpenSquare ∷ more)
    (append_assoc (spell_term s) (Arrow ∷ Var v ∷ CloseSquare ∷ Close ∷ spell_block b) rest))
    ∙ items_more ends_decls (decl_at names most) n
    (Open ∷ Var v ∷ (spell_term o ++ OpenSquare
    ∷ (spell_term s ++ Arrow ∷ Var v ∷ CloseSquare ∷ Close ∷ (spell_block b ++ rest)))) (spell_block b ++ rest)
    (spell_actions (acts_of b) ++ rest) (Slot (place_of names v) (term_value names o) (term_value names s))
    (block_decls names b)
    refl (slot_built names v o s most (spell_block b ++ rest) (omega arith) (omega arith))
    (decls_built names b n most rest (omega arith) (omega arith))

pub block_built : (names : Names) (b : BlockTree) (n : ℕ) (rest : List Leaf) → length (spell_block b) ≤ n →
    block_at names n (spell_block b ++ rest) ≡ Some ((block_decls names b, block_actions names b), rest)
block_built names b n rest h =
    let k = acts_within b in
    ap (λ r. after r (λ ds left. after (actions_at names n left) (λ more end. Some ((ds, more), drop 1 end))))
    (decls_built names b n n rest h h)
    ∙ (ap (λ r. after r (λ more end. Some ((block_decls names b, more), drop 1 end)))
    (acts_built names (acts_of b) n n rest (omega arith) (omega arith))
    ∙ ap (λ more. Some ((block_decls names b, more), rest)) (same_acts names b))
