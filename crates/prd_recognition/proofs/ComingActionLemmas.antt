-- What each leaf begins where a target, an action, a declaration or a block has to come.
use Rattle.std.proofs.Common.{◌≡◌, ℕ, List, [], ◌∷◌, ◌++◌, Some, None, refl, ap, ◌∙◌}
use Rattle.std.specs.declared.option.Option.{Option}
use Rattle.prd_grammar.specs.declared.leaf.Keyword.TheVariants.{New, Assert, Retract, Modify}
use Rattle.prd_grammar.specs.declared.leaf.Leaf.{Leaf}
use Rattle.prd_grammar.specs.declared.leaf.Leaf.TheVariants.{Key, Var, Open as OpenLeaf, Close as CloseLeaf}
use Rattle.prd_grammar.specs.declared.leaf.Leaf.TheVariants.{OpenSquare as OpenSquareLeaf, Hash}
use Rattle.prd_recognition.specs.declared.want.Want.{Want}
use Rattle.prd_recognition.specs.declared.want.Want.TheVariants.{Block, Actions, DeclVariable, DeclRest, SameVariable}
use Rattle.prd_recognition.specs.declared.want.Want.TheVariants.{Target, TargetTail, TargetAfterName, Retracted}
use Rattle.prd_recognition.specs.declared.want.Want.TheVariants.{RetractedTail, RetractedAfterName, Term, OpenSquare}
use Rattle.prd_recognition.specs.declared.want.Want.TheVariants.{CloseSquare, Arrow, Close}
use Rattle.prd_recognition.specs.Following.{next, followed, term_next, target_tail_next, retracted_tail_next}
use Rattle.prd_recognition.specs.Following.{action_next}
use Rattle.prd_recognition.specs.Following.{decl_next}
use Rattle.prd_grammar.specs.Trees.{NameTree, const_of_name, TermTree, constant, TargetTree, target_member}
use Rattle.prd_grammar.specs.Trees.{target_frame, target_atom, ActionTree, assert, retract, retract_slot}
use Rattle.prd_grammar.specs.Trees.{retract_object, modify, ActionTrees, last_action, actions, BlockTree, acts}
use Rattle.prd_grammar.specs.Trees.{new_object, slot_value}
use Rattle.prd_grammar.proofs.CallerLemmas.{put_name, put_term, put_target, put_action, put_actions, put_block}
use Rattle.prd_recognition.proofs.ComingPieces.{TargetLeft, class_left, frame_left, put_target_left, TargetNameLeft}
use Rattle.prd_recognition.proofs.ComingPieces.{target_atom_left, target_left, put_target_name_left, RetractedTree}
use Rattle.prd_recognition.proofs.ComingPieces.{retracted_target, retracted_slot, retracted_object, put_retracted}
use Rattle.prd_recognition.proofs.ComingPieces.{RetractedLeft, object_left, slot_left, retracted_left}
use Rattle.prd_recognition.proofs.ComingPieces.{put_retracted_left}
use Rattle.prd_recognition.proofs.ComingPieces.{RetractedNameLeft, retracted_atom_left, retracted_other_left}
use Rattle.prd_recognition.proofs.ComingPieces.{put_retracted_name_left, ActionsLeft, no_actions, some_actions}
use Rattle.prd_recognition.proofs.ComingPieces.{put_actions_left, new_left, value_left, DeclTree, declared, put_decl}
use Rattle.prd_recognition.proofs.ComingPieces.{Pieces, put_all, Builds, Joins, JoinsName, with_others, as_other}
use Rattle.prd_recognition.proofs.ComingTermLemmas.{term_begins, named_begins, one_more_pair, put_one_more_pair}

-- targets

pub target_tail_begins : (l : Leaf) → Builds (target_tail_next l) TargetTail l
target_tail_begins Hash = λ ws xs. (class_left xs.0, xs.1, refl)
target_tail_begins OpenSquareLeaf = λ ws xs.
    let value = xs.1.1 in let left = value.1 in (
      frame_left (one_more_pair xs.0 value.0 left.0),
      left.1,
      ap (λ r. OpenSquareLeaf ∷ r) (put_one_more_pair xs.0 value.0 left.0 _),
    )
target_tail_begins _ = tt

join_target_tail : Joins TargetTail [] TargetAfterName
join_target_tail t ws xs = (target_left t, xs, refl)

pub target_after_name_begins : (l : Leaf) → Builds (next TargetAfterName l) TargetAfterName l
target_after_name_begins OpenLeaf = λ ws xs. (target_atom_left xs.0, xs.1, refl)
target_after_name_begins l =
    as_other (target_tail_next l) TargetTail TargetAfterName l (target_tail_begins l) join_target_tail

abbrev term_target : TermTree → TargetLeft → TargetTree
term_target o (class_left c) = target_member o c
term_target o (frame_left ps) = target_frame o ps

put_term_target : (o : TermTree) (x : TargetLeft) (ls : List Leaf) →
    put_target (term_target o x) ls ≡ put_term o (put_target_left x ls)
put_term_target o (class_left c) ls = refl
put_term_target o (frame_left ps) ls = refl

abbrev name_target : NameTree → TargetNameLeft → TargetTree
name_target n (target_atom_left ts) = target_atom n ts
name_target n (target_left x) = term_target (constant (const_of_name n)) x

put_name_target : (n : NameTree) (x : TargetNameLeft) (ls : List Leaf) →
    put_target (name_target n x) ls ≡ put_name n (put_target_name_left x ls)
put_name_target n (target_atom_left ts) ls = refl
put_name_target n (target_left x) ls = put_term_target (constant (const_of_name n)) x ls

join_term_target : Joins Term (TargetTail ∷ []) Target
join_term_target o ws xs = (term_target o xs.0, xs.1, put_term_target o xs.0 _)

join_name_target : JoinsName TargetAfterName Target
join_name_target n ws xs = (name_target n xs.0, xs.1, put_name_target n xs.0 _)

pub target_begins : (l : Leaf) → Builds (next Target l) Target l
target_begins l = named_begins TargetAfterName TargetTail Target l join_name_target join_term_target

-- what is retracted

join_slot : Joins Term (Close ∷ []) RetractedTail
join_slot s ws xs = (slot_left s, xs.1, refl)

pub retracted_tail_begins : (l : Leaf) → Builds (retracted_tail_next l) RetractedTail l
retracted_tail_begins CloseLeaf = λ ws xs. (object_left, xs, refl)
retracted_tail_begins Hash = λ ws xs. (retracted_left (class_left xs.0), xs.1.1, refl)
retracted_tail_begins OpenSquareLeaf = λ ws xs.
    let value = xs.1.1 in let left = value.1 in (
      retracted_left (frame_left (one_more_pair xs.0 value.0 left.0)),
      left.1.1,
      ap (λ r. OpenSquareLeaf ∷ r) (put_one_more_pair xs.0 value.0 left.0 _),
    )
retracted_tail_begins l = with_others (term_next l) (Close ∷ []) Term RetractedTail l (term_begins l) join_slot

join_retracted_tail : Joins RetractedTail [] RetractedAfterName
join_retracted_tail t ws xs = (retracted_other_left t, xs, refl)

pub retracted_after_name_begins : (l : Leaf) → Builds (next RetractedAfterName l) RetractedAfterName l
retracted_after_name_begins OpenLeaf = λ ws xs. (retracted_atom_left xs.0, xs.1.1, refl)
retracted_after_name_begins l =
    as_other (retracted_tail_next l) RetractedTail RetractedAfterName l (retracted_tail_begins l) join_retracted_tail

abbrev term_retracted : TermTree → RetractedLeft → RetractedTree
term_retracted o object_left = retracted_object o
term_retracted o (slot_left s) = retracted_slot o s
term_retracted o (retracted_left x) = retracted_target (term_target o x)

put_term_retracted : (o : TermTree) (x : RetractedLeft) (ls : List Leaf) →
    put_retracted (term_retracted o x) ls ≡ put_term o (put_retracted_left x ls)
put_term_retracted o object_left ls = refl
put_term_retracted o (slot_left s) ls = refl
put_term_retracted o (retracted_left x) ls = put_term_target o x (CloseLeaf ∷ ls)

abbrev name_retracted : NameTree → RetractedNameLeft → RetractedTree
name_retracted n (retracted_atom_left ts) = retracted_target (target_atom n ts)
name_retracted n (retracted_other_left x) = term_retracted (constant (const_of_name n)) x

put_name_retracted : (n : NameTree) (x : RetractedNameLeft) (ls : List Leaf) →
    put_retracted (name_retracted n x) ls ≡ put_name n (put_retracted_name_left x ls)
put_name_retracted n (retracted_atom_left ts) ls = refl
put_name_retracted n (retracted_other_left x) ls = put_term_retracted (constant (const_of_name n)) x ls

join_term_retracted : Joins Term (RetractedTail ∷ []) Retracted
join_term_retracted o ws xs = (term_retracted o xs.0, xs.1, put_term_retracted o xs.0 _)

join_name_retracted : JoinsName RetractedAfterName Retracted
join_name_retracted n ws xs = (name_retracted n xs.0, xs.1, put_name_retracted n xs.0 _)

pub retracted_begins : (l : Leaf) → Builds (next Retracted l) Retracted l
retracted_begins l =
    named_begins RetractedAfterName RetractedTail Retracted l join_name_retracted join_term_retracted

-- actions: no want stands for one alone

abbrev retract_action : RetractedTree → ActionTree
retract_action (retracted_target t) = retract t
retract_action (retracted_slot o s) = retract_slot o s
retract_action (retracted_object o) = retract_object o

put_retract_action : (x : RetractedTree) (ls : List Leaf) →
    put_action (retract_action x) ls ≡ Key Retract ∷ OpenLeaf ∷ put_retracted x ls
put_retract_action (retracted_target t) ls = refl
put_retract_action (retracted_slot o s) ls = refl
put_retract_action (retracted_object o) ls = refl

abbrev one_more_action : ActionTree → ActionsLeft → ActionTrees
one_more_action a no_actions = last_action a
one_more_action a (some_actions more) = actions a more

put_one_more_action : (a : ActionTree) (x : ActionsLeft) (ls : List Leaf) →
    put_actions (one_more_action a x) ls ≡ put_action a (put_actions_left x ls)
put_one_more_action a no_actions ls = refl
put_one_more_action a (some_actions more) ls = refl

-- what a leaf leads to, behind this leaf, is actions and their bracket
abbrev BuildsActions : Option (List Want) → Leaf → Type 0
BuildsActions None l = Unit {0}
BuildsActions (Some more) l = (ws : List Want) (xs : Pieces (more ++ ws)) →
    (x : ActionTrees) × (ys : Pieces ws) × (put_actions x (put_all ws ys) ≡ l ∷ put_all (more ++ ws) xs)

action_begins : (l : Leaf) → BuildsActions (followed (action_next l) (Actions ∷ [])) l
action_begins (Key Assert) = λ ws xs.
    let target = xs.1 in let left = target.1.1 in
    (one_more_action (assert target.0) left.0, left.1, put_one_more_action (assert target.0) left.0 _)
action_begins (Key Retract) = λ ws xs.
    let retracted = xs.1 in let left = retracted.1 in (
      one_more_action (retract_action retracted.0) left.0,
      left.1,
      put_one_more_action (retract_action retracted.0) left.0 _ ∙ put_retract_action retracted.0 _,
    )
action_begins (Key Modify) = λ ws xs.
    let object = xs.1 in let slot = object.1.1 in let value = slot.1.1 in let others = value.1 in
    let left = others.1.1 in
    let all = one_more_pair slot.0 value.0 others.0 in
    let behind = CloseLeaf ∷ put_actions_left left.0 (put_all ws left.1) in
    let pairs_are = put_one_more_pair slot.0 value.0 others.0 behind in (
      one_more_action (modify object.0 all) left.0,
      left.1,
      put_one_more_action (modify object.0 all) left.0 _
          ∙ ap (λ r. Key Modify ∷ OpenLeaf ∷ put_term object.0 (OpenSquareLeaf ∷ r)) pairs_are,
    )
action_begins _ = tt

as_actions_left : (m : Option (List Want)) (l : Leaf) → BuildsActions m l → Builds m Actions l
as_actions_left None l builds = tt
as_actions_left (Some more) l builds = λ ws xs.
    let found = builds ws xs in (some_actions found.0, found.1, found.2)

as_block : (m : Option (List Want)) (l : Leaf) → BuildsActions m l → Builds m Block l
as_block None l builds = tt
as_block (Some more) l builds = λ ws xs. let found = builds ws xs in (acts found.0, found.1, found.2)

pub actions_begin : (l : Leaf) → Builds (next Actions l) Actions l
actions_begin CloseLeaf = λ ws xs. (no_actions, xs, refl)
actions_begin l = as_actions_left (followed (action_next l) (Actions ∷ [])) l (action_begins l)

-- blocks

abbrev value_wants : List ℕ → List Want
value_wants v = OpenSquare ∷ Term ∷ Arrow ∷ SameVariable v ∷ CloseSquare ∷ Close ∷ []

join_value : (v : List ℕ) → Joins Term (value_wants v) (DeclRest v)
join_value v o ws xs = let slot = xs.1 in (value_left o slot.0, slot.1.1.1.1.1, refl)

pub decl_rest_begins : (v : List ℕ) (l : Leaf) → Builds (decl_next v l) (DeclRest v) l
decl_rest_begins v (Key New) = λ ws xs. (new_left, xs.1.1.1, refl)
decl_rest_begins v l = with_others (term_next l) (value_wants v) Term (DeclRest v) l (term_begins l) (join_value v)

pub decl_begins : (l : Leaf) → Builds (next DeclVariable l) DeclVariable l
decl_begins (Var v) = λ ws xs. (declared v xs.0, xs.1, refl)
decl_begins _ = tt

abbrev decl_block : DeclTree → BlockTree → BlockTree
decl_block (declared v new_left) b = new_object v b
decl_block (declared v (value_left o s)) b = slot_value v o s b

put_decl_block : (d : DeclTree) (b : BlockTree) (ls : List Leaf) →
    put_block (decl_block d b) ls ≡ OpenLeaf ∷ put_decl d (put_block b ls)
put_decl_block (declared v new_left) b ls = refl
put_decl_block (declared v (value_left o s)) b ls = refl

pub block_begins : (l : Leaf) → Builds (next Block l) Block l
block_begins OpenLeaf = λ ws xs. (decl_block xs.0 xs.1.0, xs.1.1, put_decl_block xs.0 xs.1.0 _)
block_begins l = as_block (followed (action_next l) (Actions ∷ [])) l (action_begins l)
