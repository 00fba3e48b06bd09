-- Facts, and what may be retracted: what is read is spelled so, and what is spelled so is read.
use Rattle.std.proofs.Common.{◌≡◌, ◌∙◌, sym, subst, ap, refl, ℕ, pos, negsuc, Bool, true, false, List, [], ◌∷◌, ◌++◌}
use Rattle.std.proofs.Common.{append-nil, Option, Some, None, cond, length, arith, ◌⊎◌, inl, inr}
use Rattle.rif_values.specs.declared.constant.Const.{Const}
use Rattle.rif_values.specs.declared.change.Change.{Change}
use Rattle.rif_values.specs.declared.change.Change.TheVariants.{Assert, Retract, RetractSlot, RetractObject, Modify}
use Rattle.rif_values.specs.declared.fact.Fact.{Fact}
use Rattle.rif_values.specs.declared.fact.Fact.TheVariants.{Atom, Frame, Member}
use Rattle.prd_grammar.specs.declared.leaf.Leaf.{Leaf}
use Rattle.prd_grammar.specs.declared.leaf.Leaf.TheVariants.{Int, Open, OpenSquare, CloseSquare, Hash, Arrow}
use Rattle.prd_reader.specs.FactForm.{HasNoRefusal, ConstTrees, terms_of_consts, consts_value, FactTree, fact_member}
use Rattle.prd_reader.specs.FactForm.{fact_frame, fact_atom, spell_fact, fact_value, IsConstForm, IsConstsForm}
use Rattle.prd_reader.specs.FactForm.{IsFactForm, IsNumberForm}
use Rattle.prd_grammar.specs.Trees.{ConstTree, const_int, const_string, const_typed, const_iri, const_curie}
use Rattle.prd_grammar.specs.Trees.{const_local, const_true, const_false, spell_const, NameTree, const_of_name}
use Rattle.prd_grammar.specs.Trees.{spell_name}
use Rattle.prd_grammar.specs.Trees.{spell_terms}
use Rattle.prd_grammar.specs.Values.{const_value}
use Rattle.rif_script.specs.ReadingItems.{atom_from, const_from, consts_from, fact_behind, fact_from, fact_with}
use Rattle.rif_script.specs.ReadingItems.{frame_from, is_fact_sign, is_name, member_from, modified_from, modify_of}
use Rattle.rif_script.specs.ReadingItems.{number_from, number_of, past_arrow, past_close_square, retracted_from}
use Rattle.rif_script.specs.ReadingItems.{retracted_with, slot_with}
use Rattle.rif_script.proofs.ConstLemmas.{bind_some, clear_behind, clear_front, clear_joined, const_again, const_last}
use Rattle.rif_script.proofs.ConstLemmas.{const_read, consts_again, consts_read, IsConstFront, IsConstsFront, IsFound}
use Rattle.rif_script.proofs.ConstLemmas.{name_is, name_tree, nothing_left, some_same}

same_front : (ls : List Leaf) (c : Const) (rest more : List Leaf) (is : rest ≡ more) → IsConstFront ls c rest →
    IsConstFront ls c more
same_front ls c rest more is front = subst (λ (xs : List Leaf). IsConstFront ls c xs) is front

-- a constant that is all the leaves
last_const : (ls : List Leaf) (c : Const) (front : IsConstFront ls c []) → spell_const front.tree ≡ ls
last_const ls c front = sym (append-nil (spell_const front.tree)) ∙ front.spelled

member_read : (o : ConstTree) (ls : List Leaf) (fact : Fact) → HasNoRefusal (spell_const o) →
    member_from (const_value o) ls ≡ Some fact → IsFactForm (spell_const o ++ Hash ∷ ls) fact
unfolding member_from
member_read o ls fact clear given =
    let c = bind_some (const_from ls) _ fact given in
    let end = nothing_left c.0.1 (Member (const_value o) c.0.0) fact c.2 in
    let class = same_front ls c.0.0 c.0.1 [] end.0 (const_read ls c.0.0 c.0.1 c.1) in
    let behind = last_const ls c.0.0 class in
    record {
      tree = fact_member o class.tree;
      spelled = ap (λ (xs : List Leaf). spell_const o ++ Hash ∷ xs) behind;
      clear = clear_joined (spell_const o) (Hash ∷ ls) clear (subst HasNoRefusal behind class.clear);
      value = ap (λ (x : Const). Member (const_value o) x) class.value ∙ end.1;
    }

arrow_is : (ls rest : List Leaf) → past_arrow ls ≡ Some rest → ls ≡ Arrow ∷ rest
arrow_is [] rest given = absurd (cc)
arrow_is (Arrow ∷ ls) rest given = ap (λ (xs : List Leaf). Arrow ∷ xs) (some_same ls rest given)
arrow_is (_ ∷ ls) rest given = absurd (cc)

close_square_is : (ls rest : List Leaf) → past_close_square ls ≡ Some rest → ls ≡ CloseSquare ∷ rest
close_square_is [] rest given = absurd (cc)
close_square_is (CloseSquare ∷ ls) rest given = ap (λ (xs : List Leaf). CloseSquare ∷ xs) (some_same ls rest given)
close_square_is (_ ∷ ls) rest given = absurd (cc)

-- the slot and the value of a pair, and the bracket behind it
pair_clear : (s v : ConstTree) → HasNoRefusal (spell_const s) → HasNoRefusal (spell_const v) →
    HasNoRefusal (spell_const s ++ Arrow ∷ (spell_const v ++ CloseSquare ∷ []))
pair_clear s v first second =
    clear_joined (spell_const s) (Arrow ∷ (spell_const v ++ CloseSquare ∷ [])) first
    (clear_joined (spell_const v) (CloseSquare ∷ []) second refl)

frame_read : (o : ConstTree) (ls : List Leaf) (fact : Fact) → HasNoRefusal (spell_const o) →
    frame_from (const_value o) ls ≡ Some fact → IsFactForm (spell_const o ++ OpenSquare ∷ ls) fact
unfolding frame_from
frame_read o ls fact clear given =
    let s = bind_some (const_from ls) _ fact given in
    let behind = bind_some (past_arrow s.0.1) _ fact s.2 in
    let v = bind_some (const_from behind.0) _ fact behind.2 in
    let rest = bind_some (past_close_square v.0.1) _ fact v.2 in
    let end = nothing_left rest.0 (Frame (const_value o) s.0.0 v.0.0) fact rest.2 in
    let slot = const_read ls s.0.0 s.0.1 s.1 in
    let value = const_read behind.0 v.0.0 v.0.1 v.1 in
    let after = close_square_is v.0.1 rest.0 rest.1 ∙ ap (λ (xs : List Leaf). CloseSquare ∷ xs) end.0 in
    let inside = ap (λ (xs : List Leaf). spell_const value.tree ++ xs) (sym after) ∙ value.spelled in
    let all = ap (λ (xs : List Leaf). spell_const slot.tree ++ Arrow ∷ xs) inside
    ∙ (ap (λ (xs : List Leaf). spell_const slot.tree ++ xs) (sym (arrow_is s.0.1 behind.0 behind.1))
    ∙ slot.spelled) in
    record {
      tree = fact_frame o slot.tree value.tree;
      spelled = ap (λ (xs : List Leaf). spell_const o ++ OpenSquare ∷ xs) all;
      clear = clear_joined (spell_const o) (OpenSquare ∷ ls) clear
          (subst HasNoRefusal all (pair_clear slot.tree value.tree slot.clear value.clear));
      value = ap (λ (x : Const). Frame (const_value o) x (const_value value.tree)) slot.value
          ∙ (ap (λ (x : Const). Frame (const_value o) s.0.0 x) value.value ∙ end.1);
    }

atom_made : (n : NameTree) (ls : List Leaf) (cs : List Const) (fact : Fact) → HasNoRefusal (spell_name n) →
    IsConstsFront ls cs [] → Atom (const_value (const_of_name n)) cs ≡ fact →
    IsFactForm (spell_name n ++ Open ∷ ls) fact
atom_made n ls cs fact clear front is =
    let behind = sym (append-nil (spell_terms (terms_of_consts front.trees))) ∙ front.spelled in
    record {
      tree = fact_atom n front.trees;
      spelled = ap (λ (xs : List Leaf). spell_name n ++ Open ∷ xs) behind;
      clear = clear_joined (spell_name n) (Open ∷ ls) clear (subst HasNoRefusal behind front.clear);
      value = ap (λ (xs : List Const). Atom (const_value (const_of_name n)) xs) front.value ∙ is;
    }

if_some : {A : Type 0} (b : Bool) (o : Option A) (x : A) → cond b o None ≡ Some x → (b ≡ true) × (o ≡ Some x)
if_some true o x given = (refl, given)
if_some false o x given = absurd (cc)

atom_read : (o : ConstTree) (ls : List Leaf) (fact : Fact) → HasNoRefusal (spell_const o) →
    atom_from (const_value o) ls ≡ Some fact → IsFactForm (spell_const o ++ Open ∷ ls) fact
unfolding atom_from
atom_read o ls fact clear given =
    let parts = if_some (is_name (const_value o)) _ fact given in
    let cs = bind_some (consts_from (length ls) ls) _ fact parts.1 in
    let end = nothing_left cs.0.1 (Atom (const_value o) cs.0.0) fact cs.2 in
    let front = subst (λ (xs : List Leaf). IsConstsFront ls cs.0.0 xs) end.0
    (consts_read (length ls) ls cs.0.0 cs.0.1 cs.1) in
    let n = name_tree o parts.0 in
    let made = atom_made n.0 ls cs.0.0 fact
    (subst (λ (t : ConstTree). HasNoRefusal (spell_const t)) (sym n.1) clear) front
    (ap (λ (t : ConstTree). Atom (const_value t) cs.0.0) n.1 ∙ end.1) in
    subst (λ (t : ConstTree). IsFactForm (spell_const t ++ Open ∷ ls) fact) n.1 made

behind_read : (o : ConstTree) (l : Leaf) (ls : List Leaf) (fact : Fact) → HasNoRefusal (spell_const o) →
    fact_behind (const_value o) ls l ≡ Some fact → IsFactForm (spell_const o ++ l ∷ ls) fact
behind_read o Hash ls fact clear given = member_read o ls fact clear given
behind_read o OpenSquare ls fact clear given = frame_read o ls fact clear given
behind_read o Open ls fact clear given = atom_read o ls fact clear given
behind_read o _ ls fact clear given = absurd (cc)

with_read : (o : ConstTree) (ls : List Leaf) (fact : Fact) → HasNoRefusal (spell_const o) →
    fact_with (const_value o) ls ≡ Some fact → IsFactForm (spell_const o ++ ls) fact
with_read o [] fact clear given = absurd (cc)
with_read o (l ∷ ls) fact clear given = behind_read o l ls fact clear given

pub fact_read : (ls : List Leaf) (fact : Fact) → fact_from ls ≡ Some fact → IsFactForm ls fact
unfolding fact_from
fact_read ls fact given =
    let o = bind_some (const_from ls) _ fact given in
    let front = const_read ls o.0.0 o.0.1 o.1 in
    let here = subst (λ (c : Const). fact_with c o.0.1 ≡ Some fact) (sym front.value) o.2 in
    subst (λ (xs : List Leaf). IsFactForm xs fact) front.spelled (with_read front.tree o.0.1 fact front.clear here)

-- what goes on behind a fact's first constant
abbrev first_tree : FactTree → ConstTree
first_tree (fact_member o c) = o
first_tree (fact_frame o s v) = o
first_tree (fact_atom n cs) = const_of_name n

abbrev sign_of : FactTree → Leaf
sign_of (fact_member o c) = Hash
sign_of (fact_frame o s v) = OpenSquare
sign_of (fact_atom n cs) = Open

abbrev behind_sign : FactTree → List Leaf
behind_sign (fact_member o c) = spell_const c
behind_sign (fact_frame o s v) = spell_const s ++ Arrow ∷ (spell_const v ++ CloseSquare ∷ [])
behind_sign (fact_atom n cs) = spell_terms (terms_of_consts cs)

fact_cut : (t : FactTree) → spell_fact t ≡ spell_const (first_tree t) ++ sign_of t ∷ behind_sign t
fact_cut (fact_member o c) = refl
fact_cut (fact_frame o s v) = refl
fact_cut (fact_atom n cs) = refl

is_sign : (t : FactTree) → is_fact_sign (sign_of t) ≡ true
is_sign (fact_member o c) = refl
is_sign (fact_frame o s v) = refl
is_sign (fact_atom n cs) = refl

frame_again : (o : Const) (s v : ConstTree) →
    HasNoRefusal (spell_const s ++ Arrow ∷ (spell_const v ++ CloseSquare ∷ [])) →
    frame_from o (spell_const s ++ Arrow ∷ (spell_const v ++ CloseSquare ∷ [])) ≡
    Some (Frame o (const_value s) (const_value v))
unfolding frame_from
frame_again o s v clear =
    let inside = spell_const v ++ CloseSquare ∷ [] in
    let first = const_again s (Arrow ∷ inside) (clear_front (spell_const s) (Arrow ∷ inside) clear) in
    let second = const_again v (CloseSquare ∷ [])
    (clear_front (spell_const v) (CloseSquare ∷ []) (clear_behind (spell_const s) (Arrow ∷ inside) clear)) in
    rw (first, second) refl

member_again : (o : Const) (c : ConstTree) → HasNoRefusal (spell_const c) →
    member_from o (spell_const c) ≡ Some (Member o (const_value c))
unfolding member_from
member_again o c clear = rw (const_last c clear) refl

atom_again : (n : NameTree) (cs : ConstTrees) → HasNoRefusal (spell_terms (terms_of_consts cs)) →
    atom_from (const_value (const_of_name n)) (spell_terms (terms_of_consts cs)) ≡
    Some (Atom (const_value (const_of_name n)) (consts_value cs))
unfolding atom_from
atom_again n cs clear =
    let ls = spell_terms (terms_of_consts cs) in
    let all : consts_from (length ls) ls ≡ Some (consts_value cs, []) =
    ap (consts_from (length ls)) (sym (append-nil ls)) ∙ consts_again cs (length ls) [] (omega arith) clear in
    rw (name_is n, all) refl

behind_again : (t : FactTree) → HasNoRefusal (spell_fact t) →
    fact_behind (const_value (first_tree t)) (behind_sign t) (sign_of t) ≡ Some (fact_value t)
behind_again (fact_member o c) clear =
    member_again (const_value o) c (clear_behind (spell_const o) (Hash ∷ spell_const c) clear)
behind_again (fact_frame o s v) clear =
    frame_again (const_value o) s v
    (clear_behind (spell_const o) (OpenSquare ∷ (spell_const s ++ Arrow ∷ (spell_const v ++ CloseSquare ∷ []))) clear)
behind_again (fact_atom n cs) clear =
    atom_again n cs (clear_behind (spell_name n) (Open ∷ spell_terms (terms_of_consts cs)) clear)

first_clear : (t : FactTree) → HasNoRefusal (spell_fact t) → HasNoRefusal (spell_const (first_tree t))
first_clear t clear =
    clear_front (spell_const (first_tree t)) (sign_of t ∷ behind_sign t) (subst HasNoRefusal (fact_cut t) clear)

first_again : (t : FactTree) → HasNoRefusal (spell_fact t) →
    IsFound (const_from (spell_fact t)) (const_value (first_tree t)) (sign_of t ∷ behind_sign t)
first_again t clear =
    ap const_from (fact_cut t) ∙ const_again (first_tree t) (sign_of t ∷ behind_sign t) (first_clear t clear)

pub fact_again : (ls : List Leaf) (fact : Fact) → IsFactForm ls fact → fact_from ls ≡ Some fact
unfolding fact_from
fact_again ls fact form =
    let t = form.tree in
    let clear = subst HasNoRefusal (sym form.spelled) form.clear in
    let here : fact_from (spell_fact t) ≡ Some (fact_value t) = rw (first_again t clear) (behind_again t clear) in
    ap fact_from (sym form.spelled) ∙ (here ∙ ap (λ (x : Fact). Some x) form.value)

-- what `retract` retracts
abbrev pub IsRetractForm : List Leaf → Change → Type 0
IsRetractForm ls (Assert fact) = ⊥
IsRetractForm ls (Retract fact) = IsFactForm ls fact
IsRetractForm ls (RetractSlot o s) = IsConstsForm ls o s
IsRetractForm ls (RetractObject o) = IsConstForm ls o
IsRetractForm ls (Modify o s v) = ⊥

slot_read : (o : ConstTree) (ls : List Leaf) (change : Change) → HasNoRefusal (spell_const o) →
    slot_with (const_value o) ls ≡ Some change → IsRetractForm (spell_const o ++ ls) change
unfolding slot_with
slot_read o ls change clear given =
    let s = bind_some (const_from ls) _ change given in
    let end = nothing_left s.0.1 (RetractSlot (const_value o) s.0.0) change s.2 in
    let slot = same_front ls s.0.0 s.0.1 [] end.0 (const_read ls s.0.0 s.0.1 s.1) in
    let behind = last_const ls s.0.0 slot in
    subst (IsRetractForm (spell_const o ++ ls)) end.1 (record {
      first = o;
      second = slot.tree;
      spelled = ap (λ (xs : List Leaf). spell_const o ++ xs) behind;
      clear = clear_joined (spell_const o) ls clear (subst HasNoRefusal behind slot.clear);
      first_value = refl;
      second_value = slot.value;
    })

if_else : {A : Type 0} (b : Bool) (o p : Option A) (x : A) → cond b o p ≡ Some x →
    ((b ≡ true) × (o ≡ Some x)) ⊎ ((b ≡ false) × (p ≡ Some x))
if_else true o p x given = inl (refl, given)
if_else false o p x given = inr (refl, given)

retracted_with_read : (o : ConstTree) (ls : List Leaf) (change : Change) → HasNoRefusal (spell_const o) →
    retracted_with (const_value o) ls ≡ Some change → IsRetractForm (spell_const o ++ ls) change
retracted_with_read o [] change clear given =
    let same = some_same (RetractObject (const_value o)) change given in
    subst (IsRetractForm (spell_const o ++ [])) same (record {
      tree = o;
      spelled = sym (append-nil (spell_const o));
      clear = subst HasNoRefusal (sym (append-nil (spell_const o))) clear;
      value = refl;
    })
retracted_with_read o (l ∷ ls) change clear given = elim (if_else (is_fact_sign l) _ _ change given) [
  | inl is ↦
      let fact = bind_some (fact_behind (const_value o) ls l) _ change is.1 in
      subst (IsRetractForm (spell_const o ++ l ∷ ls)) (some_same (Retract fact.0) change fact.2)
      (behind_read o l ls fact.0 clear fact.1)
  | inr no_ ↦ slot_read o (l ∷ ls) change clear no_.1
]

pub retracted_read : (ls : List Leaf) (change : Change) → retracted_from ls ≡ Some change → IsRetractForm ls change
unfolding retracted_from
retracted_read ls change given =
    let o = bind_some (const_from ls) _ change given in
    let front = const_read ls o.0.0 o.0.1 o.1 in
    let here = subst (λ (c : Const). retracted_with c o.0.1 ≡ Some change) (sym front.value) o.2 in
    subst (λ (xs : List Leaf). IsRetractForm xs change) front.spelled
    (retracted_with_read front.tree o.0.1 change front.clear here)

-- a constant is no sign of a fact
slot_found : (o : Const) (s : ConstTree) → retracted_with o (spell_const s) ≡ slot_with o (spell_const s)
slot_found o (const_int z) = refl
slot_found o (const_string t) = refl
slot_found o (const_typed literal known) = refl
slot_found o (const_iri t) = refl
slot_found o (const_curie t) = refl
slot_found o (const_local t) = refl
slot_found o const_true = refl
slot_found o const_false = refl

slot_again : (o : Const) (s : ConstTree) → HasNoRefusal (spell_const s) →
    slot_with o (spell_const s) ≡ Some (RetractSlot o (const_value s))
unfolding slot_with
slot_again o s clear = rw (const_last s clear) refl

pub retracted_again : (ls : List Leaf) (change : Change) → IsRetractForm ls change → retracted_from ls ≡ Some change
unfolding retracted_from
retracted_again ls (Assert fact) form = absurd form
retracted_again ls (Modify o s v) form = absurd form
retracted_again ls (Retract fact) form =
    let t = form.tree in
    let clear = subst HasNoRefusal (sym form.spelled) form.clear in
    let here : retracted_from (spell_fact t) ≡ Some (Retract (fact_value t)) =
    rw (first_again t clear, is_sign t, behind_again t clear) refl in
    ap retracted_from (sym form.spelled) ∙ (here ∙ ap (λ (x : Fact). Some (Retract x)) form.value)
retracted_again ls (RetractObject o) form =
    let t = form.tree in
    let clear = subst HasNoRefusal (sym form.spelled) form.clear in
    let here : retracted_from (spell_const t) ≡ Some (RetractObject (const_value t)) = rw (const_last t clear) refl in
    ap retracted_from (sym form.spelled) ∙ (here ∙ ap (λ (x : Const). Some (RetractObject x)) form.value)
retracted_again ls (RetractSlot o s) form =
    let t = form.first in
    let u = form.second in
    let clear = subst HasNoRefusal (sym form.spelled) form.clear in
    let front = clear_front (spell_const t) (spell_const u) clear in
    let behind = clear_behind (spell_const t) (spell_const u) clear in
    let here : retracted_from (spell_const t ++ spell_const u) ≡ Some (RetractSlot (const_value t) (const_value u)) =
    rw (const_again t (spell_const u) front) (slot_found (const_value t) u ∙ slot_again (const_value t) u behind) in
    ap retracted_from (sym form.spelled)
    ∙ (here ∙ (ap (λ (x : Const). Some (RetractSlot x (const_value u))) form.first_value
    ∙ ap (λ (x : Const). Some (RetractSlot o x)) form.second_value))

-- what `modify` modifies
modify_is : (fact : Fact) (change : Change) → modify_of fact ≡ Some change →
    (o s v : Const) × (fact ≡ Frame o s v) × (Modify o s v ≡ change)
modify_is (Atom p cs) change given = absurd (cc)
modify_is (Frame o s v) change given = (o, s, v, refl, some_same (Modify o s v) change given)
modify_is (Member o c) change given = absurd (cc)

pub modified_read : (ls : List Leaf) (change : Change) → modified_from ls ≡ Some change →
    (o s v : Const) × (Modify o s v ≡ change) × IsFactForm ls (Frame o s v)
unfolding modified_from
modified_read ls change given =
    let fact = bind_some (fact_from ls) _ change given in
    let is = modify_is fact.0 change fact.2 in
    (is.0, is.1, is.2, is.4, subst (IsFactForm ls) is.3 (fact_read ls fact.0 fact.1))

pub modified_again : (ls : List Leaf) (o s v : Const) → IsFactForm ls (Frame o s v) →
    modified_from ls ≡ Some (Modify o s v)
unfolding modified_from
modified_again ls o s v form = rw (fact_again ls (Frame o s v) form) refl

-- numbers
number_is : (l : Leaf) (n : ℕ) → number_of l ≡ Some n → l ≡ Int (Some (pos n))
number_is (Int None) n given = absurd (cc)
number_is (Int (Some (pos m))) n given = ap (λ (k : ℕ). Int (Some (pos k))) (some_same m n given)
number_is (Int (Some (negsuc m))) n given = absurd (cc)
number_is _ n given = absurd (cc)

pub number_read : (ls : List Leaf) (n : ℕ) → number_from ls ≡ Some n → IsNumberForm ls n
unfolding number_from
number_read [] n given = absurd (cc)
number_read (l ∷ ls) n given =
    let found = bind_some (number_of l) _ n given in
    let end = nothing_left ls found.0 n found.2 in
    ap (λ (x : Leaf). x ∷ ls) (number_is l found.0 found.1)
    ∙ (ap (λ (k : ℕ). Int (Some (pos k)) ∷ ls) end.1 ∙ ap (λ (xs : List Leaf). Int (Some (pos n)) ∷ xs) end.0)

pub number_again : (ls : List Leaf) (n : ℕ) → IsNumberForm ls n → number_from ls ≡ Some n
unfolding number_from
number_again ls n form = ap number_from form
