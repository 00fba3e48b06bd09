-- Constants: what is read is spelled so, and what is spelled so is read.
use Rattle.std.proofs.Common.{◌≡◌, ◌∙◌, sym, subst, ap, refl, ℕ, ◌≤◌, zero, suc, Bool, true, false, ◌||◌, List, []}
use Rattle.std.proofs.Common.{◌∷◌, ◌++◌, append_assoc, append-nil, Option, Some, None, drop, length, length-append}
use Rattle.std.proofs.Common.{arith}
use Rattle.std.proofs.Common.{◌⊎◌, inl, inr}
use Rattle.std.specs.List.{list_any}
use Rattle.rif_values.specs.declared.constant.Const.{Const}
use Rattle.rif_values.specs.declared.constant.Const.TheVariants.{Int as IntConst, Bool as BoolConst, Str as StrConst}
use Rattle.rif_values.specs.declared.constant.Const.TheVariants.{Iri as IriConst, Local as LocalConst}
use Rattle.prd_grammar.specs.declared.leaf.Keyword.TheVariants.{True, False}
use Rattle.prd_grammar.specs.declared.leaf.Literal.{Literal}
use Rattle.prd_grammar.specs.declared.leaf.Literal.TheVariants.{Integer, Boolean, String, Iri as IriLiteral}
use Rattle.prd_grammar.specs.declared.leaf.Literal.TheVariants.{Local as LocalLiteral, OfNoType}
use Rattle.prd_grammar.specs.declared.leaf.Leaf.{Leaf}
use Rattle.prd_grammar.specs.declared.leaf.Leaf.TheVariants.{Key, Int, Str, Typed, TypeName, Iri, Curie, Local, Close}
use Rattle.prd_grammar.specs.declared.leaf.Leaf.TheVariants.{Carets}
use Rattle.prd_reader.specs.FactForm.{HasNoRefusal, is_refused, ConstTrees, no_consts, consts, terms_of_consts}
use Rattle.prd_reader.specs.FactForm.{consts_value}
use Rattle.prd_grammar.specs.Trees.{ConstTree, const_int, const_string, const_typed, const_iri, const_curie}
use Rattle.prd_grammar.specs.Trees.{const_local, const_true, const_false, spell_const, NameTree, name_iri, name_curie}
use Rattle.prd_grammar.specs.Trees.{name_local}
use Rattle.prd_grammar.specs.Trees.{name_typed_iri, name_typed_local, const_of_name, spell_terms}
use Rattle.prd_grammar.specs.Values.{const_value, literal_value}
use Rattle.rif_script.specs.ReadingItems.{◌>>=◌, begins_close, const_behind, const_from, consts_from, is_name}
use Rattle.rif_script.specs.ReadingItems.{literal_const, past_type, whole}

pub bind_some : {A B : Type 0} (o : Option A) (f : A → Option B) (y : B) → (o >>= f) ≡ Some y →
    (x : A) × (o ≡ Some x) × (f x ≡ Some y)
bind_some None f y given = absurd (cc)
bind_some (Some x) f y given = (x, refl, given)

pub some_same : {A : Type 0} (a b : A) → Some a ≡ Some b → a ≡ b
some_same a b same = cc

pub either : (b : Bool) → (b ≡ true) ⊎ (b ≡ false)
either true = inl refl
either false = inr refl

-- no refusal among several leaves
or_none : (a b : Bool) → a ≡ false → b ≡ false → (a || b) ≡ false
or_none true b none more = absurd (cc)
or_none false b none more = more

none_of : (a b : Bool) → (a || b) ≡ false → (a ≡ false) × (b ≡ false)
none_of true b none = absurd (cc)
none_of false b none = (refl, none)

pub clear_joined : (xs ys : List Leaf) → HasNoRefusal xs → HasNoRefusal ys → HasNoRefusal (xs ++ ys)
clear_joined [] ys first second = second
clear_joined (x ∷ xs) ys first second =
    let parts = none_of (is_refused x) (list_any is_refused xs) first in
    or_none (is_refused x) (list_any is_refused (xs ++ ys)) parts.0 (clear_joined xs ys parts.1 second)

pub clear_front : (xs ys : List Leaf) → HasNoRefusal (xs ++ ys) → HasNoRefusal xs
clear_front [] ys clear = refl
clear_front (x ∷ xs) ys clear =
    let parts = none_of (is_refused x) (list_any is_refused (xs ++ ys)) clear in
    or_none (is_refused x) (list_any is_refused xs) parts.0 (clear_front xs ys parts.1)

pub clear_behind : (xs ys : List Leaf) → HasNoRefusal (xs ++ ys) → HasNoRefusal ys
clear_behind [] ys clear = clear
clear_behind (x ∷ xs) ys clear =
    clear_behind xs ys (none_of (is_refused x) (list_any is_refused (xs ++ ys)) clear).1

-- leaves begin with a constant
pub record IsConstFront (ls : List Leaf) (c : Const) (rest : List Leaf) : Type 0 where
  pub tree : ConstTree
  pub spelled : spell_const tree ++ rest ≡ ls
  pub clear : HasNoRefusal (spell_const tree)
  pub value : const_value tree ≡ c

-- a pair that was found
abbrev pub IsFound : {A : Type 0} → Option (A × List Leaf) → A → List Leaf → Type 0
IsFound o x rest = o ≡ Some (x, rest)

pub found_same : {A : Type 0} (x y : A) (ls rest : List Leaf) → IsFound (Some (x, ls)) y rest → (x ≡ y) × (ls ≡ rest)
found_same {A} x y ls rest given =
    let same = some_same (x, ls) (y, rest) given in
    (ap (λ (r : A × List Leaf). r.0) same, ap (λ (r : A × List Leaf). r.1) same)

front_of : (tree : ConstTree) (c : Const) (ls rest : List Leaf) → HasNoRefusal (spell_const tree) →
    IsFound (Some (const_value tree, ls)) c rest → IsConstFront (spell_const tree ++ ls) c rest
front_of tree c ls rest clear given =
    let same = found_same (const_value tree) c ls rest given in
    record {
      tree = tree;
      spelled = ap (λ (xs : List Leaf). spell_const tree ++ xs) (sym same.1);
      clear = clear;
      value = same.0;
    }

past_is : (ls rest : List Leaf) → past_type ls ≡ Some rest → ls ≡ Carets ∷ TypeName true ∷ rest
past_is [] rest given = absurd (cc)
past_is (Carets ∷ []) rest given = absurd (cc)
past_is (Carets ∷ TypeName true ∷ ls) rest given =
    ap (λ (xs : List Leaf). Carets ∷ TypeName true ∷ xs) (some_same ls rest given)
past_is (Carets ∷ TypeName false ∷ ls) rest given = absurd (cc)
past_is (Carets ∷ _ ∷ ls) rest given = absurd (cc)
past_is (_ ∷ ls) rest given = absurd (cc)

typed_front : (literal : Literal) (c : Const) (rest : List Leaf) → literal_const literal ≡ Some c →
    IsConstFront (Typed literal ∷ Carets ∷ TypeName true ∷ rest) c rest
typed_front (Integer None) c rest given = absurd (cc)
typed_front (Integer (Some z)) c rest given =
    record {
      tree = const_typed (Integer (Some z)) true;
      spelled = refl;
      clear = refl;
      value = some_same (IntConst z) c given;
    }
typed_front (Boolean b) c rest given =
    record {
      tree = const_typed (Boolean b) true;
      spelled = refl;
      clear = refl;
      value = some_same (BoolConst b) c given;
    }
typed_front (String t) c rest given =
    record {
      tree = const_typed (String t) true;
      spelled = refl;
      clear = refl;
      value = some_same (StrConst t) c given;
    }
typed_front (IriLiteral t) c rest given =
    record {
      tree = const_typed (IriLiteral t) true;
      spelled = refl;
      clear = refl;
      value = some_same (IriConst t) c given;
    }
typed_front (LocalLiteral t) c rest given =
    record {
      tree = const_typed (LocalLiteral t) true;
      spelled = refl;
      clear = refl;
      value = some_same (LocalConst t) c given;
    }
typed_front OfNoType c rest given = absurd (cc)

-- what is read of a leaf and those behind it
leaf_read : (l : Leaf) (ls : List Leaf) (c : Const) (rest : List Leaf) → const_behind ls l ≡ Some (c, rest) →
    IsConstFront (l ∷ ls) c rest
leaf_read (Key True) ls c rest given = front_of const_true c ls rest refl given
leaf_read (Key False) ls c rest given = front_of const_false c ls rest refl given
leaf_read (Int (Some z)) ls c rest given = front_of (const_int (Some z)) c ls rest refl given
leaf_read (Str t) ls c rest given = front_of (const_string t) c ls rest refl given
leaf_read (Iri t) ls c rest given = front_of (const_iri t) c ls rest refl given
leaf_read (Curie (Some t)) ls c rest given = front_of (const_curie (Some t)) c ls rest refl given
leaf_read (Local t) ls c rest given = front_of (const_local t) c ls rest refl given
leaf_read (Typed literal) ls c rest given =
    let past = bind_some (past_type ls) _ (c, rest) given in
    let found = bind_some (literal_const literal) _ (c, rest) past.2 in
    let same = found_same found.0 c past.0 rest found.2 in
    let value = found.1 ∙ ap (λ (x : Const). Some x) same.0 in
    let behind = past_is ls past.0 past.1 ∙ ap (λ (xs : List Leaf). Carets ∷ TypeName true ∷ xs) same.1 in
    subst (λ (xs : List Leaf). IsConstFront (Typed literal ∷ xs) c rest) (sym behind)
    (typed_front literal c rest value)
leaf_read _ ls c rest given = absurd (cc)

pub const_read : (ls : List Leaf) (c : Const) (rest : List Leaf) → const_from ls ≡ Some (c, rest) →
    IsConstFront ls c rest
unfolding const_from
const_read [] c rest given = absurd (cc)
const_read (l ∷ ls) c rest given = leaf_read l ls c rest given

typed_again : (literal : Literal) (known : Bool) (rest : List Leaf) →
    HasNoRefusal (spell_const (const_typed literal known)) →
    const_from (Typed literal ∷ Carets ∷ TypeName known ∷ rest) ≡ Some (literal_value literal, rest)
unfolding const_from
typed_again (Integer None) known rest clear = absurd (cc)
typed_again (Integer (Some z)) true rest clear = refl
typed_again (Integer (Some z)) false rest clear = absurd (cc)
typed_again (Boolean b) true rest clear = refl
typed_again (Boolean b) false rest clear = absurd (cc)
typed_again (String t) true rest clear = refl
typed_again (String t) false rest clear = absurd (cc)
typed_again (IriLiteral t) true rest clear = refl
typed_again (IriLiteral t) false rest clear = absurd (cc)
typed_again (LocalLiteral t) true rest clear = refl
typed_again (LocalLiteral t) false rest clear = absurd (cc)
typed_again OfNoType known rest clear = absurd (cc)

pub const_again : (tree : ConstTree) (rest : List Leaf) → HasNoRefusal (spell_const tree) →
    const_from (spell_const tree ++ rest) ≡ Some (const_value tree, rest)
unfolding const_from
const_again (const_int None) rest clear = absurd (cc)
const_again (const_int (Some z)) rest clear = refl
const_again (const_string t) rest clear = refl
const_again (const_typed literal known) rest clear = typed_again literal known rest clear
const_again (const_iri t) rest clear = refl
const_again (const_curie None) rest clear = absurd (cc)
const_again (const_curie (Some t)) rest clear = refl
const_again (const_local t) rest clear = refl
const_again const_true rest clear = refl
const_again const_false rest clear = refl

-- a constant at the end
pub const_last : (tree : ConstTree) → HasNoRefusal (spell_const tree) →
    const_from (spell_const tree) ≡ Some (const_value tree, [])
const_last tree clear =
    ap const_from (sym (append-nil (spell_const tree))) ∙ const_again tree [] clear

pub nothing_left : {A : Type 0} (ls : List Leaf) (x y : A) → whole ls x ≡ Some y → (ls ≡ []) × (x ≡ y)
nothing_left [] x y given = (refl, some_same x y given)
nothing_left (l ∷ ls) x y given = absurd (cc)

-- a constant that may be a name is spelled as one
pub name_tree : (tree : ConstTree) → is_name (const_value tree) ≡ true → (n : NameTree) × (const_of_name n ≡ tree)
name_tree (const_int None) is = absurd (cc)
name_tree (const_int (Some z)) is = absurd (cc)
name_tree (const_string t) is = absurd (cc)
name_tree (const_typed (Integer None) known) is = absurd (cc)
name_tree (const_typed (Integer (Some z)) known) is = absurd (cc)
name_tree (const_typed (Boolean b) known) is = absurd (cc)
name_tree (const_typed (String t) known) is = absurd (cc)
name_tree (const_typed (IriLiteral t) known) is = (name_typed_iri t known, refl)
name_tree (const_typed (LocalLiteral t) known) is = (name_typed_local t known, refl)
name_tree (const_typed OfNoType known) is = absurd (cc)
name_tree (const_iri t) is = (name_iri t, refl)
name_tree (const_curie t) is = (name_curie t, refl)
name_tree (const_local t) is = (name_local t, refl)
name_tree const_true is = absurd (cc)
name_tree const_false is = absurd (cc)

pub name_is : (n : NameTree) → is_name (const_value (const_of_name n)) ≡ true
name_is (name_iri t) = refl
name_is (name_curie t) = refl
name_is (name_local t) = refl
name_is (name_typed_iri t known) = refl
name_is (name_typed_local t known) = refl

-- leaves begin with constants and a bracket
pub record IsConstsFront (ls : List Leaf) (cs : List Const) (rest : List Leaf) : Type 0 where
  pub trees : ConstTrees
  pub spelled : spell_terms (terms_of_consts trees) ++ rest ≡ ls
  pub clear : HasNoRefusal (spell_terms (terms_of_consts trees))
  pub value : consts_value trees ≡ cs

closed : (ls : List Leaf) → begins_close ls ≡ true → ls ≡ Close ∷ drop 1 ls
closed [] is = absurd (cc)
closed (Close ∷ ls) is = refl
closed (_ ∷ ls) is = absurd (cc)

consts_front : (ls : List Leaf) (c : Const) (cs : List Const) (middle rest : List Leaf) → IsConstFront ls c middle →
    IsConstsFront middle cs rest → IsConstsFront ls (c ∷ cs) rest
consts_front ls c cs middle rest first more = record {
  trees = consts first.tree more.trees;
  spelled = append_assoc (spell_const first.tree) (spell_terms (terms_of_consts more.trees)) rest
      ∙ (ap (λ (xs : List Leaf). spell_const first.tree ++ xs) more.spelled ∙ first.spelled);
  clear = clear_joined (spell_const first.tree) (spell_terms (terms_of_consts more.trees)) first.clear more.clear;
  value = ap (λ (x : Const). x ∷ consts_value more.trees) first.value ∙ ap (λ (xs : List Const). c ∷ xs) more.value;
}

pub consts_read : (n : ℕ) (ls : List Leaf) (cs : List Const) (rest : List Leaf) → consts_from n ls ≡ Some (cs, rest) →
    IsConstsFront ls cs rest
unfolding consts_from
consts_read zero ls cs rest given = absurd (cc)
consts_read (suc n) ls cs rest given = elim (either (begins_close ls)) [
  | inl is ↦
      let step : consts_from (suc n) ls ≡ Some ([], drop 1 ls) = rw is refl in
      let same = found_same [] cs (drop 1 ls) rest (sym step ∙ given) in
      record {
        trees = no_consts;
        spelled = ap (λ (xs : List Leaf). Close ∷ xs) (sym same.1) ∙ sym (closed ls is);
        clear = refl;
        value = same.0;
      }
  | inr no_ ↦
      let step : consts_from (suc n) ls ≡
      (const_from ls >>= λ c. consts_from n c.1 >>= λ more. Some (c.0 ∷ more.0, more.1)) =
      rw no_ refl in
      let c = bind_some (const_from ls) _ (cs, rest) (sym step ∙ given) in
      let more = bind_some (consts_from n c.0.1) _ (cs, rest) c.2 in
      let same = found_same (c.0.0 ∷ more.0.0) cs more.0.1 rest more.2 in
      let front = consts_front ls c.0.0 more.0.0 c.0.1 more.0.1 (const_read ls c.0.0 c.0.1 c.1)
      (consts_read n c.0.1 more.0.0 more.0.1 more.1) in
      subst (λ (xs : List Leaf). IsConstsFront ls cs xs) same.1
      (subst (λ (xs : List Const). IsConstsFront ls xs more.0.1) same.0 front)
]

-- a constant isn't that bracket
opens_const : (tree : ConstTree) (ls : List Leaf) → begins_close (spell_const tree ++ ls) ≡ false
opens_const (const_int z) ls = refl
opens_const (const_string t) ls = refl
opens_const (const_typed literal known) ls = refl
opens_const (const_iri t) ls = refl
opens_const (const_curie t) ls = refl
opens_const (const_local t) ls = refl
opens_const const_true ls = refl
opens_const const_false ls = refl

pub some_leaf : (tree : ConstTree) → 1 ≤ length (spell_const tree)
some_leaf (const_int z) = omega arith
some_leaf (const_string t) = omega arith
some_leaf (const_typed literal known) = omega arith
some_leaf (const_iri t) = omega arith
some_leaf (const_curie t) = omega arith
some_leaf (const_local t) = omega arith
some_leaf const_true = omega arith
some_leaf const_false = omega arith

pub consts_again : (trees : ConstTrees) (n : ℕ) (rest : List Leaf) →
    length (spell_terms (terms_of_consts trees)) ≤ n →
    HasNoRefusal (spell_terms (terms_of_consts trees)) →
    consts_from n (spell_terms (terms_of_consts trees) ++ rest) ≡ Some (consts_value trees, rest)
unfolding consts_from
consts_again no_consts zero rest fits clear = absurd (omega (arith, fits))
consts_again no_consts (suc n) rest fits clear = refl
consts_again (consts c cs) zero rest fits clear =
    let one = some_leaf c in
    let size = length-append (spell_const c) (spell_terms (terms_of_consts cs)) in
    absurd (omega (arith, fits, one, size))
consts_again (consts c cs) (suc n) rest fits clear =
    let behind = spell_terms (terms_of_consts cs) in
    let one = some_leaf c in
    let size = length-append (spell_const c) behind in
    let more = consts_again cs n rest (omega (arith, fits, one, size)) (clear_behind (spell_const c) behind clear) in
    let here = const_again c (behind ++ rest) (clear_front (spell_const c) behind clear) in
    ap (consts_from (suc n)) (append_assoc (spell_const c) behind rest)
    ∙ rw (opens_const c (behind ++ rest), here, more) refl
