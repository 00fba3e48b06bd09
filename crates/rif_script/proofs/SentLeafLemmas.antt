-- The leaves that are left, behind different fronts.
use Rattle.std.proofs.Common.{◌≡◌, ◌∙◌, sym, ap, refl, ℕ, suc, ◌<◌, ◌+◌, ◌-◌, ◌≤◌, Bool, true, List, [], ◌∷◌, drop}
use Rattle.std.proofs.Common.{get_or, length, length-drop, arith, Some}
use Rattle.std.specs.Prelude.{map}
use Rattle.std.proofs.Math.Seq.{drop-cons}
use Rattle.rif_values.specs.declared.constant.Const.{Const}
use Rattle.rif_lex.specs.declared.token.Kind.{Kind}
use Rattle.rif_lex.specs.declared.token.Kind.TheVariants.{Word, Curie, Iri}
use Rattle.rif_lex.specs.declared.token.Token.{Token}
use Rattle.rif_lex.specs.Spelling.{Written, written}
use Rattle.prd_grammar.specs.declared.leaf.Keyword.TheVariants.{Prefix, External, True, False}
use Rattle.prd_grammar.specs.declared.leaf.Leaf.{Leaf}
use Rattle.prd_grammar.specs.declared.leaf.Leaf.TheVariants.{Key, LeftOut, Word as WordLeaf, TypeName, Iri as IriLeaf}
use Rattle.prd_grammar.specs.declared.leaf.Leaf.TheVariants.{Open as OpenLeaf, OpenSquare as OpenSquareLeaf}
use Rattle.prd_grammar.specs.declared.leaf.Leaf.TheVariants.{CloseSquare as CloseSquareLeaf, Hash as HashLeaf}
use Rattle.prd_grammar.specs.declared.leaf.Leaf.TheVariants.{Arrow as ArrowLeaf, Carets as CaretsLeaf}
use Rattle.prd_leaves.specs.Leaves.{is_behind_carets, is_behind_external, is_behind_prefix, leaf_of, leaves_from}
use Rattle.prd_leaves.specs.Leaves.{prefixes_with}
use Rattle.prd_grammar.specs.Prefixes.{Prefixes}
use Rattle.rif_script.specs.ReadingItems.{const_behind, fact_behind, is_carets, is_known_type, past_arrow}
use Rattle.rif_script.specs.ReadingItems.{past_close_square, past_name}
use Rattle.rif_script.specs.SentLeaves.{is_calm}

-- two fronts behind which the same leaves come
record AreAlike (f g : List Leaf) : Type 0 where
  prefix : is_behind_prefix f ≡ is_behind_prefix g
  external : is_behind_external f ≡ is_behind_external g
  carets : is_behind_carets f ≡ is_behind_carets g
  open_prefix : is_behind_prefix (OpenLeaf ∷ f) ≡ is_behind_prefix (OpenLeaf ∷ g)
  open_external : is_behind_external (OpenLeaf ∷ f) ≡ is_behind_external (OpenLeaf ∷ g)
  declares : (p : Prefixes) (l : Leaf) → prefixes_with p f l ≡ prefixes_with p g l

leaf_alike : (p : Prefixes) (f g : List Leaf) (k : Kind) (t : List ℕ) (rest : List Written) → AreAlike f g →
    leaf_of p f (record { kind = k; text = t }) rest ≡ leaf_of p g (record { kind = k; text = t }) rest
leaf_alike p f g Word t rest alike = rw (alike.prefix) refl
leaf_alike p f g Curie t rest alike = rw (alike.carets, alike.external) refl
leaf_alike p f g Iri t rest alike = rw (alike.carets, alike.external) refl
leaf_alike p f g _ t rest alike = refl

same_declared : (l : Leaf) (f g : List Leaf) (p : Prefixes) (m : Leaf) →
    prefixes_with p (l ∷ f) m ≡ prefixes_with p (l ∷ g) m
same_declared (WordLeaf name) f g p (IriLeaf t) = refl
same_declared (WordLeaf name) f g p _ = refl
same_declared _ f g p m = refl

behind_prefix : (l : Leaf) (f g : List Leaf) → AreAlike f g → is_behind_prefix (l ∷ f) ≡ is_behind_prefix (l ∷ g)
behind_prefix OpenLeaf f g alike = alike.open_prefix
behind_prefix _ f g alike = refl

behind_external : (l : Leaf) (f g : List Leaf) → AreAlike f g →
    is_behind_external (l ∷ f) ≡ is_behind_external (l ∷ g)
behind_external OpenLeaf f g alike = alike.open_external
behind_external _ f g alike = refl

behind_carets : (l : Leaf) (f g : List Leaf) → is_behind_carets (l ∷ f) ≡ is_behind_carets (l ∷ g)
behind_carets CaretsLeaf f g = refl
behind_carets _ f g = refl

open_prefix : (l : Leaf) (f g : List Leaf) →
    is_behind_prefix (OpenLeaf ∷ l ∷ f) ≡ is_behind_prefix (OpenLeaf ∷ l ∷ g)
open_prefix (Key Prefix) f g = refl
open_prefix (Key _) f g = refl
open_prefix _ f g = refl

open_external : (l : Leaf) (f g : List Leaf) →
    is_behind_external (OpenLeaf ∷ l ∷ f) ≡ is_behind_external (OpenLeaf ∷ l ∷ g)
open_external (Key External) f g = refl
open_external (Key _) f g = refl
open_external _ f g = refl

alike_behind : (l : Leaf) (f g : List Leaf) → AreAlike f g → AreAlike (l ∷ f) (l ∷ g)
alike_behind l f g alike = record {
  prefix = behind_prefix l f g alike;
  external = behind_external l f g alike;
  carets = behind_carets l f g;
  open_prefix = open_prefix l f g;
  open_external = open_external l f g;
  declares = same_declared l f g;
}

leaves_alike : (p : Prefixes) (f g : List Leaf) (ws : List Written) → AreAlike f g →
    leaves_from p f ws ≡ leaves_from p g ws
leaves_alike p f g [] alike = refl
leaves_alike p f g (w ∷ ws) alike =
    let l = leaf_of p f w ws in
    let same : leaf_of p f w ws ≡ leaf_of p g w ws = leaf_alike p f g w.kind w.text ws alike in
    let more = leaves_alike (prefixes_with p f l) (l ∷ f) (l ∷ g) ws (alike_behind l f g alike) in
    ap (λ (xs : List Leaf). l ∷ xs) (more ∙ ap (λ (q : Prefixes). leaves_from q (l ∷ g) ws) (alike.declares p l))
    ∙ ap (λ (m : Leaf). m ∷ leaves_from (prefixes_with p g m) (m ∷ g) ws) same

nothing_declared : (p : Prefixes) (m : Leaf) → prefixes_with p [] m ≡ p
nothing_declared p m = refl

calm_alike : (l : Leaf) → is_calm l ≡ true → AreAlike (l ∷ []) []
calm_alike (Key True) calm = record {
  prefix = refl;
  external = refl;
  carets = refl;
  open_prefix = refl;
  open_external = refl;
  declares = λ p l. refl;
}
calm_alike (Key False) calm = record {
  prefix = refl;
  external = refl;
  carets = refl;
  open_prefix = refl;
  open_external = refl;
  declares = λ p l. refl;
}
calm_alike (Key _) calm = absurd (cc)
calm_alike (WordLeaf t) calm = absurd (cc)
calm_alike LeftOut calm = absurd (cc)
calm_alike CaretsLeaf calm = absurd (cc)
calm_alike _ calm = record {
  prefix = refl;
  external = refl;
  carets = refl;
  open_prefix = refl;
  open_external = refl;
  declares = λ p l. refl;
}

-- behind a calm leaf the leaves are as at the front
pub calm_leaves : (p : Prefixes) (l : Leaf) (ws : List Written) → is_calm l ≡ true →
    leaves_from p (l ∷ []) ws ≡ leaves_from p [] ws
calm_leaves p l ws calm = leaves_alike p (l ∷ []) [] ws (calm_alike l calm)

type_alike : (known : Bool) → AreAlike (TypeName known ∷ CaretsLeaf ∷ []) []
type_alike known = record {
  prefix = refl;
  external = refl;
  carets = refl;
  open_prefix = refl;
  open_external = refl;
  declares = λ p l. refl;
}

-- and so behind a type
pub type_leaves : (p : Prefixes) (known : Bool) (ws : List Written) →
    leaves_from p (TypeName known ∷ CaretsLeaf ∷ []) ws ≡ leaves_from p [] ws
type_leaves p known ws = leaves_alike p (TypeName known ∷ CaretsLeaf ∷ []) [] ws (type_alike known)

leaf_count : (p : Prefixes) (f : List Leaf) (ws : List Written) → length (leaves_from p f ws) ≡ length ws
leaf_count p f [] = refl
leaf_count p f (w ∷ ws) =
    let l = leaf_of p f w ws in ap suc (leaf_count (prefixes_with p f l) (l ∷ f) ws)

map_count : {A B : Type 0} (g : A → B) (xs : List A) → length (map g xs) ≡ length xs
map_count g [] = refl
map_count g (x ∷ xs) = ap suc (map_count g xs)

-- how many leaves are left
pub left_count : (p : Prefixes) (bytes : List ℕ) (tokens : List Token) (at : ℕ) →
    length (leaves_from p [] (map (written bytes) (drop at tokens))) ≡ length tokens - at
left_count p bytes tokens at =
    leaf_count p [] (map (written bytes) (drop at tokens))
    ∙ (map_count (written bytes) (drop at tokens) ∙ length-drop at tokens)

no_leaf : (ls : List Leaf) → length ls ≡ 0 → ls ≡ []
no_leaf [] is = refl
no_leaf (l ∷ ls) is = absurd (omega (arith, is))

pub none_left : (p : Prefixes) (bytes : List ℕ) (tokens : List Token) (at : ℕ) → at ≡ length tokens →
    leaves_from p [] (map (written bytes) (drop at tokens)) ≡ []
none_left p bytes tokens at is =
    let size = left_count p bytes tokens at in no_leaf _ (omega (arith, size, is))

pub all_read : (p : Prefixes) (bytes : List ℕ) (tokens : List Token) (at : ℕ) → at ≤ length tokens →
    leaves_from p [] (map (written bytes) (drop at tokens)) ≡ [] → at ≡ length tokens
all_read p bytes tokens at within none =
    let size = left_count p bytes tokens at in
    let zero_ = ap length none in
    omega (arith, size, zero_, within)

-- the next leaf, and those behind it
pub next_leaf : (p : Prefixes) (f : List Leaf) (bytes : List ℕ) (tokens : List Token) (at : ℕ) (d : Token)
    (l : Leaf) → at < length tokens →
    l ≡ leaf_of p f (written bytes (get_or tokens at d)) (map (written bytes) (drop (at + 1) tokens)) →
    leaves_from p f (map (written bytes) (drop at tokens))
    ≡ l ∷ leaves_from (prefixes_with p f l) (l ∷ f) (map (written bytes) (drop (at + 1) tokens))
next_leaf p f bytes tokens at d l low is =
    let more : suc at ≡ at + 1 = omega arith in
    let one : drop at tokens ≡ get_or tokens at d ∷ drop (at + 1) tokens =
    drop-cons tokens at d low ∙ ap (λ (n : ℕ). get_or tokens at d ∷ drop n tokens) more in
    ap (λ (ts : List Token). leaves_from p f (map (written bytes) ts)) one
    ∙ ap (λ (m : Leaf). m ∷ leaves_from (prefixes_with p f m) (m ∷ f) (map (written bytes) (drop (at + 1) tokens)))
    (sym is)

-- the leaves behind a front where a token is left
pub type_next : (p : Prefixes) (l : Leaf) (ws : List Written) → is_known_type l ≡ true →
    leaves_from (prefixes_with p (CaretsLeaf ∷ []) l) (l ∷ CaretsLeaf ∷ []) ws ≡ leaves_from p [] ws
type_next p (TypeName known) ws is = type_leaves p known ws
type_next p _ ws is = absurd (cc)

pub carets_are : (l : Leaf) → is_carets l ≡ true → l ≡ CaretsLeaf
carets_are CaretsLeaf is = refl
carets_are _ is = absurd (cc)

pub name_passed : (p q : Prefixes) (ls : List Leaf) (l : Leaf) (ws : List Written) →
    ls ≡ l ∷ leaves_from (prefixes_with p (CaretsLeaf ∷ []) l) (l ∷ CaretsLeaf ∷ []) ws → q ≡ p →
    is_known_type l ≡ true →
    past_name ls ≡ Some (leaves_from q [] ws)
name_passed p q ls l ws is same known =
    let step : past_name (l ∷ leaves_from (prefixes_with p (CaretsLeaf ∷ []) l) (l ∷ CaretsLeaf ∷ []) ws)
    ≡ Some (leaves_from (prefixes_with p (CaretsLeaf ∷ []) l) (l ∷ CaretsLeaf ∷ []) ws) = rw known refl in
    ap past_name is ∙ (step ∙ (ap (λ (xs : List Leaf). Some xs) (type_next p l ws known)
    ∙ ap (λ (r : Prefixes). Some (leaves_from r [] ws)) (sym same)))

-- what is given needs what stands behind a leaf only where the leaf is calm
pub const_calm : (p : Prefixes) (l : Leaf) (ws : List Written) →
    const_behind (leaves_from p (l ∷ []) ws) l ≡ const_behind (leaves_from p [] ws) l
const_calm p (Key True) ws = ap (λ (xs : List Leaf). const_behind xs (Key True)) (calm_leaves p (Key True) ws refl)
const_calm p (Key False) ws = ap (λ (xs : List Leaf). const_behind xs (Key False)) (calm_leaves p (Key False) ws refl)
const_calm p (Key _) ws = refl
const_calm p (WordLeaf t) ws = refl
const_calm p LeftOut ws = refl
const_calm p CaretsLeaf ws = refl
const_calm p l ws = ap (λ (xs : List Leaf). const_behind xs l) (calm_leaves p l ws refl)

pub fact_calm : (o : Const) (p : Prefixes) (l : Leaf) (ws : List Written) →
    fact_behind o (leaves_from p (l ∷ []) ws) l ≡ fact_behind o (leaves_from p [] ws) l
fact_calm o p HashLeaf ws = ap (λ (xs : List Leaf). fact_behind o xs HashLeaf) (calm_leaves p HashLeaf ws refl)
fact_calm o p OpenLeaf ws = ap (λ (xs : List Leaf). fact_behind o xs OpenLeaf) (calm_leaves p OpenLeaf ws refl)
fact_calm o p OpenSquareLeaf ws =
    ap (λ (xs : List Leaf). fact_behind o xs OpenSquareLeaf) (calm_leaves p OpenSquareLeaf ws refl)
fact_calm o p _ ws = refl

pub arrow_calm : (p : Prefixes) (l : Leaf) (ws : List Written) →
    past_arrow (l ∷ leaves_from p (l ∷ []) ws) ≡ past_arrow (l ∷ leaves_from p [] ws)
arrow_calm p ArrowLeaf ws = ap (λ (xs : List Leaf). Some xs) (calm_leaves p ArrowLeaf ws refl)
arrow_calm p _ ws = refl

pub close_square_calm : (p : Prefixes) (l : Leaf) (ws : List Written) →
    past_close_square (l ∷ leaves_from p (l ∷ []) ws) ≡ past_close_square (l ∷ leaves_from p [] ws)
close_square_calm p CloseSquareLeaf ws = ap (λ (xs : List Leaf). Some xs) (calm_leaves p CloseSquareLeaf ws refl)
close_square_calm p _ ws = refl
