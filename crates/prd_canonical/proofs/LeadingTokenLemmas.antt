-- The leaves that signs, words, built-ins' names and variables of the canonical spelling lead to.
use Rattle.std.proofs.Common.{◌≡◌, ℕ, suc, Bool, true, false, if◌then◌else◌, List, [], ◌∷◌, ◌++◌, map, refl, ap, ◌∙◌}
use Rattle.std.proofs.Common.{codes, get_or, IsUtf8, bytes_eq}
use Rattle.std.proofs.lemmas.Slice.Eq.{bytes_eq-Decides}
use Rattle.std.proofs.lemmas.Str.{IsUtf8-append}
use Rattle.rif_lex.specs.declared.token.Kind.TheVariants.{Word, Curie, Var, Open, Close, OpenSquare, CloseSquare}
use Rattle.rif_lex.specs.declared.token.Kind.TheVariants.{Equal, Hash, Arrow}
use Rattle.rif_lex.specs.Spelling.{Gap, joined, space, Spelled}
use Rattle.prd_grammar.specs.declared.leaf.Keyword.{Keyword}
use Rattle.prd_grammar.specs.declared.leaf.Keyword.TheVariants.{External}
use Rattle.prd_grammar.specs.declared.leaf.Builtin.{Builtin}
use Rattle.prd_grammar.specs.declared.leaf.BuiltinName.{BuiltinName}
use Rattle.prd_grammar.specs.declared.leaf.BuiltinName.TheVariants.{Known}
use Rattle.prd_grammar.specs.declared.leaf.Leaf.{Leaf}
use Rattle.prd_grammar.specs.declared.leaf.Leaf.TheVariants.{Key, Word as WordLeaf, Builtin as BuiltinLeaf}
use Rattle.prd_grammar.specs.declared.leaf.Leaf.TheVariants.{Var as VarLeaf}
use Rattle.prd_grammar.specs.declared.leaf.Leaf.TheVariants.{Open as OpenLeaf, Close as CloseLeaf, Equal as EqualLeaf}
use Rattle.prd_grammar.specs.declared.leaf.Leaf.TheVariants.{OpenSquare as OpenSquareLeaf}
use Rattle.prd_grammar.specs.declared.leaf.Leaf.TheVariants.{CloseSquare as CloseSquareLeaf}
use Rattle.prd_grammar.specs.declared.leaf.Leaf.TheVariants.{Hash as HashLeaf, Arrow as ArrowLeaf}
use Rattle.prd_writing.specs.Canonical.{spelled, word, opening, closing, open_square, close_square, arrow}
use Rattle.prd_writing.specs.Canonical.{var_spelling}
use Rattle.prd_leaves.specs.Leaves.{word_leaf, curie_iri, builtin_of, leaves_from, prefixes_with, is_behind_prefix}
use Rattle.prd_grammar.specs.Values.{place_of}
use Rattle.prd_canonical.specs.Writable.{HasNames, IsWritableVar}
use Rattle.prd_canonical.proofs.ConstantTextLemmas.{is_low_text, low_text}
use Rattle.prd_canonical.proofs.CanonicalLeavesLemmas.{token_of, IsPlain, plain_open, settles_key, Lead, lead}
use Rattle.prd_canonical.proofs.CanonicalLeavesLemmas.{lead_settled}

bracket_utf8 : IsUtf8 (codes "(")
bracket_utf8 = low_text (codes "(") refl

pub lead_opening : {rest : List Spelled} {ls : List Leaf} (gap : Gap) → Lead rest ls →
    Lead (spelled Open (codes "(") gap ∷ rest) (OpenLeaf ∷ ls)
lead_opening gap more =
    lead Open (codes "(") gap OpenLeaf bracket_utf8 refl (λ front plain. refl) plain_open more

pub lead_closing : {rest : List Spelled} {ls : List Leaf} (gap : Gap) → Lead rest ls →
    Lead (closing gap ∷ rest) (CloseLeaf ∷ ls)
lead_closing gap more =
    lead_settled Close (codes ")") gap CloseLeaf (low_text (codes ")") refl) refl (λ front plain. refl) refl more

pub lead_open_square : {rest : List Spelled} {ls : List Leaf} → Lead rest ls →
    Lead (open_square ∷ rest) (OpenSquareLeaf ∷ ls)
lead_open_square more =
    lead_settled OpenSquare (codes "[") joined OpenSquareLeaf (low_text (codes "[") refl) refl
    (λ front plain. refl) refl more

pub lead_close_square : {rest : List Spelled} {ls : List Leaf} (gap : Gap) → Lead rest ls →
    Lead (close_square gap ∷ rest) (CloseSquareLeaf ∷ ls)
lead_close_square gap more =
    lead_settled CloseSquare (codes "]") gap CloseSquareLeaf (low_text (codes "]") refl) refl
    (λ front plain. refl) refl more

pub lead_arrow : {rest : List Spelled} {ls : List Leaf} → Lead rest ls → Lead (arrow ∷ rest) (ArrowLeaf ∷ ls)
lead_arrow more =
    lead_settled Arrow (codes "->") joined ArrowLeaf (low_text (codes "->") refl) refl (λ front plain. refl) refl
    more

pub lead_hash : {rest : List Spelled} {ls : List Leaf} → Lead rest ls →
    Lead (spelled Hash (codes "#") space ∷ rest) (HashLeaf ∷ ls)
lead_hash more =
    lead_settled Hash (codes "#") space HashLeaf (low_text (codes "#") refl) refl (λ front plain. refl) refl more

pub lead_equal : {rest : List Spelled} {ls : List Leaf} → Lead rest ls →
    Lead (spelled Equal (codes "=") space ∷ rest) (EqualLeaf ∷ ls)
lead_equal more =
    lead_settled Equal (codes "=") space EqualLeaf (low_text (codes "=") refl) refl (λ front plain. refl) refl more

-- a word is read by itself
word_seen : (text : List ℕ) (front : List Leaf) → IsPlain front →
    (if is_behind_prefix front then WordLeaf text else word_leaf text) ≡ word_leaf text
word_seen text front plain = ap (λ (b : Bool). if b then WordLeaf text else word_leaf text) plain.no_prefix

-- a word of the grammar
pub lead_word : {rest : List Spelled} {ls : List Leaf} (k : Keyword) (text : List ℕ) (gap : Gap) →
    is_low_text text ≡ true → word_leaf text ≡ Key k → settles_key k ≡ true → Lead rest ls →
    Lead (word text gap ∷ rest) (Key k ∷ ls)
lead_word k text gap low is settled more =
    lead_settled Word text gap (Key k) (low_text text low) refl
    (λ front plain. word_seen text front plain ∙ is) settled more

-- a built-in's name behind `External` and a bracket, and the bracket of its arguments
pub lead_external : {rest : List Spelled} {ls : List Leaf} (name : List ℕ) (b : Builtin) → is_low_text name ≡ true →
    builtin_of (curie_iri [] name) ≡ Known b → Lead rest ls →
    Lead (word (codes "External") joined ∷ opening ∷ spelled Curie name joined ∷ opening ∷ rest)
    (Key External ∷ OpenLeaf ∷ BuiltinLeaf (Known b) ∷ OpenLeaf ∷ ls)
lead_external {rest} {ls} name b low named more = record {
  texts = (low_text (codes "External") refl, (bracket_utf8, (low_text name low, (bracket_utf8, more.texts))));
  no_type = refl;
  leaves = λ front plain.
      let ws = map token_of (opening ∷ spelled Curie name joined ∷ opening ∷ rest) in
      let behind : IsPlain (OpenLeaf ∷ BuiltinLeaf (Known b) ∷ OpenLeaf ∷ Key External ∷ front) = record {
        no_prefix = refl;
        no_external = refl;
        no_carets = refl;
        undeclared = λ l. refl;
        opens_no_prefix = refl;
        opens_no_external = refl;
      } in
      ap (λ (x : Leaf). x ∷ leaves_from (prefixes_with [] front x) (x ∷ front) ws)
      (word_seen (codes "External") front plain)
      ∙ (ap (λ ps. Key External ∷ leaves_from ps (Key External ∷ front) ws) (plain.undeclared (Key External))
      ∙ (ap (λ (x : BuiltinName). Key External ∷ OpenLeaf ∷ BuiltinLeaf x ∷ OpenLeaf
      ∷ leaves_from [] (OpenLeaf ∷ BuiltinLeaf x ∷ OpenLeaf ∷ Key External ∷ front) (map token_of rest)) named
      ∙ ap (λ (x : List Leaf). Key External ∷ OpenLeaf ∷ BuiltinLeaf (Known b) ∷ OpenLeaf ∷ x)
      (more.leaves (OpenLeaf ∷ BuiltinLeaf (Known b) ∷ OpenLeaf ∷ Key External ∷ front) behind)));
}

-- what has a name at its place is the variable there
at_by : (n : List ℕ) (ns : List (List ℕ)) (v : List ℕ) (same : Bool) → bytes_eq n v ≡ same →
    HasNames (get_or (n ∷ ns) (if same then 0 else suc (place_of ns v)) []) →
    (HasNames (get_or ns (place_of ns v) []) → get_or ns (place_of ns v) [] ≡ v) →
    get_or (n ∷ ns) (if same then 0 else suc (place_of ns v)) [] ≡ v
at_by n ns v true e h more = (bytes_eq-Decides n v).0 e
at_by n ns v false e h more = more h

at_place : (names : List (List ℕ)) (v : List ℕ) → HasNames (get_or names (place_of names v) []) →
    get_or names (place_of names v) [] ≡ v
at_place [] v h = absurd h
at_place (n ∷ ns) v h = at_by n ns v (bytes_eq n v) refl h (at_place ns v)

pub lead_var : {rest : List Spelled} {ls : List Leaf} (names : List (List ℕ)) (v : List ℕ) (gap : Gap) →
    IsWritableVar names v → Lead rest ls → Lead (var_spelling names (place_of names v) gap rest) (VarLeaf v ∷ ls)
lead_var names v gap w more =
    lead_settled Var (codes "?" ++ get_or names (place_of names v) []) gap (VarLeaf v)
    (IsUtf8-append (codes "?") (get_or names (place_of names v) []) (low_text (codes "?") refl) w.utf8) refl
    (λ front plain. ap VarLeaf (at_place names v w.names)) refl more
