-- The leaves that the tokens of the canonical spelling lead to.
--     IsPlain front   behind these leaves no token is seen otherwise than by itself
--     Lead ws ls      the tokens are of UTF-8, and lead to the leaves
use Rattle.std.proofs.Common.{◌≡◌, ℕ, Bool, true, false, true≢false, List, [], ◌∷◌, map, refl, ap, ◌∙◌, sym, subst}
use Rattle.std.proofs.Common.{IsUtf8}
use Rattle.rif_lex.specs.declared.token.Kind.{Kind}
use Rattle.rif_lex.specs.declared.token.Kind.TheVariants.{Carets}
use Rattle.rif_lex.specs.Spelling.{Written, Gap, Spelled}
use Rattle.prd_grammar.specs.declared.leaf.Keyword.{Keyword}
use Rattle.prd_grammar.specs.declared.leaf.Keyword.TheVariants.{Prefix, External}
use Rattle.prd_grammar.specs.declared.leaf.Leaf.{Leaf}
use Rattle.prd_grammar.specs.declared.leaf.Leaf.TheVariants.{Key, Word as WordLeaf, Open as OpenLeaf}
use Rattle.prd_grammar.specs.declared.leaf.Leaf.TheVariants.{Carets as CaretsLeaf}
use Rattle.prd_writing.specs.Canonical.{spelled}
use Rattle.prd_leaves.specs.Leaves.{leaf_of, leaves_from, prefixes_with}
use Rattle.prd_leaves.specs.Leaves.{is_behind_prefix, is_behind_external, is_behind_carets}

abbrev pub token_of : Spelled → Written
token_of s = s.token

-- no leaf behind this front is seen otherwise than by itself, and none behind one more bracket
pub record IsPlain (front : List Leaf) : Type 0 where
  pub no_prefix : is_behind_prefix front ≡ false
  pub no_external : is_behind_external front ≡ false
  pub no_carets : is_behind_carets front ≡ false
  pub undeclared : (l : Leaf) → prefixes_with [] front l ≡ []
  pub opens_no_prefix : is_behind_prefix (OpenLeaf ∷ front) ≡ false
  pub opens_no_external : is_behind_external (OpenLeaf ∷ front) ≡ false

-- a leaf behind which all is plain, whatever stands before it
abbrev pub settles_key : Keyword → Bool
settles_key Prefix = false
settles_key External = false
settles_key _ = true

abbrev pub settles : Leaf → Bool
settles (Key k) = settles_key k
settles (WordLeaf t) = false
settles OpenLeaf = false
settles CaretsLeaf = false
settles _ = true

plain_key : (k : Keyword) → settles_key k ≡ true → (front : List Leaf) → IsPlain (Key k ∷ front)
plain_key Prefix h front = absurd (true≢false (sym h))
plain_key External h front = absurd (true≢false (sym h))
plain_key k h front = record {
  no_prefix = refl;
  no_external = refl;
  no_carets = refl;
  undeclared = λ l. refl;
  opens_no_prefix = refl;
  opens_no_external = refl;
}

plain_behind : (l : Leaf) → settles l ≡ true → (front : List Leaf) → IsPlain (l ∷ front)
plain_behind (Key k) h front = plain_key k h front
plain_behind (WordLeaf t) h front = absurd (true≢false (sym h))
plain_behind OpenLeaf h front = absurd (true≢false (sym h))
plain_behind CaretsLeaf h front = absurd (true≢false (sym h))
plain_behind l h front = record {
  no_prefix = refl;
  no_external = refl;
  no_carets = refl;
  undeclared = λ m. refl;
  opens_no_prefix = refl;
  opens_no_external = refl;
}

pub plain_open : (front : List Leaf) → IsPlain front → IsPlain (OpenLeaf ∷ front)
plain_open front plain = record {
  no_prefix = plain.opens_no_prefix;
  no_external = plain.opens_no_external;
  no_carets = refl;
  undeclared = λ l. refl;
  opens_no_prefix = refl;
  opens_no_external = refl;
}

-- at the start of a document
pub plain_start : IsPlain []
plain_start = record {
  no_prefix = refl;
  no_external = refl;
  no_carets = refl;
  undeclared = λ l. refl;
  opens_no_prefix = refl;
  opens_no_external = refl;
}

abbrev pub is_carets : Kind → Bool
is_carets Carets = true
is_carets _ = false

abbrev pub begins_carets : List Spelled → Bool
begins_carets [] = false
begins_carets (s ∷ ss) = is_carets s.token.kind

-- the tokens are of UTF-8
abbrev pub AreTexts : List Spelled → Type 0
AreTexts [] = Unit {0}
AreTexts (s ∷ ss) = IsUtf8 s.token.text × AreTexts ss

-- the tokens are of UTF-8, and lead to the leaves, wherever they stand in the canonical spelling
pub record Lead (ws : List Spelled) (ls : List Leaf) : Type 0 where
  pub texts : AreTexts ws
  pub no_type : begins_carets ws ≡ false
  pub leaves : (front : List Leaf) → IsPlain front → leaves_from [] front (map token_of ws) ≡ ls

pub lead_end : Lead [] []
lead_end = record { texts = tt; no_type = refl; leaves = λ front plain. refl }

-- tokens that are spelled in another way
pub lead_as : {ls : List Leaf} {ws vs : List Spelled} → ws ≡ vs → Lead vs ls → Lead ws ls
lead_as {ls} is more = subst (λ x. Lead x ls) (sym is) more

pub lead : {rest : List Spelled} {ls : List Leaf} (kind : Kind) (text : List ℕ) (gap : Gap) (l : Leaf) →
    IsUtf8 text → is_carets kind ≡ false →
    ((front : List Leaf) → IsPlain front →
    leaf_of [] front (record { kind = kind; text = text }) (map token_of rest) ≡ l) →
    ((front : List Leaf) → IsPlain front → IsPlain (l ∷ front)) → Lead rest ls →
    Lead (spelled kind text gap ∷ rest) (l ∷ ls)
lead {rest} {ls} kind text gap l utf8 no_type is next more = record {
  texts = (utf8, more.texts);
  no_type = no_type;
  leaves = λ front plain.
      ap (λ (x : Leaf). x ∷ leaves_from (prefixes_with [] front x) (x ∷ front) (map token_of rest)) (is front plain)
      ∙ (ap (λ ps. l ∷ leaves_from ps (l ∷ front) (map token_of rest)) (plain.undeclared l)
      ∙ ap (λ (x : List Leaf). l ∷ x) (more.leaves (l ∷ front) (next front plain)));
}

-- a token behind which all is plain
pub lead_settled : {rest : List Spelled} {ls : List Leaf} (kind : Kind) (text : List ℕ) (gap : Gap) (l : Leaf) →
    IsUtf8 text → is_carets kind ≡ false →
    ((front : List Leaf) → IsPlain front →
    leaf_of [] front (record { kind = kind; text = text }) (map token_of rest) ≡ l) → settles l ≡ true →
    Lead rest ls → Lead (spelled kind text gap ∷ rest) (l ∷ ls)
lead_settled kind text gap l utf8 no_type is settled more =
    lead kind text gap l utf8 no_type is (λ front plain. plain_behind l settled front) more
