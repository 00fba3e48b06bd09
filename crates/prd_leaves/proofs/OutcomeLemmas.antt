-- Tokens have one refusal at most, and none where they are a document that is read.
use Rattle.std.proofs.Common.{◌≡◌, ◌∙◌, ◌≤◌, ◌<◌, ◌+◌, ◌⊎◌, ⊎_elim, refl, sym, ap, subst, ℕ, List, [], ◌∷◌, ◌++◌}
use Rattle.std.proofs.Common.{append_assoc, length, map, take, drop, take-append-drop, get_or, Some, None, suc, arith}
use Rattle.std.proofs.lemmas.List.{length-map, take-take}
use Rattle.std.specs.declared.option.Option.{Option}
use Rattle.rif_refusals.specs.declared.refusal.Refusal.{Refusal}
use Rattle.rif_tree.specs.declared.rule.Doc.{Doc}
use Rattle.rif_lex.specs.declared.token.Token.{Token}
use Rattle.rif_lex.specs.Spelling.{Written, written}
use Rattle.prd_grammar.specs.declared.cause.Cause.{Cause}
use Rattle.prd_grammar.specs.declared.leaf.Leaf.{Leaf}
use Rattle.prd_grammar.specs.declared.leaf.Leaf.TheVariants.{Close}
use Rattle.prd_leaves.specs.Documents.{IsRead, IsRefused, column_of, line_of}
use Rattle.prd_leaves.specs.Leaves.{leaf_of, leaves_from, leaves_of, prefixes_with}
use Rattle.prd_grammar.specs.Prefixes.{Prefixes}
use Rattle.prd_grammar.specs.Refusals.{DecidesAt, IsClear, IsDocument, IsFront, IsRefusedAt, refusal_at}

at_or_below : (a b : ℕ) → a ≤ b → (a < b) ⊎ (a ≡ b)
at_or_below a b h = grind arith

-- a front of a front, and of a document
front_of_front : (ls : List Leaf) (i j : ℕ) → i ≤ j → IsFront (take j ls) → IsFront (take i ls)
front_of_front ls i j low front =
    let cut : take i ls ++ drop i (take j ls) ≡ take j ls =
    ap (λ (xs : List Leaf). xs ++ drop i (take j ls)) (sym (take-take i j ls low))
    ∙ take-append-drop i (take j ls) in (
      drop i (take j ls) ++ front.0,
      subst IsDocument
          (ap (λ (xs : List Leaf). xs ++ front.0) (sym cut)
          ∙ append_assoc (take i ls) (drop i (take j ls)) front.0) front.1,
    )

pub front_of_document : (ls : List Leaf) (i : ℕ) → IsDocument ls → IsFront (take i ls)
front_of_document ls i doc = (drop i ls, subst IsDocument (sym (take-append-drop i ls)) doc)

none_or_some : (found : Option Cause) (cause : Cause) → found ≡ None → found ≡ Some cause → ⊥
none_or_some found cause none some = absurd (cc)

-- nothing decides where the front goes on and no refusal stands
none_decides : (ls : List Leaf) (place count : ℕ) (cause : Cause) → place < count → IsClear ls count →
    IsFront (take (place + 1) ls) →
    DecidesAt ls place cause (get_or ls place Close) → ⊥
none_decides ls place count cause low clear front decides =
    ⊎_elim (λ none. none.0 front) (λ some. none_or_some _ cause (clear place Close low) some.1) decides

not_before : (ls : List Leaf) (p q : ℕ) (a b : Cause) → IsRefusedAt ls p a → IsRefusedAt ls q b → p < q → ⊥
not_before ls p q a b first second low =
    let within = second.within in
    none_decides ls p q a low second.clear (front_of_front ls (p + 1) q (omega arith) second.front)
    (first.here Close (omega arith))

same_cause : (found : Option Cause) (a b : Cause) → found ≡ Some a → found ≡ Some b → a ≡ b
same_cause found a b is at = cc

one_decides : (ls : List Leaf) (p : ℕ) (a b : Cause) (l : Leaf) → DecidesAt ls p a l → DecidesAt ls p b l → a ≡ b
one_decides ls p a b l first second =
    ⊎_elim (λ none. ⊎_elim (λ other. none.1 ∙ sym other.1) (λ other. absurd (none.0 other.0)) second)
    (λ some. ⊎_elim (λ other. absurd (other.0 some.0)) (λ other. same_cause _ a b some.1 other.1) second) first

same_place : (ls : List Leaf) (p : ℕ) (a b : Cause) → IsRefusedAt ls p a → IsRefusedAt ls p b → a ≡ b
same_place ls p a b first second =
    ⊎_elim (λ (low : p < length ls). one_decides ls p a b (get_or ls p Close) (first.here Close low)
    (second.here Close low))
    (λ (all : p ≡ length ls). (first.end all).1 ∙ sym (second.end all).1) (at_or_below p (length ls) first.within)

three_ways : (p q : ℕ) → (p < q) ⊎ ((q < p) ⊎ (p ≡ q))
three_ways p q = grind arith

one_place : (ls : List Leaf) (p q : ℕ) (a b : Cause) → IsRefusedAt ls p a → IsRefusedAt ls q b → p ≡ q
one_place ls p q a b first second =
    ⊎_elim (λ (low : p < q). absurd (not_before ls p q a b first second low))
    (λ rest. ⊎_elim (λ (low : q < p). absurd (not_before ls q p b a second first low)) (λ (same : p ≡ q). same) rest)
    (three_ways p q)

one_cause : (ls : List Leaf) (p q : ℕ) (a b : Cause) → IsRefusedAt ls p a → IsRefusedAt ls q b → p ≡ q → a ≡ b
one_cause ls p q a b first second same =
    same_place ls p a b first (subst (λ (k : ℕ). IsRefusedAt ls k b) (sym same) second)

-- a refusal at another place, or for another cause
abbrev refusal_of : List Token → List ℕ → Cause → ℕ → Refusal
refusal_of tokens bytes cause place = refusal_at cause (line_of bytes tokens place) (column_of bytes tokens place)

-- Tokens have one refusal at most.
pub one_refusal : (tokens : List Token) (bytes : List ℕ) (a b : Refusal) → IsRefused tokens bytes a →
    IsRefused tokens bytes b → a ≡ b
one_refusal tokens bytes a b first second =
    let ls = leaves_of bytes tokens in
    let place = one_place ls first.place second.place first.cause second.cause first.decides second.decides in
    let cause = one_cause ls first.place second.place first.cause second.cause first.decides second.decides place in
    first.is ∙ (ap (λ (c : Cause). refusal_of tokens bytes c first.place) cause
    ∙ (ap (refusal_of tokens bytes second.cause) place ∙ sym second.is))

-- each token is a leaf
leaves_count : (prefixes : Prefixes) (front : List Leaf) (ws : List Written) →
    length (leaves_from prefixes front ws) ≡ length ws
leaves_count prefixes front [] = refl
leaves_count prefixes front (w ∷ ws) =
    let l = leaf_of prefixes front w ws in ap suc (leaves_count (prefixes_with prefixes front l) (l ∷ front) ws)

pub count_of_leaves : (bytes : List ℕ) (tokens : List Token) → length (leaves_of bytes tokens) ≡ length tokens
count_of_leaves bytes tokens = leaves_count [] [] (map (written bytes) tokens) ∙ length-map tokens (written bytes)

not_refused : (ls : List Leaf) (place : ℕ) (cause : Cause) → IsDocument ls → IsClear ls (length ls) →
    IsRefusedAt ls place cause → ⊥
not_refused ls place cause doc clear refused =
    ⊎_elim (λ (low : place < length ls).
    none_decides ls place (length ls) cause low clear (front_of_document ls (place + 1) doc) (refused.here Close low))
    (λ (all : place ≡ length ls). (refused.end all).0 doc) (at_or_below place (length ls) refused.within)

-- Tokens that are read have no refusal.
pub not_both : (tokens : List Token) (bytes : List ℕ) (doc : Doc) (prefixes : Prefixes) (refusal : Refusal) →
    IsRead tokens bytes doc prefixes → IsRefused tokens bytes refusal → ⊥
not_both tokens bytes doc prefixes refusal read refused =
    let ls = leaves_of bytes tokens in
    not_refused ls refused.place refused.cause (read.tree, read.spelled)
    (subst (IsClear ls) (sym (count_of_leaves bytes tokens)) read.clear) refused.decides
