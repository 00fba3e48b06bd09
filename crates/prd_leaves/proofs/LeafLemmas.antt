-- The leaves of tokens, one after another.
use Rattle.std.proofs.Common.{◌≡◌, ◌∙◌, sym, ap, refl, ℕ, ◌+◌, ◌-◌, ◌<◌, List, [], ◌∷◌, ◌++◌, length, take, drop, map}
use Rattle.std.proofs.Common.{append_assoc, get_or, All, Ok, Bool, cond, Some, add-one, drop-cons}
use Rattle.std.specs.Prelude.{Option}
use Rattle.std.proofs.lemmas.List.{take_rest}
use Rattle.rif_lex.specs.declared.token.Kind.{Kind}
use Rattle.rif_lex.specs.declared.token.Kind.TheVariants.{Word, Curie, Iri}
use Rattle.rif_lex.specs.declared.token.Token.{Token}
use Rattle.rif_lex.specs.Lexing.{lexed}
use Rattle.rif_lex.specs.Spelling.{Written, written}
use Rattle.rif_lex.proofs.CallerLemmas.{inputs_are_texts, slices_are_tokens, slices_are_texts}
use Rattle.prd_grammar.specs.declared.leaf.Leaf.{Leaf}
use Rattle.prd_grammar.specs.declared.leaf.Leaf.TheVariants.{Key, Builtin as BuiltinLeaf, Carets as CaretsLeaf}
use Rattle.prd_grammar.specs.declared.leaf.Leaf.TheVariants.{Curie as CurieLeaf, Iri as IriLeaf, Open as OpenLeaf}
use Rattle.prd_grammar.specs.declared.leaf.Leaf.TheVariants.{TypeName as TypeLeaf, Word as WordLeaf}
use Rattle.prd_grammar.specs.declared.leaf.Keyword.TheVariants.{External as ExternalKey, Prefix as PrefixKey}
use Rattle.prd_leaves.specs.declared.behind.Behind.{Behind}
use Rattle.prd_grammar.specs.Prefixes.{Prefixes}
use Rattle.prd_leaves.specs.Leaves.{builtin_of, curie_iri, inner, is_behind_prefix, is_behind_external}
use Rattle.prd_leaves.specs.Leaves.{is_behind_carets, is_type_name, leaf_of, named_leaf, word_leaf, leaves_from}
use Rattle.prd_leaves.specs.Leaves.{prefixes_from, prefixes_with}
use Rattle.prd_leaves.specs.LeafSteps.{behind, front_from, front_of, IsTokenOf}

front_from-push : (front ls : List Leaf) (l : Leaf) → front_from front (ls ++ l ∷ []) ≡ l ∷ front_from front ls
front_from-push front [] l = refl
front_from-push front (x ∷ ls) l = front_from-push (x ∷ front) ls l

prefixes_from-push : (ls front : List Leaf) (prefixes : Prefixes) (l : Leaf) →
    prefixes_from prefixes front (ls ++ l ∷ []) ≡ prefixes_with (prefixes_from prefixes front ls)
    (front_from front ls) l
prefixes_from-push [] front prefixes l = refl
prefixes_from-push (x ∷ ls) front prefixes l = prefixes_from-push ls (x ∷ front) (prefixes_with prefixes front x) l

pub front_last : (found before : List Leaf) (last : Leaf) → found ≡ before ++ last ∷ [] →
    front_from [] found ≡ last ∷ front_from [] before
front_last found before last is = ap (front_from []) is ∙ front_from-push [] before last

pub declared_more : (found : List Leaf) (prefixes next : Prefixes) (l : Leaf) → prefixes ≡ prefixes_from [] [] found →
    next ≡ prefixes_with prefixes (front_from [] found) l → next ≡ prefixes_from [] [] (found ++ l ∷ [])
declared_more found prefixes next l before is =
    is ∙ (ap (λ (p : Prefixes). prefixes_with p (front_from [] found) l) before ∙ sym
    (prefixes_from-push found [] [] l))

pub leaves_more : (found all : List Leaf) (prefixes next : Prefixes) (l : Leaf) (w : Written) (ws : List Written) →
    found ++ leaves_from prefixes (front_from [] found) (w ∷ ws) ≡ all →
    l ≡ leaf_of prefixes (front_from [] found) w ws →
    next ≡ prefixes_with prefixes (front_from [] found) l →
    (found ++ l ∷ []) ++ leaves_from next (front_from [] (found ++ l ∷ [])) ws ≡ all
leaves_more found all prefixes next l w ws before is declared =
    let front = front_from [] found in
    let step : l ∷ leaves_from next (l ∷ front) ws ≡ leaves_from prefixes front (w ∷ ws) =
    rw (declared, is) refl in
    append_assoc found (l ∷ []) (leaves_from next (front_from [] (found ++ l ∷ [])) ws)
    ∙ (ap (λ (f : List Leaf). found ++ l ∷ leaves_from next f ws) (front_from-push [] found l)
    ∙ (ap (λ (ls : List Leaf). found ++ ls) step ∙ before))

same_prefix : (front : List Leaf) → is_behind_prefix front ≡ is_behind_prefix (front_of (behind front))
same_prefix (OpenLeaf ∷ Key PrefixKey ∷ front) = refl
same_prefix (OpenLeaf ∷ Key ExternalKey ∷ front) = refl
same_prefix (CaretsLeaf ∷ front) = refl
same_prefix front = refl

same_external : (front : List Leaf) → is_behind_external front ≡ is_behind_external (front_of (behind front))
same_external (OpenLeaf ∷ Key PrefixKey ∷ front) = refl
same_external (OpenLeaf ∷ Key ExternalKey ∷ front) = refl
same_external (CaretsLeaf ∷ front) = refl
same_external front = refl

same_carets : (front : List Leaf) → is_behind_carets front ≡ is_behind_carets (front_of (behind front))
same_carets (OpenLeaf ∷ Key PrefixKey ∷ front) = refl
same_carets (OpenLeaf ∷ Key ExternalKey ∷ front) = refl
same_carets (CaretsLeaf ∷ front) = refl
same_carets front = refl

same_named : (front : List Leaf) (iri : Option (List ℕ)) (other : Leaf) →
    named_leaf front iri other ≡ named_leaf (front_of (behind front)) iri other
same_named front iri other =
    ap (λ (b : Bool). cond b (TypeLeaf (is_type_name iri)) (cond (is_behind_external front) (BuiltinLeaf
    (builtin_of iri)) other))
    (same_carets front)
    ∙ ap (λ (b : Bool). cond (is_behind_carets (front_of (behind front))) (TypeLeaf (is_type_name iri)) (cond b
    (BuiltinLeaf (builtin_of iri)) other))
    (same_external front)

-- a token's leaf depends on what stands straight before it alone
same_kind : (prefixes : Prefixes) (front : List Leaf) (k : Kind) (t : List ℕ) (ws : List Written) →
    leaf_of prefixes front (record { kind = k; text = t }) ws
    ≡ leaf_of prefixes (front_of (behind front)) (record { kind = k; text = t }) ws
same_kind prefixes front Word t ws = ap (λ (b : Bool). cond b (WordLeaf t) (word_leaf t)) (same_prefix front)
same_kind prefixes front Curie t ws = same_named front (curie_iri prefixes t) (CurieLeaf (curie_iri prefixes t))
same_kind prefixes front Iri t ws = same_named front (Some (inner t)) (IriLeaf (inner t))
same_kind prefixes front k t ws = refl

pub leaf_of_front : (prefixes : Prefixes) (front : List Leaf) (w : Written) (ws : List Written) →
    leaf_of prefixes front w ws ≡ leaf_of prefixes (front_of (behind front)) w ws
leaf_of_front prefixes front w ws = same_kind prefixes front w.kind w.text ws

-- the tokens of an input are tokens of it
pub tokens_of_input : (bytes : List ℕ) (ts : List Token) → lexed bytes ≡ Ok ts → All (IsTokenOf bytes) ts
tokens_of_input bytes ts e =
    let input = (inputs_are_texts bytes ts).0 e in
    let texts = slices_are_texts bytes ts input.utf8 input.tokens in
    let tokens = slices_are_tokens bytes ts input.tokens in
    λ i d within. record { utf8 = texts i d within; form = (tokens i d within).0 }

pub token_at : (bytes : List ℕ) (ts : List Token) (i : ℕ) (d : Token) → lexed bytes ≡ Ok ts → i < length ts →
    IsTokenOf bytes (get_or ts i d)
token_at bytes ts i d e within = tokens_of_input bytes ts e i d within

pub next_token : (bytes : List ℕ) (ts : List Token) (i : ℕ) (d : Token) → i < length ts →
    map (written bytes) (drop i ts) ≡ written bytes (get_or ts i d) ∷ map (written bytes) (drop (i + 1) ts)
next_token bytes ts i d within = rw (drop-cons ts i d, add-one) refl

pub leaf_given : (prefixes : Prefixes) (b : Behind) (slice found : List Leaf) (w : Written) (bytes : List ℕ)
    (ts : List Token) (n : ℕ)
    (l : Leaf) → l ≡ leaf_of prefixes (front_of b) w (map (written bytes) (take (length ts - n) (drop n ts))) →
    b ≡ behind (front_from [] slice) → slice ≡ found →
    l ≡ leaf_of prefixes (front_from [] found) w (map (written bytes) (drop n ts))
leaf_given prefixes b slice found w bytes ts n l is behind_is same =
    let rest = map (written bytes) (take (length ts - n) (drop n ts)) in
    is
    ∙ (ap (λ (x : Behind). leaf_of prefixes (front_of x) w rest) (behind_is ∙ ap (λ (ls : List Leaf). behind
    (front_from [] ls)) same)
    ∙ (sym (leaf_of_front prefixes (front_from [] found) w rest)
    ∙ ap (λ (us : List Token). leaf_of prefixes (front_from [] found) w (map (written bytes) us)) (take_rest ts n)))

pub declared_given : (prefixes next : Prefixes) (slice found : List Leaf) (l : Leaf) →
    next ≡ prefixes_with prefixes (front_from [] slice) l → slice ≡ found → next ≡ prefixes_with prefixes
    (front_from [] found) l
declared_given prefixes next slice found l is same =
    is ∙ ap (λ (ls : List Leaf). prefixes_with prefixes (front_from [] ls) l) same

pub leaves_next : (found all : List Leaf) (prefixes next : Prefixes) (l : Leaf) (bytes : List ℕ) (ts : List Token)
    (i : ℕ) (d : Token) →
    i < length ts → found ++ leaves_from prefixes (front_from [] found) (map (written bytes) (drop i ts)) ≡ all →
    l ≡ leaf_of prefixes (front_from [] found) (written bytes (get_or ts i d))
    (map (written bytes) (drop (i + 1) ts)) →
    next ≡ prefixes_with prefixes (front_from [] found) l →
    (found ++ l ∷ []) ++ leaves_from next (front_from [] (found ++ l ∷ [])) (map (written bytes) (drop (i + 1) ts))
    ≡ all
leaves_next found all prefixes next l bytes ts i d within before is declared =
    let here : found ++ leaves_from prefixes (front_from [] found) (written bytes (get_or ts i d) ∷ map
    (written bytes) (drop (i + 1) ts)) ≡ all =
    ap (λ (ws : List Written). found ++ leaves_from prefixes (front_from [] found) ws) (sym
    (next_token bytes ts i d within)) ∙ before in
    leaves_more found all prefixes next l (written bytes (get_or ts i d)) (map (written bytes) (drop
    (i + 1) ts)) here is declared
