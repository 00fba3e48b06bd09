-- The leaves of tokens can be written so that they are read back.
use Rattle.std.proofs.Common.{◌≡◌, ℕ, Bool, true, false, cond, List, [], ◌∷◌, map, refl, Some, None, Ok, IsUtf8}
use Rattle.std.proofs.Common.{bytes_eq, if◌then◌else◌}
use Rattle.std.specs.Prelude.{Option, codes}
use Rattle.std.specs.List.{AllByRecursion}
use Rattle.std.proofs.lemmas.List.Elements.{recursion_from_All}
use Rattle.std.proofs.lemmas.Str.{IsUtf8-nil}
use Rattle.rif_lex.specs.declared.token.Kind.{Kind}
use Rattle.rif_lex.specs.declared.token.Kind.TheVariants.{Word, Curie, Local, Var, Int, Str, Iri, Carets}
use Rattle.rif_lex.specs.declared.token.Token.{Token}
use Rattle.rif_lex.specs.Lexing.{lexed}
use Rattle.rif_lex.specs.Spelling.{Written, written, IsToken}
use Rattle.rif_lex.proofs.CallerLemmas.{forms_are_tokens}
use Rattle.rif_tree.specs.declared.keyword.Keyword.{Keyword}
use Rattle.rif_tree.specs.Keywords.{keyword_named}
use Rattle.prd_grammar.specs.declared.leaf.BuiltinName.{BuiltinName}
use Rattle.prd_grammar.specs.declared.leaf.Leaf.{Leaf}
use Rattle.prd_grammar.specs.declared.leaf.Leaf.TheVariants.{Key, LeftOut, Builtin as BuiltinLeaf, Curie as CurieLeaf}
use Rattle.prd_grammar.specs.declared.leaf.Leaf.TheVariants.{Iri as IriLeaf, TypeName as TypeLeaf, Word as WordLeaf}
use Rattle.prd_grammar.specs.Prefixes.{Prefixes}
use Rattle.prd_leaves.specs.Literals.{unescaped}
use Rattle.prd_leaves.specs.Leaves.{builtin_of, curie_iri, inner, is_behind_prefix, is_behind_external}
use Rattle.prd_leaves.specs.Leaves.{is_behind_carets, is_type_name, named_leaf, word_leaf, typed_leaf, string_leaf}
use Rattle.prd_leaves.specs.Leaves.{key_leaf, is_left_out}
use Rattle.prd_leaves.specs.Leaves.{leaf_of, prefixes_with, leaves_from, leaves_of}
use Rattle.prd_leaves.specs.LeafSteps.{IsTokenOf}
use Rattle.prd_canonical.specs.WritableLeaves.{IsWritableLeaf, AreWritableLeaves, AreIriPrefixes, AreTextTokens}
use Rattle.prd_leaves.proofs.CallerLemmas.{unescaped_utf8, local_utf8, var_utf8, str_utf8, iri_utf8, tokens_of_input}
use Rattle.prd_canonical.proofs.WritableIntegerLemmas.{writable_integer}
use Rattle.prd_canonical.proofs.WritableTextLemmas.{iri_inner, name_behind}
use Rattle.prd_canonical.proofs.WritablePrefixLemmas.{writable_curie, iri_prefixes}
use Rattle.prd_canonical.proofs.WritableLiteralLemmas.{writable_literal}

-- a leaf that can be written
record IsFit (l : Leaf) : Type 0 where
  fit : IsWritableLeaf l

left_out : (test : Bool) (t : List ℕ) → IsFit (cond test LeftOut (WordLeaf t))
left_out true t = record { fit = tt }
left_out false t = record { fit = tt }

key : (keyword : Option Keyword) (t : List ℕ) → IsFit (key_leaf keyword t)
key (Some keyword) t = record { fit = tt }
key None t = left_out (is_left_out t) t

word : (t : List ℕ) → IsFit (word_leaf t)
word t = key (keyword_named t) t

word_by : (test : Bool) (t : List ℕ) → IsWritableLeaf (cond test (WordLeaf t) (word_leaf t))
word_by true t = tt
word_by false t = (word t).fit

named_by : (carets external known : Bool) (name : BuiltinName) (other : Leaf) → IsWritableLeaf other →
    IsWritableLeaf (cond carets (TypeLeaf known) (cond external (BuiltinLeaf name) other))
named_by true external known name other fit = tt
named_by false true known name other fit = tt
named_by false false known name other fit = fit

named : (front : List Leaf) (iri : Option (List ℕ)) (other : Leaf) → IsWritableLeaf other →
    IsWritableLeaf (named_leaf front iri other)
named front iri other fit =
    named_by (is_behind_carets front) (is_behind_external front) (is_type_name iri) (builtin_of iri) other fit

-- a string behind whose `^^` a token of some kind stands
typed_by : (prefixes : Prefixes) (t : List ℕ) (k : Kind) (u : List ℕ) → IsUtf8 t →
    IsWritableLeaf (typed_leaf prefixes t (record { kind = k; text = u }))
typed_by prefixes t Iri u utf8 = writable_literal t (Some (inner u)) utf8
typed_by prefixes t Curie u utf8 = writable_literal t (curie_iri prefixes u) utf8
typed_by prefixes t k u utf8 = IsUtf8-nil

-- a string before a token of some kind
last_string : (prefixes : Prefixes) (t : List ℕ) (k : Kind) (u : List ℕ) → IsUtf8 t →
    IsWritableLeaf (string_leaf prefixes t (record { kind = k; text = u } ∷ []))
last_string prefixes t Carets u utf8 = IsUtf8-nil
last_string prefixes t k u utf8 = utf8

string_before : (prefixes : Prefixes) (t : List ℕ) (k : Kind) (u : List ℕ) (w : Written) (rest : List Written) →
    IsUtf8 t → IsWritableLeaf (string_leaf prefixes t (record { kind = k; text = u } ∷ w ∷ rest))
string_before prefixes t Carets u w rest utf8 = typed_by prefixes t w.kind w.text utf8
string_before prefixes t k u w rest utf8 = utf8

string : (prefixes : Prefixes) (t : List ℕ) (rest : List Written) → IsUtf8 t →
    IsWritableLeaf (string_leaf prefixes t rest)
string prefixes t [] utf8 = utf8
string prefixes t (c ∷ []) utf8 = last_string prefixes t c.kind c.text utf8
string prefixes t (c ∷ w ∷ rest) utf8 = string_before prefixes t c.kind c.text w rest utf8

-- the leaf of a token, by its kind
leaf_by : (prefixes : Prefixes) (front : List Leaf) (k : Kind) (t : List ℕ) (rest : List Written) →
    AreIriPrefixes prefixes → IsToken (record { kind = k; text = t }) → IsUtf8 t →
    IsWritableLeaf (leaf_of prefixes front (record { kind = k; text = t }) rest)
leaf_by prefixes front Word t rest all token utf8 = word_by (is_behind_prefix front) t
leaf_by prefixes front Curie t rest all token utf8 =
    named front (curie_iri prefixes t) (CurieLeaf (curie_iri prefixes t))
    (writable_curie prefixes t all ((forms_are_tokens Curie t).0 token) utf8)
leaf_by prefixes front Local t rest all token utf8 =
    name_behind 95 t ((forms_are_tokens Local t).0 token)
    (local_utf8 (record { kind = Local; text = t }) token refl utf8)
leaf_by prefixes front Var t rest all token utf8 =
    name_behind 63 t ((forms_are_tokens Var t).0 token)
    (var_utf8 (record { kind = Var; text = t }) token refl utf8)
leaf_by prefixes front Int t rest all token utf8 = writable_integer t
leaf_by prefixes front Str t rest all token utf8 =
    string prefixes (unescaped (inner t)) rest
    (unescaped_utf8 (inner t) (str_utf8 (record { kind = Str; text = t }) token refl utf8))
leaf_by prefixes front Iri t rest all token utf8 =
    named front (Some (inner t)) (IriLeaf (inner t))
    (iri_inner t ((forms_are_tokens Iri t).0 token) (iri_utf8 (record { kind = Iri; text = t }) token refl utf8))
leaf_by prefixes front k t rest all token utf8 = tt

leaves : (ws : List Written) (prefixes : Prefixes) (front : List Leaf) → AreTextTokens ws → AreIriPrefixes prefixes →
    AreWritableLeaves (leaves_from prefixes front ws)
leaves [] prefixes front tokens all = tt
leaves (w ∷ ws) prefixes front tokens all =
    let l = leaf_of prefixes front w ws in
    let fit = leaf_by prefixes front w.kind w.text ws all tokens.0.form tokens.0.utf8 in
    (fit, leaves ws (prefixes_with prefixes front l) (l ∷ front) tokens.1 (iri_prefixes prefixes front l all fit))

text_tokens : (bytes : List ℕ) (ts : List Token) → AllByRecursion (IsTokenOf bytes) ts →
    AreTextTokens (map (written bytes) ts)
text_tokens bytes [] all = tt
text_tokens bytes (t ∷ ts) all = (record { form = all.0.form; utf8 = all.0.utf8 }, text_tokens bytes ts all.1)

-- the leaves of an input
pub writable_leaves : (bytes : List ℕ) (tokens : List Token) → lexed bytes ≡ Ok tokens →
    AreWritableLeaves (leaves_of bytes tokens)
writable_leaves bytes tokens e =
    let all = recursion_from_All (IsTokenOf bytes) tokens (tokens_of_input bytes tokens e) in
    leaves (map (written bytes) tokens) [] [] (text_tokens bytes tokens all) tt
