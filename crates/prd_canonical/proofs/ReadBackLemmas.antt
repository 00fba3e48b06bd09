-- The canonical text of a document that was read is read back as the same document, or refused for its length or
-- depth.
use Rattle.std.proofs.Common.{◌≡◌, ◌≤◌, ◌∙◌, ◌⊎◌, inl, inr, ⊎_elim, ap, refl, sym, subst, ℕ, true, false, nat_lt}
use Rattle.std.proofs.Common.{List, [], ◌∷◌, ◌++◌, length, IsUtf8, Err}
use Rattle.std.proofs.lemmas.Bool.{ltb-false}
use Rattle.std.proofs.lemmas.Str.{IsUtf8-nil, IsUtf8-append}
use Rattle.rif_refusals.specs.Limits.{most_input_bytes}
use Rattle.rif_refusals.specs.declared.refusal.Refusal.TheVariants.{InputTooLong}
use Rattle.rif_lex.specs.declared.token.Token.{Token}
use Rattle.rif_lex.specs.Lexing.{lexed}
use Rattle.rif_lex.specs.Spelling.{Gap, joined, space, line_feed, gap_text, Spelled, spelled_text}
use Rattle.rif_lex.proofs.CallerLemmas.{inputs_are_texts, spelled_is_lexed}
use Rattle.prd_grammar.specs.declared.cause.Cause.TheVariants.{TooDeep}
use Rattle.prd_grammar.specs.declared.leaf.Leaf.{Leaf}
use Rattle.prd_writing.specs.Canonical.{canonical_spelling, canonical_text}
use Rattle.prd_canonical.specs.CanonicalTrees.{around_members, canonical_document, canonical_group}
use Rattle.prd_canonical.specs.CanonicalTrees.{canonical_prefixes}
use Rattle.prd_leaves.specs.Documents.{IsRead, column_of, line_of}
use Rattle.prd_leaves.specs.Leaves.{leaves_from, leaves_of}
use Rattle.prd_canonical.specs.ReadBack.{CanonicalIsReadBack, IsReadBack, IsTooDeep}
use Rattle.prd_grammar.specs.Refusals.{IsClear, IsRefusedAt}
use Rattle.prd_grammar.specs.Trees.{MemberTrees, no_members, rule_member, group_member, PrefixTrees, no_group}
use Rattle.prd_grammar.specs.Trees.{one_group}
use Rattle.prd_grammar.specs.Trees.{prefix, DocumentTree, document, spell_document}
use Rattle.prd_grammar.specs.Values.{document_prefixes, document_value}
use Rattle.prd_canonical.specs.Writable.{IsWritableDocument}
use Rattle.prd_canonical.proofs.CanonicalClearLemmas.{IsClearOrDeep, canonical_is_clear}
use Rattle.prd_canonical.proofs.CanonicalDocumentLemmas.{same_document}
use Rattle.prd_canonical.proofs.CanonicalLeavesLemmas.{AreTexts, plain_start}
use Rattle.prd_canonical.proofs.ConstantTextLemmas.{low_text}
use Rattle.prd_canonical.proofs.LeadingRuleLemmas.{canonical_leads}
use Rattle.prd_leaves.proofs.CallerLemmas.{count_of_leaves}
use Rattle.prd_canonical.proofs.SeparateRuleLemmas.{separate_document}
use Rattle.prd_canonical.proofs.WritableDocumentLemmas.{read_is_writable}

gap_utf8 : (gap : Gap) → IsUtf8 (gap_text gap)
gap_utf8 joined = IsUtf8-nil
gap_utf8 space = low_text (32 ∷ []) refl
gap_utf8 line_feed = low_text (10 ∷ []) refl

spelled_utf8 : (ss : List Spelled) → AreTexts ss → IsUtf8 (spelled_text ss)
spelled_utf8 [] texts = IsUtf8-nil
spelled_utf8 (s ∷ ss) texts =
    IsUtf8-append s.token.text (gap_text s.gap ++ spelled_text ss) texts.0
    (IsUtf8-append (gap_text s.gap) (spelled_text ss) (gap_utf8 s.gap) (spelled_utf8 ss texts.1))

-- a canonical tree declares no prefix
none_around : (ms : MemberTrees) → document_prefixes (document (around_members ms)) ≡ []
none_around no_members = refl
none_around (rule_member r ms) = refl
none_around (group_member g ms) = refl

none_declared : (ps : PrefixTrees) → document_prefixes (document (canonical_prefixes ps)) ≡ []
none_declared no_group = refl
none_declared (one_group g) = none_around (canonical_group _ g no_members)
none_declared (prefix name iri ps) = none_declared ps

no_prefixes : (t : DocumentTree) → document_prefixes (canonical_document t) ≡ []
no_prefixes (document ps) = none_declared ps

-- the tokens of a canonical tree are read as its document, or refused at a bracket that is too deep
tokens_are_read : (t : DocumentTree) (text : List ℕ) (tokens : List Token) →
    leaves_of text tokens ≡ spell_document (canonical_document t) →
    IsClearOrDeep (spell_document (canonical_document t)) →
    IsRead tokens text (document_value t) [] ⊎ IsTooDeep tokens text
tokens_are_read t text tokens leaves (inl clear) = inl (record {
  tree = canonical_document t;
  spelled = sym leaves;
  clear = subst (IsClear (leaves_of text tokens)) (count_of_leaves text tokens)
      (subst (λ (ls : List Leaf). IsClear ls (length ls)) (sym leaves) clear);
  value = same_document t;
  declared = no_prefixes t;
})
tokens_are_read t text tokens leaves (inr deep) = inr (
  line_of text tokens deep.0,
  column_of text tokens deep.0,
  record {
    place = deep.0;
    cause = TooDeep;
    decides = subst (λ (ls : List Leaf). IsRefusedAt ls deep.0 TooDeep) (sym leaves) deep.1;
    is = refl;
  },
)

tree_is_read_back : (t : DocumentTree) → IsWritableDocument t →
    IsClear (spell_document t) (length (spell_document t)) →
    length (canonical_text (document_value t)) ≤ most_input_bytes →
    IsReadBack (canonical_text (document_value t)) (document_value t)
tree_is_read_back t writable clear short =
    let ss = canonical_spelling (document_value t) in
    let text = spelled_text ss in
    let leads = canonical_leads t writable in
    let lexes = spelled_is_lexed ss (separate_document t writable) in
    let tokens = lexes.0 in
    let leaves : leaves_of text tokens ≡ spell_document (canonical_document t) =
    ap (leaves_from [] []) lexes.2 ∙ leads.leaves [] plain_start in (
      tokens,
      (
        (inputs_are_texts text tokens).1
            (record { short = short; utf8 = spelled_utf8 ss leads.texts; tokens = lexes.1 }),
        tokens_are_read t text tokens leaves (canonical_is_clear t clear),
      ),
    )

long_or_short : (bytes : List ℕ) → (lexed bytes ≡ Err InputTooLong) ⊎ (length bytes ≤ most_input_bytes)
long_or_short bytes =
    elim (nat_lt most_input_bytes (length bytes)) as (λ v. nat_lt most_input_bytes (length bytes) ≡ v →
    (lexed bytes ≡ Err InputTooLong) ⊎ (length bytes ≤ most_input_bytes)) [
      | true ↦ λ is. inl (rw is refl)
      | false ↦ λ is. inr (ltb-false _ _ is)
    ] refl

pub canonical_is_read_back : CanonicalIsReadBack
canonical_is_read_back bytes tokens doc prefixes lexes read =
    let clear = subst (λ (ls : List Leaf). IsClear ls (length ls)) (sym read.spelled)
    (subst (IsClear (leaves_of bytes tokens)) (sym (count_of_leaves bytes tokens)) read.clear) in
    ⊎_elim (λ (long : lexed (canonical_text doc) ≡ Err InputTooLong). inl long)
    (λ (short : length (canonical_text doc) ≤ most_input_bytes). inr
    (subst (λ d. IsReadBack (canonical_text d) d) read.value
    (tree_is_read_back read.tree (read_is_writable bytes tokens read.tree lexes read.spelled) clear
    (subst (λ d. length (canonical_text d) ≤ most_input_bytes) (sym read.value) short))))
    (long_or_short (canonical_text doc))
