-- The canonical text of an input's document, as an input of its own. No line of it begins with `%`: it is tokens with
-- gaps, a line feed is a gap, and no token begins with `%`.
use Rattle.std.proofs.Common.{◌≡◌, ◌⊎◌, inl, inr, refl, sym, ap, subst, ℕ, ◌==◌, arith, Bool, true, false, List}
use Rattle.std.proofs.Common.{[], ◌∷◌, ◌++◌, map, length, Ok, Err}
use Rattle.std.specs.Prelude.{All}
use Rattle.std.proofs.lemmas.Bool.{eqb-true}
use Rattle.std.proofs.lemmas.List.Elements.{All-head, All-tail, All-map, All-same, All-weaker}
use Rattle.rif_refusals.specs.declared.refusal.Refusal.{Refusal}
use Rattle.rif_refusals.specs.declared.refusal.Refusal.TheVariants.{InputTooLong, TooDeep}
use Rattle.rif_tree.specs.declared.rule.Doc.{Doc}
use Rattle.safe_rules.specs.declared.safe_rule.SafeRule.{SafeRule}
use Rattle.rif_safe.specs.Safeness.{safe_rules_of}
use Rattle.rif_lex.specs.declared.piece.Piece.TheVariants.{Lexeme}
use Rattle.rif_lex.specs.declared.token.Kind.{Kind}
use Rattle.rif_lex.specs.declared.token.Token.{Token}
use Rattle.rif_lex.specs.Lexing.{lexed}
use Rattle.rif_lex.specs.Pieces.{piece_at}
use Rattle.rif_lex.specs.Places.{line_feeds}
use Rattle.rif_lex.specs.Spelling.{AreSeparate, Gap, IsToken, Spelled, Written, gap_text, joined, line_feed, space}
use Rattle.rif_lex.specs.Spelling.{spelled_text, written}
use Rattle.rif_lex.proofs.CallerLemmas.{inputs_are_texts, line_feeds_first, inputs_are_refused, slices_are_tokens}
use Rattle.rif_lex.proofs.CallerLemmas.{spelled_is_lexed}
use Rattle.prd_writing.specs.Canonical.{canonical_spelling, canonical_text}
use Rattle.prd_leaves.specs.Documents.{IsRead, IsRefused as IsDocumentRefused}
use Rattle.prd_canonical.specs.ReadBack.{IsReadBack, IsTooDeep}
use Rattle.prd_canonical.proofs.CallerLemmas.{canonical_is_read_back, canonical_is_separate}
use Rattle.rif_script.specs.declared.job.Job.{Job}
use Rattle.rif_script.specs.CheckedText.{CheckedTextIsAJob, IsTooLongOrDeep, document_job}
use Rattle.rif_script.specs.Jobs.{IsJobOf, IsRefused, IsScript, OneOutcome, document_text}
use Rattle.rif_script.proofs.JobLemmas.{document_of}
use Rattle.rif_script.proofs.PlainLineLemmas.{document_is_whole, is_plain, script_is_empty}

-- the rest of a line, and then more
plain_behind : (bs rest : List ℕ) → line_feeds bs ≡ 0 → is_plain false rest ≡ true →
    is_plain false (bs ++ rest) ≡ true
plain_behind [] rest none plain = plain
plain_behind (b ∷ bs) rest none plain =
    let first = line_feeds_first b bs none in
    rw first.0 (plain_behind bs rest first.1 plain)

-- a token, and then more
token_plain : (begins : Bool) (k : Kind) (text rest : List ℕ) → piece_at text ≡ Lexeme k (length text) →
    line_feeds text ≡ 0 → is_plain false rest ≡ true → is_plain begins (text ++ rest) ≡ true
token_plain begins k [] rest is none plain = cc
token_plain begins k (b ∷ bs) rest is none plain =
    let first = line_feeds_first b bs none in
    let other : (b == 37) ≡ false = elim (b == 37) as (λ v. (b == 37) ≡ v → v ≡ false) [
      | true ↦ λ same. (let e = eqb-true b 37 same in
          let unread = subst (λ (c : ℕ). piece_at (c ∷ bs) ≡ Lexeme k (length (c ∷ bs))) e is in cc)
      | false ↦ λ _. refl
    ] refl in
    elim begins as (λ v. is_plain v ((b ∷ bs) ++ rest) ≡ true) [
      | true ↦ rw (other, first.0) (plain_behind bs rest first.1 plain)
      | false ↦ rw first.0 (plain_behind bs rest first.1 plain)
    ]

gap_plain : (gap : Gap) (rest : List ℕ) → ((begins : Bool) → is_plain begins rest ≡ true) →
    is_plain false (gap_text gap ++ rest) ≡ true
gap_plain joined rest plain = plain false
gap_plain space rest plain = plain false
gap_plain line_feed rest plain = plain true

tokens_plain : (ss : List Spelled) → AreSeparate ss →
    All (λ (w : Written). line_feeds w.text ≡ 0) (map (λ s. s.token) ss) → (begins : Bool) →
    is_plain begins (spelled_text ss) ≡ true
tokens_plain [] separate lines begins = refl
tokens_plain (s ∷ ss) separate lines begins =
    let P = λ (w : Written). line_feeds w.text ≡ 0 in
    let more = tokens_plain ss separate.2 (All-tail P s.token (map (λ s. s.token) ss) lines) in
    token_plain begins s.token.kind s.token.text (gap_text s.gap ++ spelled_text ss) separate.0
    (All-head P s.token (map (λ s. s.token) ss) lines) (gap_plain s.gap (spelled_text ss) more)

spelled_plain : (ss : List Spelled) → AreSeparate ss → is_plain true (spelled_text ss) ≡ true
spelled_plain ss separate =
    let text = spelled_text ss in
    let P = λ (w : Written). line_feeds w.text ≡ 0 in
    let lexes = spelled_is_lexed ss separate in
    let slices = All-weaker (λ (t : Token). IsToken (written text t) × (line_feeds (written text t).text ≡ 0))
    (λ (t : Token). line_feeds (written text t).text ≡ 0) (λ t is. is.1) lexes.0
    (slices_are_tokens text lexes.0 lexes.1) in
    tokens_plain ss separate
    (All-same P (map (λ s. s.token) ss) (map (written text) lexes.0) (sym lexes.2)
    (All-map P (written text) lexes.0 slices))
    true

canonical_plain : (bytes : List ℕ) (doc : Doc) (job : Job) → IsJobOf bytes doc job →
    is_plain true (canonical_text doc) ≡ true
canonical_plain bytes doc job is =
    let document = is.document in
    spelled_plain (canonical_spelling doc)
    (canonical_is_separate (document_text bytes) document.tokens doc is.prefixes document.lexed document.read)

no_script : IsScript [] [] [] []
no_script = record {
  given = [];
  lines_are = tt;
  clients = refl;
  sent = refl;
  within = record { few_budgets = omega arith; few_items = omega arith; few_clients = omega arith };
}

-- a text whose tokens are a document, or are too deep
abbrev Outcome : List ℕ → Doc → List SafeRule → Type 0
Outcome text doc rules =
    IsJobOf text doc (document_job rules) ⊎ ((refusal : Refusal) × IsTooLongOrDeep refusal × IsRefused text refusal)

read_outcome : (text : List ℕ) (doc : Doc) (rules : List SafeRule) (tokens : List Token)
    → safe_rules_of doc ≡ Ok rules →
    is_plain true text ≡ true → lexed text ≡ Ok tokens → IsRead tokens text doc [] ⊎ IsTooDeep tokens text →
    Outcome text doc rules
read_outcome text doc rules tokens safe plain lexes (inl read) =
    let input = (inputs_are_texts text tokens).0 lexes in
    inl (record {
      text = record { short = input.short; utf8 = input.utf8 };
      prefixes = [];
      document = document_of text text doc [] (sym (document_is_whole text plain)) (tokens, lexes, read);
      safe = safe;
      script = subst (λ (ls : List (List ℕ)). IsScript [] ls [] []) (sym (script_is_empty text plain)) no_script;
    })
read_outcome text doc rules tokens safe plain lexes (inr deep) =
    let input = (inputs_are_texts text tokens).0 lexes in
    let whole = sym (document_is_whole text plain) in
    inr (
      TooDeep deep.0 deep.1,
      tt,
      inr (inr (
        record { short = input.short; utf8 = input.utf8 },
        inr (inl (record {
          tokens = tokens;
          lexed = subst (λ (t : List ℕ). lexed t ≡ Ok tokens) whole lexes;
          refused = subst (λ (t : List ℕ). IsDocumentRefused tokens t (TooDeep deep.0 deep.1)) whole deep.2;
        })),
      )),
    )

text_outcome : (text : List ℕ) (doc : Doc) (rules : List SafeRule) → safe_rules_of doc ≡ Ok rules →
    is_plain true text ≡ true → (lexed text ≡ Err InputTooLong) ⊎ IsReadBack text doc → Outcome text doc rules
text_outcome text doc rules safe plain (inl long) =
    inr (InputTooLong, tt, inl (refl, (inputs_are_refused text InputTooLong).0 long))
text_outcome text doc rules safe plain (inr back) =
    read_outcome text doc rules back.0 safe plain back.1.0 back.1.1

-- by the one outcome of a text it is nothing else
module _ (jobs : OneOutcome) (text : List ℕ) (doc : Doc) (rules : List SafeRule) where
  job_again : (again : Doc) (job : Job) → IsJobOf text again job → Outcome text doc rules →
      (again ≡ doc) × (job ≡ document_job rules)
  job_again again job is (inl same) = jobs.one_job text again doc job (document_job rules) is same
  job_again again job is (inr other) = absurd (jobs.not_both text job other.0 (again, is) other.2)

  refused_again : (refusal : Refusal) → IsRefused text refusal → Outcome text doc rules → IsTooLongOrDeep refusal
  refused_again refusal is (inl same) = absurd (jobs.not_both text (document_job rules) refusal (doc, same) is)
  refused_again refusal is (inr other) =
      subst IsTooLongOrDeep (jobs.one_refusal text other.0 refusal other.2 is) other.1

pub checked_text_is_a_job : OneOutcome → CheckedTextIsAJob
checked_text_is_a_job jobs bytes doc job is =
    let text = canonical_text doc in
    let document = is.document in
    let back = canonical_is_read_back (document_text bytes) document.tokens doc is.prefixes document.lexed
    document.read in
    let outcome = text_outcome text doc job.doc is.safe (canonical_plain bytes doc job is) back in
    let same : (again : Doc) (other : Job) → IsJobOf text again other →
    (again ≡ doc) × (other ≡ document_job job.doc) =
    λ again other read. job_again jobs text doc job.doc again other read outcome in
    record {
      outcome = outcome;
      same_job = same;
      same_text = λ again other read. ap canonical_text (same again other read).0;
      refused = λ refusal other. refused_again jobs text doc job.doc refusal other outcome;
    }
