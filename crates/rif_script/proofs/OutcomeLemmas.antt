-- An input is one job at most, has one refusal at most, and not both; given that of the tokens of documents.
use Rattle.std.proofs.Common.{◌≡◌, ◌∙◌, sym, subst, ap, ℕ, ◌<◌, ◌≤◌, List, length, arith, ◌⊎◌, inl, inr}
use Rattle.std.specs.Prelude.{Ok, Err, IsUtf8}
use Rattle.std.specs.Str.{IsValidUpTo}
use Rattle.std.specs.declared.result.Result.{Result}
use Rattle.std.proofs.lemmas.List.{take_all}
use Rattle.std.proofs.lemmas.Str.{utf8_valid_len-IsValidUpTo}
use Rattle.rif_refusals.specs.Limits.{most_input_bytes}
use Rattle.rif_refusals.specs.declared.refusal.Refusal.{Refusal}
use Rattle.rif_refusals.specs.declared.refusal.Refusal.TheVariants.{NotUtf8}
use Rattle.rif_tree.specs.declared.rule.Doc.{Doc}
use Rattle.safe_rules.specs.declared.safe_rule.SafeRule.{SafeRule}
use Rattle.rif_safe.specs.Safeness.{safe_rules_of}
use Rattle.rif_lex.specs.declared.token.Token.{Token}
use Rattle.rif_lex.specs.Lexing.{lexed}
use Rattle.prd_leaves.specs.Documents.{IsRead, IsRefused as IsDocumentRefused, OneOutcome as OneDocument}
use Rattle.prd_grammar.specs.Prefixes.{Prefixes}
use Rattle.session_states.specs.declared.item.Item.{Item}
use Rattle.rif_script.specs.declared.job.Job.{Job}
use Rattle.rif_script.specs.declared.script.Script.{Script}
use Rattle.rif_script.specs.Jobs.{HasDocument, HasDocumentRefusal, HasRuleRefusal, HasScriptRefusal, IsJob, IsJobOf}
use Rattle.rif_script.specs.Jobs.{IsRefused, IsScript, IsScriptRefusal, OneOutcome, document_text}
use Rattle.rif_script.specs.Jobs.{first_script_line, script_lines}
use Rattle.rif_script.specs.ReadingLines.{no_lines, with_lines}
use Rattle.rif_script.proofs.ScriptReadingLemmas.{refused_again, script_again}

same_ok : {A E : Type 0} (r : Result A E) (a b : A) → r ≡ Ok a → r ≡ Ok b → a ≡ b
same_ok r a b first second = cc

same_err : {A E : Type 0} (r : Result A E) (a b : E) → r ≡ Err a → r ≡ Err b → a ≡ b
same_err r a b first second = cc

ok_err : {A E : Type 0} (r : Result A E) (a : A) (b : E) → r ≡ Ok a → r ≡ Err b → ⊥
ok_err r a b first second = cc

job_same : (a b : Job) → a.doc ≡ b.doc → a.names ≡ b.names → a.items ≡ b.items → a ≡ b
job_same a b doc names items =
    ap (λ (d : List SafeRule). record { doc = d; names = a.names; items = a.items }) doc
    ∙ (ap (λ (ns : List (List ℕ)). record { doc = b.doc; names = ns; items = a.items }) names
    ∙ ap (λ (is : List (ℕ × Item)). record { doc = b.doc; names = b.names; items = is }) items)

-- an input that is UTF-8 isn't so up to a byte alone
text_is_valid : (bytes : List ℕ) (at : ℕ) → IsUtf8 bytes → IsValidUpTo bytes at → ⊥
text_is_valid bytes at utf8 valid =
    valid.longest (length bytes) valid.short
    (subst IsUtf8 (sym (take_all (length bytes) bytes (omega arith))) utf8)

-- a script and a refusal of the same lines
script_or_refusal : (p q : Prefixes) (lines : List (List ℕ)) (at : ℕ) (names : List (List ℕ))
    (items : List (ℕ × Item)) (refusal : Refusal) → p ≡ q → IsScript p lines names items →
    IsScriptRefusal q lines at refusal → ⊥
script_or_refusal p q lines at names items refusal same script refused =
    let s = script_again p at lines names items script in
    let r = refused_again q at lines refusal refused in
    ok_err (with_lines q at no_lines lines) s.0 refusal
    (ap (λ (x : Prefixes). with_lines x at no_lines lines) (sym same) ∙ s.1) r

module _ (documents : OneDocument) (bytes : List ℕ) where
  same_documents : (a b : Doc) (p q : Prefixes) → HasDocument bytes a p → HasDocument bytes b q → (a ≡ b) × (p ≡ q)
  same_documents a b p q first second =
      let tokens = same_ok (lexed (document_text bytes)) second.tokens first.tokens second.lexed first.lexed in
      documents.one_document first.tokens (document_text bytes) a b p q first.read
      (subst (λ (ts : List Token). IsRead ts (document_text bytes) b q) tokens second.read)

  read_or_refused : (doc : Doc) (prefixes : Prefixes) (refusal : Refusal) → HasDocument bytes doc prefixes →
      HasDocumentRefusal bytes refusal → ⊥
  read_or_refused doc prefixes refusal read refused =
      let tokens = same_ok (lexed (document_text bytes)) refused.tokens read.tokens refused.lexed read.lexed in
      documents.not_both read.tokens (document_text bytes) doc prefixes refusal read.read
      (subst (λ (ts : List Token). IsDocumentRefused ts (document_text bytes) refusal) tokens refused.refused)

  same_document_refusals : (a b : Refusal) → HasDocumentRefusal bytes a → HasDocumentRefusal bytes b → a ≡ b
  same_document_refusals a b first second =
      let tokens = same_ok (lexed (document_text bytes)) second.tokens first.tokens second.lexed first.lexed in
      documents.one_refusal first.tokens (document_text bytes) a b first.refused
      (subst (λ (ts : List Token). IsDocumentRefused ts (document_text bytes) b) tokens second.refused)

  same_script_refusals : (a b : Refusal) → HasScriptRefusal bytes a → HasScriptRefusal bytes b → a ≡ b
  same_script_refusals a b first second =
      let same = (same_documents first.doc second.doc first.prefixes second.prefixes first.document
      second.document).1 in
      let lines = script_lines bytes in
      let at = first_script_line bytes in
      let r = refused_again first.prefixes at lines a first.refused in
      let t = refused_again second.prefixes at lines b second.refused in
      same_err (with_lines first.prefixes at no_lines lines) a b r
      (ap (λ (x : Prefixes). with_lines x at no_lines lines) same ∙ t)

  same_rule_refusals : (a b : Refusal) → HasRuleRefusal bytes a → HasRuleRefusal bytes b → a ≡ b
  same_rule_refusals a b first second =
      let same = (same_documents first.doc second.doc first.prefixes second.prefixes first.document
      second.document).0 in
      same_err (safe_rules_of first.doc) a b first.refused (ap safe_rules_of same ∙ second.refused)

  safe_or_refused : (doc : Doc) (prefixes : Prefixes) (rules : List SafeRule) (refusal : Refusal) →
      HasDocument bytes doc prefixes → safe_rules_of doc ≡ Ok rules → HasRuleRefusal bytes refusal → ⊥
  safe_or_refused doc prefixes rules refusal read safe refused =
      let same = (same_documents refused.doc doc refused.prefixes prefixes refused.document read).0 in
      ok_err (safe_rules_of refused.doc) rules refusal (ap safe_rules_of same ∙ safe) refused.refused

  -- what refuses an input that has a document, what refuses one whose document has tokens, and one that is UTF-8
  abbrev RefusesRead : Refusal → Type 0
  RefusesRead refusal = HasRuleRefusal bytes refusal ⊎ HasScriptRefusal bytes refusal

  abbrev RefusesTokens : Refusal → Type 0
  RefusesTokens refusal = HasDocumentRefusal bytes refusal ⊎ RefusesRead refusal

  abbrev Refuses : Refusal → Type 0
  Refuses refusal = (lexed (document_text bytes) ≡ Err refusal) ⊎ RefusesTokens refusal

  read_of : (refusal : Refusal) → RefusesRead refusal
      → (doc : Doc) × (prefixes : Prefixes) × HasDocument bytes doc prefixes
  read_of refusal (inl x) = (x.doc, x.prefixes, x.document)
  read_of refusal (inr x) = (x.doc, x.prefixes, x.document)

  tokens_of : (refusal : Refusal) → RefusesTokens refusal →
      (tokens : List Token) × (lexed (document_text bytes) ≡ Ok tokens)
  tokens_of refusal (inl x) = (x.tokens, x.lexed)
  tokens_of refusal (inr x) = let read = read_of refusal x in (read.2.tokens, read.2.lexed)

  read_refusals : (a b : Refusal) → RefusesRead a → RefusesRead b → a ≡ b
  read_refusals a b (inl x) (inl y) = same_rule_refusals a b x y
  read_refusals a b (inl x) (inr y) = absurd (safe_or_refused y.doc y.prefixes y.rules a y.document y.safe x)
  read_refusals a b (inr x) (inl y) = absurd (safe_or_refused x.doc x.prefixes x.rules b x.document x.safe y)
  read_refusals a b (inr x) (inr y) = same_script_refusals a b x y

  token_refusals : (a b : Refusal) → RefusesTokens a → RefusesTokens b → a ≡ b
  token_refusals a b (inl x) (inl y) = same_document_refusals a b x y
  token_refusals a b (inl x) (inr y) = let read = read_of b y in absurd (read_or_refused read.0 read.1 a read.2 x)
  token_refusals a b (inr x) (inl y) = let read = read_of a x in absurd (read_or_refused read.0 read.1 b read.2 y)
  token_refusals a b (inr x) (inr y) = read_refusals a b x y

  text_refusals : (a b : Refusal) → Refuses a → Refuses b → a ≡ b
  text_refusals a b (inl x) (inl y) = same_err (lexed (document_text bytes)) a b x y
  text_refusals a b (inl x) (inr y) =
      let tokens = tokens_of b y in absurd (ok_err (lexed (document_text bytes)) tokens.0 a tokens.1 x)
  text_refusals a b (inr x) (inl y) =
      let tokens = tokens_of a x in absurd (ok_err (lexed (document_text bytes)) tokens.0 b tokens.1 y)
  text_refusals a b (inr x) (inr y) = token_refusals a b x y

  no_text : (doc : Doc) (job : Job) (refusal : Refusal) → IsJobOf bytes doc job → Refuses refusal → ⊥
  no_text doc job refusal is (inl x) =
      ok_err (lexed (document_text bytes)) is.document.tokens refusal is.document.lexed x
  no_text doc job refusal is (inr (inl x)) = read_or_refused doc is.prefixes refusal is.document x
  no_text doc job refusal is (inr (inr (inl x))) =
      safe_or_refused doc is.prefixes job.doc refusal is.document is.safe x
  no_text doc job refusal is (inr (inr (inr x))) =
      let same = (same_documents doc x.doc is.prefixes x.prefixes is.document x.document).1 in
      script_or_refusal is.prefixes x.prefixes (script_lines bytes) (first_script_line bytes) job.names
      job.items refusal
      same is.script x.refused

  no_refusal : (job : Job) (refusal : Refusal) → IsJob bytes job → IsRefused bytes refusal → ⊥
  no_refusal job refusal is (inl x) = let short = is.1.text.short in let long = x.1 in omega (arith, short, long)
  no_refusal job refusal is (inr (inl x)) = text_is_valid bytes x.0 is.1.text.utf8 x.3
  no_refusal job refusal is (inr (inr x)) = no_text is.0 job refusal is.1 x.1

  too_long : (refusal : Refusal) → most_input_bytes < length bytes → length bytes ≤ most_input_bytes → ⊥
  too_long refusal long short = omega (arith, long, short)

  refusals : (a b : Refusal) → IsRefused bytes a → IsRefused bytes b → a ≡ b
  refusals a b (inl x) (inl y) = x.0 ∙ sym y.0
  refusals a b (inl x) (inr (inl y)) = absurd (too_long a x.1 y.2)
  refusals a b (inl x) (inr (inr y)) = absurd (too_long a x.1 y.0.short)
  refusals a b (inr (inl x)) (inl y) = absurd (too_long b y.1 x.2)
  refusals a b (inr (inr x)) (inl y) = absurd (too_long b y.1 x.0.short)
  refusals a b (inr (inl x)) (inr (inl y)) =
      let same = sym (utf8_valid_len-IsValidUpTo bytes x.0 x.3) ∙ utf8_valid_len-IsValidUpTo bytes y.0 y.3 in
      x.1 ∙ (ap (λ (n : ℕ). NotUtf8 n) same ∙ sym y.1)
  refusals a b (inr (inl x)) (inr (inr y)) = absurd (text_is_valid bytes x.0 y.0.utf8 x.3)
  refusals a b (inr (inr x)) (inr (inl y)) = absurd (text_is_valid bytes y.0 x.0.utf8 y.3)
  refusals a b (inr (inr x)) (inr (inr y)) = text_refusals a b x.1 y.1

  jobs : (doc other : Doc) (a b : Job) → IsJobOf bytes doc a → IsJobOf bytes other b → (doc ≡ other) × (a ≡ b)
  jobs doc other a b first second =
      let same = same_documents doc other first.prefixes second.prefixes first.document second.document in
      let rules = same_ok (safe_rules_of doc) a.doc b.doc first.safe (ap safe_rules_of same.0 ∙ second.safe) in
      let lines = script_lines bytes in
      let s = script_again first.prefixes 0 lines a.names a.items first.script in
      let t = script_again second.prefixes 0 lines b.names b.items second.script in
      let read = ap (λ (x : Prefixes). with_lines x 0 no_lines lines) same.1 ∙ t.1 in
      let script : s.0 ≡ t.0 = same_ok (with_lines first.prefixes 0 no_lines lines) s.0 t.0 s.1 read in (
        same.0,
        job_same a b rules
            (sym s.2 ∙ (ap (λ (x : Script). x.names) script ∙ t.2))
            (sym s.3 ∙ (ap (λ (x : Script). x.items) script ∙ t.3)),
      )

-- one outcome of an input, given one of the tokens of its document
pub one_outcome : OneDocument → OneOutcome
one_outcome documents = record {
  one_job = jobs documents;
  one_refusal = refusals documents;
  not_both = no_refusal documents;
}
