-- Jobs from their parts: what is read of an input's document, its safe rules and its script are the job, and what
-- refuses one of these refuses the input.
use Rattle.std.proofs.Common.{◌≡◌, refl, subst, ap, ℕ, ◌+◌, ◌≤◌, ◌<◌, ◌^◌, ◌==◌, suc, Bool, true, false, cond, List}
use Rattle.std.proofs.Common.{[], ◌∷◌, drop, length, length-drop, arith, inl, inr}
use Rattle.std.specs.Prelude.{Ok, Err, IfErr, IfOk}
use Rattle.std.specs.Str.{IsValidUpTo}
use Rattle.std.specs.declared.result.Result.{Result}
use Rattle.rif_refusals.specs.Limits.{most_input_bytes}
use Rattle.rif_refusals.specs.declared.refusal.Refusal.TheVariants.{InputTooLong, NotUtf8}
use Rattle.rif_refusals.specs.declared.fault.Fault.{Fault}
use Rattle.rif_refusals.specs.declared.fault.Fault.TheVariants.{Refused, OutOfMemory}
use Rattle.rif_tree.specs.declared.rule.Doc.{Doc}
use Rattle.safe_rules.specs.declared.safe_rule.SafeRule.{SafeRule}
use Rattle.rif_safe.specs.Safeness.{RefusesRules, safe_rules_of}
use Rattle.rif_lex.specs.declared.token.Token.{Token}
use Rattle.rif_lex.specs.Lexing.{Answers, lexed}
use Rattle.prd_leaves.specs.Documents.{IsRead, IsRefused as IsDocumentRefused, RefusesDocument}
use Rattle.prd_grammar.specs.Prefixes.{Prefixes}
use Rattle.rif_script.specs.declared.script.Script.{Script}
use Rattle.rif_script.specs.JobParts.{IsDocumentText, RefusesText}
use Rattle.rif_script.specs.Jobs.{HasDocument, IsJobOf, IsScript, IsScriptRefusal, IsText, RefusesJob, document_text}
use Rattle.rif_script.specs.Jobs.{first_script_line, is_separator, lines_before, lines_of, script_lines, with_byte}
use Rattle.rif_script.specs.ReadingLines.{no_lines, with_lines}
use Rattle.rif_script.proofs.ScriptReadingLemmas.{script_read, script_refused}

-- an input that is too long, and one that is UTF-8 up to a byte alone
pub long_refused : (bytes : List ℕ) → most_input_bytes < length bytes → RefusesJob bytes (Refused InputTooLong)
long_refused bytes long = inl (refl, long)

pub broken_refused : (bytes : List ℕ) (at : ℕ) → length bytes ≤ most_input_bytes → IsValidUpTo bytes at →
    RefusesJob bytes (Refused (NotUtf8 at))
broken_refused bytes at short valid = inr (inl (at, refl, short, valid))

-- the document of an input, by its text
pub document_of : (bytes text : List ℕ) (doc : Doc) (prefixes : Prefixes) → text ≡ document_text bytes →
    IsDocumentText text doc prefixes → HasDocument bytes doc prefixes
document_of bytes text doc prefixes is read = record {
  tokens = read.0;
  lexed = subst (λ (t : List ℕ). lexed t ≡ Ok read.0) is read.1;
  read = subst (λ (t : List ℕ). IsRead read.0 t doc prefixes) is read.2;
}

-- what refuses the text of the document refuses the input
pub document_refused : (bytes text : List ℕ) (fault : Fault) → text ≡ document_text bytes → IsText bytes →
    RefusesText text fault → RefusesJob bytes fault
document_refused bytes text OutOfMemory is whole refused = tt
document_refused bytes text (Refused refusal) is whole (inl unlexed) =
    inr (inr (whole, inl (subst (λ (t : List ℕ). lexed t ≡ Err refusal) is unlexed)))
document_refused bytes text (Refused refusal) is whole (inr refused) = inr (inr (
  whole,
  inr (inl (record {
    tokens = refused.0;
    lexed = subst (λ (t : List ℕ). lexed t ≡ Ok refused.0) is refused.1;
    refused = subst (λ (t : List ℕ). IsDocumentRefused refused.0 t refusal) is refused.2;
  })),
))

-- and so does what refuses one of its rules
pub rules_refuse : (bytes : List ℕ) (doc : Doc) (prefixes : Prefixes) (fault : Fault) → IsText bytes →
    HasDocument bytes doc prefixes → RefusesRules doc fault → RefusesJob bytes fault
rules_refuse bytes doc prefixes OutOfMemory whole document refused = tt
rules_refuse bytes doc prefixes (Refused refusal) whole document refused = inr (inr (
  whole,
  inr (inr (inl (record {
    doc = doc;
    prefixes = prefixes;
    document = document;
    refused = refused;
  }))),
))

-- and what refuses its script
pub script_refuses : (bytes : List ℕ) (lines : List (List ℕ)) (at : ℕ) (doc : Doc) (prefixes : Prefixes)
    (rules : List SafeRule) (fault : Fault) →
    lines ≡ script_lines bytes → at ≡ first_script_line bytes → IsText bytes → HasDocument bytes doc prefixes →
    safe_rules_of doc ≡ Ok rules → Answers {T = Script} (Err fault) (with_lines prefixes at no_lines lines) →
    RefusesJob bytes fault
script_refuses bytes lines at doc prefixes rules OutOfMemory is first whole document safe refused = tt
script_refuses bytes lines at doc prefixes rules (Refused refusal) is first whole document safe refused =
    let here = script_refused prefixes at lines refusal refused in
    let all = subst (λ (ls : List (List ℕ)). IsScriptRefusal prefixes ls at refusal) is here in
    inr (inr (
      whole,
      inr (inr (inr (record {
        doc = doc;
        prefixes = prefixes;
        document = document;
        rules = rules;
        safe = safe;
        refused = subst (λ (n : ℕ). IsScriptRefusal prefixes (script_lines bytes) n refusal) first all;
      }))),
    ))

-- a job is its document, the document's safe rules and its script
pub job_of : (bytes : List ℕ) (lines : List (List ℕ)) (at : ℕ) (doc : Doc) (prefixes : Prefixes)
    (rules : List SafeRule) (s : Script) →
    lines ≡ script_lines bytes → IsText bytes → HasDocument bytes doc prefixes → safe_rules_of doc ≡ Ok rules →
    with_lines prefixes at no_lines lines ≡ Ok s →
    IsJobOf bytes doc (record { doc = rules; names = s.names; items = s.items })
job_of bytes lines at doc prefixes rules s is whole document safe given = record {
  text = whole;
  prefixes = prefixes;
  document = document;
  safe = safe;
  script = subst (λ (ls : List (List ℕ)). IsScript prefixes ls s.names s.items) is
      (script_read prefixes at lines s given);
}

-- the tokens of a text, or what refuses them
pub unlexed : (text : List ℕ) (fault : Fault) → Answers {T = List Token} (Err fault) (lexed text) →
    RefusesText text fault
unlexed text OutOfMemory refused = tt
unlexed text (Refused refusal) refused = inl refused

unread : (text : List ℕ) (tokens : List Token) (fault : Fault) → lexed text ≡ Ok tokens →
    RefusesDocument tokens text fault → RefusesText text fault
unread text tokens OutOfMemory is refused = tt
unread text tokens (Refused refusal) is refused = inr (tokens, is, refused)

pub text_read : (text : List ℕ) (tokens : List Token) (r : Result (Doc × Prefixes) Fault) → lexed text ≡ Ok tokens →
    IfOk r (λ (parts : Doc × Prefixes). IsRead tokens text parts.0 parts.1) →
    IfOk r (λ (parts : Doc × Prefixes). IsDocumentText text parts.0 parts.1)
text_read text tokens (Ok parts) is read = (tokens, is, read)
text_read text tokens (Err fault) is read = tt

pub text_refused : (text : List ℕ) (tokens : List Token) (r : Result (Doc × Prefixes) Fault) →
    lexed text ≡ Ok tokens → IfErr r (RefusesDocument tokens text) → IfErr r (RefusesText text)
text_refused text tokens (Ok parts) is refused = tt
text_refused text tokens (Err fault) is refused = unread text tokens fault is refused

-- a text has no more lines than bytes
lines_with : (b : ℕ) (lines : List (List ℕ)) (n : ℕ) → length lines ≤ n → length (with_byte b lines) ≤ suc n
lines_with b [] n few = omega arith
lines_with b (line ∷ lines) n few = omega (arith, few)

few_lines : (text : List ℕ) → length (lines_of text) ≤ length text
few_lines [] = omega arith
few_lines (b ∷ bs) =
    let more = few_lines bs in
    elim (b == 10) as (λ (is : Bool). length (cond is ((b ∷ []) ∷ lines_of bs) (with_byte b (lines_of bs))) ≤
    suc (length bs)) [
      | true ↦ omega (arith, more)
      | false ↦ lines_with b (lines_of bs) (length bs) more
    ]

few_before : (lines : List (List ℕ)) → lines_before lines ≤ length lines
few_before [] = omega arith
few_before (line ∷ lines) =
    let more = few_before lines in
    elim (is_separator line) as (λ (is : Bool). cond is 0 (suc (lines_before lines)) ≤ suc (length lines)) [
      | true ↦ omega arith
      | false ↦ omega (arith, more)
    ]

-- the numbers of a script's lines stay small
pub numbers_fit : (bytes script : List ℕ) (at from : ℕ) → length bytes ≤ most_input_bytes →
    at ≡ first_script_line bytes → script ≡ drop from bytes → at + length script < 2 ^ 64
numbers_fit bytes script at from short first is =
    let lines = few_lines bytes in
    let before = few_before (lines_of bytes) in
    let size : length script ≡ length (drop from bytes) = ap length is in
    let left = length-drop from bytes in
    omega (arith, short, first, lines, before, size, left)
