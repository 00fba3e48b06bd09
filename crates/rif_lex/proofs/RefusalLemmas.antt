-- An input is refused exactly where one of the three refusals stands.
use Rattle.std.proofs.Common.{◌≡◌, ℕ, ◌≤◌, ◌<◌, suc, zero, List, length, take, refl, ap, ◌∙◌, sym, subst, arith, true}
use Rattle.std.proofs.Common.{false, cond, Err, IsUtf8, nat_lt}
use Rattle.std.proofs.lemmas.Bool.{cases_lt, lt-ltb, ltb-true, ltb-false}
use Rattle.std.proofs.lemmas.List.{take_all}
use Rattle.std.proofs.lemmas.Str.{is_utf8-from_IsUtf8, IsUtf8-from_is_utf8, IsUtf8-nil, utf8_valid_len-IsValidUpTo}
use Rattle.std.proofs.Math.Logic.{⊎_elim}
use Rattle.std.specs.Str.{is_utf8, IsValidUpTo}
use Rattle.std.specs.Str.Lossy.{valid_len_up_to, utf8_valid_len}
use Rattle.rif_refusals.specs.Limits.{most_input_bytes}
use Rattle.rif_refusals.specs.declared.refusal.Refusal.{Refusal}
use Rattle.rif_refusals.specs.declared.refusal.Refusal.TheVariants.{InputTooLong, NotUtf8, BadToken}
use Rattle.rif_lex.specs.Lexing.{tokens_of, lexed, IsRefused, InputsAreRefused}
use Rattle.rif_lex.proofs.TestLemmas.{by_test}
use Rattle.rif_lex.proofs.LexingLemmas.{lexed_text, lexed_broken}
use Rattle.rif_lex.proofs.CuttingLemmas.{first_of_refusal}

-- the front of n bytes is UTF-8, and no longer one of up to m bytes is
record IsLongestFront (bytes : List ℕ) (m n : ℕ) : Type 0 where
  front : IsUtf8 (take n bytes)
  longest : (k : ℕ) → n < k → k ≤ m → IsUtf8 (take k bytes) → ⊥

no_front : (bytes : List ℕ) (m k : ℕ) → is_utf8 (take (suc m) bytes) ≡ false → m < k → k ≤ suc m →
    IsUtf8 (take k bytes) → ⊥
no_front bytes m k none above within utf8 =
    let same : k ≡ suc m = omega arith in
    let is = is_utf8-from_IsUtf8 (take (suc m) bytes) (subst (λ (n : ℕ). IsUtf8 (take n bytes)) same utf8) in
    cc

longest_front : (bytes : List ℕ) (m : ℕ) → IsLongestFront bytes m (valid_len_up_to bytes m)
longest_front bytes zero = record { front = IsUtf8-nil; longest = λ k above within. absurd (omega arith) }
longest_front bytes (suc m) =
    elim (is_utf8 (take (suc m) bytes)) as (λ v. is_utf8 (take (suc m) bytes) ≡ v →
    IsLongestFront bytes (suc m) (cond v (suc m) (valid_len_up_to bytes m))) [
      | true ↦ λ is. record {
        front = IsUtf8-from_is_utf8 (take (suc m) bytes) is;
        longest = λ k above within. absurd (omega arith);
      }
      | false ↦ λ none. (let rest = longest_front bytes m in record {
        front = rest.front;
        longest = λ k above within utf8. ⊎_elim
            (λ (last : m < k). no_front bytes m k none last within utf8)
            (λ (before : k ≤ m). rest.longest k above before utf8)
            (cases_lt m k);
      })
    ] refl

-- all bytes, or more, are UTF-8 only where the bytes are
utf8_of_all : (bytes : List ℕ) (n : ℕ) → length bytes ≤ n → IsUtf8 (take n bytes) → IsUtf8 bytes
utf8_of_all bytes n all utf8 = subst IsUtf8 (take_all n bytes all) utf8

valid_up_to : (bytes : List ℕ) → ¬ (IsUtf8 bytes) → IsValidUpTo bytes (utf8_valid_len bytes)
unfolding utf8_valid_len
valid_up_to bytes broken =
    let all = longest_front bytes (length bytes) in
    ⊎_elim
    (λ (short : utf8_valid_len bytes < length bytes). record {
      short = short;
      front = all.front;
      longest = λ m above utf8. ⊎_elim
          (λ (past : length bytes < m). broken (utf8_of_all bytes m (omega arith) utf8))
          (λ (within : m ≤ length bytes). all.longest m above within utf8)
          (cases_lt (length bytes) m);
    })
    (λ (whole : length bytes ≤ utf8_valid_len bytes). absurd (broken (utf8_of_all bytes _ whole all.front)))
    (cases_lt (utf8_valid_len bytes) (length bytes))

not_utf8 : (bytes : List ℕ) (n : ℕ) → IsValidUpTo bytes n → ¬ (IsUtf8 bytes)
not_utf8 bytes n valid utf8 =
    valid.longest (length bytes) valid.short (subst IsUtf8 (sym (take_all (length bytes) bytes (omega arith))) utf8)

text_refused : (bytes : List ℕ) (refusal : Refusal) → length bytes ≤ most_input_bytes → IsUtf8 bytes →
    tokens_of bytes ≡ Err refusal → IsRefused bytes refusal
text_refused bytes refusal short utf8 e =
    let is = (first_of_refusal bytes refusal e).is in
    subst (IsRefused bytes) (sym is) (short, utf8, e ∙ ap Err is)

refused_of : (bytes : List ℕ) (refusal : Refusal) → lexed bytes ≡ Err refusal → IsRefused bytes refusal
refused_of bytes refusal e =
    by_test (nat_lt most_input_bytes (length bytes)) _ _ _ e
    (λ long f. let same : InputTooLong ≡ refusal = cc in subst (IsRefused bytes) same (ltb-true _ _ long))
    (λ short f. by_test (is_utf8 bytes) _ _ _ f
    (λ utf8 g. text_refused bytes refusal (ltb-false _ _ short) (IsUtf8-from_is_utf8 bytes utf8) g)
    (λ none g.
    let broken : ¬ (IsUtf8 bytes) = λ utf8. (let is = is_utf8-from_IsUtf8 bytes utf8 in cc) in
    let same : NotUtf8 (utf8_valid_len bytes) ≡ refusal = cc in
    subst (IsRefused bytes) same (ltb-false _ _ short, valid_up_to bytes broken)))

refused_by : (bytes : List ℕ) (refusal : Refusal) → IsRefused bytes refusal → lexed bytes ≡ Err refusal
refused_by bytes InputTooLong long = rw (lt-ltb most_input_bytes (length bytes) long) refl
refused_by bytes (NotUtf8 at) is =
    lexed_broken bytes is.0 (not_utf8 bytes at is.1)
    ∙ ap (λ (n : ℕ). Err (NotUtf8 n)) (utf8_valid_len-IsValidUpTo bytes at is.1)
refused_by bytes (BadToken line col) is = lexed_text bytes is.0 is.1 ∙ is.2
refused_by bytes refusal is = absurd is

pub inputs_are_refused : InputsAreRefused
inputs_are_refused bytes refusal = (refused_of bytes refusal, refused_by bytes refusal)
