-- Scripts: what is read is of that form, and what is of that form is read; and so with what is refused.
use Rattle.std.proofs.Common.{◌≡◌, ◌∙◌, sym, subst, ap, refl, ℕ, ◌+◌, ◌<◌, ◌≤◌, nat_le, nat_lt, not, ◌&&◌, true}
use Rattle.std.proofs.Common.{false, cond, List, [], ◌∷◌, ◌++◌, append_assoc, append-nil, Some, length, length-append}
use Rattle.std.proofs.Common.{arith}
use Rattle.std.proofs.Common.{inl, inr}
use Rattle.std.specs.Prelude.{Ok, Err}
use Rattle.std.specs.declared.result.Result.{Result}
use Rattle.std.proofs.lemmas.Bool.Decides.{nat_tests}
use Rattle.rif_refusals.specs.Limits.{most_clients, most_items, most_budgets}
use Rattle.rif_refusals.specs.declared.refusal.Refusal.{Refusal}
use Rattle.rif_refusals.specs.declared.refusal.Refusal.TheVariants.{BudgetTooLarge, TooManyItems, TooManyClients}
use Rattle.prd_grammar.specs.Prefixes.{Prefixes}
use Rattle.prd_grammar.specs.Values.{has_name, place_of, with_name}
use Rattle.session_states.specs.declared.item.Item.{Item}
use Rattle.rif_script.specs.declared.script.Script.{Script}
use Rattle.rif_script.specs.Jobs.{IsFaulty, IsLine, IsWithinLimits, budget_of, budget_sum, names_of, numbered_items}
use Rattle.rif_script.specs.ReadingLines.{no_lines, script_with, with_sent}
use Rattle.rif_script.proofs.ConstLemmas.{either}
use Rattle.rif_script.proofs.NumberingLemmas.{names_after, names_are_first, numbered_from, numbers_are_final}

-- the script with several items more
abbrev pub script_after : Script → List (List ℕ × Item) → Script
script_after s [] = s
script_after s (one ∷ rest) = script_after (script_with s one) rest

-- the parts of the script that is made
pub names_are : (s : Script) (sent : List (List ℕ × Item)) → (script_after s sent).names ≡ names_after s.names sent
names_are s [] = refl
names_are s (one ∷ rest) = names_are (script_with s one) rest

items_are : (s : Script) (sent : List (List ℕ × Item)) →
    (script_after s sent).items ≡ s.items ++ numbered_from s.names sent
items_are s [] = sym (append-nil s.items)
items_are s (one ∷ rest) =
    items_are (script_with s one) rest
    ∙ append_assoc s.items ((place_of s.names one.0, one.1) ∷ []) (numbered_from (with_name s.names one.0) rest)

budgets_are : (s : Script) (sent : List (List ℕ × Item)) → (script_after s sent).budgets ≡ s.budgets + budget_sum sent
budgets_are s [] = omega arith
budgets_are s (one ∷ rest) = let more = budgets_are (script_with s one) rest in more ∙ omega arith

count_is : (s : Script) (sent : List (List ℕ × Item)) →
    length (script_after s sent).items ≡ length s.items + length sent
count_is s [] = omega arith
count_is s (one ∷ rest) =
    let more = count_is (script_with s one) rest in
    let size = length-append s.items ((place_of s.names one.0, one.1) ∷ []) in
    more ∙ omega (arith, size)

-- the script of what was sent
abbrev pub script_of : List (List ℕ × Item) → Script
script_of sent = script_after no_lines sent

pub final_names : (sent : List (List ℕ × Item)) → (script_of sent).names ≡ names_of sent
final_names sent = names_are no_lines sent ∙ names_are_first sent

pub final_items : (sent : List (List ℕ × Item)) → (script_of sent).items ≡ numbered_items (names_of sent) sent
final_items sent =
    items_are no_lines sent
    ∙ (numbers_are_final [] sent ∙ ap (λ (ns : List (List ℕ)). numbered_items ns sent) (names_are_first sent))

final_budgets : (sent : List (List ℕ × Item)) → (script_of sent).budgets ≡ budget_sum sent
final_budgets sent = budgets_are no_lines sent ∙ omega arith

final_count : (sent : List (List ℕ × Item)) → length (script_of sent).items ≡ length sent
final_count sent = count_is no_lines sent ∙ omega arith

pub after_joined : (s : Script) (sent more : List (List ℕ × Item)) →
    script_after s (sent ++ more) ≡ script_after (script_after s sent) more
after_joined s [] more = refl
after_joined s (one ∷ rest) more = after_joined (script_with s one) rest more

-- one more of what was sent
one_more : (sent : List (List ℕ × Item)) (one : List ℕ × Item) →
    script_of (sent ++ one ∷ []) ≡ script_with (script_of sent) one
one_more sent one = after_joined no_lines sent (one ∷ [])

budget_more : (sent : List (List ℕ × Item)) (one : List ℕ × Item) →
    (script_of sent).budgets + budget_of one.1 ≡ budget_sum (sent ++ one ∷ [])
budget_more sent one =
    ap (λ (s : Script). s.budgets) (sym (one_more sent one)) ∙ final_budgets (sent ++ one ∷ [])

count_more : (sent : List (List ℕ × Item)) (one : List ℕ × Item) →
    length (script_of sent).items + 1 ≡ length (sent ++ one ∷ [])
count_more sent one =
    let size = length-append sent (one ∷ []) in
    let here = final_count sent in
    omega (arith, size, here)

names_more : (sent : List (List ℕ × Item)) (one : List ℕ × Item) →
    with_name (script_of sent).names one.0 ≡ names_of (sent ++ one ∷ [])
names_more sent one =
    ap (λ (s : Script). s.names) (sym (one_more sent one)) ∙ final_names (sent ++ one ∷ [])

-- how many names there are with one more
name_count : (names : List (List ℕ)) (v : List ℕ) (most : ℕ) → length names ≤ most →
    (not (has_name names v) && nat_le most (length names)) ≡ nat_lt most (length (with_name names v))
name_count names v most few = elim (either (has_name names v)) [
  | inl has ↦
      let low : nat_lt most (length names) ≡ false = grind (arith, nat_tests) in
      rw (has, low) refl
  | inr new ↦ elim (either (nat_le most (length names))) [
    | inl full ↦
        let size = length-append names (v ∷ []) in
        let above : nat_lt most (length (names ++ v ∷ [])) ≡ true = grind (arith, nat_tests) in
        rw (new, full, above) refl
    | inr room ↦
        let size = length-append names (v ∷ []) in
        let below : nat_lt most (length (names ++ v ∷ [])) ≡ false = grind (arith, nat_tests) in
        rw (new, room, below) refl
  ]
]

is_above : (most n : ℕ) → nat_lt most n ≡ true → most < n
is_above most n test = grind (arith, nat_tests)

isnt_above : (most n : ℕ) → nat_lt most n ≡ false → n ≤ most
isnt_above most n test = grind (arith, nat_tests)

pub above_is : (most n : ℕ) → most < n → nat_lt most n ≡ true
above_is most n low = grind (arith, nat_tests)

pub above_isnt : (most n : ℕ) → n ≤ most → nat_lt most n ≡ false
above_isnt most n low = grind (arith, nat_tests)

full_is : (most n : ℕ) → nat_le most n ≡ nat_lt most (n + 1)
full_is most n = elim (either (nat_le most n)) [
  | inl full ↦ let test : nat_lt most (n + 1) ≡ true = grind (arith, nat_tests) in full ∙ sym test
  | inr room ↦ let test : nat_lt most (n + 1) ≡ false = grind (arith, nat_tests) in room ∙ sym test
]

-- the limits by what was sent
abbrev pub limits_of : ℕ → List (List ℕ × Item) → Result Script Refusal → Result Script Refusal
limits_of at all given =
    cond (nat_lt most_budgets (budget_sum all)) (Err (BudgetTooLarge at))
    (cond (nat_lt most_items (length all)) (Err (TooManyItems at))
    (cond (nat_lt most_clients (length (names_of all))) (Err (TooManyClients at)) given))

limits_same : (at : ℕ) (s : Script) (one : List ℕ × Item) (all : List (List ℕ × Item)) →
    nat_lt most_budgets (s.budgets + budget_of one.1) ≡ nat_lt most_budgets (budget_sum all) →
    nat_le most_items (length s.items) ≡ nat_lt most_items (length all) →
    (not (has_name s.names one.0) && nat_le most_clients (length s.names)) ≡
    nat_lt most_clients (length (names_of all)) →
    with_sent at s one ≡ limits_of at all (Ok (script_with s one))
unfolding with_sent
limits_same at s one all budgets items clients = rw (budgets, items, clients) refl

pub with_sent_is : (at : ℕ) (sent : List (List ℕ × Item)) (one : List ℕ × Item) → IsWithinLimits sent →
    with_sent at (script_of sent) one ≡ limits_of at (sent ++ one ∷ []) (Ok (script_of (sent ++ one ∷ [])))
unfolding with_sent
with_sent_is at sent one within =
    let few = subst (λ (ns : List (List ℕ)). length ns ≤ most_clients) (sym (final_names sent)) within.few_clients in
    let budgets : nat_lt most_budgets ((script_of sent).budgets + budget_of one.1) ≡
    nat_lt most_budgets (budget_sum (sent ++ one ∷ [])) =
    ap (nat_lt most_budgets) (budget_more sent one) in
    let items : nat_le most_items (length (script_of sent).items) ≡ nat_lt most_items (length (sent ++ one ∷ [])) =
    full_is most_items (length (script_of sent).items) ∙ ap (nat_lt most_items) (count_more sent one) in
    let clients :
    (not (has_name (script_of sent).names one.0) && nat_le most_clients (length (script_of sent).names)) ≡
    nat_lt most_clients (length (names_of (sent ++ one ∷ []))) =
    name_count (script_of sent).names one.0 most_clients few
    ∙ ap (λ (ns : List (List ℕ)). nat_lt most_clients (length ns)) (names_more sent one) in
    let tests = limits_same at (script_of sent) one (sent ++ one ∷ []) budgets items clients in
    tests ∙ ap (λ (s : Script). limits_of at (sent ++ one ∷ []) (Ok s)) (sym (one_more sent one))

-- what the limits let through, and what they refuse
pub limits_ok : (at : ℕ) (all : List (List ℕ × Item)) (s end : Script) → limits_of at all (Ok s) ≡ Ok end →
    IsWithinLimits all × (s ≡ end)
limits_ok at all s end given = elim (either (nat_lt most_budgets (budget_sum all))) [
  | inl b ↦ let is : limits_of at all (Ok s) ≡ Err (BudgetTooLarge at) = rw b refl in absurd (cc)
  | inr b ↦ elim (either (nat_lt most_items (length all))) [
    | inl i ↦ let is : limits_of at all (Ok s) ≡ Err (TooManyItems at) = rw (b, i) refl in absurd (cc)
    | inr i ↦ elim (either (nat_lt most_clients (length (names_of all)))) [
      | inl c ↦ let is : limits_of at all (Ok s) ≡ Err (TooManyClients at) = rw (b, i, c) refl in absurd (cc)
      | inr c ↦
          let is : limits_of at all (Ok s) ≡ Ok s = rw (b, i, c) refl in
          let same : s ≡ end = cc in (
            record {
              few_budgets = isnt_above most_budgets (budget_sum all) b;
              few_items = isnt_above most_items (length all) i;
              few_clients = isnt_above most_clients (length (names_of all)) c;
            },
            same,
          )
    ]
  ]
]

pub limits_keep : (at : ℕ) (all : List (List ℕ × Item)) (s : Script) → IsWithinLimits all →
    limits_of at all (Ok s) ≡ Ok s
limits_keep at all s within =
    rw (
      above_isnt most_budgets (budget_sum all) within.few_budgets,
      above_isnt most_items (length all) within.few_items,
      above_isnt most_clients (length (names_of all)) within.few_clients,
    ) refl

pub limits_err : (prefixes : Prefixes) (at : ℕ) (sent : List (List ℕ × Item)) (one : List ℕ × Item) (line : List ℕ)
    (s : Script) (refusal : Refusal) → IsLine prefixes line (Some one) →
    limits_of at (sent ++ one ∷ []) (Ok s) ≡ Err refusal → IsFaulty prefixes sent line at refusal
limits_err prefixes at sent one line s refusal is given =
    let all = sent ++ one ∷ [] in
    elim (either (nat_lt most_budgets (budget_sum all))) [
      | inl b ↦
          let step : limits_of at all (Ok s) ≡ Err (BudgetTooLarge at) = rw b refl in
          let same : BudgetTooLarge at ≡ refusal = cc in
          subst (IsFaulty prefixes sent line at) same (refl, one, is, is_above most_budgets (budget_sum all) b)
      | inr b ↦ elim (either (nat_lt most_items (length all))) [
        | inl i ↦
            let step : limits_of at all (Ok s) ≡ Err (TooManyItems at) = rw (b, i) refl in
            let same : TooManyItems at ≡ refusal = cc in
            subst (IsFaulty prefixes sent line at) same
            (refl, one, is, isnt_above most_budgets (budget_sum all) b, is_above most_items (length all) i)
        | inr i ↦ elim (either (nat_lt most_clients (length (names_of all)))) [
          | inl c ↦
              let step : limits_of at all (Ok s) ≡ Err (TooManyClients at) = rw (b, i, c) refl in
              let same : TooManyClients at ≡ refusal = cc in
              subst (IsFaulty prefixes sent line at) same (
                refl,
                one,
                is,
                isnt_above most_budgets (budget_sum all) b,
                isnt_above most_items (length all) i,
                is_above most_clients (length (names_of all)) c,
              )
          | inr c ↦ let step : limits_of at all (Ok s) ≡ Ok s = rw (b, i, c) refl in absurd (cc)
        ]
      ]
    ]
