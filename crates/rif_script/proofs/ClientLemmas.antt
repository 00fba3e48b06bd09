-- The client of a name among those that are known, and a script's next line.
use Rattle.std.proofs.Common.{◌≡◌, ◌≢◌, ◌∙◌, ◌==◌, sym, subst, ap, refl, ℕ, ◌+◌, ◌<◌, ◌≤◌, nat_le, nat_lt, not, ◌&&◌}
use Rattle.std.proofs.Common.{suc, Bool, true, false, List, [], ◌∷◌, ◌++◌, take, drop, length, length-drop, arith}
use Rattle.std.proofs.Common.{inl, inr}
use Rattle.std.specs.Prelude.{Ok, Err}
use Rattle.std.specs.declared.result.Result.{Result}
use Rattle.std.proofs.lemmas.Bool.Decides.{nat_tests}
use Rattle.rif_refusals.specs.Limits.{most_budgets, most_clients, most_items}
use Rattle.rif_refusals.specs.declared.refusal.Refusal.{Refusal}
use Rattle.rif_refusals.specs.declared.refusal.Refusal.TheVariants.{TooManyClients}
use Rattle.rif_refusals.specs.declared.fault.Fault.{Fault}
use Rattle.rif_refusals.specs.declared.fault.Fault.TheVariants.{Refused, OutOfMemory}
use Rattle.rif_lex.specs.Lexing.{Answers}
use Rattle.prd_grammar.specs.Prefixes.{Prefixes}
use Rattle.prd_grammar.specs.Values.{has_name, place_of}
use Rattle.session_states.specs.declared.item.Item.{Item}
use Rattle.rif_script.specs.declared.script.Script.{Script}
use Rattle.rif_script.specs.Jobs.{budget_of, lines_of}
use Rattle.rif_script.specs.ReadingLines.{and_then, line_length, with_line, with_lines, with_sent}
use Rattle.rif_script.specs.ScriptSteps.{client_with, room_for, with_client, with_room}
use Rattle.rif_script.proofs.NumberingLemmas.{either, place_at_end, place_within}
use Rattle.rif_script.proofs.TextLineLemmas.{first_of_lines, line_grows, line_within}

is_full : (most n : ℕ) → most ≤ n → nat_le most n ≡ true
is_full most n low = grind (arith, nat_tests)

has_room : (most n : ℕ) → n < most → nat_le most n ≡ false
has_room most n low = grind (arith, nat_tests)

-- a name with a place before the end is known
known : (names : List (List ℕ)) (v : List ℕ) → place_of names v < length names → has_name names v ≡ true
known names v low = elim (either (has_name names v)) [
  | inl has ↦ has
  | inr new ↦ let end = place_at_end names v new in absurd (omega (arith, low, end))
]

unknown : (names : List (List ℕ)) (v : List ℕ) → length names ≤ place_of names v → has_name names v ≡ false
unknown names v high = elim (either (has_name names v)) [
  | inl has ↦ let within = place_within names v has in absurd (omega (arith, high, within))
  | inr new ↦ new
]

pub known_client : (at place : ℕ) (names : List (List ℕ)) (v : List ℕ) → place ≡ place_of names v →
    place < length names →
    client_with at names v ≡ Ok (place, names)
known_client at place names v is low =
    let has = known names v (subst (λ (n : ℕ). n < length names) is low) in
    rw has (ap (λ (n : ℕ). Ok (n, names)) (sym is))

new_place : (names : List (List ℕ)) (v : List ℕ) → length names ≤ place_of names v → length names ≡ place_of names v
new_place names v high = sym (place_at_end names v (unknown names v high))

pub one_too_many : (at place : ℕ) (names : List (List ℕ)) (v : List ℕ) → place ≡ place_of names v →
    length names ≤ place →
    most_clients ≤ place → client_with at names v ≡ Err (TooManyClients at)
one_too_many at place names v is high full =
    let past = subst (λ (n : ℕ). length names ≤ n) is high in
    let new = unknown names v past in
    let size : most_clients ≤ length names =
    subst (λ (n : ℕ). most_clients ≤ n) (is ∙ sym (new_place names v past)) full in
    rw (new, is_full most_clients (length names) size) refl

pub new_client : (at place : ℕ) (names more : List (List ℕ)) (v : List ℕ) → place ≡ place_of names v →
    length names ≤ place →
    place < most_clients → more ≡ names ++ v ∷ [] → client_with at names v ≡ Ok (place, more)
new_client at place names more v is high low pushed =
    let past = subst (λ (n : ℕ). length names ≤ n) is high in
    let new = unknown names v past in
    let room : length names < most_clients =
    subst (λ (n : ℕ). n < most_clients) (is ∙ sym (new_place names v past)) low in
    rw (new, has_room most_clients (length names) room)
    (ap (λ (n : ℕ). Ok (n, names ++ v ∷ [])) (sym is) ∙ ap (λ (ns : List (List ℕ)). Ok (place, ns)) (sym pushed))

same_ok : {A E : Type 0} (r : Result A E) (a b : A) → r ≡ Ok a → r ≡ Ok b → a ≡ b
same_ok r a b first second = cc

abbrev script_made : List (List ℕ) → List (ℕ × Item) → ℕ → Result Script Refusal
script_made names items budgets = Ok (record { names = names; items = items; budgets = budgets })

same_script : (n m : List (List ℕ)) (i j : List (ℕ × Item)) (b d : ℕ) → n ≡ m → i ≡ j → b ≡ d →
    script_made n i b ≡ script_made m j d
same_script n m i j b d names items budgets = cc

-- one item more, step by step
pub sent_by_steps : (at : ℕ) (s : Script) (one : List ℕ × Item) →
    with_sent at s one ≡ and_then (room_for at s one.1) (with_room at s one)
unfolding with_sent
sent_by_steps at s one = elim (either (nat_lt most_budgets (s.budgets + budget_of one.1))) [
  | inl above ↦ rw above refl
  | inr below ↦ elim (either (nat_le most_items (length s.items))) [
    | inl full ↦ rw (below, full) refl
    | inr free ↦ elim (either (not (has_name s.names one.0) && nat_le most_clients (length s.names))) [
      | inl many ↦ rw (below, free, many) refl
      | inr few ↦ rw (below, free, few) refl
    ]
  ]
]

-- an answer to the steps is one to the whole
pub answers_steps : (result : Result Script Fault) (at : ℕ) (s : Script) (one : List ℕ × Item) (budgets : ℕ) →
    room_for at s one.1 ≡ Ok budgets → Answers result (with_room at s one budgets) →
    Answers result (with_sent at s one)
answers_steps result at s one budgets room answers =
    subst (Answers result)
    (sym (sent_by_steps at s one ∙ ap (λ (r : Result ℕ Refusal). and_then r (with_room at s one)) room)) answers

pub no_room : (fault : Fault) (at : ℕ) (s : Script) (one : List ℕ × Item) →
    Answers {T = ℕ} (Err fault) (room_for at s one.1) →
    Answers {T = Script} (Err fault) (with_sent at s one)
no_room OutOfMemory at s one refused = tt
no_room (Refused refusal) at s one refused =
    sent_by_steps at s one ∙ ap (λ (r : Result ℕ Refusal). and_then r (with_room at s one)) refused

pub no_client : (fault : Fault) (at : ℕ) (s : Script) (one : List ℕ × Item) (budgets : ℕ) →
    Answers {T = ℕ × List (List ℕ)} (Err fault) (client_with at s.names one.0) →
    Answers {T = Script} (Err fault) (with_room at s one budgets)
no_client OutOfMemory at s one budgets refused = tt
no_client (Refused refusal) at s one budgets refused =
    ap (λ (r : Result (ℕ × List (List ℕ)) Refusal). and_then r (with_client s one.1 budgets)) refused

pub with_room_is : (at : ℕ) (s : Script) (one : List ℕ × Item) (budgets client : ℕ) (names : List (List ℕ))
    (items : List (ℕ × Item)) →
    client_with at s.names one.0 ≡ Ok (client, names) → items ≡ s.items ++ (client, one.1) ∷ [] →
    with_room at s one budgets ≡ Ok (record { names = names; items = items; budgets = budgets })
with_room_is at s one budgets client names items found more =
    ap (λ (r : Result (ℕ × List (List ℕ)) Refusal). and_then r (with_client s one.1 budgets)) found
    ∙ same_script names names (s.items ++ (client, one.1) ∷ []) items budgets budgets refl (sym more) refl

module _ (prefixes : Prefixes) (at : ℕ) (s : Script) (rest line behind : List ℕ) (some_ : rest ≢ [])
    (is : line ≡ take (line_length rest) rest) (after : behind ≡ drop (line_length rest) rest) where
  -- the lines of a text are its first one and those behind it
  one_line : with_lines prefixes at s (lines_of rest)
      ≡ and_then (with_line prefixes at s line) (λ next. with_lines prefixes (suc at) next (lines_of behind))
  one_line =
      ap (with_lines prefixes at s) (first_of_lines rest some_)
      ∙ (ap (λ (l : List ℕ). and_then (with_line prefixes at s l)
      (λ next. with_lines prefixes (suc at) next (lines_of (drop (line_length rest) rest)))) (sym is)
      ∙ ap (λ (b : List ℕ). and_then (with_line prefixes at s line)
      (λ next. with_lines prefixes (suc at) next (lines_of b))) (sym after))

  -- a line that gives a script goes on from it
  pub line_goes_on : (next : Script) → with_line prefixes at s line ≡ Ok next →
      with_lines prefixes at s (lines_of rest) ≡ with_lines prefixes (at + 1) next (lines_of behind)
  line_goes_on next given =
      one_line
      ∙ (ap (λ (r : Result Script Refusal). and_then r (λ x. with_lines prefixes (suc at) x (lines_of behind))) given
      ∙ ap (λ (n : ℕ). with_lines prefixes n next (lines_of behind)) (omega arith))

  -- a line that refuses it ends it
  pub line_ends : (all : Result Script Refusal) (fault : Fault) → all ≡ with_lines prefixes at s (lines_of rest) →
      Answers {T = Script} (Err fault) (with_line prefixes at s line) → Answers {T = Script} (Err fault) all
  line_ends all OutOfMemory so_far refused = tt
  line_ends all (Refused refusal) so_far refused =
      so_far ∙ (one_line
      ∙ ap (λ (r : Result Script Refusal). and_then r (λ x. with_lines prefixes (suc at) x (lines_of behind)))
      refused)

-- each line is a byte at least
pub less_is_left : (rest behind : List ℕ) → rest ≢ [] → behind ≡ drop (line_length rest) rest →
    length behind < length rest
less_is_left rest behind some_ after =
    let size : length behind ≡ length (drop (line_length rest) rest) = ap length after in
    omega (arith, size, length-drop (line_length rest) rest, line_grows rest some_, line_within rest)

pub not_empty : (rest : List ℕ) (b : Bool) → b ≡ (length rest == 0) → b ≡ false → rest ≢ []
not_empty rest b is no_ none =
    let e : (length rest == 0) ≡ true = ap (λ (xs : List ℕ). length xs == 0) none in
    cc
