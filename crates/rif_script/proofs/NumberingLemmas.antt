-- The numbers of clients: a name keeps its place when others come behind it.
use Rattle.std.proofs.Common.{◌≡◌, ◌∙◌, sym, subst, ap, refl, ℕ, ◌+◌, ◌<◌, ◌≤◌, ◌||◌, suc, Bool, true, false, cond}
use Rattle.std.proofs.Common.{List, [], ◌∷◌, ◌++◌, append_assoc, append-nil, length, length-append, All, arith, ◌⊎◌}
use Rattle.std.proofs.Common.{inl, inr}
use Rattle.std.specs.Prelude.{bytes_eq}
use Rattle.std.specs.List.{AllByRecursion}
use Rattle.std.proofs.lemmas.List.Elements.{All-from_recursion}
use Rattle.std.proofs.lemmas.Slice.Eq.{bytes_eq-Decides}
use Rattle.prd_grammar.specs.Values.{has_name, place_of}
use Rattle.session_states.specs.declared.item.Item.{Item}
use Rattle.rif_script.specs.Jobs.{names_of, names_without, numbered_items}

-- the names with one more client's
abbrev pub names_with : List (List ℕ) → List ℕ → List (List ℕ)
names_with names name = cond (has_name names name) names (names ++ name ∷ [])

-- the names with those of several
abbrev pub names_after : List (List ℕ) → List (List ℕ × Item) → List (List ℕ)
names_after names [] = names
names_after names (sent ∷ more) = names_after (names_with names sent.0) more

pub either : (b : Bool) → (b ≡ true) ⊎ (b ≡ false)
either true = inl refl
either false = inr refl

same_name : (v : List ℕ) → bytes_eq v v ≡ true
same_name v = grind (arith, bytes_eq-Decides)

one_of : (a b : Bool) → (a || b) ≡ true → a ≡ false → b ≡ true
one_of true b or_ none = absurd (cc)
one_of false b or_ none = or_

none_of : (a b : Bool) → (a || b) ≡ false → (a ≡ false) × (b ≡ false)
none_of true b or_ = absurd (cc)
none_of false b or_ = (refl, or_)

-- a name that is among some stands before their end, and one that isn't has their number as its place
pub place_within : (names : List (List ℕ)) (v : List ℕ) → has_name names v ≡ true → place_of names v < length names
place_within [] v has = absurd (cc)
place_within (n ∷ ns) v has = elim (either (bytes_eq n v)) [
  | inl is ↦ rw is (omega arith)
  | inr other ↦ let later =
      place_within ns v (one_of (bytes_eq n v) (has_name ns v) has other) in rw other (omega arith)
]

pub place_at_end : (names : List (List ℕ)) (v : List ℕ) → has_name names v ≡ false → place_of names v ≡ length names
place_at_end [] v new = refl
place_at_end (n ∷ ns) v new = let parts =
    none_of (bytes_eq n v) (has_name ns v) new in rw parts.0 (ap suc (place_at_end ns v parts.1))

-- names behind others change none of their places
pub place_stays : (names more : List (List ℕ)) (v : List ℕ) → has_name names v ≡ true →
    place_of (names ++ more) v ≡ place_of names v
place_stays [] more v has = absurd (cc)
place_stays (n ∷ ns) more v has = elim (either (bytes_eq n v)) [
  | inl is ↦ rw is refl
  | inr other ↦ rw other (ap suc (place_stays ns more v (one_of (bytes_eq n v) (has_name ns v) has other)))
]

pub name_stays : (names more : List (List ℕ)) (v : List ℕ) → has_name names v ≡ true →
    has_name (names ++ more) v ≡ true
name_stays [] more v has = absurd (cc)
name_stays (n ∷ ns) more v has = elim (either (bytes_eq n v)) [
  | inl is ↦ rw is refl
  | inr other ↦ rw other (name_stays ns more v (one_of (bytes_eq n v) (has_name ns v) has other))
]

pub name_at_end : (names : List (List ℕ)) (v : List ℕ) → has_name (names ++ v ∷ []) v ≡ true
name_at_end [] v = rw (same_name v) refl
name_at_end (n ∷ ns) v = elim (either (bytes_eq n v)) [
  | inl is ↦ rw is refl
  | inr other ↦ rw other (name_at_end ns v)
]

place_new : (names : List (List ℕ)) (v : List ℕ) → has_name names v ≡ false →
    place_of (names ++ v ∷ []) v ≡ length names
place_new [] v new = rw (same_name v) refl
place_new (n ∷ ns) v new = let parts =
    none_of (bytes_eq n v) (has_name ns v) new in rw parts.0 (ap suc (place_new ns v parts.1))

-- the client of a name has its place among the names with it
pub has_client : (names : List (List ℕ)) (v : List ℕ) → has_name (names_with names v) v ≡ true
has_client names v = elim (either (has_name names v)) [
  | inl has ↦ rw has has
  | inr new ↦ rw new (name_at_end names v)
]

pub client_place : (names : List (List ℕ)) (v : List ℕ) → place_of (names_with names v) v ≡ place_of names v
client_place names v = elim (either (has_name names v)) [
  | inl has ↦ rw has refl
  | inr new ↦ rw new (place_new names v new ∙ sym (place_at_end names v new))
]

-- what comes behind some names
pub names_grow : (names : List (List ℕ)) (sent : List (List ℕ × Item)) →
    (more : List (List ℕ)) × (names_after names sent ≡ names ++ more)
names_grow names [] = ([], sym (append-nil names))
names_grow names (one ∷ rest) = elim (either (has_name names one.0)) [
  | inl has ↦
      let later = names_grow names rest in
      (later.0, ap (λ (b : Bool). names_after (cond b names (names ++ one.0 ∷ [])) rest) has ∙ later.1)
  | inr new ↦
      let later = names_grow (names ++ one.0 ∷ []) rest in (
        one.0 ∷ later.0,
        ap (λ (b : Bool). names_after (cond b names (names ++ one.0 ∷ [])) rest) new
            ∙ (later.1 ∙ append_assoc names (one.0 ∷ []) later.0),
      )
]

pub more_names : (names : List (List ℕ)) (sent : List (List ℕ × Item)) →
    length names ≤ length (names_after names sent)
more_names names sent =
    let later = names_grow names sent in
    let size : length (names_after names sent) ≡ length names + length later.0 =
    ap length later.1 ∙ length-append names later.0 in
    omega (arith, size)

-- a name that is known keeps its place
pub place_after : (names : List (List ℕ)) (sent : List (List ℕ × Item)) (v : List ℕ) → has_name names v ≡ true →
    place_of (names_after names sent) v ≡ place_of names v
place_after names sent v has =
    let later = names_grow names sent in
    ap (λ (ns : List (List ℕ)). place_of ns v) later.1 ∙ place_stays names later.0 v has

-- each item with the number that its client has when it comes
abbrev pub numbered_from : List (List ℕ) → List (List ℕ × Item) → List (ℕ × Item)
numbered_from names [] = []
numbered_from names (one ∷ rest) = (place_of names one.0, one.1) ∷ numbered_from (names_with names one.0) rest

-- that number is the one it has in the end
first_number : (names : List (List ℕ)) (one : List ℕ × Item) (rest : List (List ℕ × Item)) →
    place_of names one.0 ≡ place_of (names_after (names_with names one.0) rest) one.0
first_number names one rest =
    sym (place_after (names_with names one.0) rest one.0 (has_client names one.0) ∙ client_place names one.0)

pub numbers_are_final : (names : List (List ℕ)) (sent : List (List ℕ × Item)) →
    numbered_from names sent ≡ numbered_items (names_after names sent) sent
numbers_are_final names [] = refl
numbers_are_final names (one ∷ rest) =
    let more = numbers_are_final (names_with names one.0) rest in
    ap (λ (k : ℕ). (k, one.1) ∷ numbered_from (names_with names one.0) rest) (first_number names one rest)
    ∙ ap (λ (is : List (ℕ × Item)). (place_of (names_after (names_with names one.0) rest) one.0, one.1) ∷ is) more

-- those of some names that aren't among the known ones
abbrev new_among : List (List ℕ) → List (List ℕ) → List (List ℕ)
new_among known [] = []
new_among known (n ∷ ns) = cond (has_name known n) (new_among known ns) (n ∷ new_among known ns)

pub same_bytes : (v n : List ℕ) → bytes_eq v n ≡ true → v ≡ n
same_bytes v n same = grind (arith, bytes_eq-Decides)

-- a known name is no new one
known_left_out : (known ns : List (List ℕ)) (v : List ℕ) → has_name known v ≡ true →
    new_among known (names_without v ns) ≡ new_among known ns
known_left_out known [] v has = refl
known_left_out known (n ∷ ns) v has = elim (either (bytes_eq v n)) [
  | inl same ↦
      let here : has_name known n ≡ true = ap (has_name known) (sym (same_bytes v n same)) ∙ has in
      rw (same, here) (known_left_out known ns v has)
  | inr other ↦ elim (either (has_name known n)) [
    | inl here ↦ rw (other, here) (known_left_out known ns v has)
    | inr new ↦ rw (other, new) (ap (λ (xs : List (List ℕ)). n ∷ xs) (known_left_out known ns v has))
  ]
]

has_last : (known : List (List ℕ)) (v n : List ℕ) → has_name (known ++ v ∷ []) n ≡ (has_name known n || bytes_eq v n)
has_last [] v n = elim (either (bytes_eq v n)) [
  | inl same ↦ rw same refl
  | inr other ↦ rw other refl
]
has_last (k ∷ known) v n = elim (either (bytes_eq k n)) [
  | inl same ↦ rw same refl
  | inr other ↦ rw other (has_last known v n)
]

-- behind a new name, it is no new one any more
new_left_out : (known ns : List (List ℕ)) (v : List ℕ) →
    new_among (known ++ v ∷ []) ns ≡ new_among known (names_without v ns)
new_left_out known [] v = refl
new_left_out known (n ∷ ns) v = elim (either (bytes_eq v n)) [
  | inl same ↦ elim (either (has_name known n)) [
    | inl here ↦ rw (has_last known v n, here, same) (new_left_out known ns v)
    | inr new ↦ rw (has_last known v n, new, same) (new_left_out known ns v)
  ]
  | inr other ↦ elim (either (has_name known n)) [
    | inl here ↦ rw (has_last known v n, here, other, here) (new_left_out known ns v)
    | inr new ↦
        rw (has_last known v n, new, other, new) (ap (λ (xs : List (List ℕ)). n ∷ xs) (new_left_out known ns v))
  ]
]

known_and_new : (known : List (List ℕ)) (sent : List (List ℕ × Item)) →
    names_after known sent ≡ known ++ new_among known (names_of sent)
known_and_new known [] = sym (append-nil known)
known_and_new known (one ∷ rest) = elim (either (has_name known one.0)) [
  | inl has ↦
      rw (has, known_left_out known (names_of rest) one.0 has) (known_and_new known rest)
  | inr new ↦
      rw new (known_and_new (known ++ one.0 ∷ []) rest
      ∙ (append_assoc known (one.0 ∷ []) (new_among (known ++ one.0 ∷ []) (names_of rest))
      ∙ ap (λ (xs : List (List ℕ)). known ++ one.0 ∷ xs) (new_left_out known (names_of rest) one.0)))
]

all_new : (ns : List (List ℕ)) → new_among [] ns ≡ ns
all_new [] = refl
all_new (n ∷ ns) = ap (λ (xs : List (List ℕ)). n ∷ xs) (all_new ns)

-- the names of clients that come one after another are each once, in the order of their first lines
pub names_are_first : (sent : List (List ℕ × Item)) → names_after [] sent ≡ names_of sent
names_are_first sent = known_and_new [] sent ∙ all_new (names_of sent)

-- each item is of one of the clients
clients_by : (names : List (List ℕ)) (sent : List (List ℕ × Item)) (most : ℕ) →
    length (names_after names sent) ≤ most →
    AllByRecursion (λ (one : ℕ × Item). one.0 < most) (numbered_from names sent)
clients_by names [] most few = tt
clients_by names (one ∷ rest) most few =
    let here : place_of names one.0 < length (names_with names one.0) =
    subst (λ (k : ℕ). k < length (names_with names one.0)) (client_place names one.0)
    (place_within (names_with names one.0) one.0 (has_client names one.0)) in
    let grow = more_names (names_with names one.0) rest in
    (omega arith, clients_by (names_with names one.0) rest most few)

pub all_of_clients : (sent : List (List ℕ × Item)) →
    All (λ (one : ℕ × Item). one.0 < length (names_of sent)) (numbered_items (names_of sent) sent)
all_of_clients sent =
    let most = length (names_after [] sent) in
    subst (λ (ns : List (List ℕ)). All (λ (one : ℕ × Item). one.0 < length ns) (numbered_items ns sent))
    (names_are_first sent)
    (subst (λ (is : List (ℕ × Item)). All (λ (one : ℕ × Item). one.0 < most) is) (numbers_are_final [] sent)
    (All-from_recursion (λ (one : ℕ × Item). one.0 < most) (numbered_from [] sent)
    (clients_by [] sent most (omega arith))))
