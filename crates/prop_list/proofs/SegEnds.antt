-- On the seats that a taker takes back, and on those of a new list.
use Rattle.std.proofs.Common.{◌≡◌, ℕ, zero, suc, ◌+◌, ◌<◌, List, [], ◌∷◌, ◌++◌, length, get_or, take, refl, sym, ap}
use Rattle.std.proofs.Common.{◌∙◌, arith, append-nil, length-append, map}
use mathlib.Core.Option.{some}
use lib.ListN.{get_elem?}
use Rattle.std.specs.List.{AllByRecursion, range_with_len}
use Rattle.atomic_table.proofs.Lists.{at_longer, at_last}
use Rattle.session_states.specs.declared.item.Entry.{Entry}
use Rattle.prop_list.specs.Lists.{entries_of}
use Rattle.prop_list.specs.SegSeats.{client_of}
use Rattle.prop_list.specs.SegEnds.{view_of, joined_onto, pushed_by}
use Rattle.prop_list.specs.SegViews.{Settled, sum_over, pushes}
use Rattle.prop_list.proofs.SegSteps.{sum_longer}
use Rattle.prop_list.specs.declared.seg.seats.Seat.{Seat}
use Rattle.prop_list.specs.declared.seg.views.ClientView.{ClientView}
use Rattle.prop_list.specs.declared.seg.views.TakerView.{TakerView}

-- lists

pub all_of_front : {A : Type 0} (P : A → Type 0) (xs : List A) (last : A) → AllByRecursion P (xs ++ last ∷ [])
    → AllByRecursion P xs
all_of_front P [] last all = tt
all_of_front P (x ∷ xs) last all = (all.0, all_of_front P xs last all.1)

pub all_longer : {A : Type 0} (P : A → Type 0) (xs : List A) (last : A) → AllByRecursion P xs → P last
    → AllByRecursion P (xs ++ last ∷ [])
all_longer P [] last all it = (it, tt)
all_longer P (x ∷ xs) last all it = (all.0, all_longer P xs last all.1 it)

all_become : {A : Type 0} (P Q : A → Type 0) (xs : List A) → ((x : A) → P x → Q x) → AllByRecursion P xs
    → AllByRecursion Q xs
all_become P Q [] each all = tt
all_become P Q (x ∷ xs) each all = (each x all.0, all_become P Q xs each all.1)

pub all_of_any : {A : Type 0} (P : A → Type 0) (xs : List A) → ((x : A) → P x) → AllByRecursion P xs
all_of_any P [] any = tt
all_of_any P (x ∷ xs) any = (any x, all_of_any P xs any)

all_at : {A : Type 0} (P : A → Type 0) (xs : List A) → ((at : ℕ) (x : A) → get_elem? xs at ≡ some x → P x)
    → AllByRecursion P xs
all_at P [] each = tt
all_at P (x ∷ xs) each = (each 0 x refl, all_at P xs (λ at y found. each (suc at) y found))

empty_of : {A : Type 0} (xs : List A) → length xs ≡ 0 → xs ≡ []
empty_of [] none = refl
empty_of (x ∷ xs) none = absurd (omega arith)

-- seats

pub pushed_by_one_more : (seats : List Seat) (at : ℕ) (seat : Seat) → at < length seats → seat ≡ get_or seats at seat
    → pushed_by (take (at + 1) seats) ≡ pushed_by (take at seats) + length (view_of seat).accepted
pushed_by_one_more [] at seat below is = absurd (omega arith)
pushed_by_one_more (first ∷ seats) zero seat below is =
    let same : length (view_of seat).accepted ≡ length (view_of first).accepted
    = ap (λ (s : Seat). length (view_of s).accepted) is in omega arith
pushed_by_one_more (first ∷ seats) (suc at) seat below is =
    let more = pushed_by_one_more seats at seat (omega arith) is in
    let next : suc at + 1 ≡ suc (at + 1) = omega arith in rw next (omega arith)

onto_last : (clients : List ClientView) (seats : List Seat) (last : Seat)
    → joined_onto clients (seats ++ last ∷ []) ≡ joined_onto (clients ++ view_of last ∷ []) seats
onto_last clients [] last = refl
onto_last clients (seat ∷ seats) last =
    ap (λ (l : List ClientView). l ++ view_of seat ∷ []) (onto_last clients seats last)

pub onto_one_more : (clients target : List ClientView) (all rest : List Seat) (last : Seat) → all ≡ rest ++ last ∷ []
    → joined_onto clients all ≡ target → joined_onto (clients ++ view_of last ∷ []) rest ≡ target
onto_one_more clients target all rest last is so =
    sym (onto_last clients rest last) ∙ (ap (joined_onto clients) (sym is) ∙ so)

pub onto_length : (clients : List ClientView) (seats : List Seat)
    → length (joined_onto clients seats) ≡ length clients + length seats
onto_length clients [] = omega arith
onto_length clients (seat ∷ seats) =
    let last = length-append (joined_onto clients seats) (view_of seat ∷ []) in
    let others = onto_length clients seats in omega arith

pub onto_sum : (seats : List Seat) → sum_over pushes (joined_onto [] seats) ≡ pushed_by seats
onto_sum [] = refl
onto_sum (seat ∷ seats) =
    let last = sum_longer pushes (joined_onto [] seats) (view_of seat) in
    let others = onto_sum seats in omega arith

onto_all : (P : ClientView → Type 0) (clients : List ClientView) (seats : List Seat)
    → ((at : ℕ) (client : ClientView) → get_elem? (joined_onto clients seats) at ≡ some client → P client)
    → AllByRecursion (λ seat. P (view_of seat)) seats
onto_all P clients [] each = tt
onto_all P clients (seat ∷ seats) each = (
  each (length (joined_onto clients seats)) (view_of seat)
      (at_last (joined_onto clients seats) (view_of seat) (length (joined_onto clients seats)) refl),
  onto_all P clients seats
      (λ at client found. each at client
      (at_longer (joined_onto clients seats) (view_of seat ∷ []) at client found)),
)

pub onto_empty : (clients joined : List ClientView) (seats : List Seat) → length clients ≡ 0
    → joined ≡ joined_onto clients seats → joined ≡ joined_onto [] seats
onto_empty clients joined seats none is =
    is ∙ ap (λ (l : List ClientView). joined_onto l seats) (empty_of clients none)

-- the end

pub all_left : (taker : TakerView) (taken left : List Entry) (seats : List Seat) → Settled taker []
    → taker.joined ≡ joined_onto [] seats → taker.taken ≡ taken ++ left
    → AllByRecursion (λ seat. (view_of seat).accepted ≡ entries_of seat.client (taken ++ left)) seats
all_left taker taken left seats settled joined is =
    let whole : taker.taken ++ [] ≡ taken ++ left = append-nil taker.taken ∙ is in
    all_become
    (λ seat. (view_of seat).accepted ≡ entries_of (view_of seat).client (taken ++ left))
    (λ seat. (view_of seat).accepted ≡ entries_of seat.client (taken ++ left)) seats
    (λ seat so. so ∙ ap (λ (client : ℕ). entries_of client (taken ++ left)) seat.own.0)
    (onto_all (λ client. client.accepted ≡ entries_of client.client (taken ++ left)) [] seats
    (λ at client found.
    settled.each at client (ap (λ (l : List ClientView). get_elem? l at) joined ∙ found)
    ∙ ap (entries_of client.client) whole))

pub all_named : (taker : TakerView) (taken left : List Entry) (seats : ℕ) → Settled taker []
    → taker.taken ≡ taken ++ left → taker.seated ≡ seats
    → AllByRecursion (λ entry. entry.client < seats) (taken ++ left)
all_named taker taken left seats settled is same =
    all_at (λ entry. entry.client < seats) (taken ++ left) (λ at entry found.
    let below = settled.named at entry
    (ap (λ (l : List Entry). get_elem? l at) (append-nil taker.taken ∙ is) ∙ found) in
    omega arith)

-- a new list's seats

range_longer : (from n last : ℕ) → from + n ≡ last → range_with_len from (n + 1) ≡ range_with_len from n ++ last ∷ []
range_longer from zero last is = let same : from ≡ last = omega arith in ap (λ (k : ℕ). k ∷ []) same
range_longer from (suc n) last is =
    let next : suc n + 1 ≡ suc (n + 1) = omega arith in
    rw next (ap (λ (l : List ℕ). from ∷ l) (range_longer (from + 1) n last (omega arith)))

clients_last : (seats : List Seat) (last : Seat)
    → map client_of (seats ++ last ∷ []) ≡ map client_of seats ++ client_of last ∷ []
clients_last [] last = refl
clients_last (seat ∷ seats) last = ap (λ (l : List ℕ). client_of seat ∷ l) (clients_last seats last)

pub clients_longer : (seats : List Seat) (last : Seat) (n : ℕ) → map client_of seats ≡ range_with_len 0 n
    → client_of last ≡ n → map client_of (seats ++ last ∷ []) ≡ range_with_len 0 (n + 1)
clients_longer seats last n is own =
    clients_last seats last ∙ (ap (λ (l : List ℕ). l ++ client_of last ∷ []) is
    ∙ (ap (λ (k : ℕ). range_with_len 0 n ++ k ∷ []) own ∙ sym (range_longer 0 n n (omega arith))))
