-- A client's entries are its items, with the ranks 0, 1, 2 and so on.
use Rattle.std.proofs.Common.{suc, ◌≡◌, ℕ, ◌+◌, ◌==◌, Bool, true, false, List, [], ◌∷◌, ◌++◌, refl, ap, cond, subst}
use Rattle.std.proofs.Common.{arith}
use Rattle.std.specs.List.{sum_by}
use Rattle.std.proofs.lemmas.Bool.{eqb-true}
use Rattle.std.proofs.lemmas.List.Sums.{sum_by-append}
use Rattle.session_states.specs.declared.item.Item.{Item}
use Rattle.rif_script.specs.Cutting.{entries_after, sent_count}
use Rattle.session_states.specs.Clients.{CountUp, items_of, ranks_of, script_of}
use Rattle.rif_script.specs.CuttingLaws.{EntriesFollowScripts}

items_of-entries_after : (client : ℕ) (before items : List (ℕ × Item)) →
    items_of client (entries_after before items) ≡ script_of client items
items_of-entries_after client before [] = refl
items_of-entries_after client before (sent ∷ items) =
    let rest = items_of-entries_after client (before ++ sent ∷ []) items in
    let later = items_of client (entries_after (before ++ sent ∷ []) items) in
    elim (sent.0 == client) as
    (λ b. cond b (sent.1 ∷ later) later ≡
    cond b (sent.1 ∷ script_of client items) (script_of client items)) [
      | true ↦ ap (λ (is : List Item). sent.1 ∷ is) rest
      | false ↦ rest
    ]

sent_count-own : (client : ℕ) (before : List (ℕ × Item)) (sent : ℕ × Item) → (sent.0 == client) ≡ true →
    sent_count client (before ++ sent ∷ []) ≡ suc (sent_count client before)
sent_count-own client before sent own =
    let parts = sum_by-append (λ (x : ℕ × Item). cond (x.0 == client) 1 0) before (sent ∷ []) in
    let one : sum_by (λ (x : ℕ × Item). cond (x.0 == client) 1 0) (sent ∷ []) ≡ 1 =
    ap (λ (b : Bool). 0 + cond b 1 0) own in
    omega (arith, parts, one)

sent_count-other : (client : ℕ) (before : List (ℕ × Item)) (sent : ℕ × Item) → (sent.0 == client) ≡ false →
    sent_count client (before ++ sent ∷ []) ≡ sent_count client before
sent_count-other client before sent other =
    let parts = sum_by-append (λ (x : ℕ × Item). cond (x.0 == client) 1 0) before (sent ∷ []) in
    let none : sum_by (λ (x : ℕ × Item). cond (x.0 == client) 1 0) (sent ∷ []) ≡ 0 =
    ap (λ (b : Bool). 0 + cond b 1 0) other in
    omega (arith, parts, none)

ranks_by : (client : ℕ) (before : List (ℕ × Item)) (sent : ℕ × Item) (rest : List ℕ) (is : Bool) →
    (sent.0 == client) ≡ is → CountUp (sent_count client (before ++ sent ∷ [])) rest →
    CountUp (sent_count client before) (cond is (sent_count sent.0 before ∷ rest) rest)
ranks_by client before sent rest true own counts = (
  ap (λ (c : ℕ). sent_count c before) (eqb-true sent.0 client own),
  subst (λ (n : ℕ). CountUp n rest) (sent_count-own client before sent own) counts,
)
ranks_by client before sent rest false other counts =
    subst (λ (n : ℕ). CountUp n rest) (sent_count-other client before sent other) counts

ranks_of-entries_after : (client : ℕ) (before items : List (ℕ × Item)) →
    CountUp (sent_count client before) (ranks_of client (entries_after before items))
ranks_of-entries_after client before [] = tt
ranks_of-entries_after client before (sent ∷ items) =
    ranks_by client before sent (ranks_of client (entries_after (before ++ sent ∷ []) items)) (sent.0 == client) refl
    (ranks_of-entries_after client (before ++ sent ∷ []) items)

pub entries_follow_scripts : EntriesFollowScripts
entries_follow_scripts items client = (items_of-entries_after client [] items, ranks_of-entries_after client [] items)
