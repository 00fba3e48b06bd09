-- One more item: its entry, and the counts of the clients' items.
use Rattle.std.proofs.Common.{suc, ◌≡◌, ◌≤◌, ℕ, ◌<◌, ◌+◌, ◌==◌, Bool, true, false, List, [], ◌∷◌, ◌++◌, Some}
use Rattle.std.proofs.Common.{length, refl, sym, ap, ◌∙◌, arith, take, drop, get_or, drop-cons, add-one, append_assoc}
use Rattle.std.specs.BTreeMap.{BTreeMap, Updates, is_at}
use Rattle.std.specs.Cmp.{unsigned_tied}
use Rattle.std.specs.Ordering.{nat_cmp}
use Rattle.std.specs.Prelude.{unwrap_or}
use Rattle.std.specs.declared.option.Option.{Option}
use Rattle.std.proofs.Math.Seq.{take-suc}
use Rattle.std.proofs.lemmas.Bool.{eqb-true}
use Rattle.std.proofs.lemmas.List.{length-take-le}
use Rattle.std.proofs.lemmas.List.Sums.{count_by-le-length, count_by_more_yes, count_by_more_no}
use Rattle.session_states.specs.declared.item.Item.{Item}
use Rattle.session_states.specs.declared.item.Entry.{Entry}
use Rattle.rif_script.specs.Cutting.{entries_after, sent_count}
use Rattle.rif_script.specs.Ranks.{sent_so_far}

abbrev pub entry_with : ℕ → ℕ → Item → Entry
entry_with client rank item = record { client = client; rank = rank; item = item }

-- the entry of an item behind others
abbrev pub entry_behind : List (ℕ × Item) → ℕ × Item → Entry
entry_behind before sent = entry_with sent.0 (sent_count sent.0 before) sent.1

pub entries_after-drop : (items : List (ℕ × Item)) (i : ℕ) (sent : ℕ × Item) → i < length items →
    sent ≡ get_or items i sent →
    entries_after (take i items) (drop i items) ≡
    entry_behind (take i items) sent ∷ entries_after (take (i + 1) items) (drop (i + 1) items)
entries_after-drop items i sent lt is =
    let rest : drop i items ≡ sent ∷ drop (i + 1) items =
    rw (add-one, drop-cons items i sent) (ap (λ (x : ℕ × Item). x ∷ drop (suc i) items) (sym is)) in
    let past : take (i + 1) items ≡ take i items ++ sent ∷ [] =
    rw (add-one, take-suc items i sent) (ap (λ (x : ℕ × Item). take i items ++ x ∷ []) (sym is)) in
    ap (entries_after (take i items)) rest
    ∙ ap (λ (before : List (ℕ × Item)). entry_behind (take i items) sent ∷ entries_after before (drop (i + 1) items))
    (sym past)

same_entry : (c k r q : ℕ) (i j : Item) → c ≡ k → r ≡ q → i ≡ j → entry_with c r i ≡ entry_with k q j
same_entry c k r q i j same_client same_rank same_item = cc

pub made_more : (all entries more : List Entry) (items : List (ℕ × Item)) (i : ℕ) (sent : ℕ × Item) (rank : ℕ)
    (item : Item) →
    i < length items → sent ≡ get_or items i sent → rank ≡ sent_count sent.0 (take i items) → item ≡ sent.1 →
    more ≡ entries ++ entry_with sent.0 rank item ∷ [] →
    entries ++ entries_after (take i items) (drop i items) ≡ all →
    more ++ entries_after (take (i + 1) items) (drop (i + 1) items) ≡ all
made_more all entries more items i sent rank item lt is ranks copied pushed so_far =
    let rest = entries_after (take (i + 1) items) (drop (i + 1) items) in
    let entry : entry_with sent.0 rank item ≡ entry_behind (take i items) sent =
    same_entry sent.0 sent.0 rank (sent_count sent.0 (take i items)) item sent.1 refl ranks copied in
    ap (λ (es : List Entry). es ++ rest) pushed
    ∙ append_assoc entries (entry_with sent.0 rank item ∷ []) rest
    ∙ ap (λ (e : Entry). entries ++ e ∷ rest) entry
    ∙ ap (λ (es : List Entry). entries ++ es) (sym (entries_after-drop items i sent lt is))
    ∙ so_far

-- what a map with one client's number raised has of another client, or of this one
module _ (items : List (ℕ × Item)) (i : ℕ) (sent : ℕ × Item) (old new : BTreeMap ℕ ℕ) (rank : ℕ)
    (lt : i < length items)
    (is : sent ≡ get_or items i sent)
    (raised : Updates nat_cmp old new sent.0 (Some (rank + 1)))
    (counted : (c : ℕ) → sent_so_far old c ≡ sent_count c (take i items))
    (rank_is : rank ≡ sent_so_far old sent.0) where
  count_at : (c : ℕ) (own : Bool) → (sent.0 == c) ≡ own → sent_so_far new c ≡ sent_count c (take (i + 1) items)
  count_at c true own =
      let client : sent.0 ≡ c = eqb-true sent.0 c own in
      let test : (get_or items i sent).0 == c ≡ true = ap (λ (x : ℕ × Item). x.0 == c) (sym is) ∙ own in
      ap (sent_so_far new) (sym client)
      ∙ ap (λ (o : Option ℕ). unwrap_or o 0) raised.1
      ∙ ap (λ (n : ℕ). n + 1) (rank_is ∙ counted sent.0 ∙ ap (λ (n : ℕ). sent_count n (take i items)) client)
      ∙ sym (count_by_more_yes (λ (x : ℕ × Item). x.0 == c) items i sent lt test)
  count_at c false other =
      let apart : is_at (nat_cmp sent.0) c ≡ false = unsigned_tied sent.0 c ∙ other in
      let test : (get_or items i sent).0 == c ≡ false = ap (λ (x : ℕ × Item). x.0 == c) (sym is) ∙ other in
      ap (λ (o : Option ℕ). unwrap_or o 0) (raised.2 c apart)
      ∙ counted c
      ∙ sym (count_by_more_no (λ (x : ℕ × Item). x.0 == c) items i sent lt test)

  -- one more item raises the count of its client
  pub counted_more : (c : ℕ) → sent_so_far new c ≡ sent_count c (take (i + 1) items)
  counted_more c = count_at c (sent.0 == c) refl

-- a client sent no more than all
pub few_sent : (items : List (ℕ × Item)) (i c n : ℕ) → i ≤ length items → n ≡ sent_count c (take i items) → n ≤ i
few_sent items i c n in' counted =
    omega (arith, count_by-le-length (λ (x : ℕ × Item). x.0 == c) (take i items), length-take-le i items in')
