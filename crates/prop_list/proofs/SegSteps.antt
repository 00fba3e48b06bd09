-- Each step of the queue, and each seat made or given back, keeps its rule.
--     push_owed, take_owed, learn_owed     what the queue asks for at a push and at a pop
--     seat_owed, join_owed                 where a seat is made, and where one is given back
use Rattle.std.proofs.Common.{◌≡◌, ℕ, zero, suc, ◌+◌, ◌<◌, ◌≤◌, ◌≢◌, ◌⊎◌, Bool, true, false, List, [], ◌∷◌, ◌++◌}
use Rattle.std.proofs.Common.{length, set, refl, sym, ap, subst, ◌∙◌, arith, inl, inr, ⊎_elim, if◌then◌else◌, ◌==◌}
use Rattle.std.proofs.Common.{append_assoc, append-nil, length-append, eq-eqb, ne_eqb}
use mathlib.Core.Option.{some, some-injective, some-ne-none}
use lib.ListN.{get_elem?}
use Rattle.atomic_table.proofs.Lists.{at_set, set_here, set_else, at_longer}
use Rattle.crossbeam_queue.specs.Fifo.{Pushes, Pops, Forks, Merges, Learns as LearnsOf}
use Rattle.session_states.specs.declared.item.Entry.{Entry}
use Rattle.prop_list.specs.Lists.{entries_of}
use Rattle.prop_list.specs.SegViews.{FitsLog, Stands, Holds, Settled, Learns, Takes}
use Rattle.prop_list.specs.SegViews.{sum_over, sum_within, total, pushes}
use Rattle.prop_list.specs.SegViews.{after_push, after_take, after_seat, after_join}
use Rattle.prop_list.specs.SegViews.{new_client, new_taker, client_in, taker_in, is_client, is_taker}
use Rattle.prop_list.specs.declared.seg.views.ClientView.{ClientView}
use Rattle.prop_list.specs.declared.seg.views.TakerView.{TakerView}
use Rattle.prop_list.specs.declared.seg.views.View.{View}
use Rattle.prop_list.specs.declared.seg.views.View.TheVariants.{Client, Taker, Spent}

-- lists

length_set : {A : Type 0} (xs : List A) (at : ℕ) (x : A) → length (set xs at x) ≡ length xs
length_set [] at x = refl
length_set (y ∷ ys) zero x = refl
length_set (y ∷ ys) (suc at) x = ap suc (length_set ys at x)

found_below : {A : Type 0} (xs : List A) (at : ℕ) (x : A) → get_elem? xs at ≡ some x → at < length xs
found_below [] at x found = absurd (some-ne-none x (sym found))
found_below (y ∷ ys) zero x found = omega arith
found_below (y ∷ ys) (suc at) x found = omega (arith, found_below ys at x found)

found_in_longer : {A : Type 0} (xs : List A) (last x : A) (at : ℕ) → get_elem? (xs ++ last ∷ []) at ≡ some x
    → (get_elem? xs at ≡ some x) ⊎ ((at ≡ length xs) × (last ≡ x))
found_in_longer [] last x zero found = inr (refl, some-injective last x found)
found_in_longer [] last x (suc at) found = absurd (some-ne-none x (sym found))
found_in_longer (y ∷ ys) last x zero found = inl found
found_in_longer (y ∷ ys) last x (suc at) found =
    ⊎_elim inl (λ end. inr (ap suc end.0, end.1)) (found_in_longer ys last x at found)

-- views

same_client : (one two : ClientView) → some (Client one) ≡ some (Client two) → one ≡ two
same_client one two same = cc

same_taker : (one two : TakerView) → some (Taker one) ≡ some (Taker two) → one ≡ two
same_taker one two same = cc

taker_apart : (views : List View) (at elsewhere : ℕ) (taker : TakerView) (client : ClientView)
    → get_elem? views at ≡ some (Taker taker) → get_elem? views elsewhere ≡ some (Client client) → at ≢ elsewhere
taker_apart views at elsewhere taker client found there same =
    let both : some (Taker taker) ≡ some (Client client) = sym found ∙ (ap (get_elem? views) same ∙ there) in cc

clients_after : (P : ℕ → ClientView → Type 0) (views : List View) (id : ℕ) (new : ClientView) → P id new
    → ((at : ℕ) (client : ClientView) → at ≢ id → get_elem? views at ≡ some (Client client) → P at client)
    → (at : ℕ) (client : ClientView) → get_elem? (set views id (Client new)) at ≡ some (Client client) → P at client
clients_after P views id new here others at client found = ⊎_elim
    (λ it. let same : new ≡ client = same_client new client (ap some it.1) in
    subst (λ (x : ClientView). P at x) same (subst (λ (k : ℕ). P k new) (sym it.0) here))
    (λ it. others at client it.0 it.1)
    (at_set views id at (Client new) (Client client) found)

clients_stay : (views : List View) (taker : TakerView) (at : ℕ) (client : ClientView)
    → get_elem? (set views 0 (Taker taker)) at ≡ some (Client client) → get_elem? views at ≡ some (Client client)
clients_stay views taker at client found = ⊎_elim
    (λ it. let same : some (Taker taker) ≡ some (Client client) = ap some it.1 in cc)
    (λ it. it.1)
    (at_set views 0 at (Taker taker) (Client client) found)

client_is : (view : View) → is_client view ≡ true → view ≡ Client (client_in view)
client_is (Client client) is = refl
client_is (Taker taker) is = let no : false ≡ true = is in cc
client_is Spent is = let no : false ≡ true = is in cc

taker_is : (view : View) → is_taker view ≡ true → view ≡ Taker (taker_in view)
taker_is (Client client) is = let no : false ≡ true = is in cc
taker_is (Taker taker) is = refl
taker_is Spent is = let no : false ≡ true = is in cc

-- sums over views

total_set : (f : ClientView → ℕ) (views : List View) (at : ℕ) (old new : View) → get_elem? views at ≡ some old
    → total f (set views at new) + sum_within f old ≡ total f views + sum_within f new
total_set f [] at old new found = absurd (some-ne-none old (sym found))
total_set f (view ∷ views) zero old new found =
    let same : sum_within f view ≡ sum_within f old = ap (sum_within f) (some-injective view old found) in omega arith
total_set f (view ∷ views) (suc at) old new found = omega (arith, total_set f views at old new found)

total_longer : (f : ClientView → ℕ) (views : List View) (last : View)
    → total f (views ++ last ∷ []) ≡ total f views + sum_within f last
total_longer f [] last = omega arith
total_longer f (view ∷ views) last = omega (arith, total_longer f views last)

pub sum_longer : (f : ClientView → ℕ) (clients : List ClientView) (last : ClientView)
    → sum_over f (clients ++ last ∷ []) ≡ sum_over f clients + f last
sum_longer f [] last = omega arith
sum_longer f (client ∷ clients) last = omega (arith, sum_longer f clients last)

sum_of_ones : (clients : List ClientView) → sum_over (λ client. 1) clients ≡ length clients
sum_of_ones [] = refl
sum_of_ones (client ∷ clients) = omega (arith, sum_of_ones clients)

sum_of_none : (f : ClientView → ℕ) (clients : List ClientView) → length clients ≡ 0 → sum_over f clients ≡ 0
sum_of_none f [] none' = refl
sum_of_none f (client ∷ clients) none' = absurd (omega arith)

total_of_none : (f : ClientView → ℕ) (views : List View) → total (λ client. 1) views ≡ 0 → total f views ≡ 0
total_of_none f [] none' = refl
total_of_none f (Client client ∷ views) none' = absurd (omega arith)
total_of_none f (Taker taker ∷ views) none' =
    let ones = sum_of_ones taker.joined in
    let own = sum_of_none f taker.joined (omega arith) in
    let others = total_of_none f views (omega arith) in omega arith
total_of_none f (Spent ∷ views) none' = let others = total_of_none f views (omega arith) in omega arith

-- where all seats have joined, the taker's views are all
total_of_joined : (f : ClientView → ℕ) (views : List View) (taker : TakerView)
    → get_elem? views 0 ≡ some (Taker taker) → total (λ client. 1) views ≡ length taker.joined
    → total f views ≡ sum_over f taker.joined
total_of_joined f [] taker first all = absurd (some-ne-none (Taker taker) (sym first))
total_of_joined f (view ∷ views) taker first all =
    let is : view ≡ Taker taker = some-injective view (Taker taker) first in
    let own : sum_within f view ≡ sum_over f taker.joined = ap (sum_within f) is in
    let count : sum_within (λ client. 1) view ≡ sum_over (λ client. 1) taker.joined
    = ap (sum_within (λ client. 1)) is in
    let ones = sum_of_ones taker.joined in
    let others = total_of_none f views (omega arith) in omega arith

-- a client's entries

append_either : (own : Bool) (entry : Entry) (xs ys : List Entry)
    → (if own then entry ∷ (xs ++ ys) else (xs ++ ys)) ≡ (if own then entry ∷ xs else xs) ++ ys
append_either true entry xs ys = refl
append_either false entry xs ys = refl

entries_append : (client : ℕ) (xs ys : List Entry)
    → entries_of client (xs ++ ys) ≡ entries_of client xs ++ entries_of client ys
entries_append client [] ys = refl
entries_append client (entry ∷ xs) ys =
    ap (λ (rest : List Entry). if entry.client == client then entry ∷ rest else rest) (entries_append client xs ys)
    ∙ append_either (entry.client == client) entry (entries_of client xs) (entries_of client ys)

entries_own : (client : ℕ) (entry : Entry) → entry.client ≡ client → entries_of client (entry ∷ []) ≡ entry ∷ []
entries_own client entry own = rw (eq-eqb entry.client client own)

entries_else : (client : ℕ) (entry : Entry) → entry.client ≢ client → entries_of client (entry ∷ []) ≡ []
entries_else client entry else' = rw (ne_eqb entry.client client else')

entries_of_new : (client : ℕ) (entries : List Entry)
    → ((at : ℕ) (entry : Entry) → get_elem? entries at ≡ some entry → entry.client < client)
    → entries_of client entries ≡ []
entries_of_new client [] below = refl
entries_of_new client (entry ∷ entries) below =
    let first : entry.client < client = below 0 entry refl in
    rw (ne_eqb entry.client client (omega arith))
    (entries_of_new client entries (λ at other found. below (suc at) other found))

-- where the views are

abbrev placed : (ℕ → ℕ × ℕ) → ℕ → ℕ × ℕ → ℕ → ℕ × ℕ
placed place client at other = if other == client then at else place other

placed_else : (place : ℕ → ℕ × ℕ) (client other : ℕ) (at : ℕ × ℕ) → other ≢ client
    → placed place client at other ≡ place other
placed_else place client other at apart = rw (ne_eqb other client apart)

placed_here : (place : ℕ → ℕ × ℕ) (client : ℕ) (at : ℕ × ℕ) → placed place client at client ≡ at
placed_here place client at = rw (eq-eqb client client refl)

still_fits : {log log' : List Entry} {place place' : ℕ → ℕ × ℕ} {seated seated' : ℕ} {at at' : ℕ × ℕ}
    {client : ClientView} → FitsLog log place seated at client → place' client.client ≡ at' → seated ≤ seated'
    → entries_of client.client log' ≡ entries_of client.client log → FitsLog log' place' seated' at' client
still_fits fits placed' more same = record {
  placed = placed';
  numbered = let below = fits.numbered in omega arith;
  accepted = fits.accepted ∙ sym same;
}

-- the steps

pub opens : Holds [] (Taker new_taker ∷ [])
opens = (
  (λ client. (0, 0)),
  new_taker,
  record {
    first = refl;
    count = refl;
    seats = refl;
    named = λ at entry found. absurd (some-ne-none entry (sym found));
    live = one;
    joined = λ at client found. absurd (some-ne-none client (sym found));
  },
) where
  one : (at : ℕ) (client : ClientView) → get_elem? (Taker new_taker ∷ []) at ≡ some (Client client)
      → FitsLog [] (λ client. (0, 0)) 0 (at, 0) client
  one zero client found = cc
  one (suc at) client found = absurd (some-ne-none (Client client) (sym found))

push_stands : {place : ℕ → ℕ × ℕ} {taker : TakerView} {queued : List Entry} {views : List View}
    (id : ℕ) (client : ClientView) (entry : Entry) → Stands place taker queued views
    → get_elem? views id ≡ some (Client client) → entry.client ≡ client.client
    → Stands place taker (queued ++ entry ∷ []) (set views id (after_push entry (Client client)))
push_stands {place = place} {taker = taker} {queued = queued} {views = views} id client entry stands found own =
    let fits = stands.live id client found in
    let new : ClientView = record { client = client.client; accepted = client.accepted ++ entry ∷ [] } in
    let log : List Entry = taker.taken ++ queued in
    let longer : taker.taken ++ (queued ++ entry ∷ []) ≡ log ++ entry ∷ []
    = sym (append_assoc taker.taken queued (entry ∷ [])) in
    let each : (n : ℕ) → entries_of n (taker.taken ++ (queued ++ entry ∷ []))
    ≡ entries_of n log ++ entries_of n (entry ∷ [])
    = λ n. ap (entries_of n) longer ∙ entries_append n log (entry ∷ []) in
    let others : (n : ℕ) → n ≢ client.client
    → entries_of n (taker.taken ++ (queued ++ entry ∷ [])) ≡ entries_of n log
    = λ n apart. each n ∙ (ap (λ (more : List Entry). entries_of n log ++ more)
    (entries_else n entry (λ same. apart (sym same ∙ own))) ∙ append-nil (entries_of n log)) in
    record {
      first = set_else views id 0 (Client new) (taker_apart views 0 id taker client stands.first found)
          ∙ stands.first;
      count =
          let sums = total_set pushes views id (Client client) (Client new) found in
          let before = stands.count in
          let lengths = ap (λ (l : List Entry). length l) longer in
          let of_log = length-append log (entry ∷ []) in
          let of_client = length-append client.accepted (entry ∷ []) in omega arith;
      seats =
          let sums = total_set (λ client. 1) views id (Client client) (Client new) found in
          let before = stands.seats in omega arith;
      named = λ at other there. ⊎_elim
          (λ old. stands.named at other old)
          (λ end. let same = ap (λ (x : Entry). x.client) end.1 in let below = fits.numbered in omega arith)
          (found_in_longer log entry other at (ap (λ (l : List Entry). get_elem? l at) (sym longer) ∙ there));
      live = clients_after
          (λ at other. FitsLog (taker.taken ++ (queued ++ entry ∷ [])) place taker.seated (at, 0) other) views id new
          (record {
            placed = fits.placed;
            numbered = fits.numbered;
            accepted = sym (each client.client ∙ (ap (λ (more : List Entry). entries_of client.client log ++ more)
                (entries_own client.client entry own)
                ∙ ap (λ (l : List Entry). l ++ entry ∷ []) (sym fits.accepted)));
          })
          (λ at other apart there. let it = stands.live at other there in still_fits it it.placed (omega arith)
          (others other.client (λ same. apart
          (ap (λ (x : ℕ × ℕ). x.0) (sym it.placed ∙ (ap place same ∙ fits.placed))))));
      joined = λ at other there. let it = stands.joined at other there in still_fits it it.placed (omega arith)
          (others other.client (λ same. taker_apart views 0 id taker client stands.first found
          (ap (λ (x : ℕ × ℕ). x.0) (sym it.placed ∙ (ap place same ∙ fits.placed)))));
    }

settles : (place : ℕ → ℕ × ℕ) (taker : TakerView) (queued : List Entry) (views : List View)
    → Stands place taker queued views → Settled taker queued
settles place taker queued views stands = record {
  each = λ at client found. (stands.joined at client found).accepted;
  named = stands.named;
  room = λ all. sym stands.count ∙ total_of_joined pushes views taker stands.first (stands.seats ∙ sym all);
}

take_stands : {place : ℕ → ℕ × ℕ} {taker : TakerView} {queued : List Entry} {views : List View} (entry : Entry)
    → Stands place taker (entry ∷ queued) views
    → Stands place (taker_in (after_take entry (Taker taker))) queued (set views 0 (after_take entry (Taker taker)))
take_stands {place = place} {taker = taker} {queued = queued} {views = views} entry stands =
    let new : TakerView = taker_in (after_take entry (Taker taker)) in
    let same : (taker.taken ++ entry ∷ []) ++ queued ≡ taker.taken ++ entry ∷ queued
    = append_assoc taker.taken (entry ∷ []) queued in
    record {
      first = set_here views 0 (Taker new) (found_below views 0 (Taker taker) stands.first);
      count =
          let sums = total_set pushes views 0 (Taker taker) (Taker new) stands.first in
          let before = stands.count in
          let lengths = ap (λ (l : List Entry). length l) same in omega arith;
      seats =
          let sums = total_set (λ client. 1) views 0 (Taker taker) (Taker new) stands.first in
          let before = stands.seats in omega arith;
      named = λ at other found. stands.named at other (ap (λ (l : List Entry). get_elem? l at) (sym same) ∙ found);
      live = λ at client found. let it = stands.live at client (clients_stay views new at client found) in
          still_fits it it.placed (omega arith) (ap (entries_of client.client) same);
      joined = λ at client found. let it = stands.joined at client found in
          still_fits it it.placed (omega arith) (ap (entries_of client.client) same);
    }

seat_stands : {place : ℕ → ℕ × ℕ} {taker : TakerView} {queued : List Entry} {views : List View}
    → Stands place taker queued views
    → Stands (placed place taker.seated (length views, 0)) (taker_in (after_seat (Taker taker))) queued
    (set views 0 (after_seat (Taker taker)) ++ Client (new_client taker.seated) ∷ [])
seat_stands {place = place} {taker = taker} {queued = queued} {views = views} stands =
    let new : TakerView = taker_in (after_seat (Taker taker)) in
    let own : ClientView = new_client taker.seated in
    let front : List View = set views 0 (Taker new) in
    let long : length front ≡ length views = length_set views 0 (Taker new) in
    let still : (other : ℕ) → other < taker.seated → placed place taker.seated (length views, 0) other ≡ place other
    = λ other below. placed_else place taker.seated other (length views, 0) (omega arith) in
    record {
      first = at_longer front (Client own ∷ []) 0 (Taker new)
          (set_here views 0 (Taker new) (found_below views 0 (Taker taker) stands.first));
      count =
          let sums = total_set pushes views 0 (Taker taker) (Taker new) stands.first in
          let before = stands.count in
          let last = total_longer pushes front (Client own) in omega arith;
      seats =
          let sums = total_set (λ client. 1) views 0 (Taker taker) (Taker new) stands.first in
          let before = stands.seats in
          let last = total_longer (λ client. 1) front (Client own) in omega arith;
      named = λ at entry found. let below = stands.named at entry found in omega arith;
      live = λ at client found. ⊎_elim
          (λ old. let it = stands.live at client (clients_stay views new at client old) in
          still_fits it (still client.client it.numbered ∙ it.placed) (omega arith) refl)
          (λ end. let same : own ≡ client = same_client own client (ap some end.1) in
          subst (FitsLog (taker.taken ++ queued) (placed place taker.seated (length views, 0)) (taker.seated + 1)
          (at, 0)) same (record {
            placed = placed_here place taker.seated (length views, 0)
                ∙ ap (λ (n : ℕ). (n, 0)) (sym (end.0 ∙ long));
            numbered = omega arith;
            accepted = sym (entries_of_new taker.seated (taker.taken ++ queued) stands.named);
          }))
          (found_in_longer front (Client own) (Client client) at found);
      joined = λ at client found. let it = stands.joined at client found in
          still_fits it (still client.client it.numbered ∙ it.placed) (omega arith) refl;
    }

join_stands : {place : ℕ → ℕ × ℕ} {taker : TakerView} {queued : List Entry} {views : List View}
    (other : ℕ) (client : ClientView) → Stands place taker queued views → other ≢ 0
    → get_elem? (set views 0 (after_join (Taker taker) (Client client))) other ≡ some (Client client)
    → Stands (placed place client.client (0, length taker.joined))
    (taker_in (after_join (Taker taker) (Client client)))
    queued (set (set views 0 (after_join (Taker taker) (Client client))) other Spent)
join_stands {place = place} {taker = taker} {queued = queued} {views = views} other client stands apart found =
    let new : TakerView = taker_in (after_join (Taker taker) (Client client)) in
    let front : List View = set views 0 (Taker new) in
    let fits = stands.live other client (clients_stay views new other client found) in
    let to : ℕ × ℕ = (0, length taker.joined) in
    let still : (n : ℕ) (at : ℕ × ℕ) → place n ≡ at → (at ≡ (other, 0) → ⊥) → placed place client.client to n ≡ at
    = λ n at is else'. placed_else place client.client n to
    (λ same. else' (sym is ∙ (ap place same ∙ fits.placed))) ∙ is in
    record {
      first = set_else front other 0 Spent (λ same. apart (sym same))
          ∙ set_here views 0 (Taker new) (found_below views 0 (Taker taker) stands.first);
      count =
          let sums = total_set pushes views 0 (Taker taker) (Taker new) stands.first in
          let before = stands.count in
          let spent = total_set pushes front other (Client client) Spent found in
          let last = sum_longer pushes taker.joined client in omega arith;
      seats =
          let sums = total_set (λ client. 1) views 0 (Taker taker) (Taker new) stands.first in
          let before = stands.seats in
          let spent = total_set (λ client. 1) front other (Client client) Spent found in
          let last = sum_longer (λ client. 1) taker.joined client in omega arith;
      named = stands.named;
      live = λ at one there. ⊎_elim
          (λ it. let same : some Spent ≡ some (Client one) = ap some it.1 in cc)
          (λ it. let old = stands.live at one (clients_stay views new at one it.1) in
          still_fits old (still one.client (at, 0) old.placed (λ same. it.0 (ap (λ (x : ℕ × ℕ). x.0) same)))
          (omega arith) refl)
          (at_set front other at Spent (Client one) there);
      joined = λ at one there. ⊎_elim
          (λ before. let old = stands.joined at one before in
          still_fits old
          (still one.client (0, at) old.placed (λ same. apart (sym (ap (λ (x : ℕ × ℕ). x.0) same))))
          (omega arith) refl)
          (λ end. subst (λ (x : ClientView). FitsLog (taker.taken ++ queued) (placed place client.client to)
          taker.seated (0, at) x) end.1
          (still_fits fits (placed_here place client.client to ∙ ap (λ (n : ℕ). (0, n)) (sym end.0))
          (omega arith) refl))
          (found_in_longer taker.joined client one at there);
    }

-- what the queue's calls ask for

of_taker : (taker : TakerView) (queued : List Entry) (views : List View) → Holds queued views
    → get_elem? views 0 ≡ some (Taker taker) → (place : ℕ → ℕ × ℕ) × Stands place taker queued views
of_taker taker queued views holds first = (
  holds.0,
  subst (λ (one : TakerView). Stands holds.0 one queued views)
      (same_taker holds.1 taker (sym holds.2.first ∙ first)) holds.2,
)

pub push_owed : (most id : ℕ) (view : View) (entry : Entry) → is_client view ≡ true
    → entry.client ≡ (client_in view).client
    → Pushes Holds most id view entry (λ new. new ≡ after_push entry view)
push_owed most id view entry is own queued views room holds found = (
  after_push entry view,
  (
    holds.0,
    holds.1,
    push_stands id (client_in view) entry holds.2 (found ∙ ap some (client_is view is)) own,
  ),
  refl,
)

take_first : (view : View) → is_taker view ≡ true → Pops Holds 0 view (Takes view)
take_first view is entry queued views holds found =
    let taker : TakerView = taker_in view in
    let it = of_taker taker (entry ∷ queued) views holds (found ∙ ap some (taker_is view is)) in
    let settled = settles it.0 taker (entry ∷ queued) views it.1 in (
      after_take entry view,
      (it.0, taker_in (after_take entry view), take_stands entry it.1),
      (
        refl,
        λ all. let room = settled.room all in
            let lengths = length-append taker.taken (entry ∷ queued) in omega arith,
      ),
    )

pub take_owed : (id : ℕ) (view : View) → id ≡ 0 → is_taker view ≡ true → Pops Holds id view (Takes view)
take_owed id view first is = rw first (take_first view is)

learn_first : (view : View) → is_taker view ≡ true → LearnsOf Holds 0 view (Learns view)
learn_first view is queued views holds found =
    let it = of_taker (taker_in view) queued views holds (found ∙ ap some (taker_is view is)) in
    settles it.0 (taker_in view) queued views it.1

pub learn_owed : (id : ℕ) (view : View) → id ≡ 0 → is_taker view ≡ true → LearnsOf Holds id view (Learns view)
learn_owed id view first is = rw first (learn_first view is)

seat_first : (view : View) → is_taker view ≡ true
    → Forks Holds 0 view (after_seat view) (Client (new_client (taker_in view).seated))
seat_first view is queued views holds found =
    let it = of_taker (taker_in view) queued views holds (found ∙ ap some (taker_is view is)) in
    (placed it.0 (taker_in view).seated (length views, 0), taker_in (after_seat view), seat_stands it.1)

pub seat_owed : (id : ℕ) (view : View) → id ≡ 0 → is_taker view ≡ true
    → Forks Holds id view (after_seat view) (Client (new_client (taker_in view).seated))
seat_owed id view first is = rw first (seat_first view is)

join_first : (other : ℕ) (view theirs : View) → is_taker view ≡ true → is_client theirs ≡ true
    → Merges Holds 0 view other theirs (after_join view theirs) Spent
join_first other view theirs is client queued views holds found apart there =
    let it = of_taker (taker_in view) queued views holds (found ∙ ap some (taker_is view is)) in (
      placed it.0 (client_in theirs).client (0, length (taker_in view).joined),
      taker_in (after_join view theirs),
      join_stands other (client_in theirs) it.1 apart (there ∙ ap some (client_is theirs client)),
    )

pub join_owed : (id other : ℕ) (view theirs : View) → id ≡ 0 → is_taker view ≡ true → is_client theirs ≡ true
    → Merges Holds id view other theirs (after_join view theirs) Spent
join_owed id other view theirs first is client = rw first (join_first other view theirs is client)
