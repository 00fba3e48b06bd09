-- What the cut of a script keeps.
use Rattle.std.proofs.Common.{zero, suc, lit<, ◌≡◌, ◌≢◌, ℕ, ◌<◌, ◌+◌, ◌==◌, ◌||◌, Bool, true, false, List, [], ◌∷◌}
use Rattle.std.proofs.Common.{◌++◌, ◌-◌, length, refl, sym, ap, ◌∙◌, cond, subst, take, drop, length-append}
use Rattle.std.proofs.Common.{Some, slice_get, arith}
use Rattle.std.proofs.lemmas.List.{append-nil}
use Rattle.std.specs.Option.{option_map_or}
use Rattle.std.specs.declared.option.Option.{Option}
use Rattle.rif_refusals.specs.Limits.{most_batch_items}
use Rattle.session_states.specs.declared.item.Item.{Item}
use Rattle.session_states.specs.declared.item.Entry.{Entry}
use Rattle.session_states.specs.Batches.{AreLawfulBatches, AreLawfulBehind, IsLawful, ends_in, is_dispose}
use Rattle.session_states.specs.Batches.{is_disposing, joined}
use Rattle.rif_script.specs.Cutting.{batches_behind, ends_behind, is_control, served_count, with_first}
use Rattle.rif_script.specs.CuttingLaws.{AreEnded, ControlsLast, CutEndsBatches, CutIsLawful, CutKeepsAll}
use Rattle.rif_script.specs.CuttingLaws.{CutLeavesBehindDispose}
use Rattle.rif_script.proofs.CuttingLemmas.{AreChanges, AreChanges-snoc, batches_after, batches_where, closes}
use Rattle.rif_script.proofs.CuttingLemmas.{goes_on, joined_first-alone, lawful_begun, lawful_closed, neither}
use Rattle.rif_script.proofs.CuttingLemmas.{room_joined}

take-drop : (n : ℕ) (entries : List Entry) → take n entries ++ drop n entries ≡ entries
take-drop zero entries = refl
take-drop (suc n) [] = refl
take-drop (suc n) (entry ∷ entries) = ap (λ (es : List Entry). entry ∷ es) (take-drop n entries)

joined-with_first : (entry : Entry) (batches : List (List Entry)) (more : List Entry) →
    joined (with_first entry batches) more ≡ entry ∷ joined batches more
joined-with_first entry [] more = refl
joined-with_first entry (batch ∷ batches) more = refl

joined-batches_behind : (before : ℕ) (entries more : List Entry) →
    joined (batches_behind before entries) more ≡ entries ++ more
joined-batches_behind before [] more = refl
joined-batches_behind before (entry ∷ entries) more =
    elim (ends_behind before entry.item) as
    (λ b. joined (batches_where b before entry entries) more ≡ entry ∷ (entries ++ more)) [
      | true ↦ ap (λ (es : List Entry). entry ∷ es) (joined-batches_behind 0 entries more)
      | false ↦ joined-with_first entry (batches_behind (before + 1) entries) more
          ∙ ap (λ (es : List Entry). entry ∷ es) (joined-batches_behind (before + 1) entries more)
    ]

pub cut_keeps_all : CutKeepsAll
cut_keeps_all entries = joined-batches_behind 0 (take (served_count entries) entries)
    (drop (served_count entries) entries) ∙ take-drop (served_count entries) entries

-- no entry but the last is a Dispose
abbrev DisposesLast : List Entry → Type 0
DisposesLast [] = Unit {0}
DisposesLast (entry ∷ []) = Unit {0}
DisposesLast (entry ∷ next ∷ entries) = (is_dispose entry.item ≡ false) × DisposesLast (next ∷ entries)

disposes_last : (entry : Entry) (entries : List Entry) → is_dispose entry.item ≡ false → DisposesLast entries →
    DisposesLast (entry ∷ entries)
disposes_last entry [] other rest = tt
disposes_last entry (next ∷ entries) other rest = (other, rest)

served_by : (entry : Entry) (entries : List Entry) (ends : Bool) → is_dispose entry.item ≡ ends →
    DisposesLast (take (served_count entries) entries) →
    DisposesLast (take (cond ends 1 (suc (served_count entries))) (entry ∷ entries))
served_by entry entries true is rest = tt
served_by entry entries false is rest = disposes_last entry (take (served_count entries) entries) is rest

served_disposes_last : (entries : List Entry) → DisposesLast (take (served_count entries) entries)
served_disposes_last [] = tt
served_disposes_last (entry ∷ entries) =
    served_by entry entries (is_dispose entry.item) refl (served_disposes_last entries)

last_at : (begun : List Entry) (entry : Entry) → slice_get (begun ++ entry ∷ []) (length begun) ≡ Some entry
last_at [] entry = refl
last_at (e ∷ begun) entry = last_at begun entry

-- a batch ends in its last entry
ends_in-snoc : (test : Item → Bool) (begun : List Entry) (entry : Entry) →
    ends_in test (begun ++ entry ∷ []) ≡ test entry.item
ends_in-snoc test begun entry =
    let size : length (begun ++ entry ∷ []) ≡ length begun + 1 = length-append begun (entry ∷ []) in
    let place : length (begun ++ entry ∷ []) - 1 ≡ length begun = omega (arith, size) in
    ap (λ (o : Option Entry). option_map_or (λ (e : Entry). test e.item) o false)
    (ap (slice_get (begun ++ entry ∷ [])) place ∙ last_at begun entry)

not_empty : (begun : List Entry) (entry : Entry) → begun ++ entry ∷ [] ≢ []
not_empty [] entry same = cc
not_empty (e ∷ begun) entry same = cc

some_entry : (entry : Entry) (begun : List Entry) → entry ∷ begun ≢ []
some_entry entry begun same = cc

lawful_before : (batch : List Entry) (batches : List (List Entry)) → IsLawful batch → batch ≢ [] →
    is_disposing batch ≡ false → AreLawfulBatches batches → AreLawfulBatches (batch ∷ batches)
lawful_before batch batches lawful some other rest =
    (lawful, some, refl, subst (λ (d : Bool). AreLawfulBehind d batches) (sym other) rest)

lawful_last : (begun : List Entry) → length begun < most_batch_items → AreChanges begun →
    AreLawfulBatches (batches_after [] begun [])
lawful_last [] room changes = tt
lawful_last (e ∷ begun) room changes = subst AreLawfulBatches (sym (joined_first-alone e begun))
    (lawful_begun (e ∷ begun) room changes, some_entry e begun, refl, tt)

-- the batches of what is begun and what is to come are lawful
abbrev Lawful : List Entry → List Entry → Type 0
Lawful begun entries =
    length begun < most_batch_items → AreChanges begun → AreLawfulBatches (batches_after [] begun entries)

lawful_step : (begun : List Entry) (entry : Entry) (entries : List Entry) (ends : Bool) →
    ends_behind (length begun) entry.item ≡ ends → DisposesLast (entry ∷ entries) →
    Lawful [] entries → Lawful (begun ++ entry ∷ []) entries → Lawful begun (entry ∷ entries)
lawful_step begun entry [] true is last anew on room changes =
    subst AreLawfulBatches (closes [] begun entry [] is)
    (lawful_closed begun (begun ++ entry ∷ []) entry room changes refl, not_empty begun entry, refl, tt)
lawful_step begun entry (next ∷ entries) true is last anew on room changes =
    let other : is_disposing (begun ++ entry ∷ []) ≡ false =
    ends_in-snoc is_dispose begun entry ∙ last.0 in
    subst AreLawfulBatches (closes [] begun entry (next ∷ entries) is)
    (lawful_before (begun ++ entry ∷ []) (batches_behind 0 (next ∷ entries))
    (lawful_closed begun (begun ++ entry ∷ []) entry room changes refl) (not_empty begun entry) other
    (anew (lit< tt) tt))
lawful_step begun entry entries false is last anew on room changes =
    let change = neither (is_control entry.item) (length begun + 1 == most_batch_items) is in
    subst AreLawfulBatches (goes_on [] begun entry entries is)
    (on (room_joined begun (begun ++ entry ∷ []) entry room is refl) (AreChanges-snoc begun entry changes change.0))

rest_disposes_last : (entry : Entry) (entries : List Entry) → DisposesLast (entry ∷ entries) → DisposesLast entries
rest_disposes_last entry [] last = tt
rest_disposes_last entry (next ∷ entries) last = last.1

lawful_from : (begun entries : List Entry) → DisposesLast entries → Lawful begun entries
lawful_from begun [] last room changes = lawful_last begun room changes
lawful_from begun (entry ∷ entries) last room changes =
    let rest = rest_disposes_last entry entries last in
    lawful_step begun entry entries (ends_behind (length begun) entry.item) refl last (lawful_from [] entries rest)
    (lawful_from (begun ++ entry ∷ []) entries rest) room changes

pub cut_is_lawful : CutIsLawful
cut_is_lawful entries =
    lawful_from [] (take (served_count entries) entries) (served_disposes_last entries) (lit< tt) tt

controls_last : (begun : List Entry) (entry : Entry) → AreChanges begun → ControlsLast (begun ++ entry ∷ [])
controls_last [] entry changes = tt
controls_last (e ∷ []) entry changes = (changes.0, tt)
controls_last (e ∷ next ∷ begun) entry changes = (changes.0, controls_last (next ∷ begun) entry changes.1)

no_controls : (begun : List Entry) → AreChanges begun → ControlsLast begun
no_controls [] changes = tt
no_controls (e ∷ []) changes = tt
no_controls (e ∷ next ∷ begun) changes = (changes.0, no_controls (next ∷ begun) changes.1)

ended_before : (batch : List Entry) (batches : List (List Entry)) → ControlsLast batch →
    (ends_in is_control batch || length batch == most_batch_items) ≡ true →
    AreEnded batches → AreEnded (batch ∷ batches)
ended_before batch [] controls ended rest = controls
ended_before batch (next ∷ batches) controls ended rest = (controls, ended, rest)

ended_last : (begun : List Entry) → AreChanges begun → AreEnded (batches_after [] begun [])
ended_last [] changes = tt
ended_last (e ∷ begun) changes = subst AreEnded (sym (joined_first-alone e begun)) (no_controls (e ∷ begun) changes)

ended_step : (begun : List Entry) (entry : Entry) (entries : List Entry) (ends : Bool) →
    ends_behind (length begun) entry.item ≡ ends → AreChanges begun →
    AreEnded (batches_after [] [] entries) →
    (AreChanges (begun ++ entry ∷ []) → AreEnded (batches_after [] (begun ++ entry ∷ []) entries)) →
    AreEnded (batches_after [] begun (entry ∷ entries))
ended_step begun entry entries true is changes anew on =
    let last : (ends_in is_control (begun ++ entry ∷ []) || length (begun ++ entry ∷ []) == most_batch_items) ≡
    true =
    ap (λ (b : Bool). b || length (begun ++ entry ∷ []) == most_batch_items) (ends_in-snoc is_control begun entry)
    ∙ ap (λ (n : ℕ). is_control entry.item || n == most_batch_items) (length-append begun (entry ∷ []))
    ∙ is in
    subst AreEnded (closes [] begun entry entries is)
    (ended_before (begun ++ entry ∷ []) (batches_behind 0 entries) (controls_last begun entry changes) last anew)
ended_step begun entry entries false is changes anew on =
    let change = neither (is_control entry.item) (length begun + 1 == most_batch_items) is in
    subst AreEnded (goes_on [] begun entry entries is) (on (AreChanges-snoc begun entry changes change.0))

ended_from : (begun entries : List Entry) → AreChanges begun → AreEnded (batches_after [] begun entries)
ended_from begun [] changes = ended_last begun changes
ended_from begun (entry ∷ entries) changes =
    ended_step begun entry entries (ends_behind (length begun) entry.item) refl changes (ended_from [] entries tt)
    (ended_from (begun ++ entry ∷ []) entries)

pub cut_ends_batches : CutEndsBatches
cut_ends_batches entries = ended_from [] (take (served_count entries) entries) tt

-- entries behind another end as they do without it
ends_in_behind : (test : Item → Bool) (entry : Entry) (entries : List Entry) → ends_in test entries ≡ true →
    ends_in test (entry ∷ entries) ≡ true
ends_in_behind test entry [] ended = cc
ends_in_behind test entry (next ∷ entries) ended =
    let long : length (entry ∷ next ∷ entries) - 1 ≡ suc (length entries) = omega arith in
    let short : length (next ∷ entries) - 1 ≡ length entries = omega arith in
    let last = λ (o : Option Entry). option_map_or (λ (e : Entry). test e.item) o false in
    ap (λ (n : ℕ). last (slice_get (entry ∷ next ∷ entries) n)) long
    ∙ sym (ap (λ (n : ℕ). last (slice_get (next ∷ entries) n)) short)
    ∙ ended

-- where entries are left behind those that are served, these end in a Dispose
abbrev LeavesBehind : ℕ → List Entry → Type 0
LeavesBehind served entries = drop served entries ≢ [] → ends_in is_dispose (take served entries) ≡ true

leaves_by : (entry : Entry) (entries : List Entry) (ends : Bool) → is_dispose entry.item ≡ ends →
    LeavesBehind (served_count entries) entries →
    LeavesBehind (cond ends 1 (suc (served_count entries))) (entry ∷ entries)
leaves_by entry entries true is behind some = is
leaves_by entry entries false is behind some =
    ends_in_behind is_dispose entry (take (served_count entries) entries) (behind some)

leaves_behind : (entries : List Entry) → LeavesBehind (served_count entries) entries
leaves_behind [] some = absurd (some refl)
leaves_behind (entry ∷ entries) some =
    leaves_by entry entries (is_dispose entry.item) refl (leaves_behind entries) some

pub cut_leaves_behind_dispose : CutLeavesBehindDispose
cut_leaves_behind_dispose entries some =
    let served = take (served_count entries) entries in
    ap (ends_in is_dispose) (joined-batches_behind 0 served [] ∙ append-nil served) ∙ leaves_behind entries some
