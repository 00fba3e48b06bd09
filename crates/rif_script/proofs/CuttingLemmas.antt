-- How the batch in the making and what is to come make up the batches.
use Rattle.std.proofs.Common.{◌≡◌, ℕ, ◌<◌, ◌+◌, ◌==◌, ◌||◌, Bool, true, false, List, [], ◌∷◌, ◌++◌, length, refl, sym}
use Rattle.std.proofs.Common.{ap, ◌∙◌, append_assoc, cond, subst, arith, length-append}
use Rattle.std.proofs.lemmas.Bool.{eqb-false}
use Rattle.std.proofs.lemmas.List.{append-nil, nil_from_length}
use Rattle.rif_refusals.specs.Limits.{most_batch_items}
use Rattle.session_states.specs.declared.item.Item.{Item}
use Rattle.session_states.specs.declared.item.Item.TheVariants.{Change, Fire, Until, Halt, Dispose}
use Rattle.session_states.specs.declared.item.Entry.{Entry}
use Rattle.session_states.specs.Batches.{IsLawful, EndsLast, ends_batch}
use Rattle.rif_script.specs.Cutting.{is_control, ends_behind, with_first, batches_behind}

-- entries before those of the first batch
abbrev pub joined_first : List Entry → List (List Entry) → List (List Entry)
joined_first [] batches = batches
joined_first (entry ∷ entries) batches = with_first entry (joined_first entries batches)

pub joined_first-snoc : (begun : List Entry) (entry : Entry) (batches : List (List Entry)) →
    joined_first (begun ++ entry ∷ []) batches ≡ joined_first begun (with_first entry batches)
joined_first-snoc [] entry batches = refl
joined_first-snoc (e ∷ begun) entry batches = ap (with_first e) (joined_first-snoc begun entry batches)

pub joined_first-batch : (begun batch : List Entry) (batches : List (List Entry)) →
    joined_first begun (batch ∷ batches) ≡ (begun ++ batch) ∷ batches
joined_first-batch [] batch batches = refl
joined_first-batch (e ∷ begun) batch batches = ap (with_first e) (joined_first-batch begun batch batches)

pub joined_first-alone : (entry : Entry) (begun : List Entry) → joined_first (entry ∷ begun) [] ≡ (entry ∷ begun) ∷ []
joined_first-alone entry [] = refl
joined_first-alone entry (e ∷ begun) = ap (with_first entry) (joined_first-alone e begun)

-- the batches of entries whose first one ends a batch, or doesn't
abbrev pub batches_where : Bool → ℕ → Entry → List Entry → List (List Entry)
batches_where ends before entry entries =
    cond ends ((entry ∷ []) ∷ batches_behind 0 entries) (with_first entry (batches_behind (before + 1) entries))

-- the batches of the entries that are still to come, behind those that are done and the begun one
abbrev pub batches_after : List (List Entry) → List Entry → List Entry → List (List Entry)
batches_after done begun entries = done ++ joined_first begun (batches_behind (length begun) entries)

pub goes_on : (done : List (List Entry)) (begun : List Entry) (entry : Entry) (entries : List Entry) →
    ends_behind (length begun) entry.item ≡ false →
    batches_after done (begun ++ entry ∷ []) entries ≡ batches_after done begun (entry ∷ entries)
goes_on done begun entry entries h =
    let more : length (begun ++ entry ∷ []) ≡ length begun + 1 = length-append begun (entry ∷ []) in
    ap (λ (n : ℕ). done ++ joined_first (begun ++ entry ∷ []) (batches_behind n entries)) more
    ∙ ap (λ (bs : List (List Entry)). done ++ bs)
    (joined_first-snoc begun entry (batches_behind (length begun + 1) entries))
    ∙ ap (λ (b : Bool). done ++ joined_first begun (batches_where b (length begun) entry entries)) (sym h)

pub closes : (done : List (List Entry)) (begun : List Entry) (entry : Entry) (entries : List Entry) →
    ends_behind (length begun) entry.item ≡ true →
    batches_after (done ++ (begun ++ entry ∷ []) ∷ []) [] entries ≡ batches_after done begun (entry ∷ entries)
closes done begun entry entries h =
    append_assoc done ((begun ++ entry ∷ []) ∷ []) (batches_behind 0 entries)
    ∙ ap (λ (bs : List (List Entry)). done ++ bs)
    (sym (joined_first-batch begun (entry ∷ []) (batches_behind 0 entries)))
    ∙ ap (λ (b : Bool). done ++ joined_first begun (batches_where b (length begun) entry entries)) (sym h)

-- an entry that ends no batch joins the begun batch
pub entry_joins : (all done : List (List Entry)) (begun more : List Entry) (entry : Entry)
    (items entries : List Entry) →
    ends_behind (length begun) entry.item ≡ false → more ≡ begun ++ entry ∷ [] → items ≡ entry ∷ entries →
    batches_after done begun items ≡ all → batches_after done more entries ≡ all
entry_joins all done begun more entry items entries ends pushed first so_far =
    ap (λ (es : List Entry). batches_after done es entries) pushed ∙ goes_on done begun entry entries ends
    ∙ ap (batches_after done begun) (sym first) ∙ so_far

-- an entry that ends a batch closes the begun batch
pub entry_closes : (all done more : List (List Entry)) (begun batch next : List Entry) (entry : Entry)
    (items entries : List Entry) →
    ends_behind (length begun) entry.item ≡ true → batch ≡ begun ++ entry ∷ [] → more ≡ done ++ batch ∷ [] →
    next ≡ [] → items ≡ entry ∷ entries →
    batches_after done begun items ≡ all → batches_after more next entries ≡ all
entry_closes all done more begun batch next entry items entries ends pushed closed emptied first so_far =
    ap (λ (bs : List (List Entry)). batches_after bs next entries) closed
    ∙ ap (λ (b : List Entry). batches_after (done ++ b ∷ []) next entries) pushed
    ∙ ap (λ (n : List Entry). batches_after (done ++ (begun ++ entry ∷ []) ∷ []) n entries) emptied
    ∙ closes done begun entry entries ends
    ∙ ap (batches_after done begun) (sym first)
    ∙ so_far

-- where nothing is begun at the end, the batches are done
pub none_begun : (all done : List (List Entry)) (begun items : List Entry) → begun ≡ [] → length items ≡ 0 →
    batches_after done begun items ≡ all → done ≡ all
none_begun all done begun items empty ended so_far =
    sym (append-nil done)
    ∙ ap (λ (b : List Entry). batches_after done b []) (sym empty)
    ∙ ap (batches_after done begun) (sym (nil_from_length items ended))
    ∙ so_far

-- what is begun at the end is the last batch
pub last_begun : (all done more : List (List Entry)) (begun batch items : List Entry) → (begun ≡ [] → ⊥) →
    batch ≡ begun → more ≡ done ++ batch ∷ [] → length items ≡ 0 →
    batches_after done begun items ≡ all → more ≡ all
last_begun all done more [] batch items some same closed ended so_far = absurd (some refl)
last_begun all done more (entry ∷ begun) batch items some same closed ended so_far =
    closed
    ∙ ap (λ (b : List Entry). done ++ b ∷ []) same
    ∙ ap (λ (bs : List (List Entry)). done ++ bs) (sym (joined_first-alone entry begun))
    ∙ ap (batches_after done (entry ∷ begun)) (sym (nil_from_length items ended))
    ∙ so_far

-- none of the entries is a control item
abbrev pub AreChanges : List Entry → Type 0
AreChanges [] = Unit {0}
AreChanges (entry ∷ entries) = (is_control entry.item ≡ false) × AreChanges entries

pub AreChanges-snoc : (begun : List Entry) (entry : Entry) → AreChanges begun → is_control entry.item ≡ false →
    AreChanges (begun ++ entry ∷ [])
AreChanges-snoc [] entry changes h = (h, tt)
AreChanges-snoc (e ∷ begun) entry changes h = (changes.0, AreChanges-snoc begun entry changes.1 h)

ends_no_batch : (item : Item) → is_control item ≡ false → ends_batch item ≡ false
ends_no_batch (Change c) h = refl
ends_no_batch (Fire budget) h = refl
ends_no_batch (Until budget) h = refl
ends_no_batch Halt h = cc
ends_no_batch Dispose h = cc

ends_last : (begun : List Entry) (entry : Entry) → AreChanges begun → EndsLast (begun ++ entry ∷ [])
ends_last [] entry changes = tt
ends_last (e ∷ []) entry changes = (ends_no_batch e.item changes.0, tt)
ends_last (e ∷ next ∷ begun) entry changes =
    (ends_no_batch e.item changes.0, ends_last (next ∷ begun) entry changes.1)

changes_last : (begun : List Entry) → AreChanges begun → EndsLast begun
changes_last [] changes = tt
changes_last (e ∷ []) changes = tt
changes_last (e ∷ next ∷ begun) changes = (ends_no_batch e.item changes.0, changes_last (next ∷ begun) changes.1)

-- changes, and any entry behind them, are a lawful batch
pub lawful_closed : (begun batch : List Entry) (entry : Entry) → length begun < most_batch_items → AreChanges begun →
    batch ≡ begun ++ entry ∷ [] → IsLawful batch
lawful_closed begun batch entry room changes pushed =
    subst IsLawful (sym pushed)
    (record { few = omega (arith, length-append begun (entry ∷ [])); ends_last = ends_last begun entry changes })

pub lawful_begun : (begun : List Entry) → length begun < most_batch_items → AreChanges begun → IsLawful begun
lawful_begun begun room changes = record { few = omega arith; ends_last = changes_last begun changes }

pub neither : (a b : Bool) → (a || b) ≡ false → (a ≡ false) × (b ≡ false)
neither true b h = cc
neither false b h = (refl, h)

-- an entry that ends no batch is a change
pub changes_joined : (begun more : List Entry) (entry : Entry) → AreChanges begun →
    ends_behind (length begun) entry.item ≡ false → more ≡ begun ++ entry ∷ [] → AreChanges more
changes_joined begun more entry changes ends pushed =
    subst AreChanges (sym pushed)
    (AreChanges-snoc begun entry changes
    (neither (is_control entry.item) (length begun + 1 == most_batch_items) ends).0)

-- and it leaves room
pub room_joined : (begun more : List Entry) (entry : Entry) → length begun < most_batch_items →
    ends_behind (length begun) entry.item ≡ false → more ≡ begun ++ entry ∷ [] →
    length more < most_batch_items
room_joined begun more entry room ends pushed =
    let other = eqb-false (length begun + 1) most_batch_items
    (neither (is_control entry.item) (length begun + 1 == most_batch_items) ends).1 in
    let long : length more ≡ length begun + 1 = ap length pushed ∙ length-append begun (entry ∷ []) in
    omega (arith, long, other)

pub not_both : (b : Bool) → b ≡ true → b ≡ false → ⊥
not_both b holds fails = cc
