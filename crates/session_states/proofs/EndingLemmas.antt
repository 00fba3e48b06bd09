-- Entries of which only the last may end a batch.
use Rattle.std.proofs.Common.{◌≡◌, ◌∙◌, ◌↔◌, ◌||◌, Bool, true, false, not, IsTrue}
use Rattle.std.proofs.Common.{List, [], ◌∷◌, ◌++◌, refl, sym, subst}
use Rattle.std.specs.List.{list_any}
use Rattle.session_states.specs.declared.item.Entry.{Entry}
use Rattle.session_states.specs.Batches.{ends_batch, EndsLast}

-- whether one of the entries ends a batch
abbrev pub any_ends : List Entry → Bool
any_ends entries = list_any (λ entry. ends_batch entry.item) entries

neither_left : (a b : Bool) → (a || b) ≡ false → a ≡ false
neither_left false b none = refl
neither_left true b none = none

neither_right : (a b : Bool) → (a || b) ≡ false → b ≡ false
neither_right false b none = none
neither_right true b none = cc

both_false : (a b : Bool) → a ≡ false → b ≡ false → (a || b) ≡ false
both_false false b left right = right
both_false true b left right = left

pub ends_last : (before : List Entry) (last : Entry) → any_ends before ≡ false → EndsLast (before ++ last ∷ [])
ends_last [] last none = tt
ends_last (entry ∷ []) last none = (neither_left _ _ none, tt)
ends_last (entry ∷ next ∷ before) last none =
    (neither_left _ _ none, ends_last (next ∷ before) last (neither_right (ends_batch entry.item) _ none))

pub none_ends_before : (before : List Entry) (last : Entry) → EndsLast (before ++ last ∷ []) → any_ends before ≡ false
none_ends_before [] last ended = refl
none_ends_before (entry ∷ []) last ended = both_false (ends_batch entry.item) false ended.0 refl
none_ends_before (entry ∷ next ∷ before) last ended =
    both_false (ends_batch entry.item) _ ended.0 (none_ends_before (next ∷ before) last ended.1)

denied : (E : Type 0) (found any : Bool) → found ≡ any → (any ≡ false → E) → (E → any ≡ false)
    → IsTrue (not found) ↔ E
denied E false any same there back = (λ none. there (sym same), λ ended. refl)
denied E true any same there back = (λ none. there (sym same ∙ sym none), λ ended. sym (same ∙ back ended))

-- the entries before the last one tell whether only the last ends a batch
pub ended_where : (before entries : List Entry) (last : Entry) (found : Bool) →
    entries ≡ before ++ last ∷ [] → found ≡ any_ends before → IsTrue (not found) ↔ EndsLast entries
ended_where before entries last found split is =
    subst (λ (es : List Entry). IsTrue (not found) ↔ EndsLast es) (sym split)
    (denied (EndsLast (before ++ last ∷ [])) found (any_ends before) is (ends_last before last)
    (none_ends_before before last))
