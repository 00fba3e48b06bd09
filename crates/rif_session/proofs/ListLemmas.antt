-- Lists of entries and of batches.
use Rattle.std.proofs.Common.{◌≡◌, ◌≢◌, ◌∙◌, suc, ◌+◌, ◌-◌, ◌<◌, Bool, true, false, List, [], ◌∷◌, ◌++◌, refl}
use Rattle.std.proofs.Common.{ap, sym, length, slice_get, append_assoc, append-nil, arith}
use Rattle.std.proofs.lemmas.List.{length-append}
use Rattle.std.specs.Option.{option_map_or}
use Rattle.session_states.specs.declared.item.Item.{Item}
use Rattle.session_states.specs.declared.item.Entry.{Entry}
use Rattle.session_states.specs.Batches.{ends_in, joined}
use Rattle.rif_session.specs.Budgets.{budgets_of, short_batches}

pub joined_append : (batches : List (List Entry)) (first second : List Entry)
    → joined batches (first ++ second) ≡ joined batches first ++ second
joined_append [] first second = refl
joined_append (batch ∷ batches) first second =
    ap (λ (es : List Entry). batch ++ es) (joined_append batches first second)
    ∙ sym (append_assoc batch (joined batches first) second)

pub joined_more : (batches : List (List Entry)) (batch entries : List Entry)
    → joined (batches ++ batch ∷ []) entries ≡ joined batches (batch ++ entries)
joined_more [] batch entries = refl
joined_more (first ∷ batches) batch entries =
    ap (λ (es : List Entry). first ++ es) (joined_more batches batch entries)

ends_cons : (test : Item → Bool) (x y : Entry) (zs : List Entry) → ends_in test (x ∷ y ∷ zs) ≡ ends_in test (y ∷ zs)
ends_cons test x y zs =
    let place : length (x ∷ y ∷ zs) - 1 ≡ suc (length (y ∷ zs) - 1) = omega arith in
    ap (λ n. option_map_or (λ (e : Entry). test e.item) (slice_get (x ∷ y ∷ zs) n) false) place

pub ends_append : (test : Item → Bool) (xs : List Entry) (z : Entry) (zs : List Entry)
    → ends_in test (xs ++ z ∷ zs) ≡ ends_in test (z ∷ zs)
ends_append test [] z zs = refl
ends_append test (x ∷ []) z zs = ends_cons test x z zs
ends_append test (x ∷ y ∷ xs) z zs = ends_cons test x y (xs ++ z ∷ zs) ∙ ends_append test (y ∷ xs) z zs

pub ends_behind : (test : Item → Bool) (xs zs : List Entry) → ends_in test zs ≡ true → ends_in test (xs ++ zs) ≡ true
ends_behind test xs [] ends = absurd (cc ends)
ends_behind test xs (z ∷ zs) ends = ends_append test xs z zs ∙ ends

-- the end is in the second part, where it isn't in the first
pub ends_later : (test : Item → Bool) (xs zs : List Entry) → ends_in test (xs ++ zs) ≡ true → ends_in test xs ≡ false
    → ends_in test zs ≡ true
ends_later test xs [] ends none = cc (ap (ends_in test) (sym (append-nil xs)) ∙ ends, none)
ends_later test xs (z ∷ zs) ends none = sym (ends_append test xs z zs) ∙ ends

pub budgets-append : (xs ys : List Entry) → budgets_of (xs ++ ys) ≡ budgets_of xs + budgets_of ys
budgets-append [] ys = omega arith
budgets-append (x ∷ xs) ys = let rest = budgets-append xs ys in omega (arith, rest)

pub short-append : (xs ys : List (List Entry)) → short_batches (xs ++ ys) ≡ short_batches xs + short_batches ys
short-append [] ys = omega arith
short-append (x ∷ xs) ys = let rest = short-append xs ys in omega (arith, rest)

pub none_before : (xs ys : List Entry) → xs ++ ys ≡ [] → (xs ≡ []) × (ys ≡ [])
none_before [] ys none = (refl, none)
none_before (x ∷ xs) ys none = absurd (cc none)

pub some_new : (xs new ys : List Entry) → ys ≡ xs ++ new → ys ≢ xs → length xs < length ys
some_new xs [] ys is other = absurd (other (is ∙ append-nil xs))
some_new xs (n ∷ new) ys is other = omega (arith, ap length is, length-append xs (n ∷ new))
