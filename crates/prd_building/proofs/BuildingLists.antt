-- Lists of items in code: where one ends, and how the loop goes on.
use Rattle.std.proofs.Common.{◌≡◌, ℕ, ◌-◌, ◌≤◌, suc, Bool, true, false, List, [], ◌∷◌, ◌++◌, Some, None, refl, ap}
use Rattle.std.proofs.Common.{◌∙◌, sym, append_assoc, append-nil, arith, drop}
use Rattle.std.specs.declared.option.Option.{Option}
use Rattle.prd_grammar.specs.declared.leaf.Leaf.{Leaf}
use Rattle.prd_building.specs.Building.{Read, with_rest, after, with_front, items_at}

pub after_is : {X Y : Type 0} (r : Read X) (x : X) (rest : List Leaf) (next : X → List Leaf → Read Y) →
    Some (x, rest) ≡ r → next x rest ≡ after r next
after_is r x rest next e = ap (λ q. after q next) e

pub with_more : {X : Type 0} (front : List X) (x : X) (r : Read (List X)) →
    with_front front (with_front (x ∷ []) r) ≡ with_front (front ++ x ∷ []) r
with_more front x None = refl
with_more front x (Some r) = ap (λ all. Some (all, r.1)) (sym (append_assoc front (x ∷ []) r.0))

-- a list that doesn't end goes on with an item
pub items_on : {X : Type 0} (ends : List Leaf → Bool) (item : List Leaf → Read X) (n left : ℕ) (ss : List Leaf) →
    left ≡ suc n → ends ss ≡ false →
    items_at ends item left ss ≡ after (item ss) (λ x rest. with_front (x ∷ []) (items_at ends item n rest))
items_on ends item n left ss is un = rw (is, un) refl

-- and at its end there are none
pub items_off : {X : Type 0} (ends : List Leaf → Bool) (item : List Leaf → Read X) (n left : ℕ) (ss : List Leaf) →
    left ≡ suc n → ends ss ≡ true →
    items_at ends item left ss ≡ Some ([], ss)
items_off ends item n left ss is un = rw (is, un) refl

pub items_step : {X : Type 0} (ends : List Leaf → Bool) (item : List Leaf →
    Read X) (front new : List X) (leaves : List Leaf) (at left next n : ℕ) (x : X) (o : Option (X × ℕ)) (b : Bool)
    (all : Read (List X)) →
    with_front front (items_at ends item left (drop at leaves)) ≡ all → 1 ≤ left → n ≡ left - 1 →
    b ≡ ends (drop at leaves) → b ≡ false → o ≡ Some (x, next) → with_rest leaves o ≡ item (drop at leaves) →
    new ≡ front ++ x ∷ [] → with_front new (items_at ends item n (drop next leaves)) ≡ all
items_step ends item front new leaves at left next n x o b all before some is test un found one more =
    let e : left ≡ suc n = omega arith in
    let given : Some (x, drop next leaves) ≡ item (drop at leaves) = ap (with_rest leaves) (sym found) ∙ one in
    let on = items_on ends item n left (drop at leaves) e (sym test ∙ un) in
    let go = after_is (item (drop at leaves)) x (drop next leaves)
    (λ y rest. with_front (y ∷ []) (items_at ends item n rest)) given in
    ap (λ f. with_front f (items_at ends item n (drop next leaves))) more
    ∙ (sym (with_more front x (items_at ends item n (drop next leaves)))
    ∙ (ap (with_front front) (go ∙ sym on) ∙ before))

pub items_none : {X : Type 0} (ends : List Leaf → Bool) (item : List Leaf →
    Read X) (front : List X) (leaves : List Leaf) (at left : ℕ) (o : Option (X × ℕ)) (b : Bool)
    (all : Read (List X)) →
    with_front front (items_at ends item left (drop at leaves)) ≡ all → 1 ≤ left → b ≡ ends (drop at leaves) →
    b ≡ false → o ≡ None → with_rest leaves o ≡ item (drop at leaves) → None ≡ all
items_none ends item front leaves at left o b all before some test un found one =
    let e : left ≡ suc (left - 1) = omega arith in
    let given : None ≡ item (drop at leaves) = ap (with_rest leaves) (sym found) ∙ one in
    let on = items_on ends item (left - 1) left (drop at leaves) e (sym test ∙ un) in
    let go = ap (λ q. after q (λ y rest. with_front (y ∷ []) (items_at ends item (left - 1) rest))) given in
    ap (with_front front) (go ∙ sym on) ∙ before

pub items_end : {X : Type 0} (ends : List Leaf → Bool) (item : List Leaf →
    Read X) (front : List X) (leaves : List Leaf) (at left : ℕ) (b : Bool) (all : Read (List X)) →
    with_front front (items_at ends item left (drop at leaves)) ≡ all → 1 ≤ left → b ≡ ends (drop at leaves) →
    b ≡ true → Some (front, drop at leaves) ≡ all
items_end ends item front leaves at left b all before some test done =
    let e : left ≡ suc (left - 1) = omega arith in
    let off = items_off ends item (left - 1) left (drop at leaves) e (sym test ∙ done) in
    ap (λ all. Some (all, drop at leaves)) (sym (append-nil front)) ∙ (ap (with_front front) (sym off) ∙ before)
