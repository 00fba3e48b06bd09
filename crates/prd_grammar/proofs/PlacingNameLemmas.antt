-- The variables among leaves are known to the names behind them, each at a place of its own.
use Rattle.std.proofs.Common.{◌≡◌, ◌≤◌, ◌||◌, ℕ, suc, Bool, true, false, List, [], ◌∷◌, ◌++◌, refl, ap, ◌∙◌, arith}
use Rattle.std.proofs.Common.{length, bytes_eq, if◌then◌else◌, rules}
use Rattle.std.proofs.lemmas.Slice.Eq.{bytes_eq-Decides}
use Rattle.std.proofs.lemmas.List.Folds.{list_any-append}
use Rattle.prd_grammar.specs.declared.leaf.Leaf.{Leaf}
use Rattle.prd_grammar.specs.declared.leaf.Leaf.TheVariants.{Var}
use Rattle.prd_grammar.specs.Values.{has_name, place_of, with_name, names_with, names_from}

abbrev pub KnownLeaf : List (List ℕ) → Leaf → Type 0
KnownLeaf names (Var v) = has_name names v ≡ true
KnownLeaf names _ = Unit {0}

-- each variable among leaves is one of the names
abbrev pub Known : List (List ℕ) → List Leaf → Type 0
Known names [] = Unit {0}
Known names (l ∷ ls) = KnownLeaf names l × Known names ls

same_text : (v : List ℕ) → bytes_eq v v ≡ true
same_text v = search (rules, bytes_eq-Decides)

place_next : (b : Bool) (rest : Bool) (place many : ℕ) → (b || rest) ≡ true → (rest ≡ true → suc place ≤ many) →
    suc (if b then 0 else suc place) ≤ suc many
place_next true rest place many h more = omega arith
place_next false rest place many h more = omega (arith, more h)

pub place_below : (names : List (List ℕ)) (v : List ℕ) → has_name names v ≡ true →
    suc (place_of names v) ≤ length names
place_below [] v h = cc
place_below (n ∷ ns) v h =
    place_next (bytes_eq n v) (has_name ns v) (place_of ns v) (length ns) h (λ e. place_below ns v e)

has_apart : (names more : List (List ℕ)) (v : List ℕ) →
    has_name (names ++ more) v ≡ (has_name names v || has_name more v)
has_apart names more v = list_any-append (λ n. bytes_eq n v) names more

-- a name stays, and one that is added is there
stays : (known : Bool) (names : List (List ℕ)) (w v : List ℕ) → has_name names v ≡ true →
    has_name (if known then names else (names ++ w ∷ [])) v ≡ true
stays true names w v h = h
stays false names w v h = has_apart names (w ∷ []) v ∙ ap (λ (b : Bool). b || has_name (w ∷ []) v) h

added : (known : Bool) (names : List (List ℕ)) (v : List ℕ) → has_name names v ≡ known →
    has_name (if known then names else (names ++ v ∷ [])) v ≡ true
added true names v e = e
added false names v e = has_apart names (v ∷ []) v
    ∙ (ap (λ (b : Bool). b || (bytes_eq v v || false)) e ∙ ap (λ (b : Bool). b || false) (same_text v))

stays_with : (l : Leaf) (names : List (List ℕ)) (v : List ℕ) → has_name names v ≡ true →
    has_name (names_with names l) v ≡ true
stays_with (Var w) names v h = stays (has_name names w) names w v h
stays_with l names v h = h

stays_from : (ls : List Leaf) (names : List (List ℕ)) (v : List ℕ) → has_name names v ≡ true →
    has_name (names_from names ls) v ≡ true
stays_from [] names v h = h
stays_from (l ∷ ls) names v h = stays_from ls (names_with names l) v (stays_with l names v h)

known_leaf : (l : Leaf) (ls : List Leaf) (names : List (List ℕ)) → KnownLeaf (names_from (names_with names l) ls) l
known_leaf (Var v) ls names =
    stays_from ls (with_name names v) v (added (has_name names v) names v refl)
known_leaf l ls names = tt

pub all_known : (ls : List Leaf) (names : List (List ℕ)) → Known (names_from names ls) ls
all_known [] names = tt
all_known (l ∷ ls) names = (known_leaf l ls names, all_known ls (names_with names l))

pub known_front : (names : List (List ℕ)) (xs ys : List Leaf) → Known names (xs ++ ys) → Known names xs
known_front names [] ys h = tt
known_front names (x ∷ xs) ys h = (h.0, known_front names xs ys h.1)

pub known_back : (names : List (List ℕ)) (xs ys : List Leaf) → Known names (xs ++ ys) → Known names ys
known_back names [] ys h = h
known_back names (x ∷ xs) ys h = known_back names xs ys h.1
