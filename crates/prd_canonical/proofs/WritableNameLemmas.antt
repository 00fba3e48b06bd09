-- A variable among leaves that can be written has a name that can, at its place in the names of the leaves.
use Rattle.std.proofs.Common.{◌≡◌, ◌||◌, ℕ, suc, Bool, true, false, List, [], ◌∷◌, ◌++◌, get_or, bytes_eq}
use Rattle.std.proofs.Common.{if◌then◌else◌}
use Rattle.prd_grammar.specs.declared.leaf.Leaf.{Leaf}
use Rattle.prd_grammar.specs.declared.leaf.Leaf.TheVariants.{Var}
use Rattle.prd_grammar.specs.Values.{has_name, place_of, names_with, names_from}
use Rattle.prd_canonical.specs.Writable.{IsNameText, IsWritableVar}
use Rattle.prd_canonical.specs.WritableLeaves.{IsWritableLeaf, AreWritableLeaves, IsPlacedLeaf, ArePlacedLeaves}
use Rattle.prd_canonical.specs.WritableLeaves.{AreNameTexts}
use Rattle.prd_grammar.proofs.CallerLemmas.{KnownLeaf, Known, all_known}

-- the parts of what is written one behind another
pub writable_front : (xs ys : List Leaf) → AreWritableLeaves (xs ++ ys) → AreWritableLeaves xs
writable_front [] ys h = tt
writable_front (x ∷ xs) ys h = (h.0, writable_front xs ys h.1)

pub writable_back : (xs ys : List Leaf) → AreWritableLeaves (xs ++ ys) → AreWritableLeaves ys
writable_back [] ys h = h
writable_back (x ∷ xs) ys h = writable_back xs ys h.1

pub placed_front : (names : List (List ℕ)) (xs ys : List Leaf) → ArePlacedLeaves names (xs ++ ys) →
    ArePlacedLeaves names xs
placed_front names [] ys h = tt
placed_front names (x ∷ xs) ys h = (h.0, placed_front names xs ys h.1)

pub placed_back : (names : List (List ℕ)) (xs ys : List Leaf) → ArePlacedLeaves names (xs ++ ys) →
    ArePlacedLeaves names ys
placed_back names [] ys h = h
placed_back names (x ∷ xs) ys h = placed_back names xs ys h.1

-- the names of leaves
one_more : (names : List (List ℕ)) (v : List ℕ) → AreNameTexts names → IsNameText v → AreNameTexts (names ++ v ∷ [])
one_more [] v all fit = (fit, tt)
one_more (n ∷ ns) v all fit = (all.0, one_more ns v all.1 fit)

more_by : (known : Bool) (names : List (List ℕ)) (v : List ℕ) → AreNameTexts names → IsNameText v →
    AreNameTexts (if known then names else (names ++ v ∷ []))
more_by true names v all fit = all
more_by false names v all fit = one_more names v all fit

names_more : (l : Leaf) (names : List (List ℕ)) → AreNameTexts names → IsWritableLeaf l →
    AreNameTexts (names_with names l)
names_more (Var v) names all fit = more_by (has_name names v) names v all fit
names_more l names all fit = all

names_all : (ls : List Leaf) (names : List (List ℕ)) → AreNameTexts names → AreWritableLeaves ls →
    AreNameTexts (names_from names ls)
names_all [] names all fit = all
names_all (l ∷ ls) names all fit = names_all ls (names_with names l) (names_more l names all fit.0) fit.1

-- the name at a variable's place
var_by : (here later : Bool) (n : List ℕ) (ns : List (List ℕ)) (place : ℕ) → (here || later) ≡ true → IsNameText n →
    (later ≡ true → IsNameText (get_or ns place [])) →
    IsNameText (get_or (n ∷ ns) (if here then 0 else suc place) [])
var_by true later n ns place h first more = first
var_by false later n ns place h first more = more h

writable_var : (names : List (List ℕ)) (v : List ℕ) → AreNameTexts names → has_name names v ≡ true →
    IsWritableVar names v
writable_var [] v all h = cc
writable_var (n ∷ ns) v all h =
    var_by (bytes_eq n v) (has_name ns v) n ns (place_of ns v) h all.0 (λ later. writable_var ns v all.1 later)

placed_leaf : (l : Leaf) (names : List (List ℕ)) → AreNameTexts names → KnownLeaf names l → IsWritableLeaf l →
    IsPlacedLeaf names l
placed_leaf (Var v) names all known fit = writable_var names v all known
placed_leaf l names all known fit = fit

placed_all : (ls : List Leaf) (names : List (List ℕ)) → AreNameTexts names → Known names ls → AreWritableLeaves ls →
    ArePlacedLeaves names ls
placed_all [] names all known fit = tt
placed_all (l ∷ ls) names all known fit =
    (placed_leaf l names all known.0 fit.0, placed_all ls names all known.1 fit.1)

-- leaves by the names that are theirs
pub placed_leaves : (ls : List Leaf) → AreWritableLeaves ls → ArePlacedLeaves (names_from [] ls) ls
placed_leaves ls fit = placed_all ls (names_from [] ls) (names_all ls [] tt fit) (all_known ls []) fit
