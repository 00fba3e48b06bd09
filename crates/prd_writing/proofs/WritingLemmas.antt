-- Writing the members of a list one behind another.
use Rattle.std.proofs.Common.{◌≡◌, ℕ, ◌+◌, ◌<◌, ◌≤◌, Bool, true, false, List, [], ◌∷◌, ◌++◌, length, map, drop}
use Rattle.std.proofs.Common.{get_or, refl, ap, ◌∙◌, sym, append_assoc}
use Rattle.std.proofs.lemmas.List.{at_drop_more, drop_all}
use Rattle.rif_lex.specs.Spelling.{Gap, Spelled, space, gap_text, spelled_text}
use Rattle.prd_writing.specs.Canonical.{Writing, gap_before, listed, spaced}
use Rattle.prd_writing.specs.Writing.{space_before, left_text}

left_all : (ws : List Writing) (rest : List Spelled) → left_text true ws rest ≡ spelled_text (listed ws rest)
left_all [] rest = refl
left_all (w ∷ ws) rest = refl

left_more : (ws : List Writing) (rest : List Spelled) →
    gap_text (gap_before ws) ++ spelled_text (listed ws rest) ≡ left_text false ws rest
left_more [] rest = refl
left_more (w ∷ ws) rest = refl

-- a text to which one writing was appended, whatever follows it
abbrev pub IsAppended : List ℕ → List ℕ → Writing → Type 0
IsAppended old new w =
    (gap : Gap) (rest : List Spelled) → new ++ (gap_text gap ++ spelled_text rest) ≡ old ++ spelled_text (w gap rest)

left_step : (is_first : Bool) (w : Writing) (ws : List Writing) (out at new : List ℕ) →
    at ≡ out ++ space_before is_first → IsAppended at new w →
    (rest : List Spelled) → new ++ left_text false ws rest ≡ out ++ left_text is_first (w ∷ ws) rest
left_step is_first w ws out at new spaced appended rest =
    let more = ap (λ (x : List ℕ). new ++ x) (left_more ws rest) in
    let one = appended (gap_before ws) (listed ws rest) in
    let whole = append_assoc out (space_before is_first) (spelled_text (listed (w ∷ ws) rest)) in
    sym more ∙ (one ∙ (ap (λ (x : List ℕ). x ++ spelled_text (listed (w ∷ ws) rest)) spaced ∙ whole))

-- one step of a loop over a list
pub item_written : {A : Type 0} (f : A → Writing) (all : List A) (i : ℕ) (x : A) (is_first : Bool)
    (out at new : List ℕ) → i < length all → x ≡ get_or all i x → at ≡ out ++ space_before is_first →
    IsAppended at new (f x) → (rest : List Spelled) →
    new ++ left_text false (map f (drop (i + 1) all)) rest ≡ out ++ left_text is_first (map f (drop i all)) rest
item_written f all i x is_first out at new within is spaced appended rest =
    let more = map f (drop (i + 1) all) in
    let one = left_step is_first (f x) more out at new spaced appended rest in
    let here = at_drop_more (λ xs. out ++ left_text is_first (map f xs) rest) all i x within in
    one ∙ (ap (λ y. out ++ left_text is_first (f y ∷ more) rest) is ∙ sym here)

-- behind a loop over a list
pub items_written : {A : Type 0} (f : A → Writing) (all : List A) (i : ℕ) (is_first : Bool) (start out : List ℕ) →
    length all ≤ i → (rest : List Spelled) →
    out ++ left_text is_first (map f (drop i all)) rest ≡ start ++ left_text true (map f all) rest →
    out ++ spelled_text rest ≡ start ++ spelled_text (listed (map f all) rest)
items_written f all i is_first start out past rest all_so_far =
    let none = ap (λ xs. out ++ left_text is_first (map f xs) rest) (drop_all i all past) in
    sym none ∙ (all_so_far ∙ ap (λ (x : List ℕ). start ++ x) (left_all (map f all) rest))

-- the same where each member has a space behind it
pub spaced_written : {A : Type 0} (f : A → Writing) (all : List A) (i : ℕ) (x d : A) (out at new : List ℕ) →
    i < length all → x ≡ get_or all i d → IsAppended out at (f x) → ((r : List ℕ) → new ++ r ≡ at ++ (32 ∷ r)) →
    (rest : List Spelled) →
    new ++ spelled_text (spaced (map f (drop (i + 1) all)) rest)
    ≡ out ++ spelled_text (spaced (map f (drop i all)) rest)
spaced_written f all i x d out at new within is appended behind rest =
    let more = spaced (map f (drop (i + 1) all)) rest in
    let here = at_drop_more (λ xs. out ++ spelled_text (spaced (map f xs) rest)) all i d within in
    behind (spelled_text more)
    ∙ (appended space more ∙ (ap (λ y. out ++ spelled_text (f y space more)) is ∙ sym here))

pub all_spaced_written : {A : Type 0} (f : A → Writing) (all : List A) (i : ℕ) (start out : List ℕ) →
    length all ≤ i → (rest : List Spelled) →
    out ++ spelled_text (spaced (map f (drop i all)) rest) ≡ start ++ spelled_text (spaced (map f all) rest) →
    out ++ spelled_text rest ≡ start ++ spelled_text (spaced (map f all) rest)
all_spaced_written f all i start out past rest all_so_far =
    let none = ap (λ xs. out ++ spelled_text (spaced (map f xs) rest)) (drop_all i all past) in
    sym none ∙ all_so_far
