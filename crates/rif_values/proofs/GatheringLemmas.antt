-- One more step of a loop that gathers what it finds, or keeps what passes a test.
use Rattle.std.proofs.Common.{◌≡◌, ◌∙◌, ℕ, ◌+◌, ◌<◌, Bool, cond, List, [], ◌∷◌, ◌++◌, length, take, filter}
use Rattle.std.proofs.Common.{filter_map}
use Rattle.std.proofs.Common.{get_or, Some, None, refl, ap, sym, append_assoc}
use Rattle.std.specs.Option.{option_to_list}
use Rattle.std.specs.declared.option.Option.{Option}
use Rattle.std.proofs.lemmas.List.{take_more}
use Rattle.std.proofs.lemmas.List.Elements.{filter-append, filter_map-append}

found_alone : {X Y : Type 0} (h : X → Option Y) (x : X) (found : Option Y) → h x ≡ found
    → filter_map h (x ∷ []) ≡ option_to_list found
found_alone h x None is = rw is refl
found_alone h x (Some y) is = rw is refl

pub filter_map_step : {X Y : Type 0} (h : X → Option Y) (xs : List X) (i : ℕ) (x : X) → i < length xs
    → x ≡ get_or xs i x
    → filter_map h (take (i + 1) xs) ≡ filter_map h (take i xs) ++ option_to_list (h x)
filter_map_step h xs i x within is =
    ap (filter_map h) (take_more xs i x within) ∙ filter_map-append h (take i xs) (get_or xs i x ∷ [])
    ∙ ap (λ y. filter_map h (take i xs) ++ filter_map h (y ∷ [])) (sym is)
    ∙ ap (λ ys. filter_map h (take i xs) ++ ys) (found_alone h x (h x) refl)

pub filter_step : {X : Type 0} (p : X → Bool) (xs : List X) (i : ℕ) (x : X) → i < length xs → x ≡ get_or xs i x
    → filter p (take (i + 1) xs) ≡ filter p (take i xs) ++ cond (p x) (x ∷ []) []
filter_step p xs i x within is =
    ap (filter p) (take_more xs i x within) ∙ filter-append p (take i xs) (get_or xs i x ∷ [])
    ∙ ap (λ y. filter p (take i xs) ++ filter p (y ∷ [])) (sym is)

pub kept_step : {X : Type 0} (p : X → Bool) (xs : List X) (i : ℕ) (x : X) (kept : Bool) (old new : List X)
    → i < length xs → x ≡ get_or xs i x
    → kept ≡ p x → old ≡ filter p (take i xs) → new ≡ old ++ cond kept (x ∷ []) [] → new ≡ filter p (take (i + 1) xs)
kept_step p xs i x kept old new within is agrees before after =
    after ∙ ap (λ ys. ys ++ cond kept (x ∷ []) []) before
    ∙ ap (λ b. filter p (take i xs) ++ cond b (x ∷ []) []) agrees
    ∙ sym (filter_step p xs i x within is)

pub found_step : {X Y : Type 0} (h : X → Option Y) (xs : List X) (i : ℕ) (x : X) (found : Option Y)
    (start old new : List Y) → i < length xs
    → x ≡ get_or xs i x → found ≡ h x → old ≡ start ++ filter_map h (take i xs) → new ≡ old ++ option_to_list found
    → new ≡ start ++ filter_map h (take (i + 1) xs)
found_step h xs i x found start old new within is agrees before after =
    after ∙ ap (λ ys. ys ++ option_to_list found) before
    ∙ append_assoc start (filter_map h (take i xs)) (option_to_list found)
    ∙ ap (λ o. start ++ (filter_map h (take i xs) ++ option_to_list o)) agrees
    ∙ ap (λ ys. start ++ ys) (sym (filter_map_step h xs i x within is))
