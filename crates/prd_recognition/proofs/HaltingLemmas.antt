-- The loop over leaves, one leaf at a time: what is followed, counted, clear and named behind one more.
use Rattle.std.proofs.Common.{◌≡◌, ◌∙◌, ◌≤◌, ◌<◌, ◌+◌, ◌⊎◌, inl, inr, ⊎_elim, refl, sym, ap, subst, ℕ, List, [], ◌∷◌}
use Rattle.std.proofs.Common.{◌++◌, append_assoc, append-nil, length, take, get_or, Some, None, arith}
use Rattle.std.proofs.lemmas.List.{take_more, take_all, get_or_default}
use Rattle.std.specs.declared.option.Option.{Option}
use Rattle.prd_grammar.specs.declared.cause.Cause.{Cause}
use Rattle.prd_grammar.specs.declared.cause.Cause.TheVariants.{Expected}
use Rattle.prd_grammar.specs.declared.leaf.Leaf.{Leaf}
use Rattle.prd_recognition.specs.declared.want.Want.{Want}
use Rattle.prd_recognition.specs.Following.{after, at_first, step}
use Rattle.prd_grammar.specs.Progress.{Progress, at_start, names_ended, names_read, progress_from, progress_of}
use Rattle.prd_grammar.specs.Progress.{progress_with}
use Rattle.prd_recognition.specs.Recognizing.{Halts, Passes}
use Rattle.prd_grammar.specs.Refusals.{IsClear, cause_at, unexpected}

pub after_append : (state : Option (List Want)) (xs ys : List Leaf) →
    after state (xs ++ ys) ≡ after (after state xs) ys
after_append state [] ys = refl
after_append state (x ∷ xs) ys = after_append (step state x) xs ys

pub after_none : (ls : List Leaf) → after None ls ≡ None
after_none [] = refl
after_none (l ∷ ls) = after_none ls

progress_append : (p : Progress) (xs ys : List Leaf) →
    progress_from p (xs ++ ys) ≡ progress_from (progress_from p xs) ys
progress_append p [] ys = refl
progress_append p (x ∷ xs) ys = progress_append (progress_with p x) xs ys

names_append : (p : Progress) (xs ys : List Leaf) →
    names_read p (xs ++ ys) ≡ names_read p xs ++ names_read (progress_from p xs) ys
names_append p [] ys = refl
names_append p (x ∷ xs) ys =
    ap (λ (ns : List (List (List ℕ))). names_ended p x ++ ns) (names_append (progress_with p x) xs ys)
    ∙ sym (append_assoc (names_ended p x) (names_read (progress_with p x) xs)
    (names_read (progress_from p (x ∷ xs)) ys))

-- this leaf stands at the place
abbrev pub StandsAt : List Leaf → ℕ → Leaf → Type 0
StandsAt ls i l = (d : Leaf) → get_or ls i d ≡ l

pub stands_at : (ls : List Leaf) (i : ℕ) (d l : Leaf) → i < length ls → l ≡ get_or ls i d → StandsAt ls i l
stands_at ls i d l inside is e = get_or_default ls i e d inside ∙ sym is

take_with : (ls : List Leaf) (i : ℕ) (l : Leaf) → i < length ls → StandsAt ls i l →
    take (i + 1) ls ≡ take i ls ++ l ∷ []
take_with ls i l inside at = take_more ls i l inside ∙ ap (λ (x : Leaf). take i ls ++ x ∷ []) (at l)

-- what comes of one more leaf
pub followed_more : (ls : List Leaf) (i : ℕ) (l : Leaf) (stack : List Want) (next : Option (List Want)) →
    i < length ls →
    StandsAt ls i l → after at_first (take i ls) ≡ Some stack → step (Some stack) l ≡ next →
    after at_first (take (i + 1) ls) ≡ next
followed_more ls i l stack next inside at before goes =
    ap (after at_first) (take_with ls i l inside at)
    ∙ (after_append at_first (take i ls) (l ∷ []) ∙ (ap (λ (s : Option (List Want)). step s l) before ∙ goes))

pub seen_more : (ls : List Leaf) (i : ℕ) (l : Leaf) (p q : Progress) → i < length ls → StandsAt ls i l →
    p ≡ progress_of (take i ls) →
    q ≡ progress_with p l → q ≡ progress_of (take (i + 1) ls)
seen_more ls i l p q inside at before more =
    more ∙ (ap (λ (x : Progress). progress_with x l) before
    ∙ sym (ap progress_of (take_with ls i l inside at) ∙ progress_append at_start (take i ls) (l ∷ [])))

pub named_more : (ls : List Leaf) (i : ℕ) (l : Leaf) (p : Progress) (names ended all : List (List (List ℕ))) →
    i < length ls →
    StandsAt ls i l → p ≡ progress_of (take i ls) → names ≡ names_read at_start (take i ls) →
    ended ≡ names_ended p l →
    all ≡ names ++ ended → all ≡ names_read at_start (take (i + 1) ls)
named_more ls i l p names ended all inside at seen before last more =
    let whole : names_read at_start (take (i + 1) ls)
    ≡ names_read at_start (take i ls) ++ (names_ended (progress_of (take i ls)) l ++ []) =
    ap (names_read at_start) (take_with ls i l inside at) ∙ names_append at_start (take i ls) (l ∷ []) in
    let here : ended ≡ names_ended (progress_of (take i ls)) l = last ∙ ap (λ (x : Progress). names_ended x l) seen in
    let none : names_ended (progress_of (take i ls)) l ++ [] ≡ names_ended (progress_of (take i ls)) l =
    append-nil _ in
    more ∙ (ap (λ (ns : List (List (List ℕ))). ns ++ ended) before
    ∙ (ap (λ (ns : List (List (List ℕ))). names_read at_start (take i ls) ++ ns) (here ∙ sym none) ∙ sym whole))

pub less_or_equal : (a b : ℕ) → a ≤ b → (a < b) ⊎ (a ≡ b)
less_or_equal a b h = grind arith

-- the refusal at a place, by the progress that the code has there
refused_here : (ls : List Leaf) (i : ℕ) (l : Leaf) (p : Progress) (cause : Option Cause) → StandsAt ls i l →
    p ≡ progress_of (take i ls) →
    cause_at p l ≡ cause → (d : Leaf) → cause_at (progress_of (take i ls)) (get_or ls i d) ≡ cause
refused_here ls i l p cause at seen is d =
    ap (cause_at (progress_of (take i ls))) (at d) ∙ (ap (λ (x : Progress). cause_at x l) (sym seen) ∙ is)

pub clear_more : (ls : List Leaf) (i : ℕ) (l : Leaf) (p : Progress) → StandsAt ls i l → IsClear ls i →
    p ≡ progress_of (take i ls) → cause_at p l ≡ None → IsClear ls (i + 1)
clear_more ls i l p at before seen none j e low =
    ⊎_elim (λ (less : j < i). before j e less)
    (λ (same : j ≡ i). subst (λ (k : ℕ). cause_at (progress_of (take k ls)) (get_or ls k e) ≡ None) (sym same)
    (refused_here ls i l p None at seen none e))
    (less_or_equal j i (omega arith))

-- the leaf can't come
pub halts_unexpected : (ls : List Leaf) (i : ℕ) (l : Leaf) (stack : List Want) → i < length ls → StandsAt ls i l →
    after at_first (take i ls) ≡ Some stack → IsClear ls i → step (Some stack) l ≡ None → Halts ls i (unexpected l)
halts_unexpected ls i l stack inside at before clear none = record {
  within = omega arith;
  front = (stack, before, λ e. absurd (omega arith));
  clear = clear;
  here = λ d low. inl (followed_more ls i l stack None inside at before none, ap unexpected (sym (at d)));
  end = λ e. absurd (omega arith);
}

-- it can, and has a refusal of its own
pub halts_refused : (ls : List Leaf) (i : ℕ) (l : Leaf) (stack next : List Want) (p : Progress) (cause : Cause) →
    i < length ls →
    StandsAt ls i l → after at_first (take i ls) ≡ Some stack → IsClear ls i → step (Some stack) l ≡ Some next →
    p ≡ progress_of (take i ls) → cause_at p l ≡ Some cause → Halts ls i cause
halts_refused ls i l stack next p cause inside at before clear goes seen is = record {
  within = omega arith;
  front = (stack, before, λ e. absurd (omega arith));
  clear = clear;
  here = λ d low. inr (
    (next, followed_more ls i l stack (Some next) inside at before goes),
    refused_here ls i l p (Some cause) at seen is d,
  );
  end = λ e. absurd (omega arith);
}

-- the leaves end too early
pub halts_at_end : (ls : List Leaf) (n : ℕ) (stack : List Want) → n ≡ length ls →
    after at_first (take n ls) ≡ Some stack →
    IsClear ls n → (stack ≡ [] → ⊥) → Halts ls n Expected
halts_at_end ls n stack all before clear more = record {
  within = omega arith;
  front = (stack, before, λ e. more);
  clear = clear;
  here = λ e low. absurd (omega arith);
  end = λ e. refl;
}

pub passes : (ls : List Leaf) (n : ℕ) (stack : List Want) (names : List (List (List ℕ))) → n ≡ length ls →
    after at_first (take n ls) ≡ Some stack → IsClear ls n → stack ≡ [] → names ≡ names_read at_start (take n ls) →
    Passes ls names
passes ls n stack names all before clear none read =
    let whole : take n ls ≡ ls = take_all n ls (omega arith) in
    record {
      whole = sym (ap (after at_first) whole) ∙ (before ∙ ap (λ (s : List Want). Some s) none);
      clear = subst (IsClear ls) all clear;
      read = read ∙ ap (names_read at_start) whole;
    }
