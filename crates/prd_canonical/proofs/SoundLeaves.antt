-- Leaves at which nothing is amiss, as far as the leaf, the innermost bracket and the head of a group tell: neither
-- how
-- deep brackets stand nor what has been counted.
--     AreSound brackets next in_head ls    nothing is amiss at these leaves; `next` is the bracket that would open
--     StaySound before behind ls ms        where ls are sound, ms are, each with what these make of the brackets
use Rattle.std.proofs.Common.{◌≡◌, ◌||◌, Bool, true, false, List, [], ◌∷◌, ◌++◌, refl, sym, subst, append_assoc}
use Rattle.std.specs.Prelude.{if◌then◌else◌}
use Rattle.prd_grammar.specs.declared.leaf.Keyword.TheVariants.{Group}
use Rattle.prd_grammar.specs.declared.leaf.Leaf.{Leaf}
use Rattle.prd_grammar.specs.declared.leaf.Leaf.TheVariants.{Key, Var, Open, Close, OpenSquare, CloseSquare, Equal}
use Rattle.prd_grammar.specs.declared.leaf.Leaf.TheVariants.{Hash}
use Rattle.prd_grammar.specs.declared.leaf.Leaf.TheVariants.{Arrow}
use Rattle.prd_grammar.specs.declared.bracket.Bracket.{Bracket}
use Rattle.prd_grammar.specs.declared.bracket.Bracket.TheVariants.{Plain}
use Rattle.prd_grammar.specs.Progress.{is_term, with_argument, opened, closed, brackets_with, head_with}
use Rattle.prd_grammar.specs.Refusals.{is_refused_type, is_wide, is_undeclared, is_unknown, is_wrong_arity}
use Rattle.prd_grammar.specs.Refusals.{is_bad_strategy, is_bad_priority}

abbrev pub is_amiss : List Bracket → Bool → Leaf → Bool
is_amiss brackets in_head l =
    is_refused_type l || (is_wide l || (is_undeclared l || (is_unknown l || (is_wrong_arity brackets l
    || (is_bad_strategy in_head l || is_bad_priority in_head l)))))

-- the brackets behind a leaf, where it would open this one
abbrev pub brackets_behind : List Bracket → Bracket → Leaf → List Bracket
brackets_behind brackets next Open = next ∷ brackets
brackets_behind brackets next OpenSquare = Plain ∷ brackets
brackets_behind brackets next Close = closed brackets
brackets_behind brackets next CloseSquare = closed brackets
brackets_behind brackets next l = if is_term l then with_argument brackets else brackets

pub same_brackets : (bs : List Bracket) (last l : Leaf) → brackets_with bs last l ≡ brackets_behind bs (opened last) l
same_brackets bs last Open = refl
same_brackets bs last OpenSquare = refl
same_brackets bs last Close = refl
same_brackets bs last CloseSquare = refl
same_brackets bs last l = refl

abbrev pub AreSound : List Bracket → Bracket → Bool → List Leaf → Type 0
AreSound brackets next in_head [] = Unit {0}
AreSound brackets next in_head (l ∷ ls) =
    (is_amiss brackets in_head l ≡ false)
    × AreSound (brackets_behind brackets next l) (opened l) (head_with in_head l) ls

pub regrouped : (bs : List Bracket) (next : Bracket) (h : Bool) (xs ys zs : List Leaf) →
    AreSound bs next h ((xs ++ ys) ++ zs) → AreSound bs next h (xs ++ (ys ++ zs))
regrouped bs next h xs ys zs = subst (AreSound bs next h) (append_assoc xs ys zs)

pub grouped_back : (bs : List Bracket) (next : Bracket) (h : Bool) (xs ys zs : List Leaf) →
    AreSound bs next h (xs ++ (ys ++ zs)) → AreSound bs next h ((xs ++ ys) ++ zs)
grouped_back bs next h xs ys zs = subst (AreSound bs next h) (sym (append_assoc xs ys zs))

pub record StaySound (before behind : List Bracket → List Bracket) (ls ms : List Leaf) : Type 0 where
  pub goes : (bs : List Bracket) (rest : List Leaf) → AreSound (before bs) Plain false (ls ++ rest) →
      AreSound (behind bs) Plain false rest
      × ((cs : List Bracket) (more : List Leaf) → AreSound (behind cs) Plain false more →
      AreSound (before cs) Plain false (ms ++ more))

-- inside one bracket, and as the brackets are
abbrev pub plain : List Bracket → List Bracket
plain bs = Plain ∷ bs

abbrev pub as_they_are : List Bracket → List Bracket
as_they_are bs = bs

-- one behind the other
pub both : {f g k : List Bracket → List Bracket} {ls ms ns os : List Leaf} → StaySound f g ls ms →
    StaySound g k ns os → StaySound f k (ls ++ ns) (ms ++ os)
both {f} {g} {k} {ls} {ms} {ns} {os} first more = record {
  goes = λ bs rest s.
      let a = first.goes bs (ns ++ rest) (regrouped (f bs) Plain false ls ns rest s) in
      let b = more.goes bs rest a.0 in
      (b.0, λ cs tail t. grouped_back (f cs) Plain false ms os tail (a.1 cs (os ++ tail) (b.1 cs tail t)));
}

-- where more brackets are open
pub inside : {f g : List Bracket → List Bracket} {ls ms : List Leaf} (k : List Bracket → List Bracket) →
    StaySound f g ls ms → StaySound (λ bs. f (k bs)) (λ bs. g (k bs)) ls ms
inside {f} {g} {ls} {ms} k step = record {
  goes = λ bs rest s. let a = step.goes (k bs) rest s in (a.0, λ cs more t. a.1 (k cs) more t);
}

pub opens : StaySound as_they_are plain (Open ∷ []) (Open ∷ [])
opens = record { goes = λ bs rest s. (s.1, λ cs more t. (refl, t)) }

pub opens_square : StaySound as_they_are plain (OpenSquare ∷ []) (OpenSquare ∷ [])
opens_square = record { goes = λ bs rest s. (s.1, λ cs more t. (refl, t)) }

pub closes : StaySound plain as_they_are (Close ∷ []) (Close ∷ [])
closes = record { goes = λ bs rest s. (s.1, λ cs more t. (refl, t)) }

pub closes_square : StaySound plain as_they_are (CloseSquare ∷ []) (CloseSquare ∷ [])
closes_square = record { goes = λ bs rest s. (s.1, λ cs more t. (refl, t)) }

-- a leaf that neither opens nor closes a bracket, and at which nothing can be amiss
abbrev pub is_quiet : Leaf → Bool
is_quiet (Key Group) = false
is_quiet (Key k) = true
is_quiet (Var v) = true
is_quiet Equal = true
is_quiet Hash = true
is_quiet Arrow = true
is_quiet _ = false

pub leaf : (l : Leaf) → is_quiet l ≡ true → StaySound plain plain (l ∷ []) (l ∷ [])
leaf (Key Group) e = absurd (cc)
leaf (Key k) e = record { goes = λ bs rest s. (s.1, λ cs more t. (refl, t)) }
leaf (Var v) e = record { goes = λ bs rest s. (s.1, λ cs more t. (refl, t)) }
leaf Equal e = record { goes = λ bs rest s. (s.1, λ cs more t. (refl, t)) }
leaf Hash e = record { goes = λ bs rest s. (s.1, λ cs more t. (refl, t)) }
leaf Arrow e = record { goes = λ bs rest s. (s.1, λ cs more t. (refl, t)) }
leaf l e = absurd (cc)

-- what stands in brackets
pub in_brackets : {ls ms : List Leaf} → StaySound plain plain ls ms →
    StaySound plain plain (Open ∷ (ls ++ Close ∷ [])) (Open ∷ (ms ++ Close ∷ []))
in_brackets step = both (inside plain opens) (both (inside plain step) (inside plain closes))

-- what stood in brackets, and now stands without
pub out_of_brackets : {ls ms : List Leaf} → StaySound plain plain ls ms →
    StaySound plain plain (Open ∷ (ls ++ Close ∷ [])) ms
out_of_brackets {ls} {ms} step = record {
  goes = λ bs rest s.
      let inner = regrouped (Plain ∷ Plain ∷ bs) Plain false ls (Close ∷ []) rest s.1 in
      let a = step.goes (Plain ∷ bs) (Close ∷ rest) inner in
      (a.0.1, a.1);
}
