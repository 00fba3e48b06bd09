-- Which facts the entries with some marks have.
use Rattle.std.proofs.Common.{◌≡◌, Bool, true, false, not, cond, ◌||◌, List, [], ◌∷◌, filter, length, ◌+◌}
use Rattle.std.proofs.Common.{Ordering, Less, Equal, Greater, refl, sym, ap, ◌∙◌, subst, arith, None, Some}
use Rattle.std.specs.Map.{keys_of, remove_entry}
use Rattle.std.specs.BTreeMap.{is_at, insert_entry}
use Rattle.std.specs.Ordering.{eq_by_cmp, match_ordering}
use Rattle.std.specs.List.{AllByRecursion}
use Rattle.std.specs.List.Sorted.{IsStrictlySortedBy}
use Rattle.std.specs.declared.option.Option.{Option}
use Rattle.std.proofs.lemmas.Cmp.{eq_by_cmp_equiv}
use Rattle.std.proofs.lemmas.Map.{lookup-none}
use Rattle.std.proofs.lemmas.Map.Entries.{none_past_head}
use Rattle.std.proofs.lemmas.Map.Keys.{IsDistinct-from_sorted}
use Rattle.rif_values.specs.declared.fact.Fact.{Fact}
use Rattle.rif_values.specs.Facts.{IsFacts, has_fact}
use Rattle.rif_values.specs.Order.{fact_cmp}
use Rattle.rif_values.proofs.CallerLemmas.{total_facts, exact_facts}
use Rattle.rif_sets.proofs.CallerLemmas.{equal_is, same_set}
use Rattle.rif_facts.specs.Marks.{mark_at, kept_by, counted, waiting}
use Rattle.rif_facts.specs.Readiness.{counts, waits}

pub by_test : {X : Type 0} (P : X → Type 0) (b : Bool) (x y : X) → (b ≡ true → P x) → (b ≡ false → P y)
    → P (cond b x y)
by_test P true x y passes fails = passes refl
by_test P false x y passes fails = fails refl

by_order : {X : Type 0} (P : X → Type 0) (o : Ordering) (a b c : X) → P a → P b → P c → P (match_ordering o a b c)
by_order P Less a b c less equal greater = less
by_order P Equal a b c less equal greater = equal
by_order P Greater a b c less equal greater = greater

-- whether an entry of q with the mark passes the test, if there is one
abbrev pub passes : (Fact × Bool → Bool) → Fact → Option Bool → Bool
passes test q None = false
passes test q (Some mark) = test (q, mark)

-- the first entry's fact stands nowhere else
none_later : (e : Fact × Bool) (es : List (Fact × Bool)) (q : Fact) → eq_by_cmp fact_cmp q e.0 ≡ true
    → IsStrictlySortedBy fact_cmp (keys_of (e ∷ es)) → mark_at es q ≡ None
none_later e es q same sorted =
    lookup-none (is_at (fact_cmp q)) es
    (none_past_head (eq_by_cmp_equiv total_facts) q e es
    (IsDistinct-from_sorted fact_cmp (keys_of (e ∷ es)) sorted) same)

-- the first entry's fact is there
at_first : (e : Fact × Bool) (es : List (Fact × Bool)) (q : Fact) (test : Fact × Bool → Bool)
    → eq_by_cmp fact_cmp q e.0 ≡ true → test (q, e.1) ≡ true
    → has_fact (keys_of (e ∷ filter test es)) q ≡ test (q, e.1)
at_first e es q test same passed = ap (λ b. b || has_fact (kept_by test es) q) same ∙ sym passed

-- the facts that pass a test have q exactly where its entry passes
pub has_kept : (test : Fact × Bool → Bool) (es : List (Fact × Bool)) (q : Fact)
    → IsStrictlySortedBy fact_cmp (keys_of es) → has_fact (kept_by test es) q ≡ passes test q (mark_at es q)
unfolding IsStrictlySortedBy
has_kept test [] q sorted = refl
has_kept test (e ∷ es) q sorted =
    by_test (λ m. has_fact (kept_by test (e ∷ es)) q ≡ passes test q m) (is_at (fact_cmp q) e.0) (Some e.1)
    (mark_at es q)
    (λ same.
    let is = equal_is total_facts exact_facts q e.0 same in
    let none = has_kept test es q sorted.1 ∙ ap (passes test q) (none_later e es q same sorted) in
    let at : test (q, e.1) ≡ test e = ap (λ (f : Fact). test (f, e.1)) is in
    by_test (λ (fs : List (Fact × Bool)). has_fact (keys_of fs) q ≡ test (q, e.1)) (test e) (e ∷ filter test es)
    (filter test es) (λ passed. at_first e es q test same (at ∙ passed)) (λ failed. none ∙ sym (at ∙ failed)))
    (λ apart.
    let later = has_kept test es q sorted.1 in
    by_test (λ (fs : List (Fact × Bool)). has_fact (keys_of fs) q ≡ passes test q (mark_at es q)) (test e)
    (e ∷ filter test es) (filter test es)
    (λ _. ap (λ b. b || has_fact (kept_by test es) q) apart ∙ later) (λ _. later))

all_kept : (P : Fact → Type 0) (test : Fact × Bool → Bool) (es : List (Fact × Bool)) → AllByRecursion P (keys_of es)
    → AllByRecursion P (kept_by test es)
all_kept P test [] all = tt
all_kept P test (e ∷ es) all =
    by_test (λ (fs : List (Fact × Bool)). AllByRecursion P (keys_of fs)) (test e) _ _
    (λ _. (all.0, all_kept P test es all.1))
    (λ _. all_kept P test es all.1)

-- and are a state of facts
pub set_kept : (test : Fact × Bool → Bool) (es : List (Fact × Bool)) → IsStrictlySortedBy fact_cmp (keys_of es)
    → IsFacts (kept_by test es)
unfolding IsStrictlySortedBy
set_kept test [] sorted = sorted
set_kept test (e ∷ es) sorted =
    by_test (λ (fs : List (Fact × Bool)). IsFacts (keys_of fs)) (test e) _ _
    (λ _. (all_kept (λ f. fact_cmp e.0 f ≡ Less) test es sorted.0, set_kept test es sorted.1))
    (λ _. set_kept test es sorted.1)

by_mark : (m : Option Bool) (q : Fact) → passes (λ e. e.1) q m ≡ counts m
by_mark None q = refl
by_mark (Some mark) q = refl

by_no_mark : (m : Option Bool) (q : Fact) → passes (λ e. not e.1) q m ≡ waits m
by_no_mark None q = refl
by_no_mark (Some mark) q = refl

-- the facts that count, and those that don't yet
pub has_counted : (es : List (Fact × Bool)) (q : Fact) → IsStrictlySortedBy fact_cmp (keys_of es)
    → has_fact (counted es) q ≡ counts (mark_at es q)
has_counted es q sorted = has_kept (λ e. e.1) es q sorted ∙ by_mark (mark_at es q) q

pub has_waiting : (es : List (Fact × Bool)) (q : Fact) → IsStrictlySortedBy fact_cmp (keys_of es)
    → has_fact (waiting es) q ≡ waits (mark_at es q)
has_waiting es q sorted = has_kept (λ e. not e.1) es q sorted ∙ by_no_mark (mark_at es q) q

-- a state of facts that has what counts is what counts
pub counted_is : (es : List (Fact × Bool)) (facts : List Fact) → IsStrictlySortedBy fact_cmp (keys_of es)
    → IsFacts facts → ((q : Fact) → counts (mark_at es q) ≡ has_fact facts q) → counted es ≡ facts
counted_is es facts sorted set same =
    same_set total_facts exact_facts (counted es) facts (set_kept (λ e. e.1) es sorted) set
    (λ q. has_counted es q sorted ∙ same q)

pub waiting_is : (es : List (Fact × Bool)) (facts : List Fact) → IsStrictlySortedBy fact_cmp (keys_of es)
    → IsFacts facts → ((q : Fact) → waits (mark_at es q) ≡ has_fact facts q) → waiting es ≡ facts
waiting_is es facts sorted set same =
    same_set total_facts exact_facts (waiting es) facts (set_kept (λ e. not e.1) es sorted) set
    (λ q. has_waiting es q sorted ∙ same q)

-- each entry counts or doesn't
pub length_parts : (es : List (Fact × Bool)) → length (counted es) + length (waiting es) ≡ length es
length_parts [] = refl
length_parts ((f, true) ∷ es) = let rest = length_parts es in omega arith
length_parts ((f, false) ∷ es) = let rest = length_parts es in omega arith

-- an entry that is put in, or taken out, leaves what holds of each fact
pub all_insert_entry : (P : Fact → Type 0) (es : List (Fact × Bool)) (f : Fact) (mark : Bool) → P f
    → AllByRecursion P (keys_of es) → AllByRecursion P (keys_of (insert_entry fact_cmp es f mark))
all_insert_entry P [] f mark holds all = (holds, tt)
all_insert_entry P (e ∷ es) f mark holds all =
    by_order (λ (fs : List (Fact × Bool)). AllByRecursion P (keys_of fs)) (fact_cmp f e.0) ((f, mark) ∷ e ∷ es)
    ((e.0, mark) ∷ es) (e ∷ insert_entry fact_cmp es f mark) (holds, all) all
    (all.0, all_insert_entry P es f mark holds all.1)

pub all_remove_entry : (P : Fact → Type 0) (test : Fact → Bool) (es : List (Fact × Bool))
    → AllByRecursion P (keys_of es) → AllByRecursion P (keys_of (remove_entry test es))
all_remove_entry P test [] all = tt
all_remove_entry P test (e ∷ es) all =
    by_test (λ (fs : List (Fact × Bool)). AllByRecursion P (keys_of fs)) (test e.0) _ _ (λ _. all.1)
    (λ _. (all.0, all_remove_entry P test es all.1))

-- the list that counts is a state of facts
pub counted_set : (es : List (Fact × Bool)) (list : List Fact) → counted es ≡ list
    → IsStrictlySortedBy fact_cmp (keys_of es) → IsFacts list
counted_set es list is sorted = subst IsFacts is (set_kept (λ e. e.1) es sorted)

pub counts_has : (es : List (Fact × Bool)) (list : List Fact) (q : Fact) → counted es ≡ list
    → IsStrictlySortedBy fact_cmp (keys_of es) → counts (mark_at es q) ≡ has_fact list q
counts_has es list q is sorted = sym (has_counted es q sorted) ∙ ap (λ (fs : List Fact). has_fact fs q) is
