-- Facts with their first two places exchanged.
use Rattle.std.proofs.Common.{◌≡◌, Bool, true, false, cond, ◌||◌, ◌&&◌, List, [], ◌∷◌, ◌++◌, filter, map, ℕ, ◌≤◌}
use Rattle.std.proofs.Common.{length, take, take_all}
use Rattle.std.proofs.Common.{Ordering, Less, Equal, Greater, refl, sym, ap, ap₂, ◌∙◌, subst, true≢false, None, Some}
use Rattle.std.specs.declared.option.Option.{Option}
use Rattle.std.specs.Ordering.{ordering_then, is_eq}
use Rattle.std.specs.List.{AllByRecursion}
use Rattle.std.specs.List.Sorted.{IsStrictlySortedBy}
use Rattle.std.specs.Map.{keys_of}
use Rattle.rif_values.specs.declared.constant.Const.{Const}
use Rattle.rif_values.specs.declared.fact.Fact.{Fact}
use Rattle.rif_values.specs.declared.fact.Fact.TheVariants.{Atom, Frame, Member}
use Rattle.rif_values.specs.Facts.{IsFacts, has_fact, same_const, same_fact, is_about}
use Rattle.rif_values.specs.Order.{const_cmp, fact_cmp}
use Rattle.rif_values.proofs.CallerLemmas.{total_facts, exact_facts, total_consts, exact_consts}
use Rattle.rif_sets.proofs.CallerLemmas.{equal_is, same_set, has_filter, has_append, set_filter}
use Rattle.rif_facts.specs.declared.runs.Run.{Run}
use Rattle.rif_facts.specs.declared.runs.Run.TheVariants.{Atoms, SlotValues, FramesOf, MembershipsOf, Frames, Members}
use Rattle.rif_facts.specs.Marks.{mark_at, counted, turned, is_turnable, turned_if_any, is_the, IsMarked, AreTurned}
use Rattle.rif_facts.specs.Readiness.{counts}
use Rattle.rif_facts.specs.Runs.{is_in_run, IsTurnedRun}
use Rattle.rif_facts.proofs.MarksLemmas.{by_test, has_counted, set_kept}
use Rattle.rif_facts.proofs.RunsLemmas.{same_then}

-- ---- turning a fact

pub turned_back : (f : Fact) → turned (turned f) ≡ f
turned_back (Atom p cs) = refl
turned_back (Frame o s v) = refl
turned_back (Member o c) = refl

is_eq_then : (a b : Ordering) → is_eq (ordering_then a b) ≡ (is_eq a && is_eq b)
is_eq_then Less b = refl
is_eq_then Equal b = refl
is_eq_then Greater b = refl

and_turned : (a b c : Bool) → (a && (b && c)) ≡ (b && (a && c))
and_turned true true c = refl
and_turned true false c = refl
and_turned false true c = refl
and_turned false false c = refl

frames_same : (o s v p t w : Const) → same_fact (Frame o s v) (Frame p t w)
    ≡ (same_const o p && (same_const s t && same_const v w))
frames_same o s v p t w =
    is_eq_then (const_cmp o p) _ ∙ ap (λ b. same_const o p && b) (is_eq_then (const_cmp s t) (const_cmp v w))

-- a fact is one turned exactly where it is that one when turned itself
pub same_turned : (f g : Fact) → same_fact f (turned g) ≡ same_fact (turned f) g
same_turned (Atom p cs) (Atom q ds) = refl
same_turned (Atom p cs) (Frame o s v) = refl
same_turned (Atom p cs) (Member o c) = refl
same_turned (Frame o s v) (Atom q ds) = refl
same_turned (Frame o s v) (Frame p t w) =
    frames_same o s v t p w ∙ and_turned (same_const o t) (same_const s p) (same_const v w)
    ∙ sym (frames_same s o v p t w)
same_turned (Frame o s v) (Member p c) = refl
same_turned (Member o c) (Atom q ds) = refl
same_turned (Member o c) (Frame p t w) = refl
same_turned (Member o c) (Member p d) =
    is_eq_then (const_cmp o d) (const_cmp c p) ∙ and_swapped (same_const o d) (same_const c p)
    ∙ sym (is_eq_then (const_cmp c p) (const_cmp o d))
  where
    and_swapped : (a b : Bool) → (a && b) ≡ (b && a)
    and_swapped true true = refl
    and_swapped true false = refl
    and_swapped false true = refl
    and_swapped false false = refl

pub has_turned : (facts : List Fact) (q : Fact) → has_fact (map turned facts) q ≡ has_fact facts (turned q)
has_turned [] q = refl
has_turned (f ∷ facts) q = ap₂ (λ a b. a || b) (same_turned q f) (has_turned facts q)

-- ---- a run of turned facts, turned back

-- two constants that are a third are one
alike : (a b c : Const) → same_const a b ≡ true → same_const a c ≡ true → same_const b c ≡ true
alike a b c ab ac = subst (λ (d : Const). same_const d c ≡ true) (equal_is total_consts exact_consts a b ab) ac

then_equal : (a b : Ordering) → is_eq b ≡ true → a ≡ Less → ordering_then a b ≡ Less
then_equal Less b same less = refl
then_equal Equal b same less = cc
then_equal Greater b same less = cc

-- facts of such a run keep their order
turned_less : (run : Run) → IsTurnedRun run → (f g : Fact) → is_in_run run f ≡ true → is_in_run run g ≡ true
    → fact_cmp f g ≡ Less → fact_cmp (turned f) (turned g) ≡ Less
turned_less (FramesOf o) is (Frame p t v) (Frame q u w) f_in g_in less =
    let same = alike o p q f_in g_in in
    ap (ordering_then (const_cmp t u)) (same_then (const_cmp p q) (const_cmp v w) same)
    ∙ sym (same_then (const_cmp p q) _ same) ∙ less
turned_less (FramesOf o) is (Atom p cs) g f_in g_in less = absurd (true≢false (sym f_in))
turned_less (FramesOf o) is (Member p c) g f_in g_in less = absurd (true≢false (sym f_in))
turned_less (FramesOf o) is (Frame p t v) (Atom q cs) f_in g_in less = absurd (true≢false (sym g_in))
turned_less (FramesOf o) is (Frame p t v) (Member q c) f_in g_in less = absurd (true≢false (sym g_in))
turned_less (MembershipsOf o) is (Member p c) (Member q d) f_in g_in less =
    let same = alike o p q f_in g_in in
    then_equal (const_cmp c d) (const_cmp p q) same (sym (same_then (const_cmp p q) _ same) ∙ less)
turned_less (MembershipsOf o) is (Atom p cs) g f_in g_in less = absurd (true≢false (sym f_in))
turned_less (MembershipsOf o) is (Frame p t v) g f_in g_in less = absurd (true≢false (sym f_in))
turned_less (MembershipsOf o) is (Member p c) (Atom q cs) f_in g_in less = absurd (true≢false (sym g_in))
turned_less (MembershipsOf o) is (Member p c) (Frame q t v) f_in g_in less = absurd (true≢false (sym g_in))
turned_less (Atoms p) is f g f_in g_in less = absurd is
turned_less (SlotValues o s) is f g f_in g_in less = absurd is
turned_less Frames is f g f_in g_in less = absurd is
turned_less Members is f g f_in g_in less = absurd is

all_turned : (run : Run) → IsTurnedRun run → (f : Fact) (facts : List Fact) → is_in_run run f ≡ true
    → AllByRecursion (λ g. is_in_run run g ≡ true) facts → AllByRecursion (λ g. fact_cmp f g ≡ Less) facts
    → AllByRecursion (λ g. fact_cmp (turned f) g ≡ Less) (map turned facts)
all_turned run is f [] f_in all less = tt
all_turned run is f (g ∷ facts) f_in all less =
    (turned_less run is f g f_in all.0 less.0, all_turned run is f facts f_in all.1 less.1)

set_turned : (run : Run) → IsTurnedRun run → (facts : List Fact)
    → AllByRecursion (λ g. is_in_run run g ≡ true) facts → IsFacts facts → IsFacts (map turned facts)
unfolding IsStrictlySortedBy
set_turned run is [] all set = set
set_turned run is (f ∷ facts) all set =
    (all_turned run is f facts all.0 all.1 set.0, set_turned run is facts all.1 set.1)

all_in : (test : Fact → Bool) (facts : List Fact) → AllByRecursion (λ f. test f ≡ true) (filter test facts)
all_in test [] = tt
all_in test (f ∷ facts) =
    by_test (AllByRecursion (λ g. test g ≡ true)) (test f) (f ∷ filter test facts) (filter test facts)
    (λ passed. (passed, all_in test facts)) (λ _. all_in test facts)

-- which facts a run of the turned entries has
turned_at : (run : Run) → IsTurnedRun run → (es fs : List (Fact × Bool)) → AreTurned es fs → (q : Fact)
    → (is_in_run run (turned q) && counts (mark_at fs (turned q))) ≡
    (is_in_run run (turned q) && counts (mark_at es q))
turned_at run is es fs are (Frame o s v) =
    ap (λ m. is_in_run run (Frame s o v) && counts m) (are (Frame s o v))
turned_at run is es fs are (Member o c) = ap (λ m. is_in_run run (Member c o) && counts m) (are (Member c o))
turned_at (FramesOf o) is es fs are (Atom p cs) = refl
turned_at (MembershipsOf o) is es fs are (Atom p cs) = refl
turned_at (Atoms p) is es fs are (Atom q cs) = absurd is
turned_at (SlotValues o s) is es fs are (Atom q cs) = absurd is
turned_at Frames is es fs are (Atom q cs) = absurd is
turned_at Members is es fs are (Atom q cs) = absurd is

-- the facts of a run of the turned entries, turned back, are those that are of the run when turned
pub turned_run : (run : Run) → IsTurnedRun run → (es fs : List (Fact × Bool)) → AreTurned es fs
    → IsStrictlySortedBy fact_cmp (keys_of es) → IsStrictlySortedBy fact_cmp (keys_of fs)
    → map turned (filter (is_in_run run) (counted fs)) ≡ filter (λ f. is_in_run run (turned f)) (counted es)
turned_run run is es fs are sorted turned_sorted =
    let found = filter (is_in_run run) (counted fs) in
    let wanted = filter (λ f. is_in_run run (turned f)) (counted es) in
    same_set total_facts exact_facts (map turned found) wanted
    (set_turned run is found (all_in (is_in_run run) (counted fs))
    (set_filter total_facts exact_facts (is_in_run run) (counted fs) (set_kept (λ e. e.1) fs turned_sorted)))
    (set_filter total_facts exact_facts (λ f. is_in_run run (turned f)) (counted es) (set_kept (λ e. e.1) es sorted))
    (λ q.
    has_turned found q ∙ has_filter total_facts exact_facts (is_in_run run) (counted fs) (turned q)
    ∙ ap (λ b. is_in_run run (turned q) && b) (has_counted fs (turned q) turned_sorted)
    ∙ turned_at run is es fs are q
    ∙ sym (has_filter total_facts exact_facts (λ f. is_in_run run (turned f)) (counted es) q
    ∙ ap (λ b. is_in_run run (turned q) && b) (has_counted es q sorted)))

-- ---- an object's frames and memberships

frame_below_member : (o : Const) (f : Fact) (gs : List Fact) → is_in_run (FramesOf o) f ≡ true
    → AllByRecursion (λ g. is_in_run (MembershipsOf o) g ≡ true) gs → AllByRecursion (λ g. fact_cmp f g ≡ Less) gs
frame_below_member o f [] f_in all = tt
frame_below_member o (Frame p t v) (Member q c ∷ gs) f_in all =
    (refl, frame_below_member o (Frame p t v) gs f_in all.1)
frame_below_member o (Atom p cs) (g ∷ gs) f_in all = absurd (true≢false (sym f_in))
frame_below_member o (Member p c) (g ∷ gs) f_in all = absurd (true≢false (sym f_in))
frame_below_member o (Frame p t v) (Atom q cs ∷ gs) f_in all = absurd (true≢false (sym all.0))
frame_below_member o (Frame p t v) (Frame q u w ∷ gs) f_in all = absurd (true≢false (sym all.0))

all_append : (P : Fact → Type 0) (fs gs : List Fact) → AllByRecursion P fs → AllByRecursion P gs
    → AllByRecursion P (fs ++ gs)
all_append P [] gs all more = more
all_append P (f ∷ fs) gs all more = (all.0, all_append P fs gs all.1 more)

set_both : (o : Const) (fs gs : List Fact) → AllByRecursion (λ f. is_in_run (FramesOf o) f ≡ true) fs
    → AllByRecursion (λ g. is_in_run (MembershipsOf o) g ≡ true) gs → IsFacts fs → IsFacts gs → IsFacts (fs ++ gs)
unfolding IsStrictlySortedBy
set_both o [] gs frames members set more = more
set_both o (f ∷ fs) gs frames members set more = (
  all_append (λ g. fact_cmp f g ≡ Less) fs gs set.0 (frame_below_member o f gs frames.0 members),
  set_both o fs gs frames.1 members set.1 more,
)

of_either : (o : Const) (q : Fact) → (is_in_run (FramesOf o) q || is_in_run (MembershipsOf o) q) ≡ is_about o q
of_either o (Atom p cs) = refl
of_either o (Frame p t v) = or_false (same_const o p)
  where
    or_false : (b : Bool) → (b || false) ≡ b
    or_false true = refl
    or_false false = refl
of_either o (Member p c) = refl

either_and : (a b c : Bool) → ((a && c) || (b && c)) ≡ ((a || b) && c)
either_and true true true = refl
either_and true true false = refl
either_and true false true = refl
either_and true false false = refl
either_and false b c = refl

-- an object's frames and then its memberships are the facts about it
pub object_runs : (o : Const) (facts : List Fact) → IsFacts facts
    → filter (is_in_run (FramesOf o)) facts ++ filter (is_in_run (MembershipsOf o)) facts ≡ filter (is_about o) facts
object_runs o facts set =
    let fs = filter (is_in_run (FramesOf o)) facts in
    let gs = filter (is_in_run (MembershipsOf o)) facts in
    same_set total_facts exact_facts (fs ++ gs) (filter (is_about o) facts)
    (set_both o fs gs (all_in (is_in_run (FramesOf o)) facts) (all_in (is_in_run (MembershipsOf o)) facts)
    (set_filter total_facts exact_facts (is_in_run (FramesOf o)) facts set)
    (set_filter total_facts exact_facts (is_in_run (MembershipsOf o)) facts set))
    (set_filter total_facts exact_facts (is_about o) facts set)
    (λ q.
    has_append total_facts exact_facts fs gs q
    ∙ ap₂ (λ a b. a || b) (has_filter total_facts exact_facts (is_in_run (FramesOf o)) facts q)
    (has_filter total_facts exact_facts (is_in_run (MembershipsOf o)) facts q)
    ∙ either_and (is_in_run (FramesOf o) q) (is_in_run (MembershipsOf o) q) (has_fact facts q)
    ∙ ap (λ b. b && has_fact facts q) (of_either o q)
    ∙ sym (has_filter total_facts exact_facts (is_about o) facts q))

-- the same of lists that are known by equations
pub object_found : (o a b : Const) (facts frames members : List Fact) → IsFacts facts → a ≡ o → b ≡ o
    → frames ≡ filter (is_in_run (FramesOf a)) facts → members ≡ filter (is_in_run (MembershipsOf b)) facts
    → frames ++ members ≡ filter (is_about o) facts
object_found o a b facts frames members set same again frames_are members_are =
    ap₂ (λ (fs gs : List Fact). fs ++ gs)
    (frames_are ∙ ap (λ (c : Const). filter (is_in_run (FramesOf c)) facts) same)
    (members_are ∙ ap (λ (c : Const). filter (is_in_run (MembershipsOf c)) facts) again)
    ∙ object_runs o facts set

pub turned_found : (run : Run) → IsTurnedRun run → (es ds fs : List (Fact × Bool)) (found items all : List Fact)
    (n : ℕ)
    → found ≡ map turned (take n items) → length items ≤ n → items ≡ all
    → all ≡ filter (is_in_run run) (counted fs) → AreTurned es fs → IsMarked es → IsMarked fs → es ≡ ds
    → found ≡ filter (λ f. is_in_run run (turned f)) (counted ds)
turned_found run is es ds fs found items all n gathered end items_are all_are are marked turned_marked same =
    gathered ∙ ap (map turned) (take_all n items end ∙ items_are ∙ all_are)
    ∙ turned_run run is es fs are marked.sorted turned_marked.sorted
    ∙ ap (λ (gs : List (Fact × Bool)). filter (λ f. is_in_run run (turned f)) (counted gs)) same

-- ---- the turned entries, when a fact was put in and taken out again

-- a fact that is another turned
the_turned : (f q : Fact) → is_the (turned_if_any f) q ≡ true → turned q ≡ f
the_turned (Atom p cs) q same = absurd (true≢false (sym same))
the_turned (Frame o s v) q same = ap turned (sym (equal_is total_facts exact_facts (Frame s o v) q same))
the_turned (Member o c) q same = ap turned (sym (equal_is total_facts exact_facts (Member c o) q same))

absent_turned : (b : Bool) (m : Option Bool) → m ≡ None → cond b m None ≡ None
absent_turned true m none = none
absent_turned false m none = refl

pub put_back : (es ds fs gs hs : List (Fact × Bool)) (f : Fact) (t : Option Fact) → t ≡ turned_if_any f
    → AreTurned es fs → mark_at es f ≡ None → es ≡ ds
    → ((q : Fact) → mark_at gs q ≡ cond (is_the t q) (Some false) (mark_at fs q))
    → ((q : Fact) → mark_at hs q ≡ cond (is_the t q) None (mark_at gs q)) → AreTurned ds hs
put_back es ds fs gs hs f t t_is are absent same put_in taken =
    subst (λ (is : List (Fact × Bool)). AreTurned is hs) same (λ q.
    taken q
    ∙ by_test (λ m. m ≡ cond (is_turnable q) (mark_at es (turned q)) None) (is_the t q) None (mark_at gs q)
    (λ passed.
    sym (absent_turned (is_turnable q) (mark_at es (turned q))
    (ap (mark_at es) (the_turned f q (ap (λ u. is_the u q) (sym t_is) ∙ passed)) ∙ absent)))
    (λ failed. put_in q ∙ ap (λ b. cond b (Some false) (mark_at fs q)) failed ∙ are q))
