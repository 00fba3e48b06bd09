-- Runs: which facts stand in one, and that a walk from its first finds all of them.
use Rattle.std.proofs.Common.{◌≡◌, Bool, true, false, cond, ◌&&◌, List, [], ◌∷◌, ◌++◌, filter}
use Rattle.std.proofs.Common.{Ordering, Less, Equal, Greater, refl, sym, ap, ap₂, ◌∙◌, subst, true≢false}
use Rattle.std.specs.Map.{keys_of}
use Rattle.std.specs.BTreeMap.Range.{entries_between}
use Rattle.std.specs.declared.ops.Bound.TheVariants.{Included, Unbounded}
use Rattle.std.specs.Ordering.{ordering_then, ordering_reverse, is_le, is_eq}
use Rattle.std.specs.Cmp.Lexicographic.{slice_cmp}
use Rattle.std.specs.List.{AllByRecursion}
use Rattle.std.specs.List.Sorted.{IsStrictlySortedBy}
use Rattle.rif_values.specs.declared.constant.Const.{Const}
use Rattle.rif_values.specs.declared.constant.Const.TheVariants.{Int}
use Rattle.rif_values.specs.declared.integer.TheConstants.{LEAST_INTEGER}
use Rattle.rif_values.specs.declared.fact.Fact.{Fact}
use Rattle.rif_values.specs.declared.fact.Fact.TheVariants.{Atom, Frame, Member}
use Rattle.rif_values.specs.Facts.{same_const}
use Rattle.rif_values.specs.Order.{const_cmp, fact_cmp}
use Rattle.rif_values.proofs.CallerLemmas.{total_consts, exact_consts}
use Rattle.rif_sets.proofs.CallerLemmas.{equal_is}
use Rattle.rif_facts.specs.declared.runs.Run.{Run}
use Rattle.rif_facts.specs.declared.runs.Run.TheVariants.{Atoms, SlotValues, FramesOf, MembershipsOf}
use Rattle.rif_facts.specs.Marks.{counted, IsInRange, IsMarked}
use Rattle.rif_facts.specs.Runs.{is_in_run, IsFirstOf, walked}
use Rattle.rif_facts.proofs.MarksLemmas.{by_test}

-- ---- a walk from a first fact on

-- behind an entry that is not above the first and fails, none passes
none_behind : (run : Run) (first : Fact) → IsFirstOf run first → (f : Fact) (es : List (Fact × Bool))
    → is_le (fact_cmp first f) ≡ true → is_in_run run f ≡ false
    → AllByRecursion (λ g. fact_cmp f g ≡ Less) (keys_of es) → filter (is_in_run run) (counted es) ≡ []
none_behind run first is f [] le fails less = refl
none_behind run first is f ((g, false) ∷ es) le fails less = none_behind run first is f es le fails less.1
none_behind run first is f ((g, true) ∷ es) le fails less =
    by_test (λ gs. gs ≡ []) (is_in_run run g) (g ∷ filter (is_in_run run) (counted es))
    (filter (is_in_run run) (counted es))
    (λ passed. let joined = is.joined f g le less.0 passed in absurd (true≢false (sym joined ∙ fails)))
    (λ _. none_behind run first is f es le fails less.1)

-- a fact that passes, in front of a walk
walk_on : (test : Fact → Bool) (f : Fact) (mark : Bool) (found : List Fact) (es : List (Fact × Bool)) → test f ≡ true
    → found ≡ filter test (counted es) → cond mark (f ∷ found) found ≡ filter test (counted ((f, mark) ∷ es))
walk_on test f false found es passed is = is
walk_on test f true found es passed is =
    by_test (λ fs. f ∷ found ≡ fs) (test f) (f ∷ filter test (counted es)) (filter test (counted es))
    (λ _. ap (λ fs. f ∷ fs) is) (λ failed. absurd (true≢false (sym passed ∙ failed)))

-- a fact that fails, in front of others
pass_by : (test : Fact → Bool) (f : Fact) (mark : Bool) (es : List (Fact × Bool)) → test f ≡ false
    → filter test (counted es) ≡ filter test (counted ((f, mark) ∷ es))
pass_by test f false es failed = refl
pass_by test f true es failed =
    by_test (λ fs. filter test (counted es) ≡ fs) (test f) (f ∷ filter test (counted es)) (filter test (counted es))
    (λ passed. absurd (true≢false (sym passed ∙ failed))) (λ _. refl)

and_true : (b : Bool) → (b && true) ≡ b
and_true true = refl
and_true false = refl

-- a walk from the first fact of a run finds those of the run that count
pub walk_finds : (run : Run) (first : Fact) → IsFirstOf run first → (es : List (Fact × Bool))
    → IsStrictlySortedBy fact_cmp (keys_of es) → AllByRecursion IsInRange (keys_of es)
    → walked (is_in_run run) (entries_between fact_cmp (Included first) Unbounded es)
    ≡ filter (is_in_run run) (counted es)
unfolding IsStrictlySortedBy
walk_finds run first is [] sorted range = refl
walk_finds run first is ((f, mark) ∷ es) sorted range =
    let test = is_in_run run in
    let rest = walk_finds run first is es sorted.1 range.1 in
    let later = entries_between fact_cmp (Included first) Unbounded es in
    by_test (λ (fs : List (Fact × Bool)). walked test fs ≡ filter test (counted ((f, mark) ∷ es)))
    (is_le (fact_cmp first f) && true) ((f, mark) ∷ later) later
    (λ from.
    by_test (λ fs. fs ≡ filter test (counted ((f, mark) ∷ es))) (test f)
    (cond mark (f ∷ walked test later) (walked test later)) []
    (λ passed. walk_on test f mark (walked test later) es passed rest)
    (λ failed.
    sym (none_behind run first is f es (sym (and_true _) ∙ from) failed sorted.0) ∙ pass_by test f mark es failed))
    (λ before. rest ∙ pass_by test f mark es (fails (test f) (is.below f range.0) (sym (and_true _) ∙ before)))
  where
    fails : (b : Bool) {le : Bool} → (b ≡ true → le ≡ true) → le ≡ false → b ≡ false
    fails true is not_le = absurd (true≢false (sym (is refl) ∙ not_le))
    fails false is not_le = refl

-- ---- the first fact of each run

pub then_less : (a b : Ordering) → ordering_then a b ≡ Less → is_le a ≡ true
then_less Less b less = refl
then_less Equal b less = refl
then_less Greater b less = cc

then_le : (a b : Ordering) → is_le (ordering_then a b) ≡ true → is_le a ≡ true
then_le Less b le = refl
then_le Equal b le = refl
then_le Greater b le = cc

both_le : (a b : Ordering) → is_le a ≡ true → is_le b ≡ true → is_le (ordering_then a b) ≡ true
both_le Less b le below = refl
both_le Equal b le below = below
both_le Greater b le below = cc

-- where the first two are equal the second decide
pub same_then : (a b : Ordering) → is_eq a ≡ true → ordering_then a b ≡ b
same_then Less b same = cc
same_then Equal b same = refl
same_then Greater b same = cc

-- a constant between two that are one is that one
pinched : (a b c : Const) → same_const a c ≡ true → is_le (const_cmp a b) ≡ true → is_le (const_cmp b c) ≡ true
    → same_const a b ≡ true
pinched a b c same below above =
    let is = exact_consts a c (equal _ same) in
    let back : is_le (const_cmp b a) ≡ true = subst (λ (d : Const). is_le (const_cmp b d) ≡ true) (sym is) above in
    tied (const_cmp a b) (const_cmp b a) (total_consts.antisymm b a) below back
  where
    equal : (o : Ordering) → is_eq o ≡ true → o ≡ Equal
    equal Less same = cc
    equal Equal same = refl
    equal Greater same = cc

    tied : (o p : Ordering) → p ≡ ordering_reverse o → is_le o ≡ true → is_le p ≡ true → is_eq o ≡ true
    tied Less p is below back = cc
    tied Equal p is below back = refl
    tied Greater p is below back = cc

-- what a frame's object or slot decides
eq_parts : (a b : Bool) → (a && b) ≡ true → (a ≡ true) × (b ≡ true)
eq_parts true true both = (refl, refl)
eq_parts true false both = absurd (true≢false (sym both))
eq_parts false b both = absurd (true≢false (sym both))

above_empty : (cs : List Const) → is_le (slice_cmp const_cmp [] cs) ≡ true
above_empty [] = refl
above_empty (c ∷ cs) = refl

pub first_atom : (p : Const) → IsFirstOf (Atoms p) (Atom p [])
first_atom p = record { below = below; joined = joined }
  where
    below : (f : Fact) → IsInRange f → is_in_run (Atoms p) f ≡ true → is_le (fact_cmp (Atom p []) f) ≡ true
    below (Atom q cs) range of =
        subst (λ o. is_le o ≡ true) (sym (same_then _ (slice_cmp const_cmp [] cs) of)) (above_empty cs)
    below (Frame o s v) range of = refl
    below (Member o c) range of = refl

    joined : (f g : Fact) → is_le (fact_cmp (Atom p []) f) ≡ true → fact_cmp f g ≡ Less
        → is_in_run (Atoms p) g ≡ true → is_in_run (Atoms p) f ≡ true
    joined (Atom q cs) (Atom r ds) le less of = pinched p q r of (then_le _ _ le) (then_less _ _ less)
    joined f (Frame o s v) le less of = absurd (true≢false (sym of))
    joined f (Member o c) le less of = absurd (true≢false (sym of))
    joined (Frame o s v) (Atom r ds) le less of = cc
    joined (Member o c) (Atom r ds) le less of = cc

between : (a b c : Const) → same_const a b ≡ true → same_const a c ≡ true → same_const b c ≡ true
between a b c ab ac = subst (λ (d : Const). same_const d c ≡ true) (equal_is total_consts exact_consts a b ab) ac

pub first_value : (o s : Const) → IsFirstOf (SlotValues o s) (Frame o s (Int LEAST_INTEGER))
first_value o s = record { below = below; joined = joined }
  where
    below : (f : Fact) → IsInRange f → is_in_run (SlotValues o s) f ≡ true
        → is_le (fact_cmp (Frame o s (Int LEAST_INTEGER)) f) ≡ true
    below (Atom q cs) range of = absurd (true≢false (sym of))
    below (Frame p t v) range of =
        let parts = eq_parts _ _ of in
        subst (λ r. is_le r ≡ true)
        (sym (same_then (const_cmp o p) _ parts.0 ∙ same_then (const_cmp s t) (const_cmp (Int LEAST_INTEGER) v)
        parts.1))
        range.2
    below (Member p c) range of = refl

    joined : (f g : Fact) → is_le (fact_cmp (Frame o s (Int LEAST_INTEGER)) f) ≡ true → fact_cmp f g ≡ Less
        → is_in_run (SlotValues o s) g ≡ true → is_in_run (SlotValues o s) f ≡ true
    joined f (Atom r ds) le less of = absurd (true≢false (sym of))
    joined f (Member r c) le less of = absurd (true≢false (sym of))
    joined (Atom q cs) (Frame p t v) le less of = cc
    joined (Member q c) (Frame p t v) le less of = cc
    joined (Frame q u w) (Frame p t v) le less of =
        let parts = eq_parts _ _ of in
        let object = pinched o q p parts.0 (then_le _ _ le) (then_less _ _ less) in
        let again : same_const q p ≡ true = between o q p object parts.0 in
        let inner_le : is_le (ordering_then (const_cmp s u) (const_cmp (Int LEAST_INTEGER) w)) ≡ true =
        subst (λ r. is_le r ≡ true) (same_then (const_cmp o q) _ object) le in
        let inner_less : ordering_then (const_cmp u t) (const_cmp w v) ≡ Less =
        sym (same_then (const_cmp q p) _ again) ∙ less in
        ap₂ (λ a b. a && b) object
        (pinched s u t parts.1 (then_le _ _ inner_le) (then_less _ _ inner_less))

pub first_frame_of : (o : Const) → IsFirstOf (FramesOf o) (Frame o (Int LEAST_INTEGER) (Int LEAST_INTEGER))
first_frame_of o = record { below = below; joined = joined }
  where
    below : (f : Fact) → IsInRange f → is_in_run (FramesOf o) f ≡ true
        → is_le (fact_cmp (Frame o (Int LEAST_INTEGER) (Int LEAST_INTEGER)) f) ≡ true
    below (Atom q cs) range of = absurd (true≢false (sym of))
    below (Frame p t v) range of =
        subst (λ r. is_le r ≡ true) (sym (same_then (const_cmp o p) _ of)) (both_le _ _ range.1 range.2)
    below (Member p c) range of = refl

    joined : (f g : Fact) → is_le (fact_cmp (Frame o (Int LEAST_INTEGER) (Int LEAST_INTEGER)) f) ≡ true
        → fact_cmp f g ≡ Less → is_in_run (FramesOf o) g ≡ true → is_in_run (FramesOf o) f ≡ true
    joined f (Atom r ds) le less of = absurd (true≢false (sym of))
    joined f (Member r c) le less of = absurd (true≢false (sym of))
    joined (Atom q cs) (Frame p t v) le less of = cc
    joined (Member q c) (Frame p t v) le less of = cc
    joined (Frame q u w) (Frame p t v) le less of = pinched o q p of (then_le _ _ le) (then_less _ _ less)

pub first_membership : (o : Const) → IsFirstOf (MembershipsOf o) (Member o (Int LEAST_INTEGER))
first_membership o = record { below = below; joined = joined }
  where
    below : (f : Fact) → IsInRange f → is_in_run (MembershipsOf o) f ≡ true
        → is_le (fact_cmp (Member o (Int LEAST_INTEGER)) f) ≡ true
    below (Atom q cs) range of = absurd (true≢false (sym of))
    below (Frame p t v) range of = absurd (true≢false (sym of))
    below (Member p c) range of =
        subst (λ r. is_le r ≡ true) (sym (same_then (const_cmp o p) _ of)) range.1

    joined : (f g : Fact) → is_le (fact_cmp (Member o (Int LEAST_INTEGER)) f) ≡ true → fact_cmp f g ≡ Less
        → is_in_run (MembershipsOf o) g ≡ true → is_in_run (MembershipsOf o) f ≡ true
    joined f (Atom r ds) le less of = absurd (true≢false (sym of))
    joined f (Frame r s v) le less of = absurd (true≢false (sym of))
    joined (Atom q cs) (Member p d) le less of = cc
    joined (Frame q s v) (Member p d) le less of = cc
    joined (Member q c) (Member p d) le less of = pinched o q p of (then_le _ _ le) (then_less _ _ less)

-- ---- the same, of a run and a first fact that are known by equations

pub is_first_atom : (run : Run) (p q : Const) (cs : List Const) → run ≡ Atoms p → q ≡ p → cs ≡ []
    → IsFirstOf run (Atom q cs)
is_first_atom run p q cs of same none =
    subst (λ (r : Run). IsFirstOf r (Atom q cs)) (sym of)
    (subst (λ (f : Fact). IsFirstOf (Atoms p) f) (λ i. Atom (sym same i) (sym none i)) (first_atom p))

pub is_first_value : (run : Run) (o s p t v : Const) → run ≡ SlotValues o s → p ≡ o → t ≡ s → v ≡ Int LEAST_INTEGER
    → IsFirstOf run (Frame p t v)
is_first_value run o s p t v of object slot least =
    subst (λ (r : Run). IsFirstOf r (Frame p t v)) (sym of)
    (subst (λ (f : Fact). IsFirstOf (SlotValues o s) f) (λ i. Frame (sym object i) (sym slot i) (sym least i))
    (first_value o s))

pub is_first_frame_of : (run : Run) (o p t v : Const) → run ≡ FramesOf o → p ≡ o → t ≡ Int LEAST_INTEGER
    → v ≡ Int LEAST_INTEGER → IsFirstOf run (Frame p t v)
is_first_frame_of run o p t v of object slot least =
    subst (λ (r : Run). IsFirstOf r (Frame p t v)) (sym of)
    (subst (λ (f : Fact). IsFirstOf (FramesOf o) f) (λ i. Frame (sym object i) (sym slot i) (sym least i))
    (first_frame_of o))

pub is_first_membership : (run : Run) (o p c : Const) → run ≡ MembershipsOf o → p ≡ o → c ≡ Int LEAST_INTEGER
    → IsFirstOf run (Member p c)
is_first_membership run o p c of object least =
    subst (λ (r : Run). IsFirstOf r (Member p c)) (sym of)
    (subst (λ (f : Fact). IsFirstOf (MembershipsOf o) f) (λ i. Member (sym object i) (sym least i))
    (first_membership o))

-- a walk, as it begins
pub walk_begins : (R : Fact → Fact → Ordering) → R ≡ fact_cmp → (run : Run) (first : Fact) → IsFirstOf run first
    → (es ds rest : List (Fact × Bool)) (found : List Fact) → found ≡ [] → es ≡ ds → IsMarked es
    → rest ≡ entries_between R (Included first) Unbounded es
    → found ++ walked (is_in_run run) rest ≡ filter (is_in_run run) (counted ds)
walk_begins R order run first is es ds rest found none same marked between =
    let P : (Fact → Fact → Ordering) → Type 0 = λ S. rest ≡ entries_between S (Included first) Unbounded es in
    ap₂ (λ fs (gs : List (Fact × Bool)). fs ++ walked (is_in_run run) gs) none (subst P order between)
    ∙ walk_finds run first is es marked.sorted marked.in_range
    ∙ ap (λ (gs : List (Fact × Bool)). filter (is_in_run run) (counted gs)) same
