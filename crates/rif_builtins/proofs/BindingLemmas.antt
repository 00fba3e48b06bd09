-- What the evaluation of a ready formula binds.
use Rattle.std.proofs.Common.{◌≡◌, ℕ, Bool, true, false, not, ◌&&◌, ◌||◌, ◌==◌, List, [], ◌∷◌, ◌++◌, length, map}
use Rattle.std.proofs.Common.{Some, None, filter, ap, ◌∙◌, sym, refl, subst, arith, append_assoc}
use Rattle.std.proofs.Common.{append-nil}
use Rattle.std.specs.List.{All, AllByRecursion, list_all, flat_map, filter_map, cons_option}
use Rattle.std.specs.Option.{IfSome}
use Rattle.std.specs.declared.option.Option.{Option}
use Rattle.std.proofs.lemmas.Bool.Decides.{nat_tests}
use Rattle.std.proofs.lemmas.List.Elements.{All-from_recursion, recursion_from_All, All-filter, All-contains}
use Rattle.std.proofs.lemmas.Cmp.{eq_by_cmp_equiv}
use Rattle.std.proofs.lemmas.Map.Views.{All-from_any}
use Rattle.rif_values.specs.Bindings.{Row, without_variables}
use Rattle.rif_values.specs.Order.{binding_cmp}
use Rattle.rif_values.specs.Sets.{ordered}
use Rattle.rif_sets.proofs.CallerLemmas.{has_ordered}
use Rattle.rif_values.proofs.CallerLemmas.{total_bindings, exact_bindings}
use Rattle.rif_tree.specs.declared.tree.Term.{Term}
use Rattle.rif_tree.specs.declared.tree.Formula.{Formula, map-Formula, roll-Formula}
use Rattle.rif_tree.specs.declared.tree.Formula.TheOpen.{Formula-F, And as AndLayer, Or as OrLayer, Not as NotLayer}
use Rattle.rif_tree.specs.declared.tree.Formula.TheOpen.{Exists as ExistsLayer, Equal as EqualLayer}
use Rattle.rif_tree.specs.declared.tree.Formula.TheOpen.{Member as MemberLayer, Frame as FrameLayer}
use Rattle.rif_tree.specs.declared.tree.Formula.TheOpen.{Atom as AtomLayer, Holds as HoldsLayer}
use Rattle.rif_tree.specs.declared.tree.Formula.TheFolds.{fold-Formula, fold-roll-Formula, ind-Formula}
use Rattle.rif_tree.specs.Laws.{AreSame, AreAmong}
use Rattle.rif_tree.specs.Ready.{Part, part_of, part_step, free_in, each_ready, branch_ready}
use Rattle.rif_tree.specs.Ready.{pattern_ready, slots_ready, equal_ready, is_ready}
use Rattle.rif_tree.specs.Scoped.{is_scoped, scoped_step, has_none}
use Rattle.rif_tree.specs.Variables.{has_variable, has_all, without, variables_of, variables_of_pair, slots_free}
use Rattle.rif_tree.proofs.CallerLemmas.{and_first, and_second, same_tests}
use Rattle.rif_tree.proofs.CallerLemmas.{has_append}
use Rattle.rif_tree.proofs.CallerLemmas.{has_all_elim, has_all_intro, has_all_append, has_all_more, among_front}
use Rattle.rif_tree.proofs.CallerLemmas.{among_back, among_append, has_without}
use Rattle.rif_tree.proofs.CallerLemmas.{part_free}
use Rattle.rif_builtins.specs.declared.pattern.Pattern.{Pattern}
use Rattle.rif_builtins.specs.declared.pattern.Pattern.TheVariants.{Atom as AtomPattern, Slot as SlotPattern}
use Rattle.rif_builtins.specs.declared.pattern.Pattern.TheVariants.{Member as MemberPattern}
use Rattle.rif_builtins.specs.Extensions.{FactBase, matchable, match_fact, matched, in_turn, slots_of, equal_row}
use Rattle.rif_builtins.specs.Extensions.{holds_at, through, through_step, extensions_of}
use Rattle.rif_builtins.specs.ExtensionLaws.{variables_in, IsExtension, terms_of, IsEvaluationBinding}
use Rattle.rif_builtins.specs.Values.{values_of}
use Rattle.rif_builtins.proofs.EqualLemmas.{equal_gives}
use Rattle.rif_builtins.proofs.MemberLemmas.{row_in}
use Rattle.rif_builtins.proofs.PatternLemmas.{if_some, fact_gives}
use Rattle.rif_builtins.proofs.RowLemmas.{extends_itself, extends_same, extends_on, extends_without, same_within}

-- ---- a scoped formula has free only what holds

abbrev FreeHolds : Formula → Type 0
FreeHolds f = (held : List ℕ) → is_scoped held f ≡ true → has_all held (part_of f).free ≡ true

abbrev KnownHolds : Type 0
KnownHolds = (f : Formula) × FreeHolds f

abbrev formula_of : KnownHolds → Formula
formula_of e = e.0

abbrev formulas_of : Formula-F KnownHolds → Formula-F Formula
formulas_of y = map-Formula KnownHolds Formula formula_of y

abbrev pub scope_of : Formula → List ℕ → Bool
scope_of = fold-Formula (List ℕ → Bool) scoped_step

abbrev pub all_scoped : List Formula → List ℕ → Bool
all_scoped fs held = list_all (λ (scope : List ℕ → Bool). scope held) (map scope_of fs)

each_holds : (es : List KnownHolds) (held : List ℕ) → all_scoped (map formula_of es) held ≡ true
    → has_all held (free_in (map part_of (map formula_of es))) ≡ true
each_holds [] held is = refl
each_holds (e ∷ es) held is =
    let later = all_scoped (map formula_of es) held in
    has_all_append held (part_of e.0).free (free_in (map part_of (map formula_of es)))
    (e.1 held (and_first (scope_of e.0 held) later is)) (each_holds es held (and_second (scope_of e.0 held) later is))

-- what holds inside and isn't declared there holds outside
held_outside : (held vs free : List ℕ) → has_all (held ++ vs) free ≡ true → has_all held (without vs free) ≡ true
held_outside held vs free all = has_all_intro held (without vs free) (λ v has.
    at v (has_variable free v) (has_variable vs v) refl refl (sym (has_without vs free v) ∙ has))
  where
    or_false : (a b : Bool) → b ≡ false → (a || b) ≡ true → a ≡ true
    or_false true b fails is = refl
    or_false false b fails is = sym fails ∙ is

    at : (v : ℕ) (there gone : Bool) → has_variable free v ≡ there → has_variable vs v ≡ gone
        → (there && not gone) ≡ true
        → has_variable held v ≡ true
    at v true false there gone is =
        or_false (has_variable held v) (has_variable vs v) gone
        (sym (has_append held vs v) ∙ has_all_elim (held ++ vs) free all v there)
    at v true true there gone is = absurd (cc is)
    at v false gone' there gone is = absurd (cc is)

inside_holds : (y : Formula-F KnownHolds) (held : List ℕ)
    → scoped_step (map-Formula Formula (List ℕ → Bool) scope_of (formulas_of y)) held ≡ true
    → has_all held (part_step (map-Formula Formula Part part_of (formulas_of y))).free ≡ true
inside_holds (AndLayer es) held is = each_holds es held is
inside_holds (OrLayer es) held is = each_holds es held is
inside_holds (NotLayer e) held is = e.1 held is
inside_holds (ExistsLayer vs e) held is =
    held_outside held vs (part_of e.0).free
    (e.1 (held ++ vs) (and_second (has_none held vs) (scope_of e.0 (held ++ vs)) is))
inside_holds (EqualLayer a b) held is = is
inside_holds (MemberLayer o c) held is = is
inside_holds (FrameLayer o pairs) held is = is
inside_holds (AtomLayer p ts) held is = is
inside_holds (HoldsLayer pred ts) held is = is

layer_holds : (y : Formula-F KnownHolds) → FreeHolds (roll-Formula (formulas_of y))
layer_holds y held is =
    let x = formulas_of y in
    ap (λ (p : Part). has_all held p.free) (fold-roll-Formula Part part_step x)
    ∙ inside_holds y held
    (sym (ap (λ (scope : List ℕ → Bool). scope held) (fold-roll-Formula (List ℕ → Bool) scoped_step x)) ∙ is)

pub free_holds : (f : Formula) → FreeHolds f
free_holds = ind-Formula FreeHolds (λ x y is. subst (λ z. FreeHolds (roll-Formula z)) is (layer_holds y))

-- what an `Exists` declares isn't bound
apart_at : (held us : List ℕ) (u v : ℕ) (held_first is_it : Bool) → has_variable held u ≡ held_first
    → (u == v) ≡ is_it
    → (has_none held us ≡ true → has_variable us v ≡ true → has_variable held v ≡ false)
    → (not held_first && has_none held us) ≡ true → (is_it || has_variable us v) ≡ true → has_variable held v ≡ false
apart_at held us u v true is_it' first is_it rest apart has = absurd (cc apart)
apart_at held us u v false true first is_it rest apart has =
    let same : u ≡ v = grind (arith, nat_tests) in subst (λ w. has_variable held w ≡ false) same first
apart_at held us u v false false first is_it rest apart has = rest apart has

apart_from : (held vs : List ℕ) (v : ℕ) → has_none held vs ≡ true → has_variable vs v ≡ true
    → has_variable held v ≡ false
apart_from held [] v apart has = absurd (cc has)
apart_from held (u ∷ us) v apart has =
    apart_at held us u v (has_variable held u) (u == v) refl refl
    (λ more one. apart_from held us v more one) apart has

pub declared_apart : (held bound vs : List ℕ) → has_all held bound ≡ true → has_none held vs ≡ true
    → (v : ℕ) → has_variable bound v ≡ true → has_variable vs v ≡ false
declared_apart held bound vs within apart v has = at (has_variable vs v) refl
  where
    at : (b : Bool) → has_variable vs v ≡ b → b ≡ false
    at false is = refl
    at true is = absurd (cc (sym (has_all_elim held bound within v has) ∙ apart_from held vs v apart is))

-- ---- each of some rows

pub each_one : (P Q : Row → Type 0) (rows : List Row) → ((row : Row) → P row → Q row) → AllByRecursion P rows
    → AllByRecursion Q rows
each_one P Q [] to each = tt
each_one P Q (row ∷ rows) to each = (to row each.0, each_one P Q rows to each.1)

each_append : (P : Row → Type 0) (xs ys : List Row) → AllByRecursion P xs → AllByRecursion P ys
    → AllByRecursion P (xs ++ ys)
each_append P [] ys first second = second
each_append P (x ∷ xs) ys first second = (first.0, each_append P xs ys first.1 second)

each_filter : (P : Row → Type 0) (test : Row → Bool) (rows : List Row) → AllByRecursion P rows
    → AllByRecursion P (filter test rows)
each_filter P test rows each =
    recursion_from_All P (filter test rows) (All-filter test P rows (All-from_recursion P rows each))

-- of each row that is put in order
all_ordered : (P : Row → Type 0) (rows : List Row) → All P rows → All P (ordered binding_cmp rows)
all_ordered P rows all =
    All-from_any (eq_by_cmp_equiv total_bindings) P (ordered binding_cmp rows) (λ next has.
    All-contains P rows next all
    ((row_in rows next).0 (sym (has_ordered total_bindings exact_bindings rows next) ∙ has)))

found_one : (P : Row → Type 0) (o : Option Row) (rows : List Row) → IfSome o P → AllByRecursion P rows
    → AllByRecursion P (cons_option o rows)
found_one P None rows one each = each
found_one P (Some row) rows one each = (one, each)

each_found : {X : Type 0} (P : Row → Type 0) (h : X → Option Row) (xs : List X) → ((x : X) → IfSome (h x) P)
    → AllByRecursion P (filter_map h xs)
each_found P h [] one = tt
each_found P h (x ∷ xs) one = found_one P (h x) (filter_map h xs) (one x) (each_found P h xs one)

-- each branch leaves the same variables bound
pub branch_same : (bound all vs : List ℕ) → has_all all vs ≡ true → has_all (bound ++ vs) all ≡ true
    → AreSame (bound ++ vs) (bound ++ all)
branch_same bound all vs part whole v =
    same_tests (has_variable (bound ++ vs) v) (has_variable (bound ++ all) v)
    (among_append bound vs (bound ++ all) (among_front bound all)
    (λ u has. among_back bound all u (has_all_elim all vs part u has)) v)
    (among_append bound all (bound ++ vs) (among_front bound vs) (has_all_elim (bound ++ vs) all whole) v)

-- ---- the law, for rows that extend one

module _ (base : FactBase) (start : Row) where
  abbrev From : List ℕ → List Row → Type 0
  From vs rows = AllByRecursion (IsExtension start vs) rows

  abbrev Claim : Formula → Type 0
  Claim f = (held bound : List ℕ) (rows : List Row) → has_all held bound ≡ true → is_scoped held f ≡ true
      → is_ready bound f ≡ true → AreAmong (variables_in start) bound → From bound rows
      → From (bound ++ (part_of f).free) (through base f rows)

  abbrev Known : Type 0
  Known = (f : Formula) × Claim f

  abbrev formula_in : Known → Formula
  formula_in e = e.0

  abbrev formulas_in : Formula-F Known → Formula-F Formula
  formulas_in y = map-Formula Known Formula formula_in y

  from_same : (us vs : List ℕ) (rows : List Row) → AreSame us vs → From us rows → From vs rows
  from_same us vs rows same =
      each_one (IsExtension start us) (IsExtension start vs) rows (λ row e. extends_same start row us vs same e)

  -- what each row gives extends it, and so the start
  go_on : (us vs : List ℕ) (row : Row) → IsExtension start us row → IsExtension row us row
  go_on us vs row e = extends_itself row us e.in_order e.variables

  matched_from : (p : Pattern) (rows : List Row) (vs : List ℕ) → From vs rows → pattern_ready vs (terms_of p) ≡ true
      → From (vs ++ flat_map variables_of (terms_of p)) (matched base p rows)
  matched_from p [] vs each ready = tt
  matched_from p (row ∷ rows) vs each ready =
      let us = vs ++ flat_map variables_of (terms_of p) in
      each_append (IsExtension start us) (filter_map (match_fact p row) (matchable base)) (matched base p rows)
      (each_found (IsExtension start us) (match_fact p row) (matchable base) (λ fact.
      if_some (IsExtension row us) (IsExtension start us) (match_fact p row fact)
      (λ next e. extends_on start row next vs us each.0 e)
      (fact_gives p row fact vs (extends_itself row vs each.0.in_order each.0.variables) ready)))
      (matched_from p rows vs each.1 ready)

  slots_from : (o : Term) (pairs : List (Term × Term)) (rows : List Row) (vs : List ℕ) → From vs rows
      → slots_ready o pairs vs ≡ true
      → From (vs ++ slots_free o pairs) (in_turn (map (matched base) (slots_of o pairs)) rows)
  slots_from o [] rows vs each ready = from_same vs (vs ++ []) rows (same_within vs [] refl) each
  slots_from o (pair ∷ pairs) rows vs each ready =
      let p = SlotPattern o pair.0 pair.1 in
      let us = variables_of o ++ variables_of_pair pair in
      let one = pattern_ready vs (terms_of p) in
      let later = slots_ready o pairs (vs ++ us) in
      let same : flat_map variables_of (terms_of p) ≡ us =
      ap (λ (xs : List ℕ). variables_of o ++ (variables_of pair.0 ++ xs)) (append-nil (variables_of pair.1)) in
      let found = subst (λ (xs : List ℕ). From (vs ++ xs) (matched base p rows)) same
      (matched_from p rows vs each (and_first one later ready)) in
      subst (λ (xs : List ℕ). From xs (in_turn (map (matched base) (slots_of o pairs)) (matched base p rows)))
      (append_assoc vs us (slots_free o pairs))
      (slots_from o pairs (matched base p rows) (vs ++ us) found (and_second one later ready))

  equal_from : (a b : Term) (rows : List Row) (vs : List ℕ) → From vs rows → equal_ready vs a b ≡ true
      → From (vs ++ (variables_of a ++ variables_of b)) (filter_map (equal_row a b) rows)
  equal_from a b [] vs each ready = tt
  equal_from a b (row ∷ rows) vs each ready =
      let us = vs ++ (variables_of a ++ variables_of b) in
      found_one (IsExtension start us) (equal_row a b row) (filter_map (equal_row a b) rows)
      (if_some _ (IsExtension start us) (equal_row a b row)
      (λ next gives. extends_on start row next vs us each.0 gives.0)
      (equal_gives a b row vs (extends_itself row vs each.0.in_order each.0.variables) ready))
      (equal_from a b rows vs each.1 ready)

  exists_from : (vs bound free : List ℕ) (rows : List Row) → AreAmong (variables_in start) bound
      → ((v : ℕ) → has_variable bound v ≡ true → has_variable vs v ≡ false) → From (bound ++ free) rows
      → From (bound ++ without vs free) (map (without_variables vs) rows)
  exists_from vs bound free [] within apart each = tt
  exists_from vs bound free (row ∷ rows) within apart each =
      let rest = exists_from vs bound free rows within apart each.1 in
      (extends_without start row bound free vs within apart each.0, rest)

  and_from : (es : List Known) (held bound : List ℕ) (rows : List Row) → has_all held bound ≡ true
      → all_scoped (map formula_in es) held ≡ true → each_ready (map part_of (map formula_in es)) bound ≡ true
      → AreAmong (variables_in start) bound → From bound rows
      → From (bound ++ free_in (map part_of (map formula_in es)))
      (in_turn (map (through base) (map formula_in es)) rows)
  and_from [] held bound rows within scoped ready among each =
      from_same bound (bound ++ []) rows (same_within bound [] refl) each
  and_from (e ∷ es) held bound rows within scoped ready among each =
      let fs = map formula_in es in
      let vs = (part_of e.0).free in
      let here = scope_of e.0 held in
      let more = each_ready (map part_of fs) (bound ++ vs) in
      let one = and_first here (all_scoped fs held) scoped in
      let first = e.1 held bound rows within one (and_first ((part_of e.0).is_ready bound) more ready) among each in
      subst (λ (xs : List ℕ). From xs (in_turn (map (through base) fs) (through base e.0 rows)))
      (append_assoc bound vs (free_in (map part_of fs)))
      (and_from es held (bound ++ vs) (through base e.0 rows)
      (has_all_append held bound vs within (free_holds e.0 held one))
      (and_second here (all_scoped fs held) scoped) (and_second ((part_of e.0).is_ready bound) more ready)
      (λ v has. among_front bound vs v (among v has)) first)

  or_from : (es : List Known) (held bound all : List ℕ) (rows : List Row) → has_all held bound ≡ true
      → has_all all (free_in (map part_of (map formula_in es))) ≡ true → all_scoped (map formula_in es) held ≡ true
      → list_all (branch_ready bound all) (map part_of (map formula_in es)) ≡ true
      → AreAmong (variables_in start) bound → From bound rows
      → From (bound ++ all) (flat_map (λ (step : List Row → List Row). step rows)
      (map (through base) (map formula_in es)))
  or_from [] held bound all rows within part scoped ready among each = tt
  or_from (e ∷ es) held bound all rows within part scoped ready among each =
      let fs = map formula_in es in
      let vs = (part_of e.0).free in
      let rest = free_in (map part_of fs) in
      let here = scope_of e.0 held in
      let more = list_all (branch_ready bound all) (map part_of fs) in
      let this = and_first (branch_ready bound all (part_of e.0)) more ready in
      let is = (part_of e.0).is_ready bound in
      let whole = has_all (bound ++ vs) all in
      let among_all = has_all_elim all (vs ++ rest) part in
      let mine = has_all_intro all vs (λ v has. among_all v (among_front vs rest v has)) in
      let others = has_all_intro all rest (λ v has. among_all v (among_back vs rest v has)) in
      let found = e.1 held bound rows within (and_first here (all_scoped fs held) scoped)
      (and_first is whole this) among each in
      each_append (IsExtension start (bound ++ all)) (through base e.0 rows)
      (flat_map (λ (step : List Row → List Row). step rows) (map (through base) fs))
      (from_same (bound ++ vs) (bound ++ all) (through base e.0 rows)
      (branch_same bound all vs mine (and_second is whole this)) found)
      (or_from es held bound all rows within others (and_second here (all_scoped fs held) scoped)
      (and_second (branch_ready bound all (part_of e.0)) more ready) among each)

  inside_from : (y : Formula-F Known) (held bound : List ℕ) (rows : List Row) → has_all held bound ≡ true
      → scoped_step (map-Formula Formula (List ℕ → Bool) scope_of (formulas_in y)) held ≡ true
      → (part_step (map-Formula Formula Part part_of (formulas_in y))).is_ready bound ≡ true
      → AreAmong (variables_in start) bound → From bound rows
      → From (bound ++ (part_step (map-Formula Formula Part part_of (formulas_in y))).free)
      (through_step base (map-Formula Formula (List Row → List Row) (through base) (formulas_in y)) rows)
  inside_from (AndLayer es) held bound rows within scoped ready among each =
      and_from es held bound rows within scoped ready among each
  inside_from (OrLayer es) held bound rows within scoped ready among each =
      let all = free_in (map part_of (map formula_in es)) in
      or_from es held bound all rows within (has_all_intro all all (λ v has. has)) scoped ready among each
  inside_from (NotLayer e) held bound rows within scoped ready among each =
      let vs = (part_of e.0).free in
      let test = λ (row : Row). length (through base e.0 (row ∷ [])) == 0 in
      from_same bound (bound ++ vs) (filter test rows)
      (same_within bound vs (and_first (has_all bound vs) ((part_of e.0).is_ready bound) ready))
      (each_filter (IsExtension start bound) test rows each)
  inside_from (ExistsLayer vs e) held bound rows within scoped ready among each =
      let apart = and_first (has_none held vs) (scope_of e.0 (held ++ vs)) scoped in
      exists_from vs bound (part_of e.0).free (through base e.0 rows) among
      (declared_apart held bound vs within apart)
      (e.1 (held ++ vs) bound rows
      (has_all_more held (held ++ vs) bound (among_front held vs) within)
      (and_second (has_none held vs) (scope_of e.0 (held ++ vs)) scoped) ready among each)
  inside_from (EqualLayer a b) held bound rows within scoped ready among each = equal_from a b rows bound each ready
  inside_from (MemberLayer o c) held bound rows within scoped ready among each =
      subst (λ (xs : List ℕ). From (bound ++ xs) (matched base (MemberPattern o c) rows))
      (ap (λ (xs : List ℕ). variables_of o ++ xs) (append-nil (variables_of c)))
      (matched_from (MemberPattern o c) rows bound each ready)
  inside_from (FrameLayer o pairs) held bound rows within scoped ready among each =
      slots_from o pairs rows bound each ready
  inside_from (AtomLayer p ts) held bound rows within scoped ready among each =
      matched_from (AtomPattern p ts) rows bound each ready
  inside_from (HoldsLayer pred ts) held bound rows within scoped ready among each =
      let vs = flat_map variables_of ts in
      let test = λ (row : Row). holds_at pred (values_of row ts) in
      from_same bound (bound ++ vs) (filter test rows) (same_within bound vs ready)
      (each_filter (IsExtension start bound) test rows each)

  layer_from : (y : Formula-F Known) → Claim (roll-Formula (formulas_in y))
  layer_from y held bound rows within scoped ready among each =
      let x = formulas_in y in
      let part = fold-roll-Formula Part part_step x in
      let step = fold-roll-Formula (List Row → List Row) (through_step base) x in
      let found = inside_from y held bound rows within
      (sym (ap (λ (scope : List ℕ → Bool). scope held) (fold-roll-Formula (List ℕ → Bool) scoped_step x)) ∙ scoped)
      (sym (ap (λ (p : Part). p.is_ready bound) part) ∙ ready) among each in
      subst (λ (p : Part). From (bound ++ p.free) (through base (roll-Formula x) rows)) (sym part)
      (subst (λ (k : List Row → List Row). From (bound ++ (part_step (map-Formula Formula Part part_of x)).free)
      (k rows))
      (sym step) found)

  pub through_from : (f : Formula) → Claim f
  through_from = ind-Formula Claim (λ x y is. subst (λ z. Claim (roll-Formula z)) is (layer_from y))

pub evaluation_binds : IsEvaluationBinding
evaluation_binds base f held vs row in_order same within scoped ready =
    let P : Row → Type 0 = IsExtension row (vs ++ (part_of f).free) in
    let rows = through base f (row ∷ []) in
    let each = through_from base row f held vs (row ∷ []) within scoped ready (λ v has. sym (same v) ∙ has)
    (extends_itself row vs in_order same, tt) in
    let all = All-from_recursion P rows each in
    subst (λ (xs : List ℕ). All (IsExtension row (vs ++ xs)) rows × All (IsExtension row (vs ++ xs))
    (extensions_of base row f))
    (part_free f) (all, all_ordered P rows all)
