-- The rows that a ready formula gives are those that extend the given one by its free variables and under which it is
-- true.
use Rattle.std.proofs.Common.{◌≡◌, ◌↔◌, ℕ, Bool, true, false, cond, not, ◌&&◌, ◌||◌, List, [], ◌∷◌, ◌++◌, map}
use Rattle.std.proofs.Common.{Some, None, ap, ◌∙◌, sym, refl, subst, append-nil, inl, inr}
use Rattle.std.specs.List.{AllByRecursion, Contains, list_all, flat_map}
use Rattle.std.specs.declared.option.Option.{Option}
use Rattle.std.proofs.lemmas.List.Elements.{Contains-append_left}
use Rattle.rif_values.specs.declared.constant.Const.{Const}
use Rattle.rif_values.specs.Bindings.{Row, IsBinding, value_at, without_variables}
use Rattle.rif_tree.specs.declared.tree.Term.{Term}
use Rattle.rif_tree.specs.declared.tree.Formula.{Formula, map-Formula, roll-Formula}
use Rattle.rif_tree.specs.declared.tree.Formula.TheVariants.{And, Or, Not, Exists, Frame}
use Rattle.rif_tree.specs.declared.tree.Formula.TheVariants.{rolls-And, rolls-Or, rolls-Not, rolls-Exists}
use Rattle.rif_tree.specs.declared.tree.Formula.TheVariants.{rolls-Equal}
use Rattle.rif_tree.specs.declared.tree.Formula.TheVariants.{rolls-Member, rolls-Frame, rolls-Atom, rolls-Holds}
use Rattle.rif_tree.specs.declared.tree.Formula.TheOpen.{Formula-F, And as AndLayer, Or as OrLayer, Not as NotLayer}
use Rattle.rif_tree.specs.declared.tree.Formula.TheOpen.{Exists as ExistsLayer, Equal as EqualLayer}
use Rattle.rif_tree.specs.declared.tree.Formula.TheOpen.{Member as MemberLayer, Frame as FrameLayer}
use Rattle.rif_tree.specs.declared.tree.Formula.TheOpen.{Atom as AtomLayer, Holds as HoldsLayer}
use Rattle.rif_tree.specs.declared.tree.Formula.TheFolds.{fold-roll-Formula, ind-Formula}
use Rattle.rif_tree.specs.Laws.{AreSame}
use Rattle.rif_tree.specs.Ready.{Part, part_of, part_step, free_in, each_ready, branch_ready}
use Rattle.rif_tree.specs.Ready.{pattern_ready, slots_ready, equal_ready}
use Rattle.rif_tree.specs.Scoped.{scoped_step, has_none}
use Rattle.rif_tree.specs.Variables.{has_variable, has_all, without, variables_of, variables_of_pair}
use Rattle.rif_tree.specs.Variables.{slots_free, free_of}
use Rattle.rif_tree.proofs.CallerLemmas.{and_first, and_second, has_all_elim, has_all_intro, has_all_append}
use Rattle.rif_tree.proofs.CallerLemmas.{has_all_more, has_append, has_without, same_more, among_same}
use Rattle.rif_tree.proofs.CallerLemmas.{among_front, among_back, part_free}
use Rattle.rif_builtins.specs.declared.pattern.Pattern.{Pattern}
use Rattle.rif_builtins.specs.declared.pattern.Pattern.TheVariants.{Atom as AtomPattern, Slot as SlotPattern}
use Rattle.rif_builtins.specs.declared.pattern.Pattern.TheVariants.{Member as MemberPattern}
use Rattle.rif_builtins.specs.Extensions.{FactBase, match_fact, slots_of, holds_at, equal_row, through}
use Rattle.rif_builtins.specs.ExtensionLaws.{variables_in, IsExtension, terms_of, IsMatched}
use Rattle.rif_builtins.specs.Truth.{AgreeOn, AgreeOutside, IsFactUnder, IsSome, truth_step, IsTrueUnder}
use Rattle.rif_builtins.specs.Values.{values_of, value_of}
use Rattle.rif_builtins.proofs.BindingLemmas.{scope_of, all_scoped, free_holds, declared_apart, branch_same}
use Rattle.rif_builtins.proofs.EqualLemmas.{equality_exact}
use Rattle.rif_builtins.proofs.FilledLemmas.{or_else, filled, value_filled, order_filled}
use Rattle.rif_builtins.proofs.FormLemmas.{by_form}
use Rattle.rif_builtins.proofs.MemberLemmas.{row_in}
use Rattle.rif_builtins.proofs.PatternLemmas.{matching_exact}
use Rattle.rif_builtins.proofs.RowLemmas.{is_there, has_is_there, value_has, value_without, extends_itself}
use Rattle.rif_builtins.proofs.RowLemmas.{extends_same, extends_without, same_within, same_extension}
use Rattle.rif_builtins.proofs.TruthLemmas.{depends, fact_depends, truth_roll}
use Rattle.rif_builtins.proofs.TruthStepLemmas.{iff_then, pattern_same, equal_same, alone_to, alone_from, stays}
use Rattle.rif_builtins.proofs.TruthStepLemmas.{test_exact, chain, some_contains}

-- ---- the forms

module _ (base : FactBase) where
  abbrev Gives : Formula → Row → Row → Type 0
  Gives f row next = Contains (through base f (row ∷ [])) next

  abbrev Claimed : Formula → List ℕ → (Row → Type 0) → (List ℕ → Bool) → (List ℕ → Bool) → Type 0
  Claimed f free truth scoped ready =
      (held bound : List ℕ) (row next : Row) → IsBinding row → AreSame (variables_in row) bound
      → has_all held bound ≡ true → scoped held ≡ true → ready bound ≡ true
      → Gives f row next ↔ (IsExtension row (bound ++ free) next × truth next)

  abbrev pub Exact : Formula → Type 0
  Exact f = Claimed f (part_of f).free (IsTrueUnder base f) (scope_of f) (part_of f).is_ready

  abbrev Known : Type 0
  Known = (f : Formula) × Exact f

  abbrev formula_in : Known → Formula
  formula_in e = e.0

  abbrev formulas_in : Formula-F Known → Formula-F Formula
  formulas_in y = map-Formula Known Formula formula_in y

  pattern_exact : (p : Pattern) (bound : List ℕ) (row next : Row) → IsBinding row → AreSame (variables_in row) bound
      → pattern_ready bound (terms_of p) ≡ true
      → IsMatched base p (row ∷ []) next
      ↔ (IsExtension row (bound ++ flat_map variables_of (terms_of p)) next × IsFactUnder base p next)
  pattern_exact p bound row next in_order same ready = (there, back)
    where
      vs : List ℕ
      vs = variables_in row

      us : List ℕ
      us = flat_map variables_of (terms_of p)

      at_row : pattern_ready vs (terms_of p) ≡ true
      at_row = pattern_same vs bound (terms_of p) same ∙ ready

      there : IsMatched base p (row ∷ []) next → IsExtension row (bound ++ us) next × IsFactUnder base p next
      there m =
          let is = (matching_exact p row m.1 next in_order at_row).0
          (ap (λ r. match_fact p r m.1) (sym (alone_to row m.0 m.2)) ∙ m.4) in (
            extends_same row next (vs ++ us) (bound ++ us) (same_more vs bound us same) is.extends,
            record { fact = m.1; there = m.3; kind = is.kind; values = is.values },
          )

      back : IsExtension row (bound ++ us) next × IsFactUnder base p next → IsMatched base p (row ∷ []) next
      back (e, is) = (
        row,
        is.fact,
        alone_from row,
        is.there,
        (matching_exact p row is.fact next in_order at_row).1 (record {
          kind = is.kind;
          extends = extends_same row next (bound ++ us) (vs ++ us) (λ v. sym (same_more vs bound us same v)) e;
          values = is.values;
        }),
      )

  equal_exact : (a b : Term) (bound : List ℕ) (row next : Row) → IsBinding row → AreSame (variables_in row) bound
      → equal_ready bound a b ≡ true
      → ((r : Row) × Contains (row ∷ []) r × (equal_row a b r ≡ Some next))
      ↔ (IsExtension row (bound ++ (variables_of a ++ variables_of b)) next
      × ((c : Const) × (value_of next a ≡ Some c) × (value_of next b ≡ Some c)))
  equal_exact a b bound row next in_order same ready =
      let vs = variables_in row in
      let us = variables_of a ++ variables_of b in
      let by = equality_exact a b row next in_order (equal_same vs bound a b same ∙ ready) in (
        λ m. let is = by.0 (ap (equal_row a b) (sym (alone_to row m.0 m.1)) ∙ m.2) in
            (extends_same row next (vs ++ us) (bound ++ us) (same_more vs bound us same) is.extends, is.value),
        λ both. (
          row,
          alone_from row,
          by.1 (record {
            extends = extends_same row next (bound ++ us) (vs ++ us) (λ v. sym (same_more vs bound us same v)) both.0;
            value = both.1;
          }),
        ),
      )

  -- nothing to ask
  empty_exact : (bound : List ℕ) (row next : Row) → IsBinding row → AreSame (variables_in row) bound
      → Contains (row ∷ []) next ↔ (IsExtension row (bound ++ []) next × Unit {0})
  empty_exact bound row next in_order same =
      let by = test_exact row next bound [] in_order same refl (λ r. Unit {0}) in
      (λ there. by.0 (there, tt), λ both. (by.1 both).0)

  and_exact : (es : List Known)
      → Claimed (And (map formula_in es)) (free_in (map part_of (map formula_in es)))
      (λ next. AllByRecursion (λ f. IsTrueUnder base f next) (map formula_in es)) (all_scoped (map formula_in es))
      (each_ready (map part_of (map formula_in es)))
  and_exact [] held bound row next in_order same within scoped ready =
      iff_then (by_form base (row ∷ []) next).empty_conjunction (empty_exact bound row next in_order same)
  and_exact (e ∷ es) held bound row next in_order same within scoped ready =
      let fs = map formula_in es in
      let us = (part_of e.0).free in
      let here = scope_of e.0 held in
      let more = each_ready (map part_of fs) (bound ++ us) in
      let one = and_first here (all_scoped fs held) scoped in
      iff_then ((by_form base (row ∷ []) next).conjunction e.0 fs)
      (chain row next bound us (free_in (map part_of fs)) (IsTrueUnder base e.0)
      (λ r. AllByRecursion (λ f. IsTrueUnder base f r) fs) (Gives e.0 row) (λ mid. Gives (And fs) mid next) same
      (λ r s agree. depends base e.0 r s (subst (λ (xs : List ℕ). AgreeOn xs r s) (part_free e.0) agree))
      (λ mid. e.1 held bound row mid in_order same within one
      (and_first ((part_of e.0).is_ready bound) more ready))
      (λ mid to. and_exact es held (bound ++ us) mid next to.in_order to.variables
      (has_all_append held bound us within (free_holds e.0 held one)) (and_second here (all_scoped fs held) scoped)
      (and_second ((part_of e.0).is_ready bound) more ready)))

  frame_exact : (o : Term) (pairs : List (Term × Term)) (bound : List ℕ) (row next : Row) → IsBinding row
      → AreSame (variables_in row) bound → slots_ready o pairs bound ≡ true
      → Gives (Frame o pairs) row next
      ↔ (IsExtension row (bound ++ slots_free o pairs) next
      × AllByRecursion (λ slot. IsFactUnder base slot next) (slots_of o pairs))
  frame_exact o [] bound row next in_order same ready =
      iff_then ((by_form base (row ∷ []) next).empty_frame o) (empty_exact bound row next in_order same)
  frame_exact o (pair ∷ pairs) bound row next in_order same ready =
      let p = SlotPattern o pair.0 pair.1 in
      let us = variables_of o ++ variables_of_pair pair in
      let one = pattern_ready bound (terms_of p) in
      let later = slots_ready o pairs (bound ++ us) in
      let alike : flat_map variables_of (terms_of p) ≡ us =
      ap (λ (xs : List ℕ). variables_of o ++ (variables_of pair.0 ++ xs)) (append-nil (variables_of pair.1)) in
      iff_then ((by_form base (row ∷ []) next).frame o pair pairs)
      (chain row next bound us (slots_free o pairs) (IsFactUnder base p)
      (λ r. AllByRecursion (λ slot. IsFactUnder base slot r) (slots_of o pairs)) (IsMatched base p (row ∷ []))
      (λ mid. Gives (Frame o pairs) mid next) same
      (λ r s agree. fact_depends base p r s (subst (λ (xs : List ℕ). AgreeOn xs r s) (sym alike) agree))
      (λ mid. subst (λ (xs : List ℕ). IsMatched base p (row ∷ []) mid
      ↔ (IsExtension row (bound ++ xs) mid × IsFactUnder base p mid)) alike
      (pattern_exact p bound row mid in_order same (and_first one later ready)))
      (λ mid to. frame_exact o pairs (bound ++ us) mid next to.in_order to.variables (and_second one later ready)))

  some_exact : (es : List Known) (held bound all : List ℕ) (row next : Row) → IsBinding row
      → AreSame (variables_in row) bound → has_all held bound ≡ true
      → has_all all (free_in (map part_of (map formula_in es))) ≡ true → all_scoped (map formula_in es) held ≡ true
      → list_all (branch_ready bound all) (map part_of (map formula_in es)) ≡ true
      → IsSome (λ f. Gives f row next) (map formula_in es)
      ↔ (IsExtension row (bound ++ all) next × IsSome (λ f. IsTrueUnder base f next) (map formula_in es))
  some_exact [] held bound all row next in_order same within part scoped ready =
      (λ none. absurd none, λ both. both.1)
  some_exact (e ∷ es) held bound all row next in_order same within part scoped ready =
      let fs = map formula_in es in
      let us = (part_of e.0).free in
      let rest = free_in (map part_of fs) in
      let here = scope_of e.0 held in
      let more = list_all (branch_ready bound all) (map part_of fs) in
      let this = and_first (branch_ready bound all (part_of e.0)) more ready in
      let is = (part_of e.0).is_ready bound in
      let whole = has_all (bound ++ us) all in
      let among_all = has_all_elim all (us ++ rest) part in
      let mine = has_all_intro all us (λ v has. among_all v (among_front us rest v has)) in
      let others = has_all_intro all rest (λ v has. among_all v (among_back us rest v has)) in
      let alike = branch_same bound all us mine (and_second is whole this) in
      let one = e.1 held bound row next in_order same within (and_first here (all_scoped fs held) scoped)
      (and_first is whole this) in
      let later = some_exact es held bound all row next in_order same within others
      (and_second here (all_scoped fs held) scoped)
      (and_second (branch_ready bound all (part_of e.0)) more ready) in
      (there us alike one later, back us alike one later)
    where
      there : (us : List ℕ) → AreSame (bound ++ us) (bound ++ all)
          → (Gives e.0 row next ↔ (IsExtension row (bound ++ us) next × IsTrueUnder base e.0 next))
          → (IsSome (λ f. Gives f row next) (map formula_in es)
          ↔ (IsExtension row (bound ++ all) next × IsSome (λ f. IsTrueUnder base f next) (map formula_in es)))
          → IsSome (λ f. Gives f row next) (map formula_in (e ∷ es))
          → IsExtension row (bound ++ all) next × IsSome (λ f. IsTrueUnder base f next) (map formula_in (e ∷ es))
      there us alike one later (inl g) =
          let both = one.0 g in (extends_same row next (bound ++ us) (bound ++ all) alike both.0, inl both.1)
      there us alike one later (inr g) = let both = later.0 g in (both.0, inr both.1)

      back : (us : List ℕ) → AreSame (bound ++ us) (bound ++ all)
          → (Gives e.0 row next ↔ (IsExtension row (bound ++ us) next × IsTrueUnder base e.0 next))
          → (IsSome (λ f. Gives f row next) (map formula_in es)
          ↔ (IsExtension row (bound ++ all) next × IsSome (λ f. IsTrueUnder base f next) (map formula_in es)))
          → IsExtension row (bound ++ all) next × IsSome (λ f. IsTrueUnder base f next) (map formula_in (e ∷ es))
          → IsSome (λ f. Gives f row next) (map formula_in (e ∷ es))
      back us alike one later (to, inl is) =
          inl (one.1 (extends_same row next (bound ++ all) (bound ++ us) (λ v. sym (alike v)) to, is))
      back us alike one later (to, inr is) = inr (later.1 (to, is))

  or_exact : (es : List Known)
      → Claimed (Or (map formula_in es)) (free_in (map part_of (map formula_in es)))
      (λ next. IsSome (λ f. IsTrueUnder base f next) (map formula_in es)) (all_scoped (map formula_in es))
      (λ bound. list_all (branch_ready bound (free_in (map part_of (map formula_in es))))
      (map part_of (map formula_in es)))
  or_exact es held bound row next in_order same within scoped ready =
      let fs = map formula_in es in
      let all = free_in (map part_of fs) in
      iff_then ((by_form base (row ∷ []) next).disjunction fs)
      (iff_then (some_contains (λ f. Gives f row next) fs)
      (some_exact es held bound all row next in_order same within (has_all_intro all all (λ v has. has)) scoped
      ready))

  -- a formula gives nothing of a row that has its variables where it isn't true under the row
  none_exact : (e : Known) (held bound : List ℕ) (row : Row) → IsBinding row → AreSame (variables_in row) bound
      → has_all held bound ≡ true → scope_of e.0 held ≡ true → has_all bound (part_of e.0).free ≡ true
      → (part_of e.0).is_ready bound ≡ true
      → (through base e.0 (row ∷ []) ≡ []) ↔ (IsTrueUnder base e.0 row → ⊥)
  none_exact e held bound row in_order same within scoped all ready =
      (none_true, λ never. none (through base e.0 (row ∷ [])) refl never)
    where
      us : List ℕ
      us = (part_of e.0).free

      none_true : through base e.0 (row ∷ []) ≡ [] → IsTrueUnder base e.0 row → ⊥
      none_true empty is =
          let to = extends_same row row bound (bound ++ us) (same_within bound us all)
          (extends_itself row bound in_order same) in
          let there = (e.1 held bound row row in_order same within scoped ready).1 (to, is) in
          absurd (cc ((row_in [] row).1 (subst (λ (rows : List Row). Contains rows row) empty there)))

      none : (rows : List Row) → through base e.0 (row ∷ []) ≡ rows → (IsTrueUnder base e.0 row → ⊥)
          → through base e.0 (row ∷ []) ≡ []
      none [] same_rows never = same_rows
      none (r ∷ rs) same_rows never =
          let there = Contains-append_left (r ∷ []) rs r (alone_from r) in
          let both = (e.1 held bound row r in_order same within scoped ready).0
          (subst (λ (rows : List Row). Contains rows r) (sym same_rows) there) in
          absurd (never (subst (IsTrueUnder base e.0) (stays row r bound us in_order same all both.0) both.1))

  not_exact : (e : Known)
      → Claimed (Not e.0) (part_of e.0).free (λ next. IsTrueUnder base e.0 next → ⊥) (scope_of e.0)
      (λ bound. has_all bound (part_of e.0).free && (part_of e.0).is_ready bound)
  not_exact e held bound row next in_order same within scoped ready =
      let us = (part_of e.0).free in
      let all = and_first (has_all bound us) ((part_of e.0).is_ready bound) ready in
      let at_row = none_exact e held bound row in_order same within scoped all
      (and_second (has_all bound us) ((part_of e.0).is_ready bound) ready) in
      let by = test_exact row next bound us in_order same all (λ r. IsTrueUnder base e.0 r → ⊥) in
      let at_next = λ (there : Contains (row ∷ []) next).
      subst (λ r. (through base e.0 (r ∷ []) ≡ []) ↔ (IsTrueUnder base e.0 r → ⊥)) (sym (alone_to row next there))
      at_row in
      iff_then ((by_form base (row ∷ []) next).negation e.0)
      (iff_then (λ both. (both.0, (at_next both.0).0 both.1), λ both. (both.0, (at_next both.0).1 both.1)) by)

-- ---- an `Exists`

module _ (base : FactBase) (vs : List ℕ) (e : Known base) (held bound : List ℕ) (row next : Row)
    (in_order : IsBinding row) (same : AreSame (variables_in row) bound) (within : has_all held bound ≡ true)
    (apart : has_none held vs ≡ true) (scoped : scope_of e.0 (held ++ vs) ≡ true)
    (ready : (part_of e.0).is_ready bound ≡ true) where
  abbrev us : List ℕ
  us = (part_of e.0).free

  abbrev IsTrueInside : Row → Type 0
  IsTrueInside r =
      (other : Row) × AgreeOutside vs r other × (has_all (variables_in other) (free_of e.0) ≡ true)
      × IsTrueUnder base e.0 other

  undeclared : (v : ℕ) → has_variable bound v ≡ true → has_variable vs v ≡ false
  undeclared = declared_apart held bound vs within apart

  inside : (mid : Row)
      → Contains (through base e.0 (row ∷ [])) mid
      ↔ (IsExtension row (bound ++ us) mid × IsTrueUnder base e.0 mid)
  inside mid =
      e.1 (held ++ vs) bound row mid in_order same (has_all_more held (held ++ vs) bound (among_front held vs) within)
      scoped ready

  taken_away : (mid : Row) → IsExtension row (bound ++ us) mid
      → IsExtension row (bound ++ without vs us) (without_variables vs mid)
  taken_away mid to = extends_without row mid bound us vs (among_same (variables_in row) bound same) undeclared to

  exists_there : ((mid : Row) × Contains (through base e.0 (row ∷ [])) mid × (without_variables vs mid ≡ next))
      → IsExtension row (bound ++ without vs us) next × IsTrueInside next
  exists_there (mid, there, is) =
      let both = (inside mid).0 there in
      let whole : has_all (variables_in mid) us ≡ true =
      has_all_intro (variables_in mid) us (λ v has. both.0.variables v ∙ among_back bound us v has) in (
        subst (λ r. IsExtension row (bound ++ without vs us) r) is (taken_away mid both.0),
        (
          mid,
          λ v out. ap (λ r. value_at r v) (sym is) ∙ value_without vs mid v out,
          subst (λ (xs : List ℕ). has_all (variables_in mid) xs ≡ true) (part_free e.0) whole,
          both.1,
        ),
      )

  module _ (to : IsExtension row (bound ++ without vs us) next) (other : Row) (outside : AgreeOutside vs next other)
      (whole : has_all (variables_in other) us ≡ true) where
    abbrev mid : Row
    mid = filled us other next

    -- a variable of next isn't declared
    next_outside : (v : ℕ) → has_variable (bound ++ without vs us) v ≡ true → has_variable vs v ≡ false
    next_outside v has =
        at (has_variable bound v) (has_variable us v) (has_variable vs v) refl refl
        (ap (λ b. has_variable bound v || b) (sym (has_without vs us v)) ∙ sym (has_append bound (without vs us) v)
        ∙ has)
      where
        at : (b u d : Bool) → has_variable bound v ≡ b → has_variable vs v ≡ d → (b || (u && not d)) ≡ true
            → d ≡ false
        at b u false is out some = refl
        at true u true is out some = absurd (cc (sym (undeclared v is) ∙ out))
        at false true true is out some = absurd (cc some)
        at false false true is out some = absurd (cc some)

    other_has : (v : ℕ) → has_variable us v ≡ true → is_there (value_at other v) ≡ true
    other_has v has = sym (has_is_there other v) ∙ has_all_elim (variables_in other) us whole v has

    either_there : (o m : Option Const) (b u d : Bool) → is_there o ≡ (b || (u && not d))
        → (u ≡ true → is_there m ≡ true)
        → is_there (or_else o (cond u m None)) ≡ (b || u)
    either_there (Some c) m true u d is some = refl
    either_there (Some c) m false true d is some = refl
    either_there (Some c) m false false d is some = is
    either_there None m true u d is some = absurd (cc is)
    either_there None m false true d is some = some refl
    either_there None m false false d is some = refl

    mid_first : (o : Option Const) (x : Option Const) (c : Const) → o ≡ Some c → or_else o x ≡ Some c
    mid_first o x c is = ap (λ y. or_else y x) is

    mid_keeps : (v : ℕ) (c : Const) → value_at next v ≡ Some c → value_at mid v ≡ Some c
    mid_keeps v c is =
        value_filled us other next v
        ∙ mid_first (value_at next v) (cond (has_variable us v) (value_at other v) None) c is

    mid_extends : IsExtension row (bound ++ us) mid
    mid_extends = record {
      in_order = order_filled us other next to.in_order;
      values = λ v c is. mid_keeps v c (to.values v c is);
      variables = λ v. has_is_there mid v ∙ ap is_there (value_filled us other next v)
          ∙ either_there (value_at next v) (value_at other v) (has_variable bound v) (has_variable us v)
          (has_variable vs v)
          (sym (has_is_there next v) ∙ to.variables v ∙ has_append bound (without vs us) v
          ∙ ap (λ b. has_variable bound v || b) (has_without vs us v)) (other_has v)
          ∙ sym (has_append bound us v);
    }

    mid_agrees : AgreeOn us other mid
    mid_agrees v has =
        sym (value_filled us other next v ∙ ap (λ b. or_else (value_at next v) (cond b (value_at other v) None)) has
        ∙ at (value_at next v) refl)
      where
        at : (o : Option Const) → value_at next v ≡ o → or_else o (value_at other v) ≡ value_at other v
        at None is = refl
        at (Some c) is =
            sym is ∙ outside v (next_outside v (sym (to.variables v) ∙ value_has next v c is))

    mid_without : without_variables vs mid ≡ next
    mid_without =
        sym (same_extension row next (without_variables vs mid) (bound ++ without vs us) to
        (taken_away mid mid_extends)
        (λ v c is. value_without vs mid v (next_outside v (sym (to.variables v) ∙ value_has next v c is))
        ∙ mid_keeps v c is))

  exists_back : IsExtension row (bound ++ without vs us) next × IsTrueInside next
      → (mid : Row) × Contains (through base e.0 (row ∷ [])) mid × (without_variables vs mid ≡ next)
  exists_back (to, (other, outside, whole, is)) =
      let part = part_free e.0 in
      let all : has_all (variables_in other) us ≡ true =
      subst (λ (xs : List ℕ). has_all (variables_in other) xs ≡ true) (sym part) whole in
      let agrees = mid_agrees to other outside all in (
        mid to other outside all,
        (inside (mid to other outside all)).1 (
          mid_extends to other outside all,
          depends base e.0 other (mid to other outside all)
              (subst (λ (xs : List ℕ). AgreeOn xs other (mid to other outside all)) part agrees) is,
        ),
        mid_without to other outside all,
      )

-- ---- all forms

module _ (base : FactBase) where
  exists_exact : (vs : List ℕ) (e : Known base)
      → Claimed base (Exists vs e.0) (without vs (part_of e.0).free)
      (λ next. (other : Row) × AgreeOutside vs next other × (has_all (variables_in other) (free_of e.0) ≡ true)
      × IsTrueUnder base e.0 other)
      (λ held. has_none held vs && scope_of e.0 (held ++ vs)) (part_of e.0).is_ready
  exists_exact vs e held bound row next in_order same within scoped ready =
      let apart = and_first (has_none held vs) (scope_of e.0 (held ++ vs)) scoped in
      let inner = and_second (has_none held vs) (scope_of e.0 (held ++ vs)) scoped in
      iff_then ((by_form base (row ∷ []) next).existential vs e.0) (
        exists_there base vs e held bound row next in_order same within apart inner ready,
        exists_back base vs e held bound row next in_order same within apart inner ready,
      )

  abbrev LayerClaimed : Formula-F (Known base) → Formula → Type 0
  LayerClaimed y f =
      let x = formulas_in base y in
      Claimed base f (part_step (map-Formula Formula Part part_of x)).free
      (truth_step base Formula (λ g. g) (IsTrueUnder base) x)
      (scoped_step (map-Formula Formula (List ℕ → Bool) scope_of x))
      (part_step (map-Formula Formula Part part_of x)).is_ready

  inside_exact : (y : Formula-F (Known base)) → LayerClaimed y (roll-Formula (formulas_in base y))
  inside_exact (AndLayer es) =
      subst (LayerClaimed (AndLayer es)) (sym (rolls-And (map (formula_in base) es))) (and_exact base es)
  inside_exact (OrLayer es) =
      subst (LayerClaimed (OrLayer es)) (sym (rolls-Or (map (formula_in base) es))) (or_exact base es)
  inside_exact (NotLayer e) = subst (LayerClaimed (NotLayer e)) (sym (rolls-Not e.0)) (not_exact base e)
  inside_exact (ExistsLayer vs e) =
      subst (LayerClaimed (ExistsLayer vs e)) (sym (rolls-Exists vs e.0)) (exists_exact vs e)
  inside_exact (EqualLayer a b) =
      subst (LayerClaimed (EqualLayer a b)) (sym (rolls-Equal a b))
      (λ held bound row next in_order same within scoped ready.
      iff_then ((by_form base (row ∷ []) next).equality a b)
      (equal_exact base a b bound row next in_order same ready))
  inside_exact (MemberLayer o c) =
      subst (LayerClaimed (MemberLayer o c)) (sym (rolls-Member o c))
      (λ held bound row next in_order same within scoped ready.
      iff_then ((by_form base (row ∷ []) next).membership o c)
      (subst (λ (xs : List ℕ). IsMatched base (MemberPattern o c) (row ∷ []) next
      ↔ (IsExtension row (bound ++ (variables_of o ++ xs)) next × IsFactUnder base (MemberPattern o c) next))
      (append-nil (variables_of c)) (pattern_exact base (MemberPattern o c) bound row next in_order same ready)))
  inside_exact (FrameLayer o pairs) =
      subst (LayerClaimed (FrameLayer o pairs)) (sym (rolls-Frame o pairs))
      (λ held bound row next in_order same within scoped ready.
      frame_exact base o pairs bound row next in_order same ready)
  inside_exact (AtomLayer p ts) =
      subst (LayerClaimed (AtomLayer p ts)) (sym (rolls-Atom p ts))
      (λ held bound row next in_order same within scoped ready.
      iff_then ((by_form base (row ∷ []) next).atom p ts)
      (pattern_exact base (AtomPattern p ts) bound row next in_order same ready))
  inside_exact (HoldsLayer pred ts) =
      subst (LayerClaimed (HoldsLayer pred ts)) (sym (rolls-Holds pred ts))
      (λ held bound row next in_order same within scoped ready.
      iff_then ((by_form base (row ∷ []) next).predicate pred ts)
      (test_exact row next bound (flat_map variables_of ts) in_order same ready
      (λ r. holds_at pred (values_of r ts) ≡ true)))

  layer_exact : (y : Formula-F (Known base)) → Exact base (roll-Formula (formulas_in base y))
  layer_exact y =
      let x = formulas_in base y in
      let f = roll-Formula x in
      let part = part_step (map-Formula Formula Part part_of x) in
      let scope = scoped_step (map-Formula Formula (List ℕ → Bool) scope_of x) in
      subst (λ (p : Part). Claimed base f p.free (IsTrueUnder base f) (scope_of f) p.is_ready)
      (sym (fold-roll-Formula Part part_step x))
      (subst (λ (s : List ℕ → Bool). Claimed base f part.free (IsTrueUnder base f) s part.is_ready)
      (sym (fold-roll-Formula (List ℕ → Bool) scoped_step x))
      (subst (λ (truth : Row → Type 0). Claimed base f part.free truth scope part.is_ready)
      (sym (truth_roll base x)) (inside_exact y)))

  pub exact : (f : Formula) → Exact base f
  exact = ind-Formula (Exact base) (λ x y is. subst (λ z. Exact base (roll-Formula z)) is (layer_exact y))
