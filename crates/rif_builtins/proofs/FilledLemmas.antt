-- Rows that are filled with the values of others, and rows that agree on some variables.
use Rattle.std.proofs.Common.{◌≡◌, ℕ, Bool, true, false, cond, not, ◌||◌, ◌==◌, List, [], ◌∷◌, ◌++◌, map, Some, None}
use Rattle.std.proofs.Common.{ap, ap₂, ◌∙◌, sym, refl, subst, arith}
use Rattle.std.specs.List.{flat_map}
use Rattle.std.specs.declared.option.Option.{Option}
use Rattle.std.proofs.lemmas.Bool.Decides.{nat_tests}
use Rattle.std.proofs.lemmas.List.Folds.{flat_map-map}
use Rattle.rif_values.specs.declared.constant.Const.{Const}
use Rattle.rif_values.specs.Bindings.{Row, IsBinding, value_at, bound, without_variables}
use Rattle.rif_values.proofs.CallerLemmas.{binding_bound}
use Rattle.rif_tree.specs.declared.tree.Term.{Term, map-Term, roll-Term}
use Rattle.rif_tree.specs.declared.tree.Term.TheOpen.{Term-F, Const as ConstLayer, Var as VarLayer, Call as CallLayer}
use Rattle.rif_tree.specs.declared.tree.Term.TheFolds.{fold-roll-Term, ind-Term}
use Rattle.rif_tree.specs.Laws.{AreAmong}
use Rattle.rif_tree.specs.Variables.{has_variable, variables_of, variables_step}
use Rattle.rif_tree.proofs.CallerLemmas.{among_front, among_back}
use Rattle.rif_builtins.specs.ExtensionLaws.{variables_in}
use Rattle.rif_builtins.specs.Truth.{AgreeOn}
use Rattle.rif_builtins.specs.Values.{value_of, value_step, values_of, all_of, call_value}
use Rattle.rif_builtins.proofs.RowLemmas.{is_there, has_is_there, value_bound, Keeps}

-- ---- one value or another

abbrev pub or_else : Option Const → Option Const → Option Const
or_else None o = o
or_else (Some c) o = Some c

pub or_none : (o : Option Const) → or_else o None ≡ o
or_none None = refl
or_none (Some c) = refl

pub or_self : (o : Option Const) → or_else o o ≡ o
or_self None = refl
or_self (Some c) = refl

-- of one of two lists
or_both : (o m : Option Const) (a b : Bool)
    → or_else (or_else o (cond b m None)) (cond a m None) ≡ or_else o (cond (a || b) m None)
or_both (Some c) m a b = refl
or_both None m true true = or_self m
or_both None m false true = or_none m
or_both None m true false = refl
or_both None m false false = refl

-- ---- a row with the values of another for some variables that it has none for

abbrev put : Row → ℕ → Option Const → Option Const → Row
put row u (Some d) o = row
put row u None None = row
put row u None (Some c) = bound row u c

abbrev pub filled : List ℕ → Row → Row → Row
filled [] source row = row
filled (u ∷ us) source row =
    put (filled us source row) u (value_at (filled us source row) u) (value_at source u)

value_put : (row : Row) (u : ℕ) (o : Option Const) (v : ℕ)
    → value_at (put row u (value_at row u) o) v ≡ or_else (value_at row v) (cond (u == v) o None)
value_put row u o v = at (value_at row u) refl o
  where
    same_value : (u == v) ≡ true → (here : Option Const) → value_at row u ≡ here → value_at row v ≡ here
    same_value one here is =
        let same : u ≡ v = grind (arith, nat_tests) in subst (λ w. value_at row w ≡ here) same is

    kept : (d : Const) (x : Option Const) → value_at row u ≡ Some d → (b : Bool) → (u == v) ≡ b
        → value_at row v ≡ or_else (value_at row v) (cond b x None)
    kept d x is false other = sym (or_none (value_at row v))
    kept d x is true one =
        let w = same_value one (Some d) is in w ∙ sym (ap (λ y. or_else y x) w)

    none : (b : Bool) → value_at row v ≡ or_else (value_at row v) (cond b None None)
    none true = sym (or_none (value_at row v))
    none false = sym (or_none (value_at row v))

    more : (c : Const) → value_at row u ≡ None → (b : Bool) → (u == v) ≡ b
        → cond b (Some c) (value_at row v) ≡ or_else (value_at row v) (cond b (Some c) None)
    more c is false other = sym (or_none (value_at row v))
    more c is true one = sym (ap (λ y. or_else y (Some c)) (same_value one None is))

    at : (here : Option Const) → value_at row u ≡ here → (x : Option Const)
        → value_at (put row u here x) v ≡ or_else (value_at row v) (cond (u == v) x None)
    at (Some d) is x = kept d x is (u == v) refl
    at None is None = none (u == v)
    at None is (Some c) = value_bound row u c v is ∙ more c is (u == v) refl

value_where : (source : Row) (u v : ℕ) (b : Bool) → (u == v) ≡ b
    → cond b (value_at source u) None ≡ cond b (value_at source v) None
value_where source u v false other = refl
value_where source u v true one = let same : u ≡ v = grind (arith, nat_tests) in ap (value_at source) same

pub value_filled : (us : List ℕ) (source row : Row) (v : ℕ)
    → value_at (filled us source row) v
    ≡ or_else (value_at row v) (cond (has_variable us v) (value_at source v) None)
value_filled [] source row v = sym (or_none (value_at row v))
value_filled (u ∷ us) source row v =
    value_put (filled us source row) u (value_at source u) v
    ∙ ap₂ or_else (value_filled us source row v) (value_where source u v (u == v) refl)
    ∙ or_both (value_at row v) (value_at source v) (u == v) (has_variable us v)

order_put : (row : Row) (u : ℕ) (here o : Option Const) → value_at row u ≡ here → IsBinding row
    → IsBinding (put row u here o)
order_put row u (Some d) o e is = is
order_put row u None None e is = is
order_put row u None (Some c) e is = binding_bound row u c is e

pub order_filled : (us : List ℕ) (source row : Row) → IsBinding row → IsBinding (filled us source row)
order_filled [] source row is = is
order_filled (u ∷ us) source row is =
    order_put (filled us source row) u (value_at (filled us source row) u) (value_at source u) refl
    (order_filled us source row is)

-- ---- variables that are taken away have no value

pub value_within : (vs : List ℕ) (row : Row) (u : ℕ) → has_variable vs u ≡ true
    → value_at (without_variables vs row) u ≡ None
value_within vs [] u gone = refl
value_within vs (p ∷ ps) u gone = at (has_variable vs p.0) refl (p.0 == u) refl (value_within vs ps u gone)
  where
    at : (out : Bool) → has_variable vs p.0 ≡ out → (here : Bool) → (p.0 == u) ≡ here
        → value_at (without_variables vs ps) u ≡ None
        → value_at (cond (not out) (p ∷ without_variables vs ps) (without_variables vs ps)) u ≡ None
    at true is here e rest = rest
    at false is true e rest =
        let same : p.0 ≡ u = grind (arith, nat_tests) in absurd (cc (sym is ∙ ap (has_variable vs) same ∙ gone))
    at false is false e rest =
        ap (λ b. cond b (Some p.1) (value_at (without_variables vs ps) u)) e ∙ rest

-- ---- rows that agree

pub agree_kept : (row next : Row) (vs : List ℕ) → Keeps row next → AreAmong vs (variables_in row)
    → AgreeOn vs row next
agree_kept row next vs keeps among v has = at (value_at row v) refl
  where
    at : (o : Option Const) → value_at row v ≡ o → value_at row v ≡ value_at next v
    at None is = absurd (cc (sym (has_is_there row v ∙ ap is_there is) ∙ among v has))
    at (Some c) is = is ∙ sym (keeps v c is)

pub agree_front : (us ws : List ℕ) (row other : Row) → AgreeOn (us ++ ws) row other → AgreeOn us row other
agree_front us ws row other agree v has = agree v (among_front us ws v has)

pub agree_back : (us ws : List ℕ) (row other : Row) → AgreeOn (us ++ ws) row other → AgreeOn ws row other
agree_back us ws row other agree v has = agree v (among_back us ws v has)

-- a term has the same value under rows that agree on its variables
module _ (row other : Row) where
  abbrev IsAlike : Term → Type 0
  IsAlike t = AgreeOn (variables_of t) row other → value_of row t ≡ value_of other t

  abbrev AlikeTerm : Type 0
  AlikeTerm = (t : Term) × IsAlike t

  abbrev term_in : AlikeTerm → Term
  term_in e = e.0

  alike_each : (es : List AlikeTerm) → AgreeOn (flat_map variables_of (map term_in es)) row other
      → map (value_of row) (map term_in es) ≡ map (value_of other) (map term_in es)
  alike_each [] agree = refl
  alike_each (e ∷ es) agree =
      let rest = flat_map variables_of (map term_in es) in
      ap₂ (λ o os. o ∷ os) (e.1 (agree_front (variables_of e.0) rest row other agree))
      (alike_each es (agree_back (variables_of e.0) rest row other agree))

  alike_at : (y : Term-F AlikeTerm) → IsAlike (roll-Term (map-Term AlikeTerm Term term_in y))
  alike_at (ConstLayer c) agree =
      fold-roll-Term (Option Const) (value_step row) (ConstLayer c)
      ∙ sym (fold-roll-Term (Option Const) (value_step other) (ConstLayer c))
  alike_at (VarLayer v) agree =
      let self : (v == v) ≡ true = grind (arith, nat_tests) in
      let has : has_variable (variables_of (roll-Term (VarLayer v))) v ≡ true =
      ap (λ (us : List ℕ). has_variable us v) (fold-roll-Term (List ℕ) variables_step (VarLayer v))
      ∙ ap (λ b. b || false) self in
      fold-roll-Term (Option Const) (value_step row) (VarLayer v) ∙ agree v has
      ∙ sym (fold-roll-Term (Option Const) (value_step other) (VarLayer v))
  alike_at (CallLayer func es) agree =
      let ts = map term_in es in
      let all = fold-roll-Term (List ℕ) variables_step (CallLayer func ts)
      ∙ flat_map-map (λ (vs : List ℕ). vs) variables_of ts in
      fold-roll-Term (Option Const) (value_step row) (CallLayer func ts)
      ∙ ap (λ os. call_value func (all_of os))
      (alike_each es (subst (λ (us : List ℕ). AgreeOn us row other) all agree))
      ∙ sym (fold-roll-Term (Option Const) (value_step other) (CallLayer func ts))

  pub alike_value : (t : Term) → IsAlike t
  alike_value = ind-Term IsAlike (λ x y is. subst (λ z. IsAlike (roll-Term z)) is (alike_at y))

  alike_list : (ts : List Term) → AgreeOn (flat_map variables_of ts) row other
      → map (value_of row) ts ≡ map (value_of other) ts
  alike_list [] agree = refl
  alike_list (t ∷ ts) agree =
      let rest = flat_map variables_of ts in
      ap₂ (λ o os. o ∷ os) (alike_value t (agree_front (variables_of t) rest row other agree))
      (alike_list ts (agree_back (variables_of t) rest row other agree))

  pub alike_values : (ts : List Term) → AgreeOn (flat_map variables_of ts) row other
      → values_of row ts ≡ values_of other ts
  alike_values ts agree = ap all_of (alike_list ts agree)
