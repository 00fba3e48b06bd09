-- Numbers at each form of terms and formulas.
use Rattle.std.proofs.Common.{◌≡◌, ℕ, suc, ◌+◌, ◌==◌, Bool, true, false, cond, List, [], ◌∷◌, ◌++◌, Some, None}
use Rattle.std.proofs.Common.{map, length, ap, ap₂, ◌∙◌, sym, refl, arith, add_assoc, append_assoc, drop, get_or, ◌<◌}
use Rattle.std.specs.Prelude.{unwrap_or}
use Rattle.std.specs.declared.option.Option.{Option}
use Rattle.std.specs.List.{flat_map}
use Rattle.std.proofs.lemmas.Grind.{flat_map-append}
use Rattle.std.proofs.lemmas.List.{at_drop_more, length-append}
use Rattle.std.proofs.lemmas.List.Folds.{flat_map-map}
use Rattle.rif_tree.specs.declared.builtin.Func.{Func}
use Rattle.rif_tree.specs.declared.tree.Term.{Term}
use Rattle.rif_tree.specs.declared.tree.Term.TheOpen.{Call as CallLayer}
use Rattle.rif_tree.specs.declared.tree.Term.TheVariants.{Call, rolls-Call}
use Rattle.rif_tree.specs.declared.tree.Term.TheFolds.{fold-Term, fold-roll-Term}
use Rattle.rif_tree.specs.declared.tree.Formula.{Formula}
use Rattle.rif_tree.specs.declared.tree.Formula.TheOpen.{And as AndLayer, Or as OrLayer, Exists as ExistsLayer}
use Rattle.rif_tree.specs.declared.tree.Formula.TheVariants.{And, Or, Exists, rolls-And, rolls-Or, rolls-Exists}
use Rattle.rif_tree.specs.declared.tree.Formula.TheFolds.{fold-roll-Formula}
use Rattle.rif_tree.specs.declared.tree.Level.{Level}
use Rattle.rule_scopes.specs.declared.naming.Naming.{Naming}
use Rattle.rule_scopes.specs.Numbering.{Scope, Numbering, innermost, namings_from, numbers_of, numbered_step}
use Rattle.rule_scopes.specs.Numbering.{numbered_term, numbering_of, numbering_step, declared_in, each_form}

-- ---- what holds

number_at : (inner : Option ℕ) (is : Bool) (m n : ℕ)
    → unwrap_or (elim inner [ Some k ↦ Some k | None ↦ cond is (Some m) None ]) n ≡ unwrap_or inner (cond is m n)
number_at (Some k) is m n = refl
number_at None true m n = refl
number_at None false m n = refl

-- the number behind one more declaration, where an earlier one gave n
pub number_next : (outer : Naming) (inner : Scope) (v n : ℕ)
    → unwrap_or (innermost (outer ∷ inner) v) n ≡ unwrap_or (innermost inner v) (cond (outer.var == v) outer.number n)
number_next outer inner v n = number_at (innermost inner v) (outer.var == v) outer.number n

-- ---- terms

terms_with : (scope : Scope) (ts : List Term)
    → map (λ (k : Scope → Term). k scope) (map (fold-Term (Scope → Term) numbered_step) ts)
    ≡ map (numbered_term scope) ts
terms_with scope [] = refl
terms_with scope (t ∷ ts) = ap (λ us. numbered_term scope t ∷ us) (terms_with scope ts)

pub term_call : (scope : Scope) (func : Func) (ts : List Term)
    → numbered_term scope (Call func ts) ≡ Call func (map (numbered_term scope) ts)
term_call scope func ts =
    ap (numbered_term scope) (sym (rolls-Call func ts))
    ∙ ap (λ (k : Scope → Term). k scope) (fold-roll-Term (Scope → Term) numbered_step (CallLayer func ts))
    ∙ ap (λ us. Call func us) (terms_with scope ts)

-- ---- formulas

numbering_and : (fs : List Formula) → numbering_of (And fs) ≡ numbering_step (AndLayer (map numbering_of fs))
numbering_and fs = ap numbering_of (sym (rolls-And fs)) ∙ fold-roll-Formula Numbering numbering_step (AndLayer fs)

numbering_or : (fs : List Formula) → numbering_of (Or fs) ≡ numbering_step (OrLayer (map numbering_of fs))
numbering_or fs = ap numbering_of (sym (rolls-Or fs)) ∙ fold-roll-Formula Numbering numbering_step (OrLayer fs)

numbering_exists : (vs : List ℕ) (f : Formula)
    → numbering_of (Exists vs f) ≡ numbering_step (ExistsLayer vs (numbering_of f))
numbering_exists vs f =
    ap numbering_of (sym (rolls-Exists vs f)) ∙ fold-roll-Formula Numbering numbering_step (ExistsLayer vs f)

pub form_and : (scope : Scope) (next : ℕ) (fs : List Formula)
    → (numbering_of (And fs)).form scope next ≡ And (each_form (map numbering_of fs) scope next)
form_and scope next fs = ap (λ (n : Numbering). n.form scope next) (numbering_and fs)

pub form_or : (scope : Scope) (next : ℕ) (fs : List Formula)
    → (numbering_of (Or fs)).form scope next ≡ Or (each_form (map numbering_of fs) scope next)
form_or scope next fs = ap (λ (n : Numbering). n.form scope next) (numbering_or fs)

pub form_exists : (scope : Scope) (declared vs : List ℕ) (f : Formula)
    → (numbering_of (Exists vs f)).form scope (length declared)
    ≡ Exists (numbers_of (namings_from (length declared) vs))
    ((numbering_of f).form (scope ++ namings_from (length declared) vs) (length (declared ++ vs)))
form_exists scope declared vs f =
    ap (λ (n : Numbering). n.form scope (length declared)) (numbering_exists vs f)
    ∙ ap (λ n. Exists (numbers_of (namings_from (length declared) vs))
    ((numbering_of f).form (scope ++ namings_from (length declared) vs) n)) (sym (length-append declared vs))

pub declared_and : (fs : List Formula) → declared_in (And fs) ≡ flat_map declared_in fs
declared_and fs = ap Numbering.declared (numbering_and fs) ∙ flat_map-map Numbering.declared numbering_of fs

pub declared_or : (fs : List Formula) → declared_in (Or fs) ≡ flat_map declared_in fs
declared_or fs = ap Numbering.declared (numbering_or fs) ∙ flat_map-map Numbering.declared numbering_of fs

pub declared_exists : (vs : List ℕ) (f : Formula) → declared_in (Exists vs f) ≡ vs ++ declared_in f
declared_exists vs f = ap Numbering.declared (numbering_exists vs f)

-- the numbers of a list of formulas, behind those of the first
pub each_next : (f : Formula) (fs : List Formula) (scope : Scope) (declared : List ℕ)
    → each_form (map numbering_of (f ∷ fs)) scope (length declared)
    ≡ (numbering_of f).form scope (length declared)
    ∷ each_form (map numbering_of fs) scope (length (declared ++ declared_in f))
each_next f fs scope declared =
    ap (λ n. (numbering_of f).form scope (length declared) ∷ each_form (map numbering_of fs) scope n)
    (sym (length-append declared (declared_in f)))

pub ruleset numbers_at_forms =
    (form_and, declared_and, form_or, declared_or, form_exists, declared_exists, each_next)

each_append : (fs gs : List Formula) (scope : Scope) (next : ℕ)
    → each_form (map numbering_of (fs ++ gs)) scope next
    ≡ each_form (map numbering_of fs) scope next
    ++ each_form (map numbering_of gs) scope (next + length (flat_map declared_in fs))
each_append [] gs scope next =
    let same : next ≡ next + 0 = omega arith in ap (λ n. each_form (map numbering_of gs) scope n) same
each_append (f ∷ fs) gs scope next =
    let one = (numbering_of f).form scope next in
    let first = length (declared_in f) in
    let more = each_form (map numbering_of fs) scope (next + first) in
    ap (λ us. one ∷ us) (each_append fs gs scope (next + first))
    ∙ ap (λ n. one ∷ (more ++ each_form (map numbering_of gs) scope n))
    (add_assoc next first (length (flat_map declared_in fs))
    ∙ ap (λ n. next + n) (sym (length-append (declared_in f) (flat_map declared_in fs))))

-- the numbers of two lists of formulas, one behind the other
pub forms_append : (fs gs : List Formula) (scope : Scope) (declared : List ℕ)
    → each_form (map numbering_of (fs ++ gs)) scope (length declared)
    ≡ each_form (map numbering_of fs) scope (length declared)
    ++ each_form (map numbering_of gs) scope (length (declared ++ flat_map declared_in fs))
forms_append fs gs scope declared =
    each_append fs gs scope (length declared)
    ∙ ap (λ n. each_form (map numbering_of fs) scope (length declared) ++ each_form (map numbering_of gs) scope n)
    (sym (length-append declared (flat_map declared_in fs)))

-- ---- levels

abbrev such_thats : List Level → List Formula
such_thats levels = flat_map (λ level. level.such_that) levels

-- behind one more level
pub level_numbered : (scope : Scope) (levels : List Level) (i : ℕ) (level : Level) (made new : List Formula)
    (declared later : List ℕ) → i < length levels → level ≡ get_or levels i level
    → later ≡ declared ++ flat_map declared_in level.such_that
    → new ≡ made ++ each_form (map numbering_of level.such_that) scope (length declared)
    → new ++ each_form (map numbering_of (such_thats (drop (i + 1) levels))) scope (length later)
    ≡ made ++ each_form (map numbering_of (such_thats (drop i levels))) scope (length declared)
level_numbered scope levels i level made new declared later within is more said =
    let here = level.such_that in
    let rest = such_thats (drop (i + 1) levels) in
    let first = each_form (map numbering_of here) scope (length declared) in
    let behind = declared ++ flat_map declared_in here in
    ap₂ (λ us vs. us ++ each_form (map numbering_of rest) scope (length vs)) said more
    ∙ append_assoc made first (each_form (map numbering_of rest) scope (length behind))
    ∙ ap (λ us. made ++ us) (sym (forms_append here rest scope declared))
    ∙ ap (λ (l : Level). made ++ each_form (map numbering_of (l.such_that ++ rest)) scope (length declared)) is
    ∙ sym (at_drop_more (λ ls. made ++ each_form (map numbering_of (such_thats ls)) scope (length declared)) levels i
    level within)

pub level_declared : (levels : List Level) (i : ℕ) (level : Level) (declared later : List ℕ) → i < length levels
    → level ≡ get_or levels i level → later ≡ declared ++ flat_map declared_in level.such_that
    → later ++ flat_map declared_in (such_thats (drop (i + 1) levels))
    ≡ declared ++ flat_map declared_in (such_thats (drop i levels))
level_declared levels i level declared later within is more =
    let here = level.such_that in
    let rest = such_thats (drop (i + 1) levels) in
    ap (λ us. us ++ flat_map declared_in rest) more
    ∙ append_assoc declared (flat_map declared_in here) (flat_map declared_in rest)
    ∙ ap (λ us. declared ++ us) (sym (flat_map-append declared_in here rest))
    ∙ ap (λ (l : Level). declared ++ flat_map declared_in (l.such_that ++ rest)) is
    ∙ sym (at_drop_more (λ ls. declared ++ flat_map declared_in (such_thats ls)) levels i level within)

pub one_longer : {A : Type 0} (xs : List A) (x : A) → length (xs ++ x ∷ []) ≡ suc (length xs)
one_longer [] x = refl
one_longer (y ∷ ys) x = ap suc (one_longer ys x)
