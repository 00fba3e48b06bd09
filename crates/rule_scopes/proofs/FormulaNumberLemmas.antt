-- A formula with numbers: each of them holds where it stands, none is declared where it holds, and all are below the
-- first number behind it.
use Rattle.std.proofs.Common.{◌≡◌, ℕ, ◌+◌, ◌≤◌, Bool, true, ◌&&◌, List, [], ◌∷◌, ◌++◌, length, map}
use Rattle.std.proofs.Common.{ap, ap₂, ◌∙◌, sym, refl, subst, arith}
use Rattle.std.specs.List.{list_all, flat_map}
use Rattle.std.proofs.lemmas.List.{map-append, length-append}
use Rattle.std.proofs.lemmas.List.Folds.{list_all-map, flat_map-map}
use Rattle.rif_tree.specs.declared.tree.Term.{Term}
use Rattle.rif_tree.specs.declared.tree.Formula.{Formula, map-Formula, roll-Formula}
use Rattle.rif_tree.specs.declared.tree.Formula.TheVariants.{And, Or, Not, Exists}
use Rattle.rif_tree.specs.declared.tree.Formula.TheVariants.{rolls-And, rolls-Or, rolls-Not, rolls-Exists}
use Rattle.rif_tree.specs.declared.tree.Formula.TheVariants.{rolls-Equal, rolls-Member, rolls-Frame}
use Rattle.rif_tree.specs.declared.tree.Formula.TheVariants.{rolls-Atom, rolls-Holds}
use Rattle.rif_tree.specs.declared.tree.Formula.TheOpen.{Formula-F, And as AndLayer, Or as OrLayer, Not as NotLayer}
use Rattle.rif_tree.specs.declared.tree.Formula.TheOpen.{Exists as ExistsLayer, Equal as EqualLayer}
use Rattle.rif_tree.specs.declared.tree.Formula.TheOpen.{Member as MemberLayer, Frame as FrameLayer}
use Rattle.rif_tree.specs.declared.tree.Formula.TheOpen.{Atom as AtomLayer, Holds as HoldsLayer}
use Rattle.rif_tree.specs.declared.tree.Formula.TheFolds.{fold-Formula, fold-roll-Formula, ind-Formula}
use Rattle.rif_tree.specs.Laws.{AreAmong}
use Rattle.rif_tree.specs.Scoped.{has_none, is_scoped, scoped_step}
use Rattle.rif_tree.specs.Variables.{has_all, variables_of, variables_of_pair, slots_free}
use Rattle.rif_tree.proofs.CallerLemmas.{has_all_elim, has_all_intro, among_front, among_back, among_append}
use Rattle.rif_tree.proofs.CallerLemmas.{among_more}
use Rattle.rule_scopes.specs.declared.naming.Naming.{Naming}
use Rattle.safe_rules.specs.BlockScope.{frame_variables}
use Rattle.safe_rules.specs.Named.{all_step, all_variables_of, are_below}
use Rattle.rule_scopes.specs.Numbering.{Scope, Numbering, number_in, numbers_of, namings_from}
use Rattle.rule_scopes.specs.Numbering.{numbered_term, numbered_pair, each_form, numbering_of, numbering_step}
use Rattle.rule_scopes.specs.Occurrences.{uses, declared, occurrences_in, occurrences_step}
use Rattle.rule_scopes.proofs.BelowLemmas.{below_more, below_append, below_all, namings_vars, namings_numbers}
use Rattle.rule_scopes.proofs.BelowLemmas.{numbers_are_below, numbers_are_new}
use Rattle.rule_scopes.proofs.FineLemmas.{are_fine, AreFine, fine_second, uses_hold, each_fine}
use Rattle.rule_scopes.proofs.OccurrenceLemmas.{Lister, lister_of}
use Rattle.rule_scopes.proofs.TermNumberLemmas.{vars_of, numbers_hold, two_numbers, terms_numbers, frame_numbers}

-- ---- scope and all variables at each form

abbrev scope_of : Formula → List ℕ → Bool
scope_of = fold-Formula (List ℕ → Bool) scoped_step

scope_at : (held : List ℕ) (x : Formula-F Formula) (f : Formula) → roll-Formula x ≡ f
    → is_scoped held f ≡ scoped_step (map-Formula Formula (List ℕ → Bool) scope_of x) held
scope_at held x f is =
    ap (is_scoped held) (sym is)
    ∙ ap (λ (k : List ℕ → Bool). k held) (fold-roll-Formula (List ℕ → Bool) scoped_step x)

all_at : (x : Formula-F Formula) (f : Formula) → roll-Formula x ≡ f
    → all_variables_of f ≡ all_step (map-Formula Formula (List ℕ) all_variables_of x)
all_at x f is = ap all_variables_of (sym is) ∙ fold-roll-Formula (List ℕ) all_step x

pub scoped_and : (held : List ℕ) (fs : List Formula) → is_scoped held (And fs) ≡ list_all (is_scoped held) fs
scoped_and held fs =
    scope_at held (AndLayer fs) (And fs) (rolls-And fs)
    ∙ list_all-map (λ (k : List ℕ → Bool). k held) scope_of fs

scoped_or : (held : List ℕ) (fs : List Formula) → is_scoped held (Or fs) ≡ list_all (is_scoped held) fs
scoped_or held fs =
    scope_at held (OrLayer fs) (Or fs) (rolls-Or fs)
    ∙ list_all-map (λ (k : List ℕ → Bool). k held) scope_of fs

pub all_and : (fs : List Formula) → all_variables_of (And fs) ≡ flat_map all_variables_of fs
all_and fs = all_at (AndLayer fs) (And fs) (rolls-And fs) ∙ flat_map-map (λ vs. vs) all_variables_of fs

all_or : (fs : List Formula) → all_variables_of (Or fs) ≡ flat_map all_variables_of fs
all_or fs = all_at (OrLayer fs) (Or fs) (rolls-Or fs) ∙ flat_map-map (λ vs. vs) all_variables_of fs

-- ---- formulas

-- what a formula is with numbers is scoped, and its variables are below the next number
pub record IsWell (scope : Scope) (next : ℕ) (n : Numbering) : Type 0 where
  pub scoped : is_scoped (numbers_of scope) (n.form scope next) ≡ true
  pub below : are_below (next + length n.declared) (all_variables_of (n.form scope next)) ≡ true

-- and so each of a list
pub record AreWell (scope : Scope) (next : ℕ) (ns : List Numbering) : Type 0 where
  pub scoped : list_all (is_scoped (numbers_of scope)) (each_form ns scope next) ≡ true
  pub below : are_below (next + length (flat_map Numbering.declared ns))
      (flat_map all_variables_of (each_form ns scope next)) ≡ true

abbrev pub NumbersWell : Formula → Type 0
NumbersWell f = (scope : Scope) (held : List ℕ) (next : ℕ) → AreAmong held (vars_of scope)
    → are_below next (numbers_of scope) ≡ true → are_fine (occurrences_in held f) ≡ true
    → IsWell scope next (numbering_of f)

abbrev pub Known : Type 0
Known = (f : Formula) × NumbersWell f

abbrev pub formula_in : Known → Formula
formula_in e = e.0

abbrev formulas_in : Formula-F Known → Formula-F Formula
formulas_in y = map-Formula Known Formula formula_in y

pub each_well : (es : List Known) (scope : Scope) (next : ℕ) → are_below next (numbers_of scope) ≡ true
    → AreFine (vars_of scope) (map formula_in es) → AreWell scope next (map numbering_of (map formula_in es))
each_well [] scope next below fine = record { scoped = refl; below = refl }
each_well (e ∷ es) scope next below fine =
    let one = numbering_of e.0 in
    let more = map numbering_of (map formula_in es) in
    let first = length one.declared in
    let rest = length (flat_map Numbering.declared more) in
    let all = next + length (one.declared ++ flat_map Numbering.declared more) in
    let count : length (one.declared ++ flat_map Numbering.declared more) ≡ first + rest =
    length-append one.declared (flat_map Numbering.declared more) in
    let here = e.1 scope fine.0.0 next fine.0.1 below fine.0.2 in
    let behind = each_well es scope (next + first)
    (below_more next (next + first) (numbers_of scope) (omega arith) below) fine.1 in
    let up : next + first ≤ all = omega (arith, count) in
    let last : next + first + rest ≤ all = omega (arith, count) in record {
      scoped = ap₂ (λ a b. a && b) here.scoped behind.scoped;
      below = below_append all (all_variables_of (one.form scope next))
          (flat_map all_variables_of (each_form more scope (next + first)))
          (below_more (next + first) all (all_variables_of (one.form scope next)) up here.below)
          (below_more (next + first + rest) all (flat_map all_variables_of (each_form more scope (next + first))) last
          behind.below);
    }

-- a formula without formulas inside it: the variables vs become ns, of which its scope asks for ss
leaf_well : (scope : Scope) (held vs ns ss : List ℕ) (next : ℕ) (x : Formula-F Formula) (n : Numbering)
    → roll-Formula x ≡ n.form scope next
    → scoped_step (map-Formula Formula (List ℕ → Bool) scope_of x) (numbers_of scope) ≡ has_all (numbers_of scope) ss
    → all_step (map-Formula Formula (List ℕ) all_variables_of x) ≡ ns → AreAmong ss ns
    → ns ≡ map (number_in scope) vs → AreAmong held (vars_of scope) → are_below next (numbers_of scope) ≡ true
    → are_fine (uses held vs) ≡ true → IsWell scope next n
leaf_well scope held vs ns ss next x n is step all asked same among below fine =
    let holds : has_all (numbers_of scope) ns ≡ true =
    ap (has_all (numbers_of scope)) same ∙ numbers_hold scope held vs among (uses_hold held vs fine) in
    let up : next ≤ next + length n.declared = omega arith in record {
      scoped = scope_at (numbers_of scope) x (n.form scope next) is ∙ step
          ∙ has_all_intro (numbers_of scope) ss (λ v has. has_all_elim (numbers_of scope) ns holds v (asked v has));
      below = ap (are_below (next + length n.declared)) (all_at x (n.form scope next) is ∙ all)
          ∙ below_more next (next + length n.declared) ns up (below_all next (numbers_of scope) ns below holds);
    }

-- a frame's slots, one by one, have no other variables than its object and its pairs
slots_among : (o : Term) (pairs : List (Term × Term)) → AreAmong (slots_free o pairs) (frame_variables o pairs)
slots_among o [] v has = absurd (cc has)
slots_among o (pair ∷ pairs) v has =
    let object = variables_of o in
    let here = variables_of_pair pair in
    let rest = flat_map variables_of_pair pairs in
    let all = object ++ (here ++ rest) in
    let first : AreAmong object all = among_front object (here ++ rest) in
    let second : AreAmong here all =
    λ u is. among_back object (here ++ rest) u (among_front here rest u is) in
    let last : AreAmong rest all = λ u is. among_back object (here ++ rest) u (among_back here rest u is) in
    let later : AreAmong (object ++ rest) all = among_append object rest all first last in
    among_append (object ++ here) (slots_free o pairs) all (among_append object here all first second)
    (λ u is. later u (slots_among o pairs u is)) v has

itself : (vs : List ℕ) → AreAmong vs vs
itself vs v has = has

exists_well : (vs : List ℕ) (e : Known) (scope : Scope) (held : List ℕ) (next : ℕ) → AreAmong held (vars_of scope)
    → are_below next (numbers_of scope) ≡ true → are_fine (occurrences_in (held ++ vs) e.0) ≡ true
    → IsWell scope next (numbering_step (ExistsLayer vs (numbering_of e.0)))
exists_well vs e scope held next among below fine =
    let namings = namings_from next vs in
    let within = scope ++ namings in
    let after = next + length vs in
    let inner = numbering_of e.0 in
    let ns = numbers_of namings in
    let g = inner.form within after in
    let names : vars_of within ≡ vars_of scope ++ vs =
    map-append Naming.var scope namings ∙ ap (λ us. vars_of scope ++ us) (namings_vars next vs) in
    let numbers : numbers_of within ≡ numbers_of scope ++ ns = map-append Naming.number scope namings in
    let new : are_below after ns ≡ true =
    ap (are_below after) (namings_numbers next vs) ∙ numbers_are_below next (length vs) in
    let up : next ≤ after = omega arith in
    let lower : are_below after (numbers_of within) ≡ true =
    ap (are_below after) numbers
    ∙ below_append after (numbers_of scope) ns (below_more next after (numbers_of scope) up below) new in
    let reach : AreAmong (held ++ vs) (vars_of within) =
    subst (λ us. AreAmong (held ++ vs) us) (sym names) (among_more held (vars_of scope) vs among) in
    let well = e.1 within (held ++ vs) after reach lower fine in
    let all = next + length (vs ++ inner.declared) in
    let count : length (vs ++ inner.declared) ≡ length vs + length inner.declared = length-append vs inner.declared in
    let first : after ≤ all = omega (arith, count) in
    let last : after + length inner.declared ≤ all = omega (arith, count) in record {
      scoped = scope_at (numbers_of scope) (ExistsLayer ns g) (Exists ns g) (rolls-Exists ns g)
          ∙ ap₂ (λ a b. a && b)
          (ap (has_none (numbers_of scope)) (namings_numbers next vs)
          ∙ numbers_are_new next next (length vs) (numbers_of scope) below (omega arith))
          (ap (λ us. is_scoped us g) (sym numbers) ∙ well.scoped);
      below = ap (are_below all) (all_at (ExistsLayer ns g) (Exists ns g) (rolls-Exists ns g))
          ∙ below_append all ns (all_variables_of g) (below_more after all ns first new)
          (below_more (after + length inner.declared) all (all_variables_of g) last well.below);
    }

abbrev layer_occurrences : Formula-F Known → Lister
layer_occurrences y = occurrences_step (map-Formula Formula Lister lister_of (formulas_in y))

abbrev layer_numbering : Formula-F Known → Numbering
layer_numbering y = numbering_step (map-Formula Formula Numbering numbering_of (formulas_in y))

listed : (held : List ℕ) (fs : List Formula)
    → flat_map (λ (k : Lister). k held) (map lister_of fs) ≡ flat_map (occurrences_in held) fs
listed held fs = flat_map-map (λ (k : Lister). k held) lister_of fs

inside : (y : Formula-F Known) (scope : Scope) (held : List ℕ) (next : ℕ) → AreAmong held (vars_of scope)
    → are_below next (numbers_of scope) ≡ true → are_fine (layer_occurrences y held) ≡ true
    → IsWell scope next (layer_numbering y)
inside (AndLayer es) scope held next among below fine =
    let fs = map formula_in es in
    let made = each_form (map numbering_of fs) scope next in
    let parts = each_fine (vars_of scope) held fs among (ap are_fine (sym (listed held fs)) ∙ fine) in
    let well = each_well es scope next below parts in record {
      scoped = scoped_and (numbers_of scope) made ∙ well.scoped;
      below = ap (are_below (next + length (flat_map Numbering.declared (map numbering_of fs)))) (all_and made)
          ∙ well.below;
    }
inside (OrLayer es) scope held next among below fine =
    let fs = map formula_in es in
    let made = each_form (map numbering_of fs) scope next in
    let parts = each_fine (vars_of scope) held fs among (ap are_fine (sym (listed held fs)) ∙ fine) in
    let well = each_well es scope next below parts in record {
      scoped = scoped_or (numbers_of scope) made ∙ well.scoped;
      below = ap (are_below (next + length (flat_map Numbering.declared (map numbering_of fs)))) (all_or made)
          ∙ well.below;
    }
inside (NotLayer e) scope held next among below fine =
    let f = (numbering_of e.0).form scope next in
    let well = e.1 scope held next among below fine in record {
      scoped = scope_at (numbers_of scope) (NotLayer f) (Not f) (rolls-Not f) ∙ well.scoped;
      below = ap (are_below (next + length (numbering_of e.0).declared)) (all_at (NotLayer f) (Not f) (rolls-Not f))
          ∙ well.below;
    }
inside (ExistsLayer vs e) scope held next among below fine =
    exists_well vs e scope held next among below
    (fine_second (declared held vs) (occurrences_in (held ++ vs) e.0) fine)
inside (EqualLayer a b) scope held next among below fine =
    let x = numbered_term scope a in
    let y = numbered_term scope b in
    let ns = variables_of x ++ variables_of y in
    leaf_well scope held (variables_of a ++ variables_of b) ns ns next (EqualLayer x y)
    (numbering_step (EqualLayer a b)) (rolls-Equal x y) refl refl (itself ns) (two_numbers scope a b) among below
    fine
inside (MemberLayer o c) scope held next among below fine =
    let x = numbered_term scope o in
    let y = numbered_term scope c in
    let ns = variables_of x ++ variables_of y in
    leaf_well scope held (variables_of o ++ variables_of c) ns ns next (MemberLayer x y)
    (numbering_step (MemberLayer o c)) (rolls-Member x y) refl refl (itself ns) (two_numbers scope o c) among
    below fine
inside (FrameLayer o pairs) scope held next among below fine =
    let x = numbered_term scope o in
    let ps = map (numbered_pair scope) pairs in
    leaf_well scope held (frame_variables o pairs) (frame_variables x ps) (slots_free x ps) next (FrameLayer x ps)
    (numbering_step (FrameLayer o pairs)) (rolls-Frame x ps) refl refl (slots_among x ps)
    (frame_numbers scope o pairs) among below fine
inside (AtomLayer p ts) scope held next among below fine =
    let us = map (numbered_term scope) ts in
    let ns = flat_map variables_of us in
    leaf_well scope held (flat_map variables_of ts) ns ns next (AtomLayer p us) (numbering_step (AtomLayer p ts))
    (rolls-Atom p us) refl refl (itself ns) (terms_numbers scope ts) among below fine
inside (HoldsLayer pred ts) scope held next among below fine =
    let us = map (numbered_term scope) ts in
    let ns = flat_map variables_of us in
    leaf_well scope held (flat_map variables_of ts) ns ns next (HoldsLayer pred us)
    (numbering_step (HoldsLayer pred ts)) (rolls-Holds pred us) refl refl (itself ns) (terms_numbers scope ts)
    among below fine

layer : (y : Formula-F Known) → NumbersWell (roll-Formula (formulas_in y))
layer y scope held next among below fine =
    let x = formulas_in y in
    let list = ap (λ (k : Lister). are_fine (k held)) (fold-roll-Formula Lister occurrences_step x) in
    subst (λ n. IsWell scope next n) (sym (fold-roll-Formula Numbering numbering_step x))
    (inside y scope held next among below (sym list ∙ fine))

pub numbers_well : (f : Formula) → NumbersWell f
numbers_well = ind-Formula NumbersWell (λ x y is. subst (λ z. NumbersWell (roll-Formula z)) is (layer y))
