-- What no refused use says of the parts of a rule.
use Rattle.std.proofs.Common.{◌≡◌, ℕ, Bool, true, false, cond, not, ◌&&◌, List, [], ◌∷◌, ◌++◌, Some, None}
use Rattle.std.proofs.Common.{ap₂, ◌∙◌, sym, refl, subst, append_assoc}
use Rattle.std.specs.declared.option.Option.{Option}
use Rattle.std.specs.Option.{option_map}
use Rattle.std.specs.List.{list_all, flat_map, find}
use Rattle.std.proofs.lemmas.List.Folds.{list_all-append}
use Rattle.rif_tree.specs.declared.tree.Formula.{Formula}
use Rattle.rif_tree.specs.declared.tree.Level.{Level}
use Rattle.rif_tree.specs.Laws.{AreAmong}
use Rattle.rif_tree.specs.Variables.{has_variable, has_all}
use Rattle.rif_tree.proofs.CallerLemmas.{and_first, and_second, among_front}
use Rattle.rule_scopes.specs.Occurrences.{Occurrence, uses, declared, occurrences_in, is_undeclared}
use Rattle.rule_scopes.specs.Occurrences.{level_occurrences, levels_occurrences}

-- whether each use among some occurrences is of a variable that holds there
abbrev pub are_fine : List Occurrence → Bool
are_fine occurrences = list_all (λ o. not (is_undeclared o)) occurrences

fine_at : (is all : Bool) (o : Occurrence) (rest : Option Occurrence)
    → (option_map Occurrence.variable rest ≡ None → all ≡ true)
    → option_map Occurrence.variable (cond is (Some o) rest) ≡ None → (not is && all) ≡ true
fine_at true all o rest more none = absurd (cc none)
fine_at false all o rest more none = more none

pub none_found : (os : List Occurrence) → option_map Occurrence.variable (find is_undeclared os) ≡ None
    → are_fine os ≡ true
none_found [] none = refl
none_found (o ∷ os) none =
    fine_at (is_undeclared o) (are_fine os) o (find is_undeclared os) (none_found os) none

pub fine_first : (os ps : List Occurrence) → are_fine (os ++ ps) ≡ true → are_fine os ≡ true
fine_first os ps fine =
    and_first (are_fine os) (are_fine ps) (sym (list_all-append (λ o. not (is_undeclared o)) os ps) ∙ fine)

pub fine_second : (os ps : List Occurrence) → are_fine (os ++ ps) ≡ true → are_fine ps ≡ true
fine_second os ps fine =
    and_second (are_fine os) (are_fine ps) (sym (list_all-append (λ o. not (is_undeclared o)) os ps) ∙ fine)

twice_not : (b : Bool) → not (not b) ≡ true → b ≡ true
twice_not true is = refl
twice_not false is = absurd (cc is)

pub uses_hold : (held vs : List ℕ) → are_fine (uses held vs) ≡ true → has_all held vs ≡ true
uses_hold held [] fine = refl
uses_hold held (v ∷ vs) fine =
    let holds = has_variable held v in
    ap₂ (λ a b. a && b) (twice_not holds (and_first (not (not holds)) (are_fine (uses held vs)) fine))
    (uses_hold held vs (and_second (not (not holds)) (are_fine (uses held vs)) fine))

-- ---- lists of formulas

-- around each formula there hold some of these variables, and its uses are of such that hold
abbrev pub AreFine : List ℕ → List Formula → Type 0
AreFine all [] = Unit {0}
AreFine all (f ∷ fs) =
    ((held : List ℕ) × AreAmong held all × (are_fine (occurrences_in held f) ≡ true)) × AreFine all fs

pub each_fine : (all held : List ℕ) (fs : List Formula) → AreAmong held all
    → are_fine (flat_map (occurrences_in held) fs) ≡ true → AreFine all fs
each_fine all held [] among fine = tt
each_fine all held (f ∷ fs) among fine =
    let first = occurrences_in held f in
    let rest = flat_map (occurrences_in held) fs in
    ((held, among, fine_first first rest fine), each_fine all held fs among (fine_second first rest fine))

pub fine_both : (all : List ℕ) (fs gs : List Formula) → AreFine all fs → AreFine all gs → AreFine all (fs ++ gs)
fine_both all [] gs first second = second
fine_both all (f ∷ fs) gs first second = (first.0, fine_both all fs gs first.1 second)

pub levels_fine : (all held : List ℕ) (levels : List Level)
    → AreAmong (held ++ flat_map (λ level. level.vars) levels) all
    → are_fine (levels_occurrences held levels) ≡ true → AreFine all (flat_map (λ level. level.such_that) levels)
levels_fine all held [] among fine = tt
levels_fine all held (level ∷ levels) among fine =
    let inside = held ++ level.vars in
    let later = flat_map (λ (l : Level). l.vars) levels in
    let reach : AreAmong (inside ++ later) all =
    subst (λ vs. AreAmong vs all) (sym (append_assoc held level.vars later)) among in
    let here = declared held level.vars in
    let formulas = flat_map (occurrences_in inside) level.such_that in
    let rest = levels_occurrences inside levels in
    let first = fine_second here formulas (fine_first (level_occurrences held level) rest fine) in
    fine_both all level.such_that (flat_map (λ (l : Level). l.such_that) levels)
    (each_fine all inside level.such_that (λ v has. reach v (among_front inside later v has)) first)
    (levels_fine all inside levels reach (fine_second (level_occurrences held level) rest fine))
