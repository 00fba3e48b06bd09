-- Occurrences at each form of formulas, and what is found behind some.
use Rattle.std.proofs.Common.{◌≡◌, ℕ, Bool, true, false, cond, List, [], ◌∷◌, ◌++◌, Some, None}
use Rattle.std.proofs.Common.{ap, ap₂, ◌∙◌, sym, refl, ◌+◌, ◌<◌, length, get_or, take, drop}
use Rattle.std.proofs.Common.{append_assoc}
use Rattle.std.specs.declared.option.Option.{Option}
use Rattle.std.specs.Option.{option_map, option_or}
use Rattle.std.specs.List.{flat_map, find}
use Rattle.std.proofs.lemmas.List.{append-nil, take_more, drop_more}
use Rattle.std.proofs.lemmas.List.Folds.{flat_map-map}
use Rattle.std.proofs.lemmas.Grind.{flat_map-append}
use Rattle.rif_tree.specs.declared.tree.Formula.{Formula}
use Rattle.rif_tree.specs.declared.tree.Formula.TheOpen.{And as AndLayer, Or as OrLayer, Exists as ExistsLayer}
use Rattle.rif_tree.specs.declared.tree.Formula.TheVariants.{And, Or, Exists, rolls-And, rolls-Or, rolls-Exists}
use Rattle.rif_tree.specs.declared.tree.Formula.TheFolds.{fold-Formula, fold-roll-Formula}
use Rattle.rif_tree.specs.declared.tree.Level.{Level}
use Rattle.rif_tree.specs.declared.rule.Action.{Action}
use Rattle.rif_tree.specs.declared.rule.Decl.{Decl}
use Rattle.safe_rules.specs.BlockScope.{decl_variable}
use Rattle.rule_scopes.specs.declared.misplaced.Misplaced.{Misplaced}
use Rattle.rule_scopes.specs.Misplaced.{told, use_of, seen, seen_all, seen_used}
use Rattle.rule_scopes.specs.Occurrences.{Occurrence, uses, declared, occurrences_in, occurrences_step}
use Rattle.rule_scopes.specs.Occurrences.{is_undeclared, is_repeated, decl_occurrences}
use Rattle.rule_scopes.specs.Occurrences.{level_occurrences, levels_occurrences, block_occurrences}
pub use Rattle.rif_tree.proofs.CallerLemmas.{variables_call}

-- what lists the occurrences of a formula
abbrev pub Lister : Type 0
Lister = List ℕ → List Occurrence

abbrev pub lister_of : Formula → Lister
lister_of = fold-Formula Lister occurrences_step

pub occurrences_and : (held : List ℕ) (fs : List Formula)
    → occurrences_in held (And fs) ≡ flat_map (occurrences_in held) fs
occurrences_and held fs =
    ap (occurrences_in held) (sym (rolls-And fs))
    ∙ ap (λ (k : Lister). k held) (fold-roll-Formula Lister occurrences_step (AndLayer fs))
    ∙ flat_map-map (λ (k : Lister). k held) lister_of fs

pub occurrences_or : (held : List ℕ) (fs : List Formula)
    → occurrences_in held (Or fs) ≡ flat_map (occurrences_in held) fs
occurrences_or held fs =
    ap (occurrences_in held) (sym (rolls-Or fs))
    ∙ ap (λ (k : Lister). k held) (fold-roll-Formula Lister occurrences_step (OrLayer fs))
    ∙ flat_map-map (λ (k : Lister). k held) lister_of fs

pub occurrences_exists : (held vs : List ℕ) (f : Formula)
    → occurrences_in held (Exists vs f) ≡ declared held vs ++ occurrences_in (held ++ vs) f
occurrences_exists held vs f =
    ap (occurrences_in held) (sym (rolls-Exists vs f))
    ∙ ap (λ (k : Lister). k held) (fold-roll-Formula Lister occurrences_step (ExistsLayer vs f))

-- ---- what is found

pub seen_append : (m : Misplaced) (os ps : List Occurrence) → seen_all m (os ++ ps) ≡ seen_all (seen_all m os) ps
seen_append m [] ps = refl
seen_append m (o ∷ os) ps = seen_append (seen m o) os ps

pub ruleset occurrences_at_forms = (occurrences_and, occurrences_or, occurrences_exists, seen_append)

pub used_append : (m : Misplaced) (held us vs : List ℕ)
    → seen_used m held (us ++ vs) ≡ seen_used (seen_used m held us) held vs
used_append m held [] vs = refl
used_append m held (u ∷ us) vs = used_append (seen m (use_of held u)) held us vs

-- behind uses as occurrences
pub seen_uses : (m : Misplaced) (held vs : List ℕ) → seen_used m held vs ≡ seen_all m (uses held vs)
seen_uses m held [] = refl
seen_uses m held (v ∷ vs) = seen_uses (seen m (use_of held v)) held vs

pub used_two : (m : Misplaced) (held us vs : List ℕ)
    → seen_used (seen_used m held us) held vs ≡ seen_all m (uses held (us ++ vs))
used_two m held us vs = sym (used_append m held us vs) ∙ seen_uses m held (us ++ vs)

-- ---- one more in a loop

flat_more : {A B : Type 0} (f : A → List B) (xs : List A) (i : ℕ) (x : A) → i < length xs → x ≡ get_or xs i x
    → flat_map f (take (i + 1) xs) ≡ flat_map f (take i xs) ++ f x
flat_more f xs i x within is =
    let before = flat_map f (take i xs) in
    ap (flat_map f) (take_more xs i x within) ∙ flat_map-append f (take i xs) (get_or xs i x ∷ [])
    ∙ ap (λ ys. before ++ ys) (append-nil (f (get_or xs i x))) ∙ ap (λ y. before ++ f y) (sym is)

pub held_more : {A : Type 0} (f : A → List ℕ) (start held more : List ℕ) (xs : List A) (i : ℕ) (x : A)
    → i < length xs → x ≡ get_or xs i x → held ≡ start ++ flat_map f (take i xs) → more ≡ held ++ f x
    → more ≡ start ++ flat_map f (take (i + 1) xs)
held_more f start held more xs i x within is so_far said =
    said ∙ ap (λ us. us ++ f x) so_far ∙ append_assoc start (flat_map f (take i xs)) (f x)
    ∙ ap (λ us. start ++ us) (sym (flat_more f xs i x within is))

pub used_more : {A : Type 0} (f : A → List ℕ) (start m n : Misplaced) (held : List ℕ) (xs : List A) (i : ℕ) (x : A)
    → i < length xs → x ≡ get_or xs i x → m ≡ seen_used start held (flat_map f (take i xs))
    → n ≡ seen_used m held (f x) → n ≡ seen_used start held (flat_map f (take (i + 1) xs))
used_more f start m n held xs i x within is so_far said =
    said ∙ ap (λ k. seen_used k held (f x)) so_far ∙ sym (used_append start held (flat_map f (take i xs)) (f x))
    ∙ ap (seen_used start held) (sym (flat_more f xs i x within is))

pub seen_more : {A : Type 0} (f : A → List Occurrence) (start m n : Misplaced) (xs : List A) (i : ℕ) (x : A)
    → i < length xs → x ≡ get_or xs i x → m ≡ seen_all start (flat_map f (take i xs)) → n ≡ seen_all m (f x)
    → n ≡ seen_all start (flat_map f (take (i + 1) xs))
seen_more f start m n xs i x within is so_far said =
    said ∙ ap (λ k. seen_all k (f x)) so_far ∙ sym (seen_append start (flat_map f (take i xs)) (f x))
    ∙ ap (seen_all start) (sym (flat_more f xs i x within is))

-- what is left in a loop begins with the next one
next_left : {A : Type 0} (xs : List A) (i : ℕ) (x : A) → i < length xs → x ≡ get_or xs i x
    → x ∷ drop (i + 1) xs ≡ drop i xs
next_left xs i x within is = ap (λ y. y ∷ drop (i + 1) xs) is ∙ sym (drop_more xs i x within)

pub levels_more : (whole m n : Misplaced) (held more : List ℕ) (levels : List Level) (i : ℕ) (level : Level)
    → i < length levels → level ≡ get_or levels i level
    → seen_all m (levels_occurrences held (drop i levels)) ≡ whole → n ≡ seen_all m (level_occurrences held level)
    → more ≡ held ++ level.vars → seen_all n (levels_occurrences more (drop (i + 1) levels)) ≡ whole
levels_more whole m n held more levels i level within is so_far said holds =
    let left = drop (i + 1) levels in
    ap₂ (λ k vs. seen_all k (levels_occurrences vs left)) said holds
    ∙ sym (seen_append m (level_occurrences held level) (levels_occurrences (held ++ level.vars) left))
    ∙ ap (λ ls. seen_all m (levels_occurrences held ls)) (next_left levels i level within is) ∙ so_far

pub block_more : (whole m n : Misplaced) (held more : List ℕ) (decls : List Decl) (actions : List Action) (i : ℕ)
    (decl : Decl) → i < length decls → decl ≡ get_or decls i decl
    → seen_all m (block_occurrences held (drop i decls) actions) ≡ whole
    → n ≡ seen_all m (decl_occurrences held decl) → more ≡ held ++ decl_variable decl ∷ []
    → seen_all n (block_occurrences more (drop (i + 1) decls) actions) ≡ whole
block_more whole m n held more decls actions i decl within is so_far said holds =
    let left = drop (i + 1) decls in
    ap₂ (λ k vs. seen_all k (block_occurrences vs left actions)) said holds
    ∙ sym (seen_append m (decl_occurrences held decl)
    (block_occurrences (held ++ decl_variable decl ∷ []) left actions))
    ∙ ap (λ ds. seen_all m (block_occurrences held ds actions)) (next_left decls i decl within is) ∙ so_far

-- ---- the first that is told of

abbrev variable_told : Option Occurrence → Option ℕ
variable_told found = option_map Occurrence.variable found

told_first : (is : Bool) (o : Occurrence) (found : Option ℕ) (rest : Option Occurrence)
    → option_or (told is o.variable found) (variable_told rest)
    ≡ option_or found (variable_told (cond is (Some o) rest))
told_first true o (Some v) rest = refl
told_first true o None rest = refl
told_first false o found rest = refl

or_none : (found : Option ℕ) → option_or found None ≡ found
or_none (Some v) = refl
or_none None = refl

pub undeclared_told : (m : Misplaced) (os : List Occurrence)
    → (seen_all m os).undeclared ≡ option_or m.undeclared (variable_told (find is_undeclared os))
undeclared_told m [] = sym (or_none m.undeclared)
undeclared_told m (o ∷ os) =
    undeclared_told (seen m o) os ∙ told_first (is_undeclared o) o m.undeclared (find is_undeclared os)

pub repeated_told : (m : Misplaced) (os : List Occurrence)
    → (seen_all m os).repeated ≡ option_or m.repeated (variable_told (find is_repeated os))
repeated_told m [] = sym (or_none m.repeated)
repeated_told m (o ∷ os) =
    repeated_told (seen m o) os ∙ told_first (is_repeated o) o m.repeated (find is_repeated os)
