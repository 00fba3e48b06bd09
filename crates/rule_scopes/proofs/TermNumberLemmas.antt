-- The variables of terms with numbers: each is the number of the variable that stood there, and holds where that
-- does.
use Rattle.std.proofs.Common.{◌≡◌, ℕ, Bool, true, false, cond, ◌&&◌, ◌||◌, ◌==◌, List, [], ◌∷◌, ◌++◌, Some, None}
use Rattle.std.proofs.Common.{map, ap, ap₂, ◌∙◌, sym, refl, subst, arith}
use Rattle.std.specs.Prelude.{unwrap_or}
use Rattle.std.specs.declared.option.Option.{Option}
use Rattle.std.specs.List.{flat_map}
use Rattle.std.proofs.lemmas.Bool.Decides.{nat_tests}
use Rattle.std.proofs.lemmas.List.{map-append}
use Rattle.rif_tree.specs.declared.tree.Term.{Term, map-Term, roll-Term}
use Rattle.rif_tree.specs.declared.tree.Term.TheOpen.{Term-F, Const as ConstLayer, Var as VarLayer, Call as CallLayer}
use Rattle.rif_tree.specs.declared.tree.Term.TheVariants.{rolls-Const, rolls-Var}
use Rattle.rif_tree.specs.declared.tree.Term.TheFolds.{fold-Term, fold-roll-Term, ind-Term}
use Rattle.rif_tree.specs.declared.rule.Action.{Action}
use Rattle.rif_tree.specs.declared.rule.Action.TheVariants.{Assert, Retract, RetractSlot, RetractObject, Modify}
use Rattle.rif_tree.specs.declared.rule.Decl.{Decl}
use Rattle.rif_tree.specs.declared.rule.Decl.TheVariants.{Slot, New}
use Rattle.rif_tree.specs.declared.rule.Target.{Target}
use Rattle.rif_tree.specs.declared.rule.Target.TheVariants.{Atom, Frame, Member}
use Rattle.rif_tree.specs.Laws.{AreAmong}
use Rattle.rif_tree.specs.Variables.{has_variable, has_all, variables_of, variables_step, variables_of_pair, together}
use Rattle.rif_tree.proofs.CallerLemmas.{and_first, and_second, or_first, or_second, variables_call}
use Rattle.rule_scopes.specs.declared.naming.Naming.{Naming}
use Rattle.safe_rules.specs.BlockScope.{frame_variables, decl_variable, decl_uses, target_variables}
use Rattle.safe_rules.specs.BlockScope.{action_variables}
use Rattle.rule_scopes.specs.Numbering.{Scope, innermost, number_in, numbers_of, numbered_step, numbered_term}
use Rattle.rule_scopes.specs.Numbering.{numbered_pair, numbered_decl, numbered_target, numbered_action}

-- the variables that hold in a scope
abbrev pub vars_of : Scope → List ℕ
vars_of scope = map Naming.var scope

-- ---- what holds has a number that holds

same_number : (n : ℕ) → (n == n) ≡ true
same_number n = grind (arith, nat_tests)

-- what is found of a variable: nothing where it doesn't hold, else a number that holds
abbrev IsGiven : Option ℕ → Bool → List ℕ → Type 0
IsGiven None holds numbers = holds ≡ false
IsGiven (Some n) holds numbers = has_variable numbers n ≡ true

given_at : (outer : Naming) (numbers : List ℕ) (found : Option ℕ) (is holds : Bool) → IsGiven found holds numbers
    → IsGiven (elim found [ Some n ↦ Some n | None ↦ cond is (Some outer.number) None ]) (is || holds)
    (outer.number ∷ numbers)
given_at outer numbers (Some n) is holds given = or_second (outer.number == n) (has_variable numbers n) given
given_at outer numbers None true holds given =
    or_first (outer.number == outer.number) (has_variable numbers outer.number) (same_number outer.number)
given_at outer numbers None false holds given = given

given_in : (scope : Scope) (v : ℕ)
    → IsGiven (innermost scope v) (has_variable (vars_of scope) v) (numbers_of scope)
given_in [] v = refl
given_in (outer ∷ inner) v =
    given_at outer (numbers_of inner) (innermost inner v) (outer.var == v) (has_variable (vars_of inner) v)
    (given_in inner v)

given_holds : (numbers : List ℕ) (found : Option ℕ) (holds : Bool) → IsGiven found holds numbers → holds ≡ true
    → has_variable numbers (unwrap_or found 0) ≡ true
given_holds numbers (Some n) holds given is = given
given_holds numbers None holds given is = absurd (cc (sym given ∙ is))

-- a variable that holds has a number that holds
pub number_holds : (scope : Scope) (v : ℕ) → has_variable (vars_of scope) v ≡ true
    → has_variable (numbers_of scope) (number_in scope v) ≡ true
number_holds scope v is =
    given_holds (numbers_of scope) (innermost scope v) (has_variable (vars_of scope) v) (given_in scope v) is

-- and so has each of some, where what holds around them is in the scope
pub numbers_hold : (scope : Scope) (held vs : List ℕ) → AreAmong held (vars_of scope) → has_all held vs ≡ true
    → has_all (numbers_of scope) (map (number_in scope) vs) ≡ true
numbers_hold scope held [] among is = refl
numbers_hold scope held (v ∷ vs) among is =
    ap₂ (λ a b. a && b) (number_holds scope v (among v (and_first (has_variable held v) (has_all held vs) is)))
    (numbers_hold scope held vs among (and_second (has_variable held v) (has_all held vs) is))

-- ---- the variables of terms

abbrev SaysNumbers : Scope → Term → Type 0
SaysNumbers scope t = variables_of (numbered_term scope t) ≡ map (number_in scope) (variables_of t)

abbrev KnownTerm : Scope → Type 0
KnownTerm scope = (t : Term) × SaysNumbers scope t

abbrev terms_in : (scope : Scope) → List (KnownTerm scope) → List Term
terms_in scope es = map (λ (e : KnownTerm scope). e.0) es

abbrev scope_terms : Term → Scope → Term
scope_terms = fold-Term (Scope → Term) numbered_step

terms_known : (scope : Scope) (es : List (KnownTerm scope))
    → flat_map variables_of (map (λ (k : Scope → Term). k scope) (map scope_terms (terms_in scope es)))
    ≡ map (number_in scope) (together (map variables_of (terms_in scope es)))
terms_known scope [] = refl
terms_known scope (e ∷ es) =
    ap₂ (λ us vs. us ++ vs) e.1 (terms_known scope es)
    ∙ sym (map-append (number_in scope) (variables_of e.0) (together (map variables_of (terms_in scope es))))

abbrev roll_known : (scope : Scope) → Term-F (KnownTerm scope) → Term
roll_known scope y = roll-Term (map-Term (KnownTerm scope) Term (λ e. e.0) y)

layer_numbers : (scope : Scope) (y : Term-F (KnownTerm scope)) → SaysNumbers scope (roll_known scope y)
layer_numbers scope (ConstLayer c) =
    ap variables_of (ap (λ (k : Scope → Term). k scope) (fold-roll-Term (Scope → Term) numbered_step (ConstLayer c)))
    ∙ ap variables_of (sym (rolls-Const c)) ∙ fold-roll-Term (List ℕ) variables_step (ConstLayer c)
    ∙ sym (ap (map (number_in scope)) (fold-roll-Term (List ℕ) variables_step (ConstLayer c)))
layer_numbers scope (VarLayer v) =
    ap variables_of (ap (λ (k : Scope → Term). k scope) (fold-roll-Term (Scope → Term) numbered_step (VarLayer v)))
    ∙ ap variables_of (sym (rolls-Var (number_in scope v)))
    ∙ fold-roll-Term (List ℕ) variables_step (VarLayer (number_in scope v))
    ∙ sym (ap (map (number_in scope)) (fold-roll-Term (List ℕ) variables_step (VarLayer v)))
layer_numbers scope (CallLayer func es) =
    let ts = terms_in scope es in
    ap variables_of
    (ap (λ (k : Scope → Term). k scope) (fold-roll-Term (Scope → Term) numbered_step (CallLayer func ts)))
    ∙ variables_call func (map (λ (k : Scope → Term). k scope) (map scope_terms ts)) ∙ terms_known scope es
    ∙ sym (ap (map (number_in scope)) (fold-roll-Term (List ℕ) variables_step (CallLayer func ts)))

pub term_numbers : (scope : Scope) (t : Term) → SaysNumbers scope t
term_numbers scope =
    ind-Term (SaysNumbers scope) (λ x y is. subst (λ z. SaysNumbers scope (roll-Term z)) is (layer_numbers scope y))

pub two_numbers : (scope : Scope) (a b : Term)
    → variables_of (numbered_term scope a) ++ variables_of (numbered_term scope b)
    ≡ map (number_in scope) (variables_of a ++ variables_of b)
two_numbers scope a b =
    ap₂ (λ us vs. us ++ vs) (term_numbers scope a) (term_numbers scope b)
    ∙ sym (map-append (number_in scope) (variables_of a) (variables_of b))

pub terms_numbers : (scope : Scope) (ts : List Term)
    → flat_map variables_of (map (numbered_term scope) ts) ≡ map (number_in scope) (flat_map variables_of ts)
terms_numbers scope [] = refl
terms_numbers scope (t ∷ ts) =
    ap₂ (λ us vs. us ++ vs) (term_numbers scope t) (terms_numbers scope ts)
    ∙ sym (map-append (number_in scope) (variables_of t) (flat_map variables_of ts))

pairs_numbers : (scope : Scope) (pairs : List (Term × Term))
    → flat_map variables_of_pair (map (numbered_pair scope) pairs)
    ≡ map (number_in scope) (flat_map variables_of_pair pairs)
pairs_numbers scope [] = refl
pairs_numbers scope (pair ∷ pairs) =
    ap₂ (λ us vs. us ++ vs) (two_numbers scope pair.0 pair.1) (pairs_numbers scope pairs)
    ∙ sym (map-append (number_in scope) (variables_of_pair pair) (flat_map variables_of_pair pairs))

pub frame_numbers : (scope : Scope) (o : Term) (pairs : List (Term × Term))
    → frame_variables (numbered_term scope o) (map (numbered_pair scope) pairs)
    ≡ map (number_in scope) (frame_variables o pairs)
frame_numbers scope o pairs =
    ap₂ (λ us vs. us ++ vs) (term_numbers scope o) (pairs_numbers scope pairs)
    ∙ sym (map-append (number_in scope) (variables_of o) (flat_map variables_of_pair pairs))

-- ---- blocks

pub decl_numbers : (scope : Scope) (next : ℕ) (decl : Decl)
    → decl_uses (numbered_decl scope next decl) ≡ map (number_in scope) (decl_uses decl)
decl_numbers scope next (Slot v o s) = two_numbers scope o s
decl_numbers scope next (New v) = refl

pub decl_number : (scope : Scope) (next : ℕ) (decl : Decl) → decl_variable (numbered_decl scope next decl) ≡ next
decl_number scope next (Slot v o s) = refl
decl_number scope next (New v) = refl

target_numbers : (scope : Scope) (target : Target)
    → target_variables (numbered_target scope target) ≡ map (number_in scope) (target_variables target)
target_numbers scope (Atom p ts) = terms_numbers scope ts
target_numbers scope (Frame o pairs) = frame_numbers scope o pairs
target_numbers scope (Member o c) = two_numbers scope o c

pub action_numbers : (scope : Scope) (action : Action)
    → action_variables (numbered_action scope action) ≡ map (number_in scope) (action_variables action)
action_numbers scope (Assert target) = target_numbers scope target
action_numbers scope (Retract target) = target_numbers scope target
action_numbers scope (RetractSlot o s) = two_numbers scope o s
action_numbers scope (RetractObject o) = term_numbers scope o
action_numbers scope (Modify o pairs) = frame_numbers scope o pairs
