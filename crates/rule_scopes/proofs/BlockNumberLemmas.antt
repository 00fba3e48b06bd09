-- A block with numbers: each of them holds where it is used, none is declared where it holds, and all are below the
-- first number behind it.
use Rattle.std.proofs.Common.{◌≡◌, ℕ, suc, ◌+◌, ◌≤◌, true, false, not, ◌&&◌, List, [], ◌∷◌, ◌++◌, length, map}
use Rattle.std.proofs.Common.{ap, ap₂, ◌∙◌, sym, refl, subst, arith, append_assoc}
use Rattle.std.specs.List.{list_all, flat_map}
use Rattle.std.proofs.lemmas.List.{map-append, append-nil}
use Rattle.rif_tree.specs.declared.rule.Action.{Action}
use Rattle.rif_tree.specs.declared.rule.Decl.{Decl}
use Rattle.rif_tree.specs.Laws.{AreAmong}
use Rattle.rif_tree.specs.Variables.{has_variable, has_all}
use Rattle.rif_tree.proofs.CallerLemmas.{among_more}
use Rattle.rule_scopes.specs.declared.naming.Naming.{Naming}
use Rattle.safe_rules.specs.BlockScope.{decl_variable, decl_uses, action_variables, is_block_scoped}
use Rattle.safe_rules.specs.Named.{are_below}
use Rattle.rule_scopes.specs.Numbering.{Scope, numbers_of, namings_from, numbered_decl}
use Rattle.rule_scopes.specs.Numbering.{numbered_decls, numbered_action}
use Rattle.rule_scopes.specs.Occurrences.{uses, declared, decl_occurrences, block_occurrences}
use Rattle.rule_scopes.proofs.BelowLemmas.{below_more, below_append, below_all, none_above, numbers_are_below}
use Rattle.rule_scopes.proofs.FineLemmas.{are_fine, fine_first, fine_second, uses_hold}
use Rattle.rule_scopes.proofs.TermNumberLemmas.{vars_of, numbers_hold, decl_numbers, decl_number, action_numbers}

-- the variables of declarations and of actions, as they stand in a block's
abbrev pub decls_variables : List Decl → List ℕ
decls_variables decls = flat_map (λ decl. decl_variable decl ∷ decl_uses decl) decls

abbrev pub actions_variables : List Action → List ℕ
actions_variables actions = flat_map action_variables actions

abbrev scope_behind : Scope → ℕ → List Decl → Scope
scope_behind scope next decls = scope ++ namings_from next (map decl_variable decls)

pub record IsBlockWell (scope : Scope) (next : ℕ) (decls : List Decl) (actions : List Action) : Type 0 where
  pub scoped : is_block_scoped (numbers_of scope) (numbered_decls scope next decls)
      (map (numbered_action (scope_behind scope next decls)) actions) ≡ true
  pub decls_below : are_below (next + length decls) (decls_variables (numbered_decls scope next decls)) ≡ true
  pub actions_below : are_below (next + length decls)
      (actions_variables (map (numbered_action (scope_behind scope next decls)) actions)) ≡ true

-- ---- actions

one_holds : (scope : Scope) (held : List ℕ) (action : Action) → AreAmong held (vars_of scope)
    → are_fine (uses held (action_variables action)) ≡ true
    → has_all (numbers_of scope) (action_variables (numbered_action scope action)) ≡ true
one_holds scope held action among fine =
    ap (has_all (numbers_of scope)) (action_numbers scope action)
    ∙ numbers_hold scope held (action_variables action) among (uses_hold held (action_variables action) fine)

actions_hold : (scope : Scope) (held : List ℕ) (actions : List Action) → AreAmong held (vars_of scope)
    → are_fine (flat_map (λ action. uses held (action_variables action)) actions) ≡ true
    → list_all (λ action. has_all (numbers_of scope) (action_variables action)) (map (numbered_action scope) actions)
    ≡ true
actions_hold scope held [] among fine = refl
actions_hold scope held (action ∷ actions) among fine =
    let first = uses held (action_variables action) in
    let rest = flat_map (λ (a : Action). uses held (action_variables a)) actions in
    ap₂ (λ a b. a && b) (one_holds scope held action among (fine_first first rest fine))
    (actions_hold scope held actions among (fine_second first rest fine))

actions_are_below : (n : ℕ) (scope : Scope) (held : List ℕ) (actions : List Action) → AreAmong held (vars_of scope)
    → are_below n (numbers_of scope) ≡ true
    → are_fine (flat_map (λ action. uses held (action_variables action)) actions) ≡ true
    → are_below n (actions_variables (map (numbered_action scope) actions)) ≡ true
actions_are_below n scope held [] among below fine = refl
actions_are_below n scope held (action ∷ actions) among below fine =
    let first = uses held (action_variables action) in
    let rest = flat_map (λ (a : Action). uses held (action_variables a)) actions in
    let here = action_variables (numbered_action scope action) in
    below_append n here (actions_variables (map (numbered_action scope) actions))
    (below_all n (numbers_of scope) here below (one_holds scope held action among (fine_first first rest fine)))
    (actions_are_below n scope held actions among below (fine_second first rest fine))

-- ---- declarations

-- a declaration before a block that is well
decl_before : (scope : Scope) (held : List ℕ) (next : ℕ) (decl : Decl) (decls : List Decl) (actions : List Action)
    → AreAmong held (vars_of scope) → are_below next (numbers_of scope) ≡ true
    → are_fine (decl_occurrences held decl) ≡ true
    → IsBlockWell (scope ++ namings_from next (decl_variable decl ∷ [])) (suc next) decls actions
    → IsBlockWell scope next (decl ∷ decls) actions
decl_before scope held next decl decls actions among below fine well =
    let naming = namings_from next (decl_variable decl ∷ []) in
    let inside = scope ++ naming in
    let made = numbered_decl scope next decl in
    let more = numbered_decls inside (suc next) decls in
    let behind : scope_behind inside (suc next) decls ≡ scope_behind scope next (decl ∷ decls) =
    append_assoc scope naming (namings_from (suc next) (map decl_variable decls)) in
    let later = map (numbered_action (scope_behind inside (suc next) decls)) actions in
    let acted = map (numbered_action (scope_behind scope next (decl ∷ decls))) actions in
    let same : later ≡ acted = ap (λ (s : Scope). map (numbered_action s) actions) behind in
    let used = decl_uses decl in
    let holds : has_all (numbers_of scope) (decl_uses made) ≡ true =
    ap (has_all (numbers_of scope)) (decl_numbers scope next decl)
    ∙ numbers_hold scope held used among
    (uses_hold held used (fine_second (declared held (decl_variable decl ∷ [])) (uses held used) fine)) in
    let is : decl_variable made ≡ next = decl_number scope next decl in
    let new : has_variable (numbers_of scope) (decl_variable made) ≡ false =
    ap (has_variable (numbers_of scope)) is ∙ none_above next next (numbers_of scope) below (omega arith) in
    let numbers : numbers_of inside ≡ numbers_of scope ++ decl_variable made ∷ [] =
    map-append Naming.number scope naming ∙ ap (λ n. numbers_of scope ++ n ∷ []) (sym is) in
    let all = next + length (decl ∷ decls) in
    let count : suc next + length decls ≡ all = omega arith in
    let up : next ≤ all = omega arith in
    let first : are_below all (next ∷ []) ≡ true =
    below_more (next + 1) all (next ∷ []) (omega arith) (numbers_are_below next 1) in record {
      scoped = ap₂ (λ a b. a && b) (ap₂ (λ a b. a && not b) holds new)
          (ap₂ (λ ns acts. is_block_scoped ns more acts) (sym numbers) (sym same) ∙ well.scoped);
      decls_below = below_append all (decl_variable made ∷ decl_uses made) (decls_variables more)
          (ap (λ n. are_below all (n ∷ decl_uses made)) is
          ∙ below_append all (next ∷ []) (decl_uses made) first
          (below_more next all (decl_uses made) up (below_all next (numbers_of scope) (decl_uses made) below holds)))
          (ap (λ n. are_below n (decls_variables more)) (sym count) ∙ well.decls_below);
      actions_below = ap₂ (λ n acts. are_below n (actions_variables acts)) (sym count) (sym same)
          ∙ well.actions_below;
    }

no_decls : (scope : Scope) (held : List ℕ) (next : ℕ) (actions : List Action) → AreAmong held (vars_of scope)
    → are_below next (numbers_of scope) ≡ true
    → are_fine (flat_map (λ action. uses held (action_variables action)) actions) ≡ true
    → IsBlockWell scope next [] actions
no_decls scope held next actions among below fine =
    let same : scope ++ [] ≡ scope = append-nil scope in
    let count : next + 0 ≡ next = omega arith in record {
      scoped = ap (λ (s : Scope). is_block_scoped (numbers_of scope) [] (map (numbered_action s) actions)) same
          ∙ actions_hold scope held actions among fine;
      decls_below = refl;
      actions_below =
          ap₂ (λ n (s : Scope). are_below n (actions_variables (map (numbered_action s) actions))) count same
          ∙ actions_are_below next scope held actions among below fine;
    }

pub block_well : (decls : List Decl) (scope : Scope) (held : List ℕ) (next : ℕ) (actions : List Action)
    → AreAmong held (vars_of scope) → are_below next (numbers_of scope) ≡ true
    → are_fine (block_occurrences held decls actions) ≡ true → IsBlockWell scope next decls actions
block_well [] scope held next actions among below fine = no_decls scope held next actions among below fine
block_well (decl ∷ decls) scope held next actions among below fine =
    let vs = decl_variable decl ∷ [] in
    let naming = namings_from next vs in
    let inside = scope ++ naming in
    let here = decl_occurrences held decl in
    let rest = block_occurrences (held ++ vs) decls actions in
    let names : vars_of inside ≡ vars_of scope ++ vs = map-append Naming.var scope naming in
    let numbers : numbers_of inside ≡ numbers_of scope ++ next ∷ [] = map-append Naming.number scope naming in
    let reach : AreAmong (held ++ vs) (vars_of inside) =
    subst (λ us. AreAmong (held ++ vs) us) (sym names) (among_more held (vars_of scope) vs among) in
    let lower : are_below (suc next) (numbers_of inside) ≡ true =
    ap (are_below (suc next)) numbers
    ∙ below_append (suc next) (numbers_of scope) (next ∷ [])
    (below_more next (suc next) (numbers_of scope) (omega arith) below)
    (below_more (next + 1) (suc next) (next ∷ []) (omega arith) (numbers_are_below next 1)) in
    decl_before scope held next decl decls actions among below (fine_first here rest fine)
    (block_well decls inside (held ++ vs) (suc next) actions reach lower (fine_second here rest fine))
