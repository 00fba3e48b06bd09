-- Declarations have their numbers in the order of the text.
use Rattle.std.proofs.Common.{◌≡◌, ℕ, suc, ◌+◌, List, [], ◌∷◌, ◌++◌, length, map}
use Rattle.std.proofs.Common.{ap, ap₂, ◌∙◌, sym, refl, subst}
use Rattle.std.specs.List.{flat_map}
use Rattle.std.proofs.lemmas.List.{length-append, length-map}
use Rattle.rif_tree.specs.declared.tree.Formula.{Formula, map-Formula, roll-Formula}
use Rattle.rif_tree.specs.declared.tree.Formula.TheVariants.{rolls-Not, rolls-Equal, rolls-Member, rolls-Frame}
use Rattle.rif_tree.specs.declared.tree.Formula.TheVariants.{rolls-Atom, rolls-Holds}
use Rattle.rif_tree.specs.declared.tree.Formula.TheOpen.{Formula-F, And as AndLayer, Or as OrLayer, Not as NotLayer}
use Rattle.rif_tree.specs.declared.tree.Formula.TheOpen.{Exists as ExistsLayer, Equal as EqualLayer}
use Rattle.rif_tree.specs.declared.tree.Formula.TheOpen.{Member as MemberLayer, Frame as FrameLayer}
use Rattle.rif_tree.specs.declared.tree.Formula.TheOpen.{Atom as AtomLayer, Holds as HoldsLayer}
use Rattle.rif_tree.specs.declared.tree.Formula.TheFolds.{fold-roll-Formula, ind-Formula}
use Rattle.rif_tree.specs.declared.rule.Decl.{Decl}
use Rattle.rif_tree.specs.declared.rule.Rule.{Rule}
use Rattle.rif_tree.specs.Rules.{forall_variables, name_of}
use Rattle.safe_rules.specs.BlockScope.{decl_variable}
use Rattle.rule_scopes.specs.Laws.{AreNumbersInOrder}
use Rattle.rule_scopes.specs.Numbering.{Scope, Numbering, numbers_of, namings_from, numbered_term}
use Rattle.safe_rules.specs.Numbers.{numbers_from}
use Rattle.rule_scopes.specs.Numbering.{numbered_pair, each_form, numbering_of, numbering_step, declared_in}
use Rattle.rule_scopes.specs.Numbering.{numbered_decls, numbered_action, conditions_of, exists_variables, declared_by}
use Rattle.rule_scopes.proofs.BelowLemmas.{namings_numbers, numbers_add}
use Rattle.rule_scopes.proofs.NumberingLemmas.{declared_and, declared_or, declared_exists}
use Rattle.rule_scopes.proofs.TermNumberLemmas.{decl_number}

abbrev InOrder : Numbering → Type 0
InOrder n = (scope : Scope) (next : ℕ) → declared_in (n.form scope next) ≡ numbers_from next (length n.declared)

abbrev Known : Type 0
Known = (f : Formula) × InOrder (numbering_of f)

abbrev formula_in : Known → Formula
formula_in e = e.0

abbrev formulas_in : Formula-F Known → Formula-F Formula
formulas_in y = map-Formula Known Formula formula_in y

each_ordered : (es : List Known) (scope : Scope) (next : ℕ)
    → flat_map declared_in (each_form (map numbering_of (map formula_in es)) scope next)
    ≡ numbers_from next (length (flat_map Numbering.declared (map numbering_of (map formula_in es))))
each_ordered [] scope next = refl
each_ordered (e ∷ es) scope next =
    let here = (numbering_of e.0).declared in
    let more = flat_map Numbering.declared (map numbering_of (map formula_in es)) in
    ap₂ (λ us vs. us ++ vs) (e.1 scope next) (each_ordered es scope (next + length here))
    ∙ sym (numbers_add next (length here) (length more))
    ∙ ap (numbers_from next) (sym (length-append here more))

none_declared : (x : Formula-F Formula) (f : Formula) → roll-Formula x ≡ f
    → (numbering_step (map-Formula Formula Numbering numbering_of x)).declared ≡ [] → declared_in f ≡ []
none_declared x f is none =
    ap declared_in (sym is) ∙ ap Numbering.declared (fold-roll-Formula Numbering numbering_step x) ∙ none

inside : (y : Formula-F Known) → InOrder (numbering_step (map-Formula Formula Numbering numbering_of (formulas_in y)))
inside (AndLayer es) scope next =
    declared_and (each_form (map numbering_of (map formula_in es)) scope next) ∙ each_ordered es scope next
inside (OrLayer es) scope next =
    declared_or (each_form (map numbering_of (map formula_in es)) scope next) ∙ each_ordered es scope next
inside (NotLayer e) scope next =
    let f = (numbering_of e.0).form scope next in
    ap declared_in (sym (rolls-Not f))
    ∙ ap Numbering.declared (fold-roll-Formula Numbering numbering_step (NotLayer f)) ∙ e.1 scope next
inside (ExistsLayer vs e) scope next =
    let namings = namings_from next vs in
    let inner = numbering_of e.0 in
    declared_exists (numbers_of namings) (inner.form (scope ++ namings) (next + length vs))
    ∙ ap₂ (λ us ws. us ++ ws) (namings_numbers next vs) (e.1 (scope ++ namings) (next + length vs))
    ∙ sym (numbers_add next (length vs) (length inner.declared))
    ∙ ap (numbers_from next) (sym (length-append vs inner.declared))
inside (EqualLayer a b) scope next =
    let x = numbered_term scope a in
    let y = numbered_term scope b in
    none_declared (EqualLayer x y) ((numbering_step (EqualLayer a b)).form scope next) (rolls-Equal x y) refl
inside (MemberLayer o c) scope next =
    let x = numbered_term scope o in
    let y = numbered_term scope c in
    none_declared (MemberLayer x y) ((numbering_step (MemberLayer o c)).form scope next) (rolls-Member x y) refl
inside (FrameLayer o pairs) scope next =
    let x = numbered_term scope o in
    let ps = map (numbered_pair scope) pairs in
    none_declared (FrameLayer x ps) ((numbering_step (FrameLayer o pairs)).form scope next) (rolls-Frame x ps) refl
inside (AtomLayer p ts) scope next =
    let us = map (numbered_term scope) ts in
    none_declared (AtomLayer p us) ((numbering_step (AtomLayer p ts)).form scope next) (rolls-Atom p us) refl
inside (HoldsLayer pred ts) scope next =
    let us = map (numbered_term scope) ts in
    none_declared (HoldsLayer pred us) ((numbering_step (HoldsLayer pred ts)).form scope next) (rolls-Holds pred us)
    refl

layer : (y : Formula-F Known) → InOrder (numbering_of (roll-Formula (formulas_in y)))
layer y = subst InOrder (sym (fold-roll-Formula Numbering numbering_step (formulas_in y))) (inside y)

formula_ordered : (f : Formula) → InOrder (numbering_of f)
formula_ordered =
    ind-Formula (λ f. InOrder (numbering_of f))
    (λ x y is. subst (λ z. InOrder (numbering_of (roll-Formula z))) is (layer y))

formulas_ordered : (fs : List Formula) (scope : Scope) (next : ℕ)
    → flat_map declared_in (each_form (map numbering_of fs) scope next)
    ≡ numbers_from next (length (flat_map declared_in fs))
formulas_ordered [] scope next = refl
formulas_ordered (f ∷ fs) scope next =
    let here = declared_in f in
    let more = flat_map declared_in fs in
    ap₂ (λ us vs. us ++ vs) (formula_ordered f scope next) (formulas_ordered fs scope (next + length here))
    ∙ sym (numbers_add next (length here) (length more))
    ∙ ap (numbers_from next) (sym (length-append here more))

decls_ordered : (decls : List Decl) (scope : Scope) (next : ℕ)
    → map decl_variable (numbered_decls scope next decls) ≡ numbers_from next (length decls)
decls_ordered [] scope next = refl
decls_ordered (decl ∷ decls) scope next =
    ap₂ (λ n ns. n ∷ ns) (decl_number scope next decl)
    (decls_ordered decls (scope ++ namings_from next (decl_variable decl ∷ [])) (suc next))

-- how many variables a rule declares
pub declared_count : (rule : Rule)
    → length (declared_by rule)
    ≡ length (forall_variables rule) + length (exists_variables rule) + length rule.decls
declared_count rule =
    let head = forall_variables rule in
    let exists = exists_variables rule in
    length-append (head ++ exists) (map decl_variable rule.decls)
    ∙ ap₂ (λ m n. m + n) (length-append head exists) (length-map rule.decls decl_variable)

pub numbers_in_order : AreNumbersInOrder
numbers_in_order rule =
    let head = forall_variables rule in
    let scope = namings_from 0 head in
    let next = length (head ++ exists_variables rule) in record {
      head = refl;
      condition = declared_and (each_form (map numbering_of (conditions_of rule)) scope (length head))
          ∙ formulas_ordered (conditions_of rule) scope (length head);
      block = decls_ordered rule.decls scope next
          ∙ ap (λ n. numbers_from n (length rule.decls)) (length-append head (exists_variables rule));
      names = length-map (declared_by rule) (name_of rule.names) ∙ declared_count rule;
      actions = length-map rule.actions
          (numbered_action (scope ++ namings_from next (map decl_variable rule.decls)));
    }
