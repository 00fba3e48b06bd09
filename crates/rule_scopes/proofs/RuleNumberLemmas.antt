-- A rule with numbers: its condition and its block are scoped, and its variables have names.
use Rattle.std.proofs.Common.{◌≡◌, ℕ, ◌+◌, ◌≤◌, true, List, [], ◌∷◌, ◌++◌, length, map, None}
use Rattle.std.proofs.Common.{ap, ◌∙◌, sym, refl, subst, arith}
use Rattle.std.specs.List.{flat_map}
use Rattle.std.specs.Option.{option_to_list}
use Rattle.std.proofs.lemmas.List.{length-append, length-map}
use Rattle.std.proofs.lemmas.List.Folds.{flat_map-map}
use Rattle.rif_tree.specs.declared.tree.Formula.{Formula}
use Rattle.rif_tree.specs.declared.tree.Formula.TheVariants.{And}
use Rattle.rif_tree.specs.declared.rule.Rule.{Rule}
use Rattle.rif_tree.specs.Laws.{AreAmong}
use Rattle.rif_tree.specs.Rules.{forall_variables, name_of}
use Rattle.rif_tree.specs.Scoped.{is_scoped}
use Rattle.safe_rules.specs.BlockScope.{is_block_scoped}
use Rattle.rule_scopes.specs.Laws.{IsNumberingScoped, IsBlockNumbered, AreNamesGiven}
use Rattle.safe_rules.specs.Named.{all_variables_of, are_below}
use Rattle.rule_scopes.specs.Numbering.{Scope, Numbering, numbers_of, namings_from, each_form}
use Rattle.safe_rules.specs.Numbers.{numbers_from}
use Rattle.rule_scopes.specs.Numbering.{numbering_of, conditions_of}
use Rattle.rule_scopes.specs.Numbering.{exists_variables, declared_by, numbered_rule}
use Rattle.rule_scopes.specs.Occurrences.{Occurrence, occurrences_in, levels_occurrences, block_occurrences}
use Rattle.rule_scopes.specs.Occurrences.{rule_occurrences, first_undeclared}
use Rattle.rule_scopes.proofs.BelowLemmas.{below_more, below_append, namings_vars, namings_numbers, numbers_are_below}
use Rattle.rule_scopes.proofs.BlockNumberLemmas.{IsBlockWell, block_well, decls_variables, actions_variables}
use Rattle.rule_scopes.proofs.FineLemmas.{are_fine, AreFine, none_found, fine_first, fine_second, fine_both}
use Rattle.rule_scopes.proofs.FineLemmas.{each_fine, levels_fine}
use Rattle.rule_scopes.proofs.FormulaNumberLemmas.{AreWell, Known, formula_in, each_well, numbers_well, scoped_and}
use Rattle.rule_scopes.proofs.FormulaNumberLemmas.{all_and}
use Rattle.rule_scopes.proofs.OrderLemmas.{declared_count}
use Rattle.rule_scopes.proofs.TermNumberLemmas.{vars_of}

abbrev known : List Formula → List Known
known [] = []
known (f ∷ fs) = (f, numbers_well f) ∷ known fs

known_same : (fs : List Formula) → map formula_in (known fs) ≡ fs
known_same [] = refl
known_same (f ∷ fs) = ap (λ gs. f ∷ gs) (known_same fs)

formulas_well : (fs : List Formula) (scope : Scope) (next : ℕ) → are_below next (numbers_of scope) ≡ true
    → AreFine (vars_of scope) fs → AreWell scope next (map numbering_of fs)
formulas_well fs scope next below =
    subst (λ gs. AreFine (vars_of scope) gs → AreWell scope next (map numbering_of gs)) (known_same fs)
    (each_well (known fs) scope next below)

-- ---- the parts of a rule without a refused use

abbrev head_scope : Rule → Scope
head_scope rule = namings_from 0 (forall_variables rule)

abbrev condition_occurrences : Rule → List Occurrence
condition_occurrences rule = flat_map (occurrences_in (forall_variables rule)) (option_to_list rule.condition)

rule_fine : (rule : Rule) → first_undeclared rule ≡ None → are_fine (rule_occurrences rule) ≡ true
rule_fine rule none = none_found (rule_occurrences rule) none

itself : (vs : List ℕ) → AreAmong vs vs
itself vs v has = has

conditions_fine : (rule : Rule) → first_undeclared rule ≡ None → AreFine (forall_variables rule) (conditions_of rule)
conditions_fine rule none =
    let head = forall_variables rule in
    let levels = levels_occurrences [] rule.levels in
    let condition = condition_occurrences rule in
    let block = block_occurrences head rule.decls rule.actions in
    let all = rule_fine rule none in
    let behind = fine_second levels (condition ++ block) all in
    fine_both head (flat_map (λ level. level.such_that) rule.levels) (option_to_list rule.condition)
    (levels_fine head [] rule.levels (itself head) (fine_first levels (condition ++ block) all))
    (each_fine head head (option_to_list rule.condition) (itself head) (fine_first condition block behind))

block_fine : (rule : Rule) → first_undeclared rule ≡ None
    → are_fine (block_occurrences (forall_variables rule) rule.decls rule.actions) ≡ true
block_fine rule none =
    let levels = levels_occurrences [] rule.levels in
    let condition = condition_occurrences rule in
    let block = block_occurrences (forall_variables rule) rule.decls rule.actions in
    fine_second condition block (fine_second levels (condition ++ block) (rule_fine rule none))

-- ---- the head's scope

head_below : (rule : Rule) → are_below (length (forall_variables rule)) (numbers_of (head_scope rule)) ≡ true
head_below rule =
    let head = forall_variables rule in
    let count : length head ≡ 0 + length head = omega arith in
    ap (are_below (length head)) (namings_numbers 0 head)
    ∙ ap (λ n. are_below n (numbers_from 0 (length head))) count ∙ numbers_are_below 0 (length head)

rule_conditions_well : (rule : Rule) → first_undeclared rule ≡ None
    → AreWell (head_scope rule) (length (forall_variables rule)) (map numbering_of (conditions_of rule))
rule_conditions_well rule none =
    let head = forall_variables rule in
    formulas_well (conditions_of rule) (head_scope rule) (length head) (head_below rule)
    (subst (λ vs. AreFine vs (conditions_of rule)) (sym (namings_vars 0 head)) (conditions_fine rule none))

rule_block_well : (rule : Rule) → first_undeclared rule ≡ None
    → IsBlockWell (head_scope rule) (length (forall_variables rule ++ exists_variables rule)) rule.decls rule.actions
rule_block_well rule none =
    let head = forall_variables rule in
    let next = length (head ++ exists_variables rule) in
    let count : next ≡ length head + length (exists_variables rule) = length-append head (exists_variables rule) in
    let reach : AreAmong head (vars_of (head_scope rule)) =
    subst (λ vs. AreAmong head vs) (sym (namings_vars 0 head)) (itself head) in
    block_well rule.decls (head_scope rule) head next rule.actions reach
    (below_more (length head) next (numbers_of (head_scope rule)) (omega (arith, count)) (head_below rule))
    (block_fine rule none)

-- ---- laws

pub numbering_scoped : IsNumberingScoped
numbering_scoped rule none =
    let head = forall_variables rule in
    let fs = each_form (map numbering_of (conditions_of rule)) (head_scope rule) (length head) in
    ap (λ held. is_scoped held (And fs)) (sym (namings_numbers 0 head))
    ∙ scoped_and (numbers_of (head_scope rule)) fs ∙ (rule_conditions_well rule none).scoped

pub block_numbered : IsBlockNumbered
block_numbered rule none =
    let head = forall_variables rule in
    let made = numbered_rule rule in
    ap (λ held. is_block_scoped held made.decls made.actions) (sym (namings_numbers 0 head))
    ∙ (rule_block_well rule none).scoped

pub names_given : AreNamesGiven
names_given rule none =
    let head = forall_variables rule in
    let exists = exists_variables rule in
    let made = numbered_rule rule in
    let fs = each_form (map numbering_of (conditions_of rule)) (head_scope rule) (length head) in
    let all = length made.names in
    let names : all ≡ length head + length exists + length rule.decls =
    length-map (declared_by rule) (name_of rule.names) ∙ declared_count rule in
    let next : length (head ++ exists) ≡ length head + length exists = length-append head exists in
    let count : length (flat_map Numbering.declared (map numbering_of (conditions_of rule))) ≡ length exists =
    ap length (flat_map-map Numbering.declared numbering_of (conditions_of rule)) in
    let conditions = rule_conditions_well rule none in
    let block = rule_block_well rule none in
    let first = length head + length (flat_map Numbering.declared (map numbering_of (conditions_of rule))) in
    let last = length (head ++ exists) + length rule.decls in
    let up : first ≤ all = omega (arith, names, count) in
    let close : last ≤ all = omega (arith, names, next) in
    let decls = decls_variables made.decls in
    let actions = actions_variables made.actions in
    below_append all (all_variables_of (And fs)) (decls ++ actions)
    (ap (are_below all) (all_and fs) ∙ below_more first all (flat_map all_variables_of fs) up conditions.below)
    (below_append all decls actions (below_more last all decls close block.decls_below)
    (below_more last all actions close block.actions_below))
