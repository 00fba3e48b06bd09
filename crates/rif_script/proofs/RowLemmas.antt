-- The values of a rule's variables, variable after variable.
use Rattle.std.proofs.Common.{◌≡◌, ◌∙◌, ◌+◌, ◌++◌, ℕ, zero, suc, List, [], ◌∷◌, Some, flat_map, ap, arith, sym}
use Rattle.std.proofs.Common.{append_assoc}
use Rattle.std.proofs.lemmas.Grind.{flat_map-append}
use Rattle.std.proofs.lemmas.List.{append-nil}
use Rattle.std.proofs.lemmas.List.Folds.{flat_map-map}
use Rattle.rif_values.specs.Bindings.{Row}
use Rattle.rif_tree.specs.Rules.{name_of}
use Rattle.safe_rules.specs.declared.safe_rule.SafeRule.{SafeRule}
use Rattle.safe_rules.specs.Numbers.{numbers_below, numbers_from}
use Rattle.safe_rules.specs.SafeRules.{forall_variables}
use Rattle.rif_script.specs.Trace.{row_text, text_of_variable, variable_text}

pub row_is_shown : (rule : SafeRule) (row : Row) →
    flat_map (text_of_variable rule row) (forall_variables rule) ≡ row_text (Some rule) row
row_is_shown rule row =
    sym (flat_map-map (variable_text row) (λ v. (v, name_of rule.names v)) (forall_variables rule))

-- one number more stands at the end
numbers_more : (first n last : ℕ) → first + n ≡ last → numbers_from first (suc n) ≡ numbers_from first n ++ last ∷ []
numbers_more first zero last is = ap (λ (k : ℕ). k ∷ []) (omega (arith, is))
numbers_more first (suc n) last is =
    ap (λ (more : List ℕ). first ∷ more) (numbers_more (suc first) n last (omega (arith, is)))

one_more_shown : (f : ℕ → List ℕ) (n : ℕ) →
    flat_map f (numbers_below (n + 1)) ≡ flat_map f (numbers_below n) ++ f n
one_more_shown f n =
    let next : n + 1 ≡ suc n = omega arith in
    ap (λ (k : ℕ). flat_map f (numbers_below k)) next
    ∙ ap (flat_map f) (numbers_more 0 n n (omega arith))
    ∙ flat_map-append f (numbers_below n) (n ∷ [])
    ∙ ap (λ (last : List ℕ). flat_map f (numbers_below n) ++ last) (append-nil (f n))

-- what was shown up to a variable, and then the variable
pub shown_with : (f : ℕ → List ℕ) (before shown more : List ℕ) (n : ℕ) →
    shown ≡ before ++ flat_map f (numbers_below n) → more ≡ shown ++ f n →
    more ≡ before ++ flat_map f (numbers_below (n + 1))
shown_with f before shown more n so_far one_more =
    one_more
    ∙ ap (λ (text : List ℕ). text ++ f n) so_far
    ∙ append_assoc before (flat_map f (numbers_below n)) (f n)
    ∙ ap (λ (text : List ℕ). before ++ text) (sym (one_more_shown f n))
