-- Whether the variables of terms are bound.
use Rattle.std.proofs.Common.{◌≡◌, ℕ, Bool, true, false, ◌&&◌, List, [], ◌∷◌, ◌++◌, ap, ◌∙◌, refl}
use Rattle.std.specs.List.{flat_map, list_all}
use Rattle.std.proofs.lemmas.List.Folds.{list_all-append}
use Rattle.rif_tree.specs.declared.builtin.Func.{Func}
use Rattle.rif_tree.specs.declared.tree.Term.{Term}
use Rattle.rif_tree.specs.declared.tree.Term.TheVariants.{Call}
use Rattle.rif_tree.specs.Variables.{has_all, has_variable, variables_of}
use Rattle.rif_tree.proofs.CallerLemmas.{variables_call}

abbrev pub is_term_bound : List ℕ → Term → Bool
is_term_bound bound t = has_all bound (variables_of t)

-- the variables of terms are bound where those of each are
pub bound_each : (bound : List ℕ) (ts : List Term)
    → has_all bound (flat_map variables_of ts) ≡ list_all (is_term_bound bound) ts
bound_each bound [] = refl
bound_each bound (t ∷ ts) =
    list_all-append (has_variable bound) (variables_of t) (flat_map variables_of ts)
    ∙ ap (λ b. has_all bound (variables_of t) && b) (bound_each bound ts)

pub bound_call : (bound : List ℕ) (func : Func) (ts : List Term)
    → has_all bound (variables_of (Call func ts)) ≡ has_all bound (flat_map variables_of ts)
bound_call bound func ts = ap (has_all bound) (variables_call func ts)
