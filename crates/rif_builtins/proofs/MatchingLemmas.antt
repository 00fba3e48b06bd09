-- How the terms of a pattern are matched.
use Rattle.std.proofs.Common.{◌≡◌, ◌≢◌, suc, List, [], ◌∷◌, length, Some, None, refl, ap}
use Rattle.std.specs.Option.{option_and_then}
use Rattle.std.specs.declared.option.Option.{Option}
use Rattle.rif_values.specs.declared.constant.Const.{Const}
use Rattle.rif_tree.specs.declared.tree.Term.{Term}
use Rattle.rif_values.specs.Bindings.{Row}
use Rattle.rif_builtins.specs.Extensions.{match_term, match_terms}

then_none : (o : Option Row) (f : Row → Option Row) → ((row : Row) → f row ≡ None) → option_and_then f o ≡ None
then_none None f h = refl
then_none (Some row) f h = h row

-- terms don't have the values of another number of constants
pub none_of_lengths : (ts : List Term) (row : Row) (cs : List Const) → length ts ≢ length cs
    → match_terms ts row cs ≡ None
none_of_lengths [] row [] differ = absurd (differ refl)
none_of_lengths [] row (c ∷ cs) differ = refl
none_of_lengths (t ∷ ts) row [] differ = refl
none_of_lengths (t ∷ ts) row (c ∷ cs) differ =
    then_none (match_term row t c) (λ next. match_terms ts next cs)
    (λ next. none_of_lengths ts next cs (λ same. differ (ap suc same)))
