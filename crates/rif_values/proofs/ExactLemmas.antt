-- Which orders tell their elements apart. The library has `exact_unsigned`, `exact_signed`, `exact_bytes` and
-- `exact_pairs` (lemmas.Map.Lookups), whose type computes to `IsExact`.
-- Of a derived order: one equation for each variant, by the lemma of its field, or by `exact_then` for all fields
-- but the last; and one for two different variants, by `cc`. A struct is as one variant.
use Rattle.std.proofs.Common.{◌≡◌, true, false, [], ◌∷◌, Some, None, Ordering, Less, Equal, Greater, refl, ap}
use Rattle.std.specs.Ordering.{ordering_then, bool_cmp}
use Rattle.std.specs.Option.{option_cmp}
use Rattle.std.specs.Cmp.Lexicographic.{slice_cmp}
use Rattle.rif_values.specs.Sets.{IsExact}

-- one answer and then another are `Equal` where both are
pub both_equal : (first later : Ordering) → ordering_then first later ≡ Equal → (first ≡ Equal) × (later ≡ Equal)
both_equal Less later equal = cc
both_equal Equal later equal = (refl, equal)
both_equal Greater later equal = cc

-- `bool`
pub exact_bools : IsExact bool_cmp
exact_bools false false equal = refl
exact_bools false true equal = cc
exact_bools true false equal = cc
exact_bools true true equal = refl

module _ {A : Type 0} {cmp : A → A → Ordering} (exact : IsExact cmp) where
  -- the next field of a chain: it is the same, and the later fields compare alike
  pub exact_then : (x y : A) (later : Ordering) → ordering_then (cmp x y) later ≡ Equal → (x ≡ y) × (later ≡ Equal)
  exact_then x y later equal = let both = both_equal (cmp x y) later equal in (exact x y both.0, both.1)

  -- lists, by their first elements that differ
  pub exact_lists : IsExact (slice_cmp cmp)
  exact_lists [] [] equal = refl
  exact_lists [] (y ∷ ys) equal = cc
  exact_lists (x ∷ xs) [] equal = cc
  exact_lists (x ∷ xs) (y ∷ ys) equal =
      let both = exact_then x y (slice_cmp cmp xs ys) equal in
      λ i. both.0 i ∷ exact_lists xs ys both.1 i

  -- a value or none
  pub exact_options : IsExact (option_cmp cmp)
  exact_options None None equal = refl
  exact_options None (Some y) equal = cc
  exact_options (Some x) None equal = cc
  exact_options (Some x) (Some y) equal = ap Some (exact x y equal)
