-- The least of some numbers in a row that aren't among others.
use Rattle.std.proofs.Common.{◌≡◌, ◌∙◌, ℕ, zero, suc, ◌<◌, ◌≤◌, ◌+◌, ◌-◌, Bool, true, false, not, List, ◌∷◌, Some}
use Rattle.std.proofs.Common.{None}
use Rattle.std.proofs.Common.{cond, min, refl, ap, arith}
use Rattle.std.specs.declared.option.Option.{Option}
use Rattle.rif_tree.specs.Variables.{has_variable, without}
use Rattle.ready_order.specs.Arranging.{least_of, least_with}
use Rattle.safe_rules.specs.Numbers.{numbers_from}

-- the numbers from one on are that one and those behind it
pub numbers_step : (v n : ℕ) → v < n → numbers_from v (n - v) ≡ v ∷ numbers_from (suc v) (n - suc v)
numbers_step v n below =
    let one : n - v ≡ suc (n - suc v) = omega arith in ap (numbers_from v) one

pub all_of_it : (n : ℕ) → n ≡ n - 0
all_of_it n = omega arith

pub none_left : (n v : ℕ) → n ≤ v → n - v ≡ 0
none_left n v over = omega arith

pub one_more : (v : ℕ) → suc v ≡ v + 1
one_more v = omega arith

abbrev IsAbove : ℕ → Option ℕ → Type 0
IsAbove v None = Unit {0}
IsAbove v (Some w) = v < w

both_above : (v w u : ℕ) → v < w → v < u → v < min w u
both_above v w u below above = omega arith

above_least : (v w : ℕ) (o : Option ℕ) → v < w → IsAbove v o → v < least_with w o
above_least v w None below above = below
above_least v w (Some u) below above = both_above v w u below above

above_at : (v first : ℕ) (rest : List ℕ) (there : Bool) → v < first → IsAbove v (least_of rest)
    → IsAbove v (least_of (cond (not there) (first ∷ rest) rest))
above_at v first rest true below above = above
above_at v first rest false below above = above_least v first (least_of rest) below above

least_above : (bound : List ℕ) (v first count : ℕ) → v < first
    → IsAbove v (least_of (without bound (numbers_from first count)))
least_above bound v first zero below = tt
least_above bound v first (suc count) below =
    above_at v first (without bound (numbers_from (suc first) count)) (has_variable bound first) below
    (least_above bound v (suc first) count (omega arith))

least_is : (v w : ℕ) → v < w → min v w ≡ v
least_is v w above = omega arith

least_first : (v : ℕ) (o : Option ℕ) → IsAbove v o → least_with v o ≡ v
least_first v None above = refl
least_first v (Some w) above = least_is v w above

-- the first that isn't among the others is the least
pub least_found : (bound : List ℕ) (v count : ℕ) → has_variable bound v ≡ false
    → least_of (without bound (v ∷ numbers_from (suc v) count)) ≡ Some v
least_found bound v count gone =
    let rest = without bound (numbers_from (suc v) count) in
    ap (λ there. least_of (cond (not there) (v ∷ rest) rest)) gone
    ∙ ap (λ w. Some w) (least_first v (least_of rest) (least_above bound v (suc v) count (omega arith)))

-- one that is among them is passed over
pub least_passed : (bound : List ℕ) (v count : ℕ) → has_variable bound v ≡ true
    → least_of (without bound (v ∷ numbers_from (suc v) count)) ≡ least_of (without bound (numbers_from
    (suc v) count))
least_passed bound v count there =
    let rest = without bound (numbers_from (suc v) count) in
    ap (λ has. least_of (cond (not has) (v ∷ rest) rest)) there
