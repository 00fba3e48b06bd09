-- Numbers in a row.
--     numbers_from first count   so many numbers, from the first one on
--     numbers_below n            the numbers below n
use Rattle.std.specs.Prelude.{ℕ, zero, suc, List, [], ◌∷◌}

abbrev pub numbers_from : ℕ → ℕ → List ℕ
numbers_from first zero = []
numbers_from first (suc count) = first ∷ numbers_from (suc first) count

abbrev pub numbers_below : ℕ → List ℕ
numbers_below n = numbers_from 0 n
