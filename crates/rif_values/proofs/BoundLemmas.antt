-- A row with one more variable is in order of variable.
use Rattle.std.proofs.Common.{◌≡◌, ℕ, ◌<◌, ◌==◌, Bool, true, false, cond, nat_lt, [], ◌∷◌, Some, None, filter}
use Rattle.std.proofs.Common.{refl, arith}
use Rattle.std.proofs.lemmas.Bool.Decides.{nat_tests}
use Rattle.rif_values.specs.declared.constant.Const.{Const}
use Rattle.rif_values.specs.Bindings.{Row, RisesFrom, IsBinding, value_at}
use Rattle.rif_values.specs.Bindings.{bound}

rises_step : (low : ℕ) (p : ℕ × Const) (ps : Row) (v : ℕ) (c : Const) (before same : Bool)
    → nat_lt v p.0 ≡ before → (p.0 == v) ≡ same → (low < p.0) × RisesFrom p.0 ps → low < v
    → cond same (Some p.1) (value_at ps v) ≡ None → (p.0 < v → value_at ps v ≡ None → RisesFrom p.0 (bound ps v c))
    → RisesFrom low (cond before ((v, c) ∷ p ∷ ps) (p ∷ bound ps v c))
rises_step low p ps v c true same below is rises above absent rest = let first : v < p.0 = grind (arith, nat_tests) in
    (above, (first, rises.1))
rises_step low p ps v c false true below is rises above absent rest = absurd (cc absent)
rises_step low p ps v c false false below is rises above absent rest =
    let after : p.0 < v = grind (arith, nat_tests) in (rises.0, rest after absent)

rises_bound : (low : ℕ) (ps : Row) (v : ℕ) (c : Const) → RisesFrom low ps → low < v
    → value_at ps v ≡ None
    → RisesFrom low (bound ps v c)
rises_bound low [] v c rises above absent = (above, tt)
rises_bound low (p ∷ ps) v c rises above absent =
    rises_step low p ps v c (nat_lt v p.0) (p.0 == v) refl refl rises above absent
    (λ after rest. rises_bound p.0 ps v c rises.1 after rest)

binding_step : (p : ℕ × Const) (ps : Row) (v : ℕ) (c : Const) (before same : Bool)
    → nat_lt v p.0 ≡ before → (p.0 == v) ≡ same → RisesFrom p.0 ps → cond same (Some p.1) (value_at ps v) ≡ None
    → IsBinding (cond before ((v, c) ∷ p ∷ ps) (p ∷ bound ps v c))
binding_step p ps v c true same below is rises absent =
    let first : v < p.0 = grind (arith, nat_tests) in (first, rises)
binding_step p ps v c false true below is rises absent = absurd (cc absent)
binding_step p ps v c false false below is rises absent =
    let after : p.0 < v = grind (arith, nat_tests) in rises_bound p.0 ps v c rises after absent

pub binding_bound : (row : Row) (v : ℕ) (c : Const) → IsBinding row → value_at row v ≡ None
    → IsBinding (bound row v c)
binding_bound [] v c is absent = tt
binding_bound (p ∷ ps) v c is absent = binding_step p ps v c (nat_lt v p.0) (p.0 == v) refl refl is absent

rises_lower : (low high : ℕ) (ps : Row) → low < high → RisesFrom high ps → RisesFrom low ps
rises_lower low high [] below rises = tt
rises_lower low high (p ∷ ps) below rises = let above : high < p.0 = rises.0 in let all : low < p.0 = omega arith in
    (all, rises.1)

rises_filter : (test : ℕ × Const → Bool) (low : ℕ) (ps : Row) → RisesFrom low ps
    → RisesFrom low (filter test ps)
rises_filter test low [] rises = tt
rises_filter test low (p ∷ ps) rises =
    let rest : RisesFrom p.0 (filter test ps) = rises_filter test p.0 ps rises.1 in
    elim (test p) as (λ b. RisesFrom low (cond b (p ∷ filter test ps) (filter test ps))) [
      | true ↦ (rises.0, rest)
      | false ↦ rises_lower low p.0 (filter test ps) rises.0 rest
    ]

rises_binding : (low : ℕ) (ps : Row) → RisesFrom low ps → IsBinding ps
rises_binding low [] rises = tt
rises_binding low (p ∷ ps) rises = rises.1

pub binding_filter : (test : ℕ × Const → Bool) (ps : Row) → IsBinding ps → IsBinding (filter test ps)
binding_filter test [] is = tt
binding_filter test (p ∷ ps) is =
    let rest : RisesFrom p.0 (filter test ps) = rises_filter test p.0 ps is in
    elim (test p) as (λ b. IsBinding (cond b (p ∷ filter test ps) (filter test ps))) [
      | true ↦ rest
      | false ↦ rises_binding p.0 (filter test ps) rest
    ]
