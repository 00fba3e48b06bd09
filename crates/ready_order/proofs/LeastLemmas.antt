-- The least of some numbers, and of those that aren't bound, with one more.
use Rattle.std.proofs.Common.{◌≡◌, ℕ, suc, ◌<◌, Bool, true, false, not, List, [], ◌∷◌, ◌++◌, length, Some, None}
use Rattle.std.proofs.Common.{cond, take, get_or, ap, ◌∙◌, refl, arith, append-nil}
use Rattle.std.specs.declared.option.Option.{Option}
use Rattle.std.proofs.Math.Seq.{take-suc}
use Rattle.std.proofs.lemmas.List.Elements.{filter-append}
use Rattle.rif_tree.specs.Variables.{has_variable, without}
use Rattle.ready_order.specs.Arranging.{least_of, least_with}

swapped : (u v : ℕ) (least : Option ℕ)
    → least_with u (Some (least_with v least)) ≡ least_with v (Some (least_with u least))
swapped u v None = grind arith
swapped u v (Some w) = grind arith

least_next : (us : List ℕ) (v : ℕ) → least_of (us ++ v ∷ []) ≡ Some (least_with v (least_of us))
least_next [] v = refl
least_next (u ∷ us) v =
    ap (λ (o : Option ℕ). Some (least_with u o)) (least_next us v) ∙ ap Some (swapped u v (least_of us))

least_at : (us : List ℕ) (v : ℕ) (is_bound : Bool) → least_of (us ++ cond (not is_bound) (v ∷ []) [])
    ≡ cond is_bound (least_of us) (Some (least_with v (least_of us)))
least_at us v true = ap least_of (append-nil us)
least_at us v false = least_next us v

pub least_more : (bound vars : List ℕ) (i d : ℕ) → i < length vars → least_of (without bound (take (suc i) vars))
    ≡ cond (has_variable bound (get_or vars i d)) (least_of (without bound (take i vars)))
    (Some (least_with (get_or vars i d) (least_of (without bound (take i vars)))))
least_more bound vars i d below =
    let v = get_or vars i d in
    ap (λ (us : List ℕ). least_of (without bound us)) (take-suc vars i d below)
    ∙ ap least_of (filter-append (λ u. not (has_variable bound u)) (take i vars) (v ∷ []))
    ∙ least_at (without bound (take i vars)) v (has_variable bound v)
