-- How conflict sets are listed: what was found is put in order.
use Rattle.std.proofs.Common.{◌≡◌, List, IfOk, Result, subst}
use Rattle.std.specs.declared.cmp.Ordering.{Ordering}
use Rattle.rif_values.specs.contracts.binding.BindingOrd.TheImpl as binding_order
use Rattle.rif_values.specs.Order.{binding_cmp}
use Rattle.rif_values.specs.Sets.{ordered}
use Rattle.rif_values.proofs.CallerLemmas.{binding_order_is}
use Rattle.rif_values.specs.Bindings.{Row}

-- what was found, put in order
pub ordered_rows : {E : Type 0} (r : Result (List Row) E) (found rows : List Row) → found ≡ rows
    → IfOk r (λ set. set ≡ ordered binding_order.ghosts.cmp found) → IfOk r (λ set. set ≡ ordered binding_cmp rows)
ordered_rows r found rows same h =
    subst (λ (cmp : Row → Row → Ordering). IfOk r (λ set. set ≡ ordered cmp rows)) binding_order_is
    (subst (λ (xs : List Row). IfOk r (λ set. set ≡ ordered binding_order.ghosts.cmp xs)) same h)
