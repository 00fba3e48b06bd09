-- How the facts that there is room for are kept. No public clause cites this module.
--     counts m, waits m      whether a mark says that its fact counts, or that it doesn't yet
--     added_by room          what the change adds, if there is one
--     IsReady es room        the facts that don't count yet are those that the change adds, and it can be done
use Rattle.std.specs.Prelude.{◌≡◌, Bool, false, not, List, [], IfSome, None, Some}
use Rattle.std.specs.declared.option.Option.{Option}
use Rattle.rif_values.specs.declared.fact.Fact.{Fact}
use Rattle.rif_values.specs.declared.change.Delta.{Delta}
use Rattle.rif_values.specs.Facts.{has_fact}
use Rattle.rif_values.specs.Order.{fact_cmp}
use Rattle.rif_values.specs.Sets.{IsChangeOf}
use Rattle.rif_facts.specs.Marks.{mark_at, counted, IsMarked}

abbrev pub counts : Option Bool → Bool
counts None = false
counts (Some mark) = mark

abbrev pub waits : Option Bool → Bool
waits None = false
waits (Some mark) = not mark

abbrev pub added_by : Option Delta → List Fact
added_by None = []
added_by (Some delta) = delta.added

pub record IsReady (es : List (Fact × Bool)) (room : Option Delta) : Type 0 where
  pub marked : IsMarked es
  pub waiting : (q : Fact) → waits (mark_at es q) ≡ has_fact (added_by room) q
  pub change : IfSome room (λ delta. IsChangeOf fact_cmp (counted es) delta.added delta.removed)
