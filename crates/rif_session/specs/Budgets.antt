-- How many turns a pass makes at most, and which of its batches could have been longer.
--     budget_left state        how many firings are left in a state
--     budgets_of entries       the budgets of the entries' items together
--     short_batches batches    how many of them more entries could stand in: there are fewer than 1,024, and the last
--                              one ends no batch
-- Source: the project's own (docs/PROFILE.md, "Batches" and "The session machine").
use Rattle.std.specs.Prelude.{ℕ, ◌+◌, List, [], ◌∷◌, if◌then◌else◌}
use Rattle.session_states.specs.declared.item.Item.{Item}
use Rattle.session_states.specs.declared.item.Item.TheVariants.{Change, Fire, Until, Halt, Dispose}
use Rattle.session_states.specs.declared.item.Entry.{Entry}
use Rattle.session_states.specs.declared.state.State.{State}
use Rattle.session_states.specs.declared.state.State.TheVariants.{Idle, Firing, UntilHalt, Disposed}
use Rattle.session_states.specs.OpenBatches.{takes_more}

abbrev pub budget_left : State → ℕ
budget_left Idle = 0
budget_left (Firing left) = left
budget_left (UntilHalt left) = left
budget_left Disposed = 0

abbrev pub budget_in : Item → ℕ
budget_in (Change change) = 0
budget_in (Fire more) = more
budget_in (Until more) = more
budget_in Halt = 0
budget_in Dispose = 0

abbrev pub budgets_of : List Entry → ℕ
budgets_of [] = 0
budgets_of (entry ∷ entries) = budget_in entry.item + budgets_of entries

abbrev pub short_batches : List (List Entry) → ℕ
short_batches [] = 0
short_batches (batch ∷ batches) = (if takes_more batch then 1 else 0) + short_batches batches
