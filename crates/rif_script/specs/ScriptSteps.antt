-- The parts of one step through a script. No public clause cites this module.
--     budgets_with at sum          the sum of the budgets, or the refusal of the line of this number
--     client_with at names name    the number of a name's client, and the names with it, or the same
--     room_for at s item           the sum of the budgets with an item that there is room for, or the same
--     with_room at s one budgets   the script with an item that there is room for, or the same
use Rattle.std.specs.Prelude.{ℕ, ◌+◌, ◌&&◌, not, nat_le, nat_lt, if◌then◌else◌, List, [], ◌∷◌, ◌++◌, Ok, Err, length}
use Rattle.std.specs.declared.result.Result.{Result}
use Rattle.rif_refusals.specs.Limits.{most_clients, most_budgets, most_items}
use Rattle.rif_refusals.specs.declared.refusal.Refusal.{Refusal}
use Rattle.rif_refusals.specs.declared.refusal.Refusal.TheVariants.{BudgetTooLarge, TooManyClients, TooManyItems}
use Rattle.prd_grammar.specs.Values.{has_name, place_of, with_name}
use Rattle.session_states.specs.declared.item.Item.{Item}
use Rattle.rif_script.specs.declared.script.Script.{Script}
use Rattle.rif_script.specs.Jobs.{budget_of}
use Rattle.rif_script.specs.ReadingLines.{and_then}

abbrev pub budgets_with : ℕ → ℕ → Result ℕ Refusal
budgets_with at sum = if nat_lt most_budgets sum then Err (BudgetTooLarge at) else Ok sum

abbrev pub client_with : ℕ → List (List ℕ) → List ℕ → Result (ℕ × List (List ℕ)) Refusal
client_with at names name =
    if not (has_name names name) && nat_le most_clients (length names) then Err (TooManyClients at)
    else Ok (place_of names name, with_name names name)

abbrev pub room_for : ℕ → Script → Item → Result ℕ Refusal
room_for at s item =
    if nat_lt most_budgets (s.budgets + budget_of item) then Err (BudgetTooLarge at)
    else (if nat_le most_items (length s.items) then Err (TooManyItems at) else Ok (s.budgets + budget_of item))

abbrev pub with_client : Script → Item → ℕ → ℕ × List (List ℕ) → Result Script Refusal
with_client s item budgets found =
    Ok (record { names = found.1; items = s.items ++ (found.0, item) ∷ []; budgets = budgets })

abbrev pub with_room : ℕ → Script → List ℕ × Item → ℕ → Result Script Refusal
with_room at s one budgets = and_then (client_with at s.names one.0) (with_client s one.1 budgets)
