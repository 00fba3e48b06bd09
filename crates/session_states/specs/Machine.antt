-- The session machine.
--     joined_budget b more     two budgets together, cut to the greatest one
--     state_after s i          the state that an item leads to, row by row
-- Source: the project's own (docs/PROFILE.md, "The session machine").
use Rattle.std.specs.Prelude.{ℕ, ◌+◌, ◌-◌, ◌^◌, min}
use Rattle.session_states.specs.declared.item.Item.{Item}
use Rattle.session_states.specs.declared.item.Item.TheVariants.{Change, Fire, Until, Halt, Dispose}
use Rattle.session_states.specs.declared.state.State.{State}
use Rattle.session_states.specs.declared.state.State.TheVariants.{Idle, Firing, UntilHalt, Disposed}

abbrev pub joined_budget : ℕ → ℕ → ℕ
joined_budget left more = min (left + more) (2 ^ 64 - 1)

abbrev pub state_after : State → Item → State
state_after Idle (Change c) = Idle
state_after Idle (Fire more) = Firing more
state_after Idle (Until more) = UntilHalt more
state_after Idle Halt = Idle
state_after Idle Dispose = Disposed
state_after (Firing left) (Change c) = Firing left
state_after (Firing left) (Fire more) = Firing (joined_budget left more)
state_after (Firing left) (Until more) = UntilHalt (joined_budget left more)
state_after (Firing left) Halt = Idle
state_after (Firing left) Dispose = Disposed
state_after (UntilHalt left) (Change c) = UntilHalt left
state_after (UntilHalt left) (Fire more) = UntilHalt (joined_budget left more)
state_after (UntilHalt left) (Until more) = UntilHalt (joined_budget left more)
state_after (UntilHalt left) Halt = Idle
state_after (UntilHalt left) Dispose = Disposed
state_after Disposed (Change c) = Disposed
state_after Disposed (Fire more) = Disposed
state_after Disposed (Until more) = Disposed
state_after Disposed Halt = Disposed
state_after Disposed Dispose = Disposed
