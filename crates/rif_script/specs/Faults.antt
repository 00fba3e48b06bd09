-- What a call on a source or a sink says of its count of faults.
-- Source: the project's own (docs/FORMATS.md, "Sources and sinks").
use Rattle.std.specs.Prelude.{◌≡◌, ℕ, ◌<◌, ◌≤◌, OnErr, OnOk}
use Rattle.std.specs.declared.result.Result.{Result}

-- the count of faults before a call, and now that it answered `result`: a failure has raised it
pub record CountsFaults {T E : Type 0} (before now : ℕ) (result : Result T E) : Type 0 where
  pub never_falls : before ≤ now
  pub rises : OnErr result (before < now)
  pub stays : OnOk result (now ≡ before)
