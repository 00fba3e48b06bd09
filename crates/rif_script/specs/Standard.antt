-- What a sink over a standard writer tells.
-- Source: the project's own (docs/FORMATS.md, "Sources and sinks").
use Rattle.std.specs.Prelude.{ℕ, ◌-◌, List, length, take}
use Rattle.std.specs.Option.{option_map}
use Rattle.std.specs.declared.option.Option.{Option}

-- what the writer holds, where that is known, without the last bytes, which couldn't be flushed
abbrev pub flushed_bytes : ℕ → Option (List ℕ) → Option (List ℕ)
flushed_bytes unflushed contents = option_map (λ bytes. take (length bytes - unflushed) bytes) contents
