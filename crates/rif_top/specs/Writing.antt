-- What a write of a whole text says of its sink.
-- Source: the project's own (docs/FORMATS.md, "Sources and sinks").
use Rattle.std.specs.Prelude.{ℕ, ◌≤◌, List, length, take, MatchResult}
use Rattle.std.specs.Io.KnownBytes.{Appends}
use Rattle.std.specs.declared.option.Option.{Option}
use Rattle.std.specs.declared.result.Result.{Result}

-- the first bytes of the text came to what was written
abbrev pub WritesFront : Option (List ℕ) → Option (List ℕ) → List ℕ → Type 0
WritesFront old new text = (count : ℕ) × (count ≤ length text) × Appends old new (take count text)

-- all of it did, or after a failure a front of it
abbrev pub WritesText : {E : Type 0} → Option (List ℕ) → Option (List ℕ) → List ℕ → Result Unit E → Type 0
WritesText old new text result = MatchResult result (λ _. Appends old new text) (λ _. WritesFront old new text)
