-- What a read of a whole input says of its source.
-- Source: the project's own (docs/FORMATS.md, "Sources and sinks").
use Rattle.std.specs.Prelude.{◌≡◌, ℕ, ◌≤◌, List, length, take, drop, IfSome, Some}
use Rattle.std.specs.declared.option.Option.{Option}

-- an input was read of a source, which told what was left before and after: it is the first `most` bytes,
-- or all where there are fewer, and the others are left
pub record ReadsFront (most : ℕ) (old new : Option (List ℕ)) (input : List ℕ) : Type 0 where
  pub at_most : length input ≤ most
  pub bytes : IfSome old (λ all. (input ≡ take most all) × (new ≡ Some (drop most all)))
