-- Things that are counted from 1, as rules and turns are.
--     nth_of xs n     the n-th of a list, counted from 1, where there is one
-- Source: the project's own.
use Rattle.std.specs.Prelude.{ℕ, zero, suc, List, None, slice_get}
use Rattle.std.specs.declared.option.Option.{Option}

abbrev pub nth_of : {X : Type 0} → List X → ℕ → Option X
nth_of xs zero = None
nth_of xs (suc place) = slice_get xs place
