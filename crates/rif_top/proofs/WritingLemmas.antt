-- A text that is written piece by piece.
use Rattle.std.proofs.Common.{◌≡◌, ℕ, ◌+◌, ◌-◌, List, ◌++◌, length, take, drop, ap, sym, ◌∙◌, Some, None, arith}
use Rattle.std.proofs.Common.{length-drop, append_assoc}
use Rattle.std.proofs.lemmas.List.{take_all}
use Rattle.std.proofs.Math.Seq.{take-add}
use Rattle.std.specs.Io.KnownBytes.{Appends}
use Rattle.std.specs.declared.option.Option.{Option}

-- two texts that were appended one after the other are one
module _ (first second : List ℕ) where
  pub appends_both : (old between new : Option (List ℕ)) →
      Appends old between first → Appends between new second → Appends old new (first ++ second)
  appends_both None between new a b = tt
  appends_both (Some xs) None new a b = absurd a
  appends_both (Some xs) (Some ys) None a b = absurd b
  appends_both (Some xs) (Some ys) (Some zs) a b =
      b ∙ (ap (λ front. front ++ second) a ∙ append_assoc xs first second)

module _ (at count : ℕ) (text : List ℕ) where
  -- all that is left of a text
  rest_is_all : take (length text - at) (drop at text) ≡ drop at text
  rest_is_all = take_all (length text - at) (drop at text) (omega (arith, length-drop at text))

  -- the front that was written, and then a front of the rest
  pub front_grows : take (at + count) text ≡ take at text ++ take count (take (length text - at) (drop at text))
  front_grows = take-add at count text ∙ ap (λ rest. take at text ++ take count rest) (sym rest_is_all)
