-- What a call on a source in memory moves.
use Rattle.std.proofs.Common.{◌≡◌, ℕ, ◌+◌, ◌-◌, ◌<◌, ◌≤◌, min, List, [], ◌++◌, length, take, drop, ap, sym, ◌∙◌}
use Rattle.std.proofs.Common.{arith, length-append, length-drop}
use Rattle.std.proofs.lemmas.List.{take-append-drop, length-take-le, take_at, drop-drop}
use Rattle.std.proofs.Math.ListN.{drop_of_length-le}

-- Of the bytes, `count` were copied from the place `at` to the front of a buffer, in a call that moves at
-- most `piece` bytes.
module _ (piece at count : ℕ) (bytes buf copied : List ℕ)
    (some_piece : 0 < piece)
    (inside : at ≤ length bytes)
    (count_is : count ≡ min (min piece (length buf)) (length bytes - at))
    (copied_is : copied ≡ take (at + count - at) (drop at bytes)) where
  front_is : copied ≡ take count (drop at bytes)
  front_is =
      let same_count : at + count - at ≡ count = omega arith in
      copied_is ∙ ap (λ n. take n (drop at bytes)) same_count

  copied_length : length copied ≡ count
  copied_length = ap length front_is ∙ length-take-le count (drop at bytes) (omega (arith, length-drop at bytes))

  -- the bytes at the place are those at the buffer's front, and then those behind them
  pub bytes_at_front : drop at bytes ≡ take count (copied ++ drop count buf) ++ drop (at + count) bytes
  bytes_at_front =
      let front = take_at copied (drop count buf) count copied_length ∙ front_is in
      let rest = drop-drop count at bytes in
      sym (take-append-drop count (drop at bytes)) ∙ cc

  -- no byte is moved into a buffer that isn't empty at the end alone
  pub none_at_end : count ≡ 0 → 0 < length (copied ++ drop count buf) → drop (at + count) bytes ≡ []
  none_at_end none some =
      let room = length-append copied (drop count buf) in
      drop_of_length-le bytes (omega (arith, copied_length, length-drop count buf))
