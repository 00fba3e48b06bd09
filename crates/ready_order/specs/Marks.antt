-- How the code marks the conjuncts that it has taken. No public clause cites this module.
--     left_of cs marks               the conjuncts that aren't marked
--     pieces_left cs marks           these as pieces
--     untaken mark found             what a try finds: nothing of a conjunct that is marked
--     taking_told cs marks found     what is taken where the code has found a conjunct
--     progress_told cs progress      the arrangement that was made so far
--     behind taken a                 the conjuncts of an arrangement behind those that were taken before it
--     IsUnderway bound cs n p        after n turns, one conjunct taken in each: the arrangement of those left, behind
--                                    those taken, is the arrangement of all
-- Source: our own (docs/PROFILE.md, "Ready order").
use Rattle.std.specs.Prelude.{◌≡◌, ℕ, ◌+◌, Bool, true, false, List, [], ◌∷◌, ◌++◌, map, length, set, None}
use Rattle.std.specs.declared.option.Option.{Option}
use Rattle.rif_tree.specs.declared.tree.Formula.{Formula}
use Rattle.ready_order.specs.declared.progress.Progress.{Progress}
use Rattle.ready_order.specs.declared.progress.Found.{Found}
use Rattle.ready_order.specs.Arranging.{Piece, Taking, Arrangement, piece_of, arrangement}

abbrev pub left_of : List Formula → List Bool → List Formula
left_of [] marks = []
left_of (c ∷ cs) [] = c ∷ cs
left_of (c ∷ cs) (true ∷ marks) = left_of cs marks
left_of (c ∷ cs) (false ∷ marks) = c ∷ left_of cs marks

abbrev pub pieces_left : List Formula → List Bool → List Piece
pieces_left cs marks = map piece_of (left_of cs marks)

abbrev pub untaken : Bool → Option Formula → Option Formula
untaken true found = None
untaken false found = found

abbrev pub taking_told : List Formula → List Bool → Found → Taking
taking_told cs marks found =
    record { taken = found.taken; binds = found.binds; left = pieces_left cs (set marks found.place true) }

abbrev pub progress_told : List Formula → Progress → Arrangement
progress_told cs progress =
    record { taken = progress.taken; left = pieces_left cs progress.is_taken; bound = progress.bound }

abbrev pub behind : List Formula → Arrangement → Arrangement
behind taken a = record { taken = taken ++ a.taken; left = a.left; bound = a.bound }

abbrev pub IsUnderway : List ℕ → List Formula → ℕ → Progress → Type 0
IsUnderway bound cs turns progress = record {
  goes_on : behind progress.taken (arrangement progress.bound (pieces_left cs progress.is_taken))
      ≡ arrangement bound (map piece_of cs);
  turns : turns + length (pieces_left cs progress.is_taken) ≡ length cs;
  marks : length progress.is_taken ≡ length cs;
}
