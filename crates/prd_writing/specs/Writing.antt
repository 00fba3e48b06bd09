-- What is left to write of a list. No public clause cites this module.
use Rattle.std.specs.Prelude.{ℕ, Bool, true, false, List, [], ◌∷◌, ◌++◌, codes}
use Rattle.rif_lex.specs.Spelling.{Spelled, spelled_text}
use Rattle.prd_writing.specs.Canonical.{Writing, listed}

-- what stands before a member of a list
abbrev pub space_before : Bool → List ℕ
space_before true = []
space_before false = codes " "

-- the members that are left, where the first of them is the first of all, or isn't
abbrev pub left_text : Bool → List Writing → List Spelled → List ℕ
left_text is_first [] rest = spelled_text rest
left_text is_first (w ∷ ws) rest = space_before is_first ++ spelled_text (listed (w ∷ ws) rest)
