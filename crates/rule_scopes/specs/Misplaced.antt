-- The words of the clauses by which a rule is walked through. No public clause cites this module.
--     use_of held v             a use of a variable where these hold, and declaration_of a declaration
--     told is v found           what was found first, where this variable is told of behind it or isn't
--     nothing                   none was found yet
--     seen m o                  what was found behind one occurrence, and seen_all behind some
--     seen_used m held vs       what was found behind uses of these variables
use Rattle.std.specs.Prelude.{ℕ, Bool, true, false, List, [], ◌∷◌, Some, None}
use Rattle.std.specs.Option.{option_or}
use Rattle.std.specs.declared.option.Option.{Option}
use Rattle.rule_scopes.specs.declared.misplaced.Misplaced.{Misplaced}
use Rattle.rule_scopes.specs.Occurrences.{Occurrence, is_undeclared, is_repeated}

abbrev pub use_of : List ℕ → ℕ → Occurrence
use_of held v = record { variable = v; declares = false; holding = held }

abbrev pub declaration_of : List ℕ → ℕ → Occurrence
declaration_of held v = record { variable = v; declares = true; holding = held }

abbrev pub told : Bool → ℕ → Option ℕ → Option ℕ
told true v found = option_or found (Some v)
told false v found = found

abbrev pub nothing : Misplaced
nothing = record { undeclared = None; repeated = None }

abbrev pub seen : Misplaced → Occurrence → Misplaced
seen m o = record {
  undeclared = told (is_undeclared o) o.variable m.undeclared;
  repeated = told (is_repeated o) o.variable m.repeated;
}

abbrev pub seen_all : Misplaced → List Occurrence → Misplaced
seen_all m [] = m
seen_all m (o ∷ os) = seen_all (seen m o) os

abbrev pub seen_used : Misplaced → List ℕ → List ℕ → Misplaced
seen_used m held [] = m
seen_used m held (v ∷ vs) = seen_used (seen m (use_of held v)) held vs
