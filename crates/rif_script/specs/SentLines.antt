-- A line of a script as a value of the code. No public clause cites this module.
--     line_view line      what a line sends, if anything
--     HasText line        the name that it has is a text
--     Finds               what a call finds and puts into a list, or that there is nothing to find
use Rattle.std.specs.Prelude.{◌≡◌, ℕ, List, Option, Some, None, Ok, Err, IsUtf8}
use Rattle.std.specs.declared.result.Result.{Result}
use Rattle.session_states.specs.declared.item.Item.{Item}
use Rattle.rif_script.specs.declared.line_fault.LineFault.{LineFault}
use Rattle.rif_script.specs.declared.line_fault.LineFault.TheVariants.{Bad, OutOfMemory}
use Rattle.rif_script.specs.declared.script_line.Line.{Line}
use Rattle.rif_script.specs.declared.script_line.Line.TheVariants.{Skipped, Sent}

abbrev pub line_view : Line → Option (List ℕ × Item)
line_view Skipped = None
line_view (Sent name item) = Some (name.now, item)

abbrev pub HasText : Line → Type 0
HasText Skipped = Unit {0}
HasText (Sent name item) = IsUtf8 name.now

-- a call put into a list what is given; and it finds nothing where nothing is given, or where memory ran out
abbrev pub Finds : {X R : Type 0} → Result (Unit {0}) LineFault → X → Result X R → Type 0
Finds (Ok done) now given = given ≡ Ok now
Finds (Err Bad) now (Ok x) = ⊥
Finds (Err Bad) now (Err refusal) = Unit {0}
Finds (Err OutOfMemory) now given = Unit {0}
