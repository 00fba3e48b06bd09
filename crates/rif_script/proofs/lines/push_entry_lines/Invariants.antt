use Rattle.std.proofs.Common.{◌≡◌, ◌++◌, take, flat_map}
use Rattle.rif_script.specs.Lines.{entry_line}
use Rattle.rif_script.proofs.lines.push_entry_lines.Given as goal

abbrev pub invariant-loop-entry : goal.invariant-loop-entry
invariant-loop-entry l =
    l.out.items ≡ l.fn.out.items ++ flat_map (entry_line l.word l.names) (take l.entry-index l.entries)
