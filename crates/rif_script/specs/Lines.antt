-- The lines of items.
--     change_text c              a change as a client writes it
--     item_text i                an item as a client writes it
--     entry_text names e         an entry's client and item
--     entry_line word names e    the line of an entry behind a word
-- Source: the project's own (docs/FORMATS.md, "Jobs" and "The trace").
use Rattle.std.specs.Prelude.{ℕ, List, ◌++◌, codes, decimal}
use Rattle.rif_values.specs.declared.change.Change.{Change}
use Rattle.rif_values.specs.declared.change.Change.TheVariants.{Assert, Retract, RetractSlot, RetractObject, Modify}
use Rattle.rif_values.specs.declared.fact.Fact.TheVariants.{Frame}
use Rattle.rif_values.specs.Writing.{const_text, fact_text}
use Rattle.rif_tree.specs.Rules.{name_of}
use Rattle.session_states.specs.declared.item.Item.{Item}
use Rattle.session_states.specs.declared.item.Item.TheVariants.{Change as Changing, Fire, Until, Halt, Dispose}
use Rattle.session_states.specs.declared.item.Entry.{Entry}

abbrev pub change_text : Change → List ℕ
change_text (Assert f) = codes "assert " ++ fact_text f
change_text (Retract f) = codes "retract " ++ fact_text f
change_text (RetractSlot o s) = codes "retract " ++ const_text o ++ codes " " ++ const_text s
change_text (RetractObject o) = codes "retract " ++ const_text o
change_text (Modify o s v) = codes "modify " ++ fact_text (Frame o s v)

abbrev pub item_text : Item → List ℕ
item_text (Changing c) = change_text c
item_text (Fire budget) = codes "fire " ++ decimal budget
item_text (Until budget) = codes "until " ++ decimal budget
item_text Halt = codes "halt"
item_text Dispose = codes "dispose"

abbrev pub entry_text : List (List ℕ) → Entry → List ℕ
entry_text names entry = name_of names entry.client ++ codes " " ++ item_text entry.item

abbrev pub entry_line : List ℕ → List (List ℕ) → Entry → List ℕ
entry_line word names entry = word ++ codes " " ++ entry_text names entry ++ codes "\n"
