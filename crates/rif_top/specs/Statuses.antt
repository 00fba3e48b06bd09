-- How a run of the program ends.
--     status_code s             what the process ends with
--     IsAnswered s              the input was answered
--     IsDoneOrNoMemory s        the command did what it is for, or no memory was found
--     IsRefusedOrNoMemory s     the input has a refusal, or no memory was found
-- Source: the project's own (docs/FORMATS.md, "Statuses").
use Rattle.std.specs.Prelude.{ℕ}
use Rattle.rif_top.specs.declared.status.Status.{Status}
use Rattle.rif_top.specs.declared.status.Status.TheVariants.{Done, Refused, Usage, ReadFault, WriteFault, OutOfMemory}

-- what the process ends with
abbrev pub status_code : Status → ℕ
status_code Done = 0
status_code Refused = 1
status_code Usage = 2
status_code ReadFault = 3
status_code WriteFault = 4
status_code OutOfMemory = 5

-- the status says that the input was answered
abbrev pub IsAnswered : Status → Type 0
IsAnswered Done = Unit {0}
IsAnswered Refused = Unit {0}
IsAnswered Usage = ⊥
IsAnswered ReadFault = ⊥
IsAnswered WriteFault = ⊥
IsAnswered OutOfMemory = ⊥

-- the status says that the command did what it is for, or found no memory
abbrev pub IsDoneOrNoMemory : Status → Type 0
IsDoneOrNoMemory Done = Unit {0}
IsDoneOrNoMemory OutOfMemory = Unit {0}
IsDoneOrNoMemory Refused = ⊥
IsDoneOrNoMemory Usage = ⊥
IsDoneOrNoMemory ReadFault = ⊥
IsDoneOrNoMemory WriteFault = ⊥

-- the status says that the input has a refusal, or that no memory was found
abbrev pub IsRefusedOrNoMemory : Status → Type 0
IsRefusedOrNoMemory Refused = Unit {0}
IsRefusedOrNoMemory OutOfMemory = Unit {0}
IsRefusedOrNoMemory Done = ⊥
IsRefusedOrNoMemory Usage = ⊥
IsRefusedOrNoMemory ReadFault = ⊥
IsRefusedOrNoMemory WriteFault = ⊥
