-- Lines of notes, by their parts.
use Rattle.std.specs.Prelude.{ℕ, List, [], ◌++◌, codes, decimal}
use Rattle.span_answers.specs.NoteLines.{refusal_line}
use Rattle.span_cli.specs.declared.ending.Ending.{Ending}
use Rattle.span_cli.specs.declared.ending.Ending.TheVariants as endings
use Rattle.span_cli.specs.declared.noted_fault.NotedFault.{NotedFault}
use Rattle.span_cli.specs.Lines.{header_cause_line, no_ids_line, too_long_line}

-- the exit status: 0 of the whole, 3 of a refusal, 4 of a fault, 5 and 6 of a failed input and output, 7 of want of memory
abbrev pub status_of : Ending → ℕ
status_of endings.Whole = 0
status_of (endings.Refused refusal) = 3
status_of (endings.Faulted noted) = 4
status_of (endings.BadHeaders cause) = 3
status_of endings.TooLong = 3
status_of endings.NoIds = 4
status_of endings.InputFailed = 5
status_of endings.OutputFailed = 6
status_of endings.NoMemory = 7

-- the line of a fault of a unit: the unit's number, the fault's number and name, and its key, if it has one
abbrev pub noted_line : NotedFault → List ℕ
noted_line noted =
    codes "unit " ++ decimal noted.unit ++ codes ": fault " ++ decimal noted.number
    ++ codes " " ++ noted.name.now ++ noted.key ++ codes "\n"

-- the line that is noted of an ending, and none where the whole text was written
abbrev pub ending_line : Ending → List ℕ
ending_line endings.Whole = []
ending_line (endings.Refused refusal) = refusal_line refusal
ending_line (endings.Faulted noted) = noted_line noted
ending_line (endings.BadHeaders cause) = header_cause_line cause
ending_line endings.TooLong = too_long_line
ending_line endings.NoIds = no_ids_line
ending_line endings.InputFailed = codes "input failed\n"
ending_line endings.OutputFailed = codes "output failed\n"
ending_line endings.NoMemory = codes "out of memory\n"
