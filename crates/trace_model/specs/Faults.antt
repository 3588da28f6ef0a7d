-- The numbers and names of faults, as notes print them.
use Rattle.std.specs.Prelude.{ℕ, List, codes}
use Rattle.trace_model.specs.declared.fault.Fault.{Fault}
use Rattle.trace_model.specs.declared.fault.Fault.TheVariants.{EndBeforeStart, OwnKey, EventText, ChildOfLink, DoubleInText}

-- the number of a fault, which never changes. 21 was once given, and isn't given again
abbrev pub fault_number : Fault → ℕ
fault_number EndBeforeStart = 20
fault_number (OwnKey key) = 22
fault_number EventText = 23
fault_number ChildOfLink = 24
fault_number DoubleInText = 25

-- the name of a fault, which a note prints behind its number; the key of an OwnKey is no part of the name
abbrev pub fault_name : Fault → List ℕ
fault_name EndBeforeStart = codes "EndBeforeStart"
fault_name (OwnKey key) = codes "OwnKey"
fault_name EventText = codes "EventText"
fault_name ChildOfLink = codes "ChildOfLink"
fault_name DoubleInText = codes "DoubleInText"
