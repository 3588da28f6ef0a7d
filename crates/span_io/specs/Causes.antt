-- The numbers and names of causes, as notes print them.
use Rattle.std.specs.Prelude.{ℕ, List, codes}
use Rattle.span_io.specs.declared.cause.Cause.{Cause}
use Rattle.span_io.specs.declared.cause.Cause.TheVariants.{Truncated, BadVarint, BadWire, BadSize, TooDeep, UnitTooLong, FieldTwice, Missing, NotText, BadJson, BadShape, BadId, BadEnum, BadElement, DoubleInJson, BadTime, InputTooLong}

-- the number of a cause, which never changes: notes print it, and of two offences at one place the one of lesser number counts
abbrev pub cause_number : Cause → ℕ
cause_number Truncated = 1
cause_number BadVarint = 2
cause_number BadWire = 3
cause_number BadSize = 4
cause_number TooDeep = 5
cause_number UnitTooLong = 6
cause_number FieldTwice = 7
cause_number Missing = 8
cause_number NotText = 9
cause_number BadJson = 10
cause_number BadShape = 11
cause_number BadId = 12
cause_number BadEnum = 13
cause_number BadElement = 14
cause_number DoubleInJson = 15
cause_number BadTime = 16
cause_number InputTooLong = 17

-- the name of a cause, which a note prints behind its number
abbrev pub cause_name : Cause → List ℕ
cause_name Truncated = codes "Truncated"
cause_name BadVarint = codes "BadVarint"
cause_name BadWire = codes "BadWire"
cause_name BadSize = codes "BadSize"
cause_name TooDeep = codes "TooDeep"
cause_name UnitTooLong = codes "UnitTooLong"
cause_name FieldTwice = codes "FieldTwice"
cause_name Missing = codes "Missing"
cause_name NotText = codes "NotText"
cause_name BadJson = codes "BadJson"
cause_name BadShape = codes "BadShape"
cause_name BadId = codes "BadId"
cause_name BadEnum = codes "BadEnum"
cause_name BadElement = codes "BadElement"
cause_name DoubleInJson = codes "DoubleInJson"
cause_name BadTime = codes "BadTime"
cause_name InputTooLong = codes "InputTooLong"
