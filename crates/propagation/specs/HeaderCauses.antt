-- The numbers and names of causes why header lines tell no context, as notes print them.
use Rattle.std.specs.Prelude.{ℕ, List, codes}
use Rattle.propagation.specs.declared.header_cause.HeaderCause.{HeaderCause}
use Rattle.propagation.specs.declared.header_cause.HeaderCause.TheVariants.{HeaderLine, NoContext, BadTraceparent, BadB3, BadUber}

-- the number of a cause, which a note prints and which never changes; 33 is no cause's
abbrev pub header_cause_number : HeaderCause → ℕ
header_cause_number HeaderLine = 30
header_cause_number NoContext = 31
header_cause_number BadTraceparent = 32
header_cause_number BadB3 = 34
header_cause_number BadUber = 35

-- the name of a cause, which a note prints behind its number
abbrev pub header_cause_name : HeaderCause → List ℕ
header_cause_name HeaderLine = codes "HeaderLine"
header_cause_name NoContext = codes "NoContext"
header_cause_name BadTraceparent = codes "BadTraceparent"
header_cause_name BadB3 = codes "BadB3"
header_cause_name BadUber = codes "BadUber"
