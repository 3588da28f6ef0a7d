-- Why parts of a text are refused; and where values may stand: containers at levels up to 32, and elements, keys and values of a known
-- type.
use Rattle.std.specs.Prelude.{◌≡◌, ◌≤◌, ℕ, zero, Option, Some, None, nat_le, if◌then◌else◌}
use Rattle.span_io.specs.declared.cause.Cause.{Cause}
use Rattle.span_io.specs.declared.cause.Cause.TheVariants as causes
use Rattle.thrift_core.specs.declared.type_code.TypeCode.{TypeCode}
use Rattle.thrift_core.specs.declared.type_code.TypeCode.TheVariants as kinds
use Rattle.thrift_core.specs.Parts.{HasLevel}

-- The bytes of a part are refused for one of four causes. Where several hold at one place, the first of them counts.
abbrev pub turn_of : Cause → ℕ
turn_of causes.TooDeep = 1
turn_of causes.BadVarint = 2
turn_of causes.BadWire = 3
turn_of causes.BadSize = 4
turn_of other = 5

-- the cause is one of these four: TooDeep, BadVarint, BadWire or BadSize
abbrev pub RefusesPart : Cause → Type 0
RefusesPart cause = turn_of cause ≤ 4

-- of the causes that hold at one place this one counts
abbrev pub CountsFirst : (Cause → Type 0) → Cause → Type 0
CountsFirst Holds cause = Holds cause × ((other : Cause) → Holds other → turn_of cause ≤ turn_of other)

-- of two causes, if there are any, the one that counts
abbrev pub counting : Option Cause → Option Cause → Option Cause
counting None other = other
counting (Some cause) None = Some cause
counting (Some cause) (Some other) = if nat_le (turn_of cause) (turn_of other) then Some cause else Some other

-- values of this type may stand where so many levels are left
abbrev pub MayStand : ℕ → Option TypeCode → Type 0
MayStand left element = (kind : TypeCode) × (element ≡ Some kind) × HasLevel left kind

-- why no value of this type, if it is one, may stand where so many levels are left
abbrev pub why_none : ℕ → Option TypeCode → Option Cause
why_none left None = Some causes.BadWire
why_none zero (Some kinds.Struct) = Some causes.TooDeep
why_none zero (Some kinds.Map) = Some causes.TooDeep
why_none zero (Some kinds.Set) = Some causes.TooDeep
why_none zero (Some kinds.List) = Some causes.TooDeep
why_none left (Some kind) = None

-- why no pair of a key and a value may
abbrev pub why_no_pair : ℕ → Option TypeCode → Option TypeCode → Option Cause
why_no_pair left key value = counting (why_none left key) (why_none left value)
