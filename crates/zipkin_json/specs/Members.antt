-- Numbers in a JSON value (RFC 8259) as the Zipkin v2 API lays it out. Each kind is told as what it means, and as how it offends.
use Rattle.std.specs.Prelude.{◌≡◌, ℕ, ◌+◌, ◌<◌, ◌≤◌, Option, Some, None, option_and_then, unwrap_or}
use Rattle.serde_json.specs.Data.{Num, unsigned, negative, float, Data}
use Rattle.serde_json.specs.Find.{as_number, as_u64}
use Rattle.span_ids.specs.Times.{last_micros}
use Rattle.span_io.specs.Paths.{Offences, here, valued}
use Rattle.json_members.specs.Members.{IsCount}

-- `port` of an `Endpoint`: a whole number from 0 to 65535
abbrev pub IsPort : ℕ → Data → Type 0
IsPort port d = IsCount port d × (port ≤ 65535)

-- BadShape: no whole number from 0 to 65535
abbrev pub port_offends : Data → Offences
port_offends d = valued (λ port. here (λ number. (number ≡ 11) × (65535 < port))) (option_and_then as_u64 (as_number d))

-- BadTime: a whole number that is negative, or comes behind the last microsecond where it is counted from `start`; BadShape: another
abbrev pub micros_offends : ℕ → Num → Offences
micros_offends start (unsigned count) = here (λ number. (number ≡ 16) × (last_micros < start + count))
micros_offends start (negative z) = here (λ number. number ≡ 16)
micros_offends start (float x) = here (λ number. number ≡ 11)

-- BadShape: no number; else how a count of microseconds offends that is counted from `start`
abbrev pub count_offends : ℕ → Data → Offences
count_offends start d = valued (micros_offends start) (as_number d)

-- the count that a member gives, and 0 without one
abbrev pub count_or_zero : Option Data → ℕ
count_or_zero None = 0
count_or_zero (Some d) = unwrap_or (option_and_then as_u64 (as_number d)) 0
