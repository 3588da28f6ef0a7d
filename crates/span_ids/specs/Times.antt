-- Microseconds, which jaeger.thrift (`startTime`, `duration`, `timestamp`) and Zipkin v2 (`timestamp`, `duration`) count, and nanoseconds,
-- which OTLP counts (`start_time_unix_nano`).
use Rattle.std.specs.Prelude.{◌≡◌, ℕ, ◌-◌, ◌*◌, ◌/◌, ◌%◌}

-- the whole microseconds in n nanoseconds
abbrev pub micros : ℕ → ℕ
micros n = n / 1000

-- n nanoseconds, down to a whole microsecond
abbrev pub floor : ℕ → ℕ
floor n = n - n % 1000

-- they are whole microseconds
abbrev pub IsWhole : ℕ → Type 0
IsWhole time = floor time ≡ time

-- the nanoseconds in u microseconds
abbrev pub nanos : ℕ → ℕ
nanos u = u * 1000

-- the last count of microseconds whose nanoseconds are below 2 ^ 64
abbrev pub last_micros : ℕ
last_micros = 18446744073709551
