-- What contracts see of a sink that counts: no bytes, and their number as long as it is below the place where it stands still.
use Rattle.std.specs.Prelude.{ℕ, Some, None, nat_lt, if◌then◌else◌}
use Rattle.span_io.specs.Outside.{Outlet, any_number, last_count}

-- a sink that counted n bytes, as contracts see any sink: the bytes and how its writes went are untold, none was refused, and it
-- takes any number more
abbrev pub counting_outlet : ℕ → Outlet
counting_outlet n = record {
  held = None;
  taken = if nat_lt n last_count then Some n else None;
  faults = 0;
  sure = any_number;
  course = None;
}
