-- What contracts see of a keeper over a table: numbers alone, since it doesn't tell its rows.
use Rattle.std.specs.Prelude.{ℕ, None}
use Rattle.span_spool.specs.Spools.{Spool}

-- the room for rows, how many there are, the next number, and the count of faults
pub record TableState : Type 0 where
  pub room : ℕ
  pub held : ℕ
  pub next : ℕ
  pub faults : ℕ

-- before any call
abbrev pub fresh_table : ℕ → TableState
fresh_table room = record { room = room; held = 0; next = 1; faults = 0 }

-- the spool of a keeper over a table, which doesn't tell its rows
abbrev pub spool_of_table : TableState → Spool
spool_of_table s = record { rows = None; room = s.room; held = s.held; next = s.next; faults = s.faults }
