-- What contracts see of a keeper in memory.
use Rattle.std.specs.Prelude.{◌≡◌, ℕ, List, [], length, Some, Result, Err}
use Rattle.span_io.specs.Outside.{counted}
use Rattle.span_spool.specs.Spools.{Spool}
use Rattle.span_spool.specs.declared.keeper.KeepFault.{KeepFault}
use Rattle.span_spool.specs.declared.keeper.KeepFault.TheVariants as faults
use Rattle.span_spool.specs.declared.kept.Kept.{Kept}

-- its rows, the room for them, the next number, the calls that fail, and two counts
pub record MemState : Type 0 where
  pub rows : List Kept
  pub room : ℕ
  pub next : ℕ
  pub fail : List ℕ
  pub calls : ℕ
  pub faults : ℕ

-- before any call
abbrev pub fresh_keeper : ℕ → List ℕ → MemState
fresh_keeper room fail = record { rows = []; room = room; next = 1; fail = fail; calls = 0; faults = 0 }

-- the spool of a keeper in memory, which tells its rows
abbrev pub spool_of : MemState → Spool
spool_of s = record { rows = Some s.rows; room = s.room; held = length s.rows; next = s.next; faults = s.faults }

-- a failure was counted once, and nothing else was
abbrev pub CountsFailure : {T : Type 0} → Result T KeepFault → ℕ → ℕ → Type 0
CountsFailure (Err faults.Failed) before now = now ≡ counted before
CountsFailure answer before now = now ≡ before
