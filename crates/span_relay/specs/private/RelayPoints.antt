-- What serving a connection over a keeper does, from no outcome on.
use Rattle.std.specs.Prelude.{◌≤◌, List, Bool, Result, Ok, Err}
use Rattle.span_io.specs.Links.{Link}
use Rattle.span_io.specs.Sizes.{IsShort}
use Rattle.span_io.specs.declared.form.Form.{Form}
use Rattle.span_io.specs.declared.limits.Limits.{Limits}
use Rattle.conn_service.specs.declared.ended.Ended.{Ended}
use Rattle.conn_service.specs.declared.ended.ServeFault.{ServeFault}
use Rattle.conn_service.specs.declared.ended.ServeFault.TheVariants as faults
use Rattle.span_spool.specs.Spools.{IsSpool, Spool}
use Rattle.span_relay.specs.RelayConnections.{AddsRows, AnswersOutcomes, CountsRefused, FalseWhereFull, IsRelayed, KeepsRelayMark, RelaysToRead, RelaysToWant, RelaysToWrite, TellsEach}

-- what was answered, by how the call ends
abbrev pub Ends : Form → Limits → Link → Link → List Bool → Result Ended ServeFault → Type 0
Ends to limits before now outcomes (Ok ended) = IsRelayed to limits before now outcomes ended
Ends to limits before now outcomes (Err faults.Read) = RelaysToRead to limits before now outcomes
Ends to limits before now outcomes (Err faults.Write) = RelaysToWrite to limits before now outcomes
Ends to limits before now outcomes (Err faults.OutOfMemory) = RelaysToWant to limits before now outcomes

-- all of it
pub record Points (to : Form) (limits : Limits) (before now : Link) (old new : Spool) (outcomes : List Bool)
    (result : Result Ended ServeFault) : Type 0 where
  pub rows : AddsRows to limits outcomes before now old new
  pub full : FalseWhereFull old outcomes
  pub refused : CountsRefused old new outcomes
  pub each : TellsEach old new outcomes
  pub ends : Ends to limits before now outcomes result
  pub answers : AnswersOutcomes to limits before now outcomes
  pub mark : KeepsRelayMark to limits outcomes before now
  pub counted : old.faults ≤ new.faults
  pub sound : IsSpool old → IsSpool new
  pub short : IsShort outcomes
