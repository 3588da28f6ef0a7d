-- What the reader of an event has gathered.
use Rattle.std.specs.Prelude.{List, Result, IfOk}
use Rattle.span_io.specs.Tables.{Givens, givens, MeansText}
use Rattle.proto_wire.specs.Records.{Record}
use Rattle.trace_model.specs.declared.noted.Noted.{Noted}
use Rattle.trace_model.specs.declared.span.Event.{Event}
use Rattle.trace_model.specs.Remarks.{Keys}
use Rattle.otlp_proto.specs.declared.reading.event.EventRows.{EventRows}
use Rattle.otlp_proto.specs.private.AttributesSoFar.{GatheredAttributes}
use Rattle.otlp_proto.specs.Event.{IsEvent, event_table}
use Rattle.otlp_proto.specs.Rows.{MeansNumber, MeansCount}
use Rattle.span_io.specs.RowsSoFar.{Gave}

-- each row of an event holds what the records given to it so far mean
pub record GatheredEvent (rows : EventRows) (given : Givens event_table) : Type 0 where
  pub time : Gave MeansNumber given.0 rows.time
  pub name : Gave MeansText given.1.0 rows.name
  pub attributes : GatheredAttributes given.1.1.0 rows.attributes
  pub dropped : Gave MeansCount given.1.1.1.0 rows.dropped

-- the rows make it: whatever records gave them mean it
abbrev pub MakesEvent : {E : Type 0} → EventRows → Result (Noted Event Keys) E → Type 0
MakesEvent rows result =
    (records : List Record) → GatheredEvent rows (givens event_table records) → IfOk result (λ read. IsEvent read records)
