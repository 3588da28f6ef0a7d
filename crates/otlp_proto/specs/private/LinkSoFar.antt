-- What the reader of a link has gathered.
use Rattle.std.specs.Prelude.{List, Option, Result, IfOk}
use Rattle.span_io.specs.Tables.{Givens, givens, MeansText}
use Rattle.proto_wire.specs.Records.{Record}
use Rattle.trace_model.specs.declared.noted.Noted.{Noted}
use Rattle.trace_model.specs.declared.span.Link.{Link}
use Rattle.trace_model.specs.Remarks.{Keys}
use Rattle.otlp_proto.specs.declared.reading.link.LinkRows.{LinkRows}
use Rattle.otlp_proto.specs.private.AttributesSoFar.{GatheredAttributes}
use Rattle.otlp_proto.specs.Identifiers.{MeansTraceId, MeansSpanId}
use Rattle.otlp_proto.specs.Link.{IsLink, link_table}
use Rattle.otlp_proto.specs.Rows.{MeansNumber, MeansCount}
use Rattle.span_io.specs.RowsSoFar.{Gave}

-- each row of a link holds what the records given to it so far mean
pub record GatheredLink (rows : LinkRows) (given : Givens link_table) : Type 0 where
  pub trace : Gave MeansTraceId given.0 rows.trace
  pub span : Gave MeansSpanId given.1.0 rows.span
  pub state : Gave MeansText given.1.1.0 rows.state
  pub attributes : GatheredAttributes given.1.1.1.0 rows.attributes
  pub dropped : Gave MeansCount given.1.1.1.1.0 rows.dropped
  pub flags : Gave MeansNumber given.1.1.1.1.1.0 rows.flags

-- the rows make it: whatever records gave them mean it
abbrev pub MakesLink : {E : Type 0} → LinkRows → Result (Option (Noted Link Keys)) E → Type 0
MakesLink rows result =
    (records : List Record) → GatheredLink rows (givens link_table records) → IfOk result (λ read. IsLink read records)
