-- A link by what was gathered of its records.
use Rattle.std.proofs.Common.{◌≡◌, ℕ, List, [], Option, None, refl}
use Rattle.std.specs.Option.{unwrap_or}
use Rattle.proto_wire.specs.Records.{Record}
use Rattle.span_io.specs.Tables.{givens, MeansText}
use Rattle.trace_model.specs.declared.span.Link.{Link}
use Rattle.trace_model.specs.declared.value.Value.{Value}
use Rattle.otlp_proto.specs.declared.reading.link.LinkRows.{LinkRows}
use Rattle.otlp_proto.specs.Attributes.{AttributesOf}
use Rattle.otlp_proto.specs.Identifiers.{MeansTraceId, MeansSpanId}
use Rattle.otlp_proto.specs.Link.{IsLink, link_table}
use Rattle.otlp_proto.specs.private.LinkSoFar.{GatheredLink}
use Rattle.trace_model.specs.Remarks.{Keys}
use Rattle.trace_model.specs.declared.noted.Noted.{Noted}
use Rattle.trace_model.specs.declared.noted.LinkParts.{LinkParts}
use Rattle.trace_model.specs.OtlpParts.{link_of}
use Rattle.otlp_proto.specs.Rows.{bytes_of, varints_of, fixed32s_of, MeansNumber, MeansCount}
use Rattle.span_io.proofs.RowLaws.{gave_or}

-- what stands in the link of these rows beside its identifiers
abbrev pub parts_of : LinkRows → List (List ℕ × Value) → Keys → LinkParts
parts_of rows attributes keys = record {
  state = unwrap_or rows.state [];
  attributes = attributes;
  keys = keys;
  dropped = unwrap_or rows.dropped 0;
  flags = unwrap_or rows.flags 0;
}

pub link_is : (l : Option (Noted Link Keys)) (rows : LinkRows) (records : List Record) (attributes : List (List ℕ × Value)) (keys : Keys) → AttributesOf (bytes_of 4 records) attributes keys
    → l ≡ link_of (unwrap_or rows.trace None) (unwrap_or rows.span None) (parts_of rows attributes keys) → GatheredLink rows (givens link_table records) → IsLink l records
link_is l rows records attributes keys of_records link gathered = record {
  trace = unwrap_or rows.trace None;
  trace_id = gave_or MeansTraceId (λ id. id ≡ None) (bytes_of 1 records) rows.trace None refl gathered.trace;
  span = unwrap_or rows.span None;
  span_id = gave_or MeansSpanId (λ id. id ≡ None) (bytes_of 2 records) rows.span None refl gathered.span;
  parts = parts_of rows attributes keys;
  state = gave_or MeansText (λ text. text ≡ []) (bytes_of 3 records) rows.state [] refl gathered.state;
  attributes = of_records;
  dropped = gave_or MeansCount (λ n. n ≡ 0) (varints_of 5 records) rows.dropped 0 refl gathered.dropped;
  flags = gave_or MeansNumber (λ n. n ≡ 0) (fixed32s_of 6 records) rows.flags 0 refl gathered.flags;
  link = link;
}
