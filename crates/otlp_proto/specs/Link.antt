-- `Span.Link` (OTLP trace.proto): `trace_id` 1 and `span_id` 2, `trace_state` 3, a text, `attributes` 4, `dropped_attributes_count` 5
-- and `flags` 6, four bytes. A link without one of its identifiers is dropped.
use Rattle.std.specs.Prelude.{◌≡◌, ℕ, List, [], ◌∷◌, Option, None}
use Rattle.span_io.specs.FreeItems.{Paddings, Same, TextPadded}
use Rattle.span_io.specs.Offences.{Rules}
use Rattle.span_io.specs.Tables.{Row, Singular, rules_by, no_ends, MeansText}
use Rattle.proto_wire.specs.Messages.{messages}
use Rattle.proto_wire.specs.Records.{Record}
use Rattle.trace_model.specs.declared.span.Link.{Link}
use Rattle.otlp_proto.specs.Attributes.{AttributesOf, attributes}
use Rattle.otlp_proto.specs.Identifiers.{MeansTraceId, MeansSpanId}
use Rattle.trace_model.specs.Remarks.{Keys}
use Rattle.trace_model.specs.declared.noted.Noted.{Noted}
use Rattle.otlp_proto.specs.PaddedValues.{AttributePadded}
use Rattle.otlp_proto.specs.Rows.{bytes_of, varints_of, fixed32s_of, MeansNumber, MeansCount, text, count, flags, trace_id, span_id}
use Rattle.trace_model.specs.declared.noted.LinkParts.{LinkParts}
use Rattle.trace_model.specs.OtlpParts.{link_of}

-- the records, in any order, are those of this link, or of one that is dropped
pub record IsLink (l : Option (Noted Link Keys)) (records : List Record) : Type 0 where
  pub trace : Option ℕ
  pub trace_id : Singular MeansTraceId (λ id. id ≡ None) (bytes_of 1 records) trace
  pub span : Option ℕ
  pub span_id : Singular MeansSpanId (λ id. id ≡ None) (bytes_of 2 records) span
  pub parts : LinkParts
  pub state : Singular MeansText (λ text. text ≡ []) (bytes_of 3 records) parts.state
  pub attributes : AttributesOf (bytes_of 4 records) parts.attributes parts.keys
  pub dropped : Singular MeansCount (λ n. n ≡ 0) (varints_of 5 records) parts.dropped
  pub flags : Singular MeansNumber (λ n. n ≡ 0) (fixed32s_of 6 records) parts.flags
  pub link : l ≡ link_of trace span parts

-- the fields of `Span.Link`, a row each, from `trace_id` 1 to `flags` 6
abbrev pub link_table : List (Row Record)
link_table = trace_id 1 ∷ span_id 2 ∷ text 3 ∷ attributes 4 ∷ count 5 ∷ flags 6 ∷ []

-- how a `Span.Link` offends: in its rows, and never by what it lacks at its end, since one without an identifier is dropped
abbrev pub link_rules : Rules Record
link_rules = rules_by link_table no_ends

-- free records added in it, and in what its rows hold
abbrev pub link_padded : Paddings link_table
link_padded = (Same, (Same, (Same, (AttributePadded, (Same, (Same, tt))))))

-- the bytes of a link, and the same with free records added at any depth
abbrev pub LinkPadded : List ℕ → List ℕ → Type 0
LinkPadded held other = TextPadded messages link_table link_padded held other
