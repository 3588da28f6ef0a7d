-- `Span.Event` (OTLP trace.proto): `time_unix_nano` 1, eight bytes, `name` 2, a text, `attributes` 3 and `dropped_attributes_count` 4.
use Rattle.std.specs.Prelude.{◌≡◌, ℕ, List, [], ◌∷◌}
use Rattle.span_io.specs.FreeItems.{Paddings, Same, TextPadded}
use Rattle.span_io.specs.Offences.{Rules}
use Rattle.span_io.specs.Tables.{Row, Singular, rules_by, no_ends, MeansText}
use Rattle.proto_wire.specs.Messages.{messages}
use Rattle.proto_wire.specs.Records.{Record}
use Rattle.trace_model.specs.declared.span.Event.{Event}
use Rattle.otlp_proto.specs.Attributes.{AttributesOf, attributes}
use Rattle.trace_model.specs.Remarks.{Keys}
use Rattle.trace_model.specs.declared.noted.Noted.{Noted}
use Rattle.otlp_proto.specs.PaddedValues.{AttributePadded}
use Rattle.otlp_proto.specs.Rows.{bytes_of, varints_of, fixed64s_of, MeansNumber, MeansCount, text, time, count}

-- the records, in any order, are those of this event
pub record IsEvent (e : Noted Event Keys) (records : List Record) : Type 0 where
  pub time : Singular MeansNumber (λ n. n ≡ 0) (fixed64s_of 1 records) e.means.time
  pub name : Singular MeansText (λ text. text ≡ []) (bytes_of 2 records) e.means.name
  pub attributes : AttributesOf (bytes_of 3 records) e.means.attributes e.notes
  pub dropped : Singular MeansCount (λ n. n ≡ 0) (varints_of 4 records) e.means.dropped

-- the fields of `Span.Event`, a row each: `time_unix_nano` 1, `name` 2, `attributes` 3, `dropped_attributes_count` 4
abbrev pub event_table : List (Row Record)
event_table = time 1 ∷ text 2 ∷ attributes 3 ∷ count 4 ∷ []

-- how a `Span.Event` offends: in its rows, and never by what it lacks at its end
abbrev pub event_rules : Rules Record
event_rules = rules_by event_table no_ends

-- free records added in it, and in what its rows hold
abbrev pub event_padded : Paddings event_table
event_padded = (Same, (Same, (AttributePadded, (Same, tt))))

-- the bytes of an event, and the same with free records added at any depth
abbrev pub EventPadded : List ℕ → List ℕ → Type 0
EventPadded held other = TextPadded messages event_table event_padded held other
