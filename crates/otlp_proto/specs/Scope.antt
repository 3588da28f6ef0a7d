-- `InstrumentationScope` (OTLP common.proto): `name` 1 and `version` 2, texts, `attributes` 3 and `dropped_attributes_count` 4; and
-- `ScopeSpans` (trace.proto): `scope` 1, `spans` 2 and `schema_url` 3, a text.
use Rattle.std.specs.Prelude.{◌≡◌, ℕ, List, [], ◌∷◌}
use Rattle.std.specs.List.{AllZip}
use Rattle.span_io.specs.FreeItems.{Paddings, Same, TextPadded}
use Rattle.span_io.specs.Offences.{Rules, Offence}
use Rattle.span_io.specs.Tables.{Row, Singular, rules_by, no_ends, MeansText}
use Rattle.proto_wire.specs.Messages.{messages}
use Rattle.proto_wire.specs.Records.{Record}
use Rattle.trace_model.specs.declared.span.Span.{Span}
use Rattle.trace_model.specs.declared.group.Scope.{Scope}
use Rattle.otlp_proto.specs.Attributes.{AttributesOf, attributes}
use Rattle.trace_model.specs.Remarks.{Keys}
use Rattle.trace_model.specs.declared.noted.Noted.{Noted}
use Rattle.trace_model.specs.Notes.{SpanNotes, ScopeNotes}
use Rattle.otlp_proto.specs.PaddedValues.{AttributePadded}
use Rattle.otlp_proto.specs.Rows.{bytes_of, varints_of, MeansCount, text, count, message, messages_of, MeansMessage}
use Rattle.otlp_proto.specs.Span.{IsSpan, span_rules, SpanPadded}
use Rattle.trace_model.specs.declared.noted.InstrumentationScope.{InstrumentationScope}
use Rattle.trace_model.specs.OtlpParts.{no_instrumentation_scope, IsScopeOfParts}

-- ---- `InstrumentationScope`

-- the records, in any order, are those of this `InstrumentationScope`
pub record IsInstrumentationScope (s : Noted InstrumentationScope Keys) (records : List Record) : Type 0 where
  pub name : Singular MeansText (λ text. text ≡ []) (bytes_of 1 records) s.means.name
  pub version : Singular MeansText (λ text. text ≡ []) (bytes_of 2 records) s.means.version
  pub attributes : AttributesOf (bytes_of 3 records) s.means.attributes s.notes
  pub dropped : Singular MeansCount (λ n. n ≡ 0) (varints_of 4 records) s.means.dropped

-- the fields of `InstrumentationScope`, a row each, from `name` 1 to `dropped_attributes_count` 4
abbrev pub instrumentation_scope_table : List (Row Record)
instrumentation_scope_table = text 1 ∷ text 2 ∷ attributes 3 ∷ count 4 ∷ []

-- how an `InstrumentationScope` offends: in its rows, and never by what it lacks at its end
abbrev pub instrumentation_scope_rules : Rules Record
instrumentation_scope_rules = rules_by instrumentation_scope_table no_ends

-- free records added in it, and in what its rows hold
abbrev pub instrumentation_scope_padded : Paddings instrumentation_scope_table
instrumentation_scope_padded = (Same, (Same, (AttributePadded, (Same, tt))))

-- the bytes of an instrumentation scope, and the same with free records added at any depth
abbrev pub InstrumentationScopePadded : List ℕ → List ℕ → Type 0
InstrumentationScopePadded held other = TextPadded messages instrumentation_scope_table instrumentation_scope_padded held other

-- ---- `ScopeSpans`

-- the records, in any order, are those of this `ScopeSpans`
pub record IsScope (s : Noted Scope ScopeNotes) (records : List Record) : Type 0 where
  pub instrumentation : Noted InstrumentationScope Keys
  pub its_instrumentation : Singular (λ held i. MeansMessage IsInstrumentationScope held i) (λ i. i ≡ no_instrumentation_scope) (bytes_of 1 records) instrumentation
  pub spans : List (Noted Span SpanNotes)
  pub each_span : AllZip (MeansMessage IsSpan) (bytes_of 2 records) spans
  pub url : List ℕ
  pub its_url : Singular MeansText (λ text. text ≡ []) (bytes_of 3 records) url
  pub scope : IsScopeOfParts instrumentation spans url s

-- the fields of `ScopeSpans`, a row each: `scope` 1, at most once, `spans` 2, repeated, and `schema_url` 3
abbrev pub scope_table : List (Row Record)
scope_table = message 1 (Noted InstrumentationScope Keys) (MeansMessage IsInstrumentationScope) no_instrumentation_scope (λ held p n. Offence messages instrumentation_scope_rules held p n)
    ∷ messages_of 2 (Noted Span SpanNotes) (MeansMessage IsSpan) (λ held p n. Offence messages span_rules held p n) ∷ text 3 ∷ []

-- how a `ScopeSpans` offends: in its rows, and never by what it lacks at its end
abbrev pub scope_rules : Rules Record
scope_rules = rules_by scope_table no_ends

-- free records added in it, and in what its rows hold
abbrev pub scope_padded : Paddings scope_table
scope_padded = (InstrumentationScopePadded, (SpanPadded, (Same, tt)))

-- the bytes of a scope, and the same with free records added at any depth
abbrev pub ScopePadded : List ℕ → List ℕ → Type 0
ScopePadded held other = TextPadded messages scope_table scope_padded held other
