-- `Span` (jaeger.thrift): traceIdLow 1, traceIdHigh 2, spanId 3, parentSpanId 4, operationName 5, a text, references 6, optional, flags 7,
-- startTime 8 and duration 9, microseconds, tags 10 and logs 11, optional.
use Rattle.std.specs.Prelude.{◌≡◌, ◌≤◌, ◌<◌, ◌⊎◌, ℕ, ◌+◌, ℤ, Option, Some, None, is_none, List, [], ◌∷◌, ◌-◌}
use Rattle.std.specs.List.{flat_map, count_by}
use Rattle.span_ids.specs.Times.{nanos, last_micros}
use Rattle.span_io.specs.Offences.{Rules}
use Rattle.span_io.specs.Tables.{Row, rules_by, Singular, MeansText}
use Rattle.thrift_core.specs.Messages.{FieldItem, fields_of}
use Rattle.thrift_core.specs.Parts.{Spelling}
use Rattle.thrift_core.specs.Trees.{Fields, Trees}
use Rattle.thrift_core.specs.FieldValues.{values_of, i32_in, i64_in, binary_in, list_in, EachStruct}
use Rattle.jaeger_model.specs.declared.span.JSpan.{JSpan}
use Rattle.jaeger_model.specs.declared.span.Log.{Log}
use Rattle.jaeger_model.specs.declared.span.SpanRef.{SpanRef}
use Rattle.jaeger_model.specs.Identifiers.{span_id_of, trace_id_of}
use Rattle.jaeger_model.specs.declared.tag.Tag.{Tag}
use Rattle.jaeger_model.specs.InnerRows.{structures}
use Rattle.jaeger_model.specs.Log.{MeansTags, IsLog, log_rules}
use Rattle.jaeger_model.specs.Meanings.{Required, Means, MeansTime}
use Rattle.jaeger_model.specs.Reference.{IsSpanRef, reference_rules}
use Rattle.jaeger_model.specs.Rows.{required, or_else, text_of_id, number, int, time_of_id, Missing}
use Rattle.jaeger_model.specs.Tag.{tag_rules}

-- the references that point to a span
abbrev pub kept_reference : Option SpanRef → List SpanRef
kept_reference None = []
kept_reference (Some reference) = reference ∷ []

-- a list of references, of which some point to no span
abbrev pub MeansReferences : Trees → List (Option SpanRef) → Type 0
MeansReferences trees references = EachStruct IsSpanRef trees references

-- a list of structs is these logs, in their order
abbrev pub MeansLogs : Trees → List Log → Type 0
MeansLogs trees logs = EachStruct IsLog trees logs

-- the identifier of the trace, by its two halves
pub record HasTrace (fields : Fields) (trace : ℕ) : Type 0 where
  pub low : ℤ
  pub its_low : Required Means (values_of i64_in 1 fields) low
  pub high : ℤ
  pub its_high : Required Means (values_of i64_in 2 fields) high
  pub joined : trace_id_of high low ≡ Some trace

-- a start, and a duration behind which the end lies in range
pub record HasTimes (fields : Fields) (start end : ℕ) : Type 0 where
  pub its_start : Required MeansTime (values_of i64_in 8 fields) start
  pub duration : ℕ
  pub its_duration : Required MeansTime (values_of i64_in 9 fields) duration
  pub sum : end ≡ start + duration
  pub in_range : end ≤ nanos last_micros

-- its references, in their order, without those that point to no span, which are counted
pub record HasReferences (fields : Fields) (references : List SpanRef) (invalid : ℕ) : Type 0 where
  pub all : List (Option SpanRef)
  pub given : Singular MeansReferences (λ xs. xs ≡ []) (values_of list_in 6 fields) all
  pub kept : references ≡ flat_map kept_reference all
  pub others : invalid ≡ count_by (λ r. is_none r) all

-- the fields, in any order, are those of this span
pub record IsJSpan (span : JSpan) (fields : Fields) : Type 0 where
  pub trace : HasTrace fields span.trace
  pub id : Required (λ n id. span_id_of n ≡ Some id) (values_of i64_in 3 fields) span.id
  pub parent : Required (λ n parent. span_id_of n ≡ parent) (values_of i64_in 4 fields) span.parent
  pub name : Required MeansText (values_of binary_in 5 fields) span.name
  pub references : HasReferences fields span.references span.invalid_refs
  pub flags : Required Means (values_of i32_in 7 fields) span.flags
  pub times : HasTimes fields span.start span.end
  pub tags : Singular MeansTags (λ tags. tags ≡ []) (values_of list_in 10 fields) span.tags
  pub logs : Singular MeansLogs (λ logs. logs ≡ []) (values_of list_in 11 fields) span.logs

-- ---- its table

-- an optional list is empty where it is absent
abbrev pub or_empty : {B : Type 0} → List B → Type 0
or_empty list = or_else [] list

-- the fields that a span must have
abbrev pub span_required : List (Row FieldItem)
span_required =
    number 1 required ∷ number 2 required ∷ number 3 required ∷ number 4 required ∷ text_of_id 5 required ∷ int 7 required
    ∷ time_of_id 8 required ∷ time_of_id 9 required ∷ []

-- by the levels that are left in the span: a list takes one, and the structs in it another
abbrev pub jspan_table : Spelling → ℕ → List (Row FieldItem)
jspan_table Spells left =
    number 1 required
    ∷ number 2 required
    ∷ number 3 required
    ∷ number 4 required
    ∷ text_of_id 5 required
    ∷ structures Spells (left - 2) reference_rules 6 (List (Option SpanRef)) MeansReferences or_empty
    ∷ int 7 required
    ∷ time_of_id 8 required
    ∷ time_of_id 9 required
    ∷ structures Spells (left - 2) tag_rules 10 (List Tag) MeansTags or_empty
    ∷ structures Spells (left - 2) (log_rules Spells (left - 2)) 11 (List Log) MeansLogs or_empty
    ∷ []

-- ---- how it offends at its end

-- the trace's identifier is zero
pub record NoTrace (fields : Fields) : Type 0 where
  pub low : ℤ
  pub its_low : Required Means (values_of i64_in 1 fields) low
  pub high : ℤ
  pub its_high : Required Means (values_of i64_in 2 fields) high
  pub zero : trace_id_of high low ≡ None

-- the span's own
abbrev pub NoId : Fields → Type 0
NoId fields = (id : ℤ) × Required Means (values_of i64_in 3 fields) id × (span_id_of id ≡ None)

-- the start and the duration are in range, and the end isn't
pub record EndsLate (fields : Fields) : Type 0 where
  pub start : ℕ
  pub its_start : Required MeansTime (values_of i64_in 8 fields) start
  pub duration : ℕ
  pub its_duration : Required MeansTime (values_of i64_in 9 fields) duration
  pub late : nanos last_micros < start + duration

-- BadId
abbrev pub BadIds : Fields → ℕ → Type 0
BadIds fields number = (number ≡ 12) × (NoTrace fields ⊎ NoId fields)

-- BadTime
abbrev pub BadEnd : Fields → ℕ → Type 0
BadEnd fields number = (number ≡ 16) × EndsLate fields

-- Missing, where a required field is absent; BadId, where the trace's or the span's identifier is zero; or BadTime, where the
-- end is out of range
abbrev pub jspan_ends : List FieldItem → ℕ → Type 0
jspan_ends seen number = Missing span_required seen number ⊎ (BadIds (fields_of seen) number ⊎ BadEnd (fields_of seen) number)

-- what offends in a `Span`: in a field by the table, and at the end by what the fields are together
abbrev pub jspan_rules : Spelling → ℕ → Rules FieldItem
jspan_rules Spells left = rules_by (jspan_table Spells left) jspan_ends
