-- `SpanRef` (jaeger.thrift): refType 1, an enum of CHILD_OF 0 and FOLLOWS_FROM 1, traceIdLow 2, traceIdHigh 3 and spanId 4, all
-- required. A reference whose trace or span id is zero points to no span.
use Rattle.std.specs.Prelude.{◌≡◌, ℕ, ℤ, Bool, true, false, Option, Some, None, ◌⊎◌, List, [], ◌∷◌}
use Rattle.span_io.specs.Offences.{Rules}
use Rattle.span_io.specs.Tables.{Row, rules_by}
use Rattle.thrift_core.specs.Trees.{Fields}
use Rattle.thrift_core.specs.FieldValues.{values_of, i32_in, i64_in}
use Rattle.jaeger_model.specs.declared.span.SpanRef.{SpanRef}
use Rattle.jaeger_model.specs.Identifiers.{span_id_of, trace_id_of}
use Rattle.thrift_core.specs.Messages.{FieldItem}
use Rattle.jaeger_model.specs.Rows.{required, enum_of_id, number, Missing}
use Rattle.jaeger_model.specs.Meanings.{Required, Means, MeansEnum}

-- the number of a reference's type, by whether it is CHILD_OF
abbrev pub reference_number : Bool → ℕ
reference_number true = 0
reference_number false = 1

-- the span to which it points
abbrev pub IsPointed : Option SpanRef → Bool → Option ℕ → Option ℕ → Type 0
IsPointed (Some reference) child_of trace span =
    (reference.child_of ≡ child_of) × (trace ≡ Some reference.trace) × (span ≡ Some reference.span)
IsPointed None child_of trace span = (trace ≡ None) ⊎ (span ≡ None)

-- the fields, in any order, are those of this reference, or of one to no span
pub record IsSpanRef (reference : Option SpanRef) (fields : Fields) : Type 0 where
  pub child_of : Bool
  pub kind : Required (MeansEnum reference_number) (values_of i32_in 1 fields) child_of
  pub low : ℤ
  pub its_low : Required Means (values_of i64_in 2 fields) low
  pub high : ℤ
  pub its_high : Required Means (values_of i64_in 3 fields) high
  pub span : ℤ
  pub its_span : Required Means (values_of i64_in 4 fields) span
  pub pointed : IsPointed reference child_of (trace_id_of high low) (span_id_of span)

-- ---- its table

-- refType 1, traceIdLow 2, traceIdHigh 3 and spanId 4, all required
abbrev pub reference_table : List (Row FieldItem)
reference_table = enum_of_id 1 1 Bool reference_number required ∷ number 2 required ∷ number 3 required ∷ number 4 required ∷ []

-- Missing: one of the four fields is absent. A reference to no span doesn't offend
abbrev pub reference_ends : List FieldItem → ℕ → Type 0
reference_ends seen n = Missing reference_table seen n

-- what offends in a `SpanRef`: in a field by the table, and at the end where a field is missing
abbrev pub reference_rules : Rules FieldItem
reference_rules = rules_by reference_table reference_ends
