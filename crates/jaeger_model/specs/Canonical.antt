-- The one canonical struct of each type of jaeger.thrift: fields by rising id, tags, logs and references in their order. Every required
-- field is always written, a list also where it is empty, and so is the value of a tag. `references`, the tags of a process or span, and
-- `logs` are left out where they are empty; `seqNo` and `stats` are never written. Identifiers are the signed numbers of their bits, a
-- parent of none is 0, and times are microseconds.
use Rattle.std.specs.Prelude.{ℕ, ◌-◌, ◌/◌, ◌%◌, ◌^◌, ℤ, pos, Option, Some, None, List, [], ◌∷◌, ◌++◌}
use Rattle.std.specs.Int.{w64, cast_signed}
use Rattle.span_ids.specs.Times.{micros}
use Rattle.thrift_core.specs.Protocols.{WritingOf}
use Rattle.thrift_core.specs.Trees.{truth_value, i32, i64, double, Tree, leaf, binary, structure, list_of, Fields, outer_levels}
use Rattle.thrift_core.specs.Written.{Keeping, FieldRow, fields_of_rows, fields_written, struct_trees}
use Rattle.jaeger_model.specs.declared.batch.Batch.{Batch}
use Rattle.jaeger_model.specs.declared.span.JSpan.{JSpan}
use Rattle.jaeger_model.specs.declared.span.Log.{Log}
use Rattle.jaeger_model.specs.declared.span.SpanRef.{SpanRef}
use Rattle.jaeger_model.specs.declared.tag.Tag.{Tag}
use Rattle.jaeger_model.specs.declared.tag.TagValue.{TagValue}
use Rattle.jaeger_model.specs.declared.tag.TagValue.TheVariants as values
use Rattle.jaeger_model.specs.Reference.{reference_number}
use Rattle.jaeger_model.specs.Tag.{type_of}

-- ---- what fields hold

-- a number as an i64
abbrev pub number_tree : ℤ → Tree
number_tree number = leaf (i64 number)

-- an identifier of 64 bits
abbrev pub id_tree : ℕ → Tree
id_tree id = number_tree (cast_signed w64 id)

-- the halves of a trace's identifier
abbrev pub low_tree : ℕ → Tree
low_tree trace = id_tree (trace % 2 ^ 64)

-- the upper 64 bits (`traceIdHigh`)
abbrev pub high_tree : ℕ → Tree
high_tree trace = id_tree (trace / 2 ^ 64)

-- the parent's identifier (`parentSpanId`), which is 0 where there is no parent
abbrev pub parent_tree : Option ℕ → Tree
parent_tree None = number_tree (pos 0)
parent_tree (Some id) = id_tree id

-- a time or duration in microseconds, as an i64
abbrev pub micros_tree : ℕ → Tree
micros_tree count = number_tree (pos count)

-- the number of an enum's value, which Thrift holds as an i32
abbrev pub enum_tree : ℕ → Tree
enum_tree number = leaf (i32 (pos number))

-- a list of structs, each of these fields
abbrev pub list_tree : {A : Type 0} → (A → List FieldRow) → List A → Tree
list_tree rows list = list_of (struct_trees rows list)

-- a field that is left out where its list is empty
abbrev pub filled_list : {A : Type 0} → ℤ → (A → List FieldRow) → List A → List FieldRow
filled_list id rows [] = []
filled_list id rows (x ∷ list) = (id, list_tree rows (x ∷ list)) ∷ []

-- ---- the fields of each struct

-- the value's own field
abbrev pub value_row : TagValue → FieldRow
value_row (values.Text text) = (pos 3, binary text)
value_row (values.Eight bytes) = (pos 4, leaf (double bytes))
value_row (values.Truth truth) = (pos 5, leaf (truth_value truth))
value_row (values.Number number) = (pos 6, number_tree number)
value_row (values.Bytes bytes) = (pos 7, binary bytes)

-- `Tag`: key 1, vType 2, and the one field that vType names
abbrev pub tag_rows : Tag → List FieldRow
tag_rows tag = (pos 1, binary tag.key) ∷ (pos 2, enum_tree (type_of tag.value)) ∷ value_row tag.value ∷ []

-- `Log`: timestamp 1, in microseconds, and fields 2, its tags, also where there are none
abbrev pub log_rows : Log → List FieldRow
log_rows log = (pos 1, micros_tree (micros log.time)) ∷ (pos 2, list_tree tag_rows log.fields) ∷ []

-- `SpanRef`: refType 1, traceIdLow 2, traceIdHigh 3 and spanId 4
abbrev pub reference_rows : SpanRef → List FieldRow
reference_rows reference =
    (pos 1, enum_tree (reference_number reference.child_of))
    ∷ (pos 2, low_tree reference.trace)
    ∷ (pos 3, high_tree reference.trace)
    ∷ (pos 4, id_tree reference.span)
    ∷ []

-- the fields 1 to 5 of a span
abbrev pub identity_rows : JSpan → List FieldRow
identity_rows span =
    (pos 1, low_tree span.trace)
    ∷ (pos 2, high_tree span.trace)
    ∷ (pos 3, id_tree span.id)
    ∷ (pos 4, parent_tree span.parent)
    ∷ (pos 5, binary span.name)
    ∷ []

-- 6 and 7
abbrev pub reference_and_flag_rows : JSpan → List FieldRow
reference_and_flag_rows span = filled_list (pos 6) reference_rows span.references ++ (pos 7, leaf (i32 span.flags)) ∷ []

-- 8 and 9
abbrev pub time_rows : JSpan → List FieldRow
time_rows span = (pos 8, micros_tree (micros span.start)) ∷ (pos 9, micros_tree (micros span.end - micros span.start)) ∷ []

-- 10 and 11
abbrev pub tag_and_log_rows : JSpan → List FieldRow
tag_and_log_rows span = filled_list (pos 10) tag_rows span.tags ++ filled_list (pos 11) log_rows span.logs

-- `Span`: its fields 1 to 11 by rising id, without references, tags and logs where they are empty
abbrev pub jspan_rows : JSpan → List FieldRow
jspan_rows span = identity_rows span ++ (reference_and_flag_rows span ++ (time_rows span ++ tag_and_log_rows span))

-- by the service's name and the tags
abbrev pub process_rows : List ℕ → List Tag → List FieldRow
process_rows service tags = (pos 1, binary service) ∷ filled_list (pos 2) tag_rows tags

-- `Process` as the value of a field
abbrev pub process_tree : List ℕ → List Tag → Tree
process_tree service tags = structure (fields_of_rows (process_rows service tags))

-- `Batch`: process 1 and spans 2, also where there are no spans
abbrev pub batch_rows : Batch → List FieldRow
batch_rows batch = (pos 1, process_tree batch.service batch.tags) ∷ (pos 2, list_tree jspan_rows batch.spans) ∷ []

-- ---- and their structs

-- the struct `Tag` that is written of a tag
abbrev pub tag_fields : Tag → Fields
tag_fields tag = fields_of_rows (tag_rows tag)

-- the struct `Log` that is written of a log
abbrev pub log_fields : Log → Fields
log_fields log = fields_of_rows (log_rows log)

-- the struct `SpanRef` that is written of a reference
abbrev pub reference_fields : SpanRef → Fields
reference_fields reference = fields_of_rows (reference_rows reference)

-- the struct `Span` that is written of a span
abbrev pub span_fields : JSpan → Fields
span_fields span = fields_of_rows (jspan_rows span)

-- the struct `Process` that is written of a service's name and its tags
abbrev pub process_fields : List ℕ → List Tag → Fields
process_fields service tags = fields_of_rows (process_rows service tags)

-- the struct `Batch` that is written of a batch
abbrev pub batch_fields : Batch → Fields
batch_fields batch = fields_of_rows (batch_rows batch)

-- the one text that is written of a batch
abbrev pub batch_text : Keeping → WritingOf → Batch → List ℕ
batch_text keeps writes batch = fields_written keeps writes (batch_fields batch) outer_levels (pos 0)
