-- The table of a span's tags under the reserved keys (OpenTelemetry exporter page for Zipkin), a row for each. Writing fills the columns from a
-- span and its scope, reading looks each up in the tags, and a remark tells each that says nothing.
use Rattle.std.specs.Prelude.{ℕ, ◌==◌, Bool, false, if◌then◌else◌, List, [], ◌∷◌, Option, Some, None, option_and_then, unwrap_or, is_some, decimal, codes}
use Rattle.span_tags.specs.Columns.{ColumnsOf, Row, is_key, looked_by, rows_by}
use Rattle.span_tags.specs.Runs.{Scoped}
use Rattle.span_tags.specs.TagWords.{Pairs, text_in, text_given, decimal_in, count_in, code_in, code_given, is_idle, is_idle_library}
use Rattle.trace_model.specs.declared.span.Code.{Code}
use Rattle.trace_model.specs.declared.span.Code.TheVariants as statuses
use Rattle.trace_model.specs.declared.span.Span.{Span}
use Rattle.trace_model.specs.declared.value.Value.{Value, Text}
use Rattle.map_zipkin.specs.declared.columns.Column.{Column}
use Rattle.map_zipkin.specs.declared.columns.Column.TheVariants as columns

-- by rising keys
abbrev pub all_columns : List Column
all_columns = columns.Error ∷ columns.DroppedAttributes ∷ columns.DroppedEvents ∷ columns.DroppedLinks ∷ columns.LibraryName
    ∷ columns.LibraryVersion ∷ columns.ScopeName ∷ columns.ScopeVersion ∷ columns.Code ∷ columns.State ∷ []

-- what stands in each column: the value of its tag, if there is one
abbrev pub TagColumns : Type 0
TagColumns = ColumnsOf Column

-- ---- values

-- a count, unless it is 0
abbrev pub count_text : ℕ → Option Value
count_text n = if n == 0 then None else Some (Text (decimal n))

-- `error` has the message, also where that is empty
abbrev pub error_message : Code → List ℕ → Option Value
error_message statuses.Fail message = Some (Text message)
error_message statuses.Okay message = None
error_message statuses.Unset message = None

-- with the code OK an `error` says nothing
abbrev pub is_idle_message : Option Value → Option Code → Bool
is_idle_message error (Some statuses.Okay) = is_some error
is_idle_message error other = false

-- ---- rows

-- a row of this table, which is filled from a span under the name and version of its scope
abbrev pub TagRow : Type 0
TagRow = Row Column (Scoped Span)

-- each tag is a text, so that it always says what it is
abbrev pub text_row : List ℕ → (Scoped Span → List ℕ) → TagRow
text_row key text = record { key = key; given = λ one. text_given (text one); is_idle = λ value c. false }

-- a row of a count: its decimal, no tag where it is 0; a tag says nothing unless it is the decimal of a count of 32 bits
abbrev pub count_row : List ℕ → (Span → ℕ) → TagRow
count_row key count =
    record { key = key; given = λ one. count_text (count one.span); is_idle = λ value c. is_idle value (count_in value) }

-- of an older key, which is read where the newer is absent, and never written
abbrev pub older_row : List ℕ → Column → TagRow
older_row key newer =
    record { key = key; given = λ one. None; is_idle = λ value c. is_idle_library value (text_in value) (text_in (c newer)) }

-- the table: the key of each column, the value that is written under it, and when the tag that is read says nothing
abbrev pub row_of : Column → TagRow
row_of columns.Error = record {
  key = codes "error";
  given = λ one. error_message one.span.status.code one.span.status.message;
  is_idle = λ value c. is_idle_message value (code_in (c columns.Code));
}
row_of columns.DroppedAttributes = count_row (codes "otel.dropped_attributes_count") (λ span. span.dropped_attributes)
row_of columns.DroppedEvents = count_row (codes "otel.dropped_events_count") (λ span. span.dropped_events)
row_of columns.DroppedLinks = count_row (codes "otel.dropped_links_count") (λ span. span.dropped_links)
row_of columns.LibraryName = older_row (codes "otel.library.name") columns.ScopeName
row_of columns.LibraryVersion = older_row (codes "otel.library.version") columns.ScopeVersion
row_of columns.ScopeName = text_row (codes "otel.scope.name") (λ one. one.name)
row_of columns.ScopeVersion = text_row (codes "otel.scope.version") (λ one. one.version)
row_of columns.Code = record {
  key = codes "otel.status_code";
  given = λ one. code_given one.span.status.code;
  is_idle = λ value c. is_idle value (code_in value);
}
row_of columns.State = text_row (codes "w3c.tracestate") (λ one. one.span.state)

-- ---- keys

-- a key is that of one of the columns
abbrev pub is_column : List ℕ → Bool
is_column key = is_key row_of all_columns key

-- ---- columns

-- what these tags hold in each column
abbrev pub columns_in : Pairs → TagColumns
columns_in tags = looked_by row_of tags

-- what a span and its scope hold there
abbrev pub zipkin_columns_of : Scoped Span → TagColumns
zipkin_columns_of one = λ column. (row_of column).given one

-- there is a tag, and it says nothing
abbrev pub is_idle_in : TagColumns → Column → Bool
is_idle_in c column = (row_of column).is_idle (c column) c

-- the tags that hold the columns, in the order of their keys
abbrev pub column_rows : TagColumns → Pairs
column_rows c = rows_by row_of all_columns c

-- ---- what the texts under keys of Zipkin's own say

-- the text that a value is, empty where there is none
abbrev pub text_told : Option Value → List ℕ
text_told value = unwrap_or (text_in value) []

-- the number whose decimal a text is, 0 where there is none
abbrev pub port_told : Option Value → ℕ
port_told value = unwrap_or (option_and_then decimal_in (text_in value)) 0
