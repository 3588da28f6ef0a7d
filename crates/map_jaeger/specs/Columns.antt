-- The table of a span's tags (OpenTelemetry exporter page for Jaeger), a row for each tag that has a meaning of its own. Writing fills the
-- columns from a span and its scope, reading looks each up in the tags, and a remark tells each that says nothing.
use Rattle.std.specs.Prelude.{ℕ, Bool, false, not, ◌&&◌, if◌then◌else◌, List, [], ◌∷◌, None, unwrap_or, is_some, codes}
use Rattle.std.specs.Str.{bytes_eq}
use Rattle.trace_model.specs.Remarks.{Keys}
use Rattle.trace_model.specs.declared.span.Code.{Code}
use Rattle.trace_model.specs.declared.span.Code.TheVariants as statuses
use Rattle.trace_model.specs.declared.span.Span.{Span}
use Rattle.span_tags.specs.Columns.{ColumnsOf, Row, is_key, looked_by, rows_by, left_out_by}
use Rattle.span_tags.specs.Runs.{Scoped}
use Rattle.span_tags.specs.TagWords.{Pairs, text_in, text_given, count_in, code_in, code_given, is_idle, is_idle_library}
use Rattle.map_jaeger.specs.ColumnWords.{count_given, kind_in, kind_given, error_in, error_given, is_idle_error, description_given, is_idle_description}
use Rattle.map_jaeger.specs.Keys.{flags_key}
use Rattle.map_jaeger.specs.declared.columns.Column.{Column}
use Rattle.map_jaeger.specs.declared.columns.Column.TheVariants as columns

-- by rising keys
abbrev pub all_columns : List Column
all_columns =
    columns.Error ∷ columns.Flags ∷ columns.DroppedAttributes ∷ columns.DroppedEvents ∷ columns.DroppedLinks ∷ columns.LibraryName
    ∷ columns.LibraryVersion
    ∷ columns.ScopeName ∷ columns.ScopeVersion ∷ columns.Code ∷ columns.Description ∷ columns.Kind ∷ columns.State ∷ []

-- what stands in each column of the table: the value of its tag, or none
abbrev pub Columns : Type 0
Columns = ColumnsOf Column

-- ---- rows

-- a row of the table, which is filled from a span with the name and version of its scope
abbrev pub TagRow : Type 0
TagRow = Row Column (Scoped Span)

-- a row of a text, which isn't written where it is empty; a tag of it that is no text says nothing
abbrev pub text_row : List ℕ → (Scoped Span → List ℕ) → TagRow
text_row key text = record { key = key; given = λ one. text_given (text one); is_idle = λ value c. is_idle value (text_in value) }

-- a row of one of the span's counts, which isn't written where it is 0; a tag of it that is no count of 32 bits says nothing
abbrev pub count_row : List ℕ → (Span → ℕ) → TagRow
count_row key count =
    record { key = key; given = λ one. count_given (count one.span); is_idle = λ value c. is_idle value (count_in value) }

-- of an older key, which is read where the newer is absent, and never written
abbrev pub older_row : List ℕ → Column → TagRow
older_row key newer =
    record { key = key; given = λ one. None; is_idle = λ value c. is_idle_library value (text_in value) (text_in (c newer)) }

-- `error` decides where there is no code
abbrev pub status_of_columns : Columns → Code
status_of_columns c =
    unwrap_or (code_in (c columns.Code)) (if unwrap_or (error_in (c columns.Error)) false then statuses.Fail else statuses.Unset)

-- the row of each column: the key of its tag, what a span gives it, and when a tag that is read there says nothing
abbrev pub row_of : Column → TagRow
row_of columns.Error = record {
  key = codes "error";
  given = λ one. error_given one.span.status.code;
  is_idle = λ value c. is_idle_error value (error_in value) (code_in (c columns.Code));
}
-- flags have a place of their own
row_of columns.Flags = record { key = flags_key; given = λ one. None; is_idle = λ value c. is_some value }
row_of columns.DroppedAttributes = count_row (codes "otel.dropped_attributes_count") (λ span. span.dropped_attributes)
row_of columns.DroppedEvents = count_row (codes "otel.dropped_events_count") (λ span. span.dropped_events)
row_of columns.DroppedLinks = count_row (codes "otel.dropped_links_count") (λ span. span.dropped_links)
row_of columns.LibraryName = older_row (codes "otel.library.name") columns.ScopeName
row_of columns.LibraryVersion = older_row (codes "otel.library.version") columns.ScopeVersion
row_of columns.ScopeName = text_row (codes "otel.scope.name") (λ one. one.name)
row_of columns.ScopeVersion = text_row (codes "otel.scope.version") (λ one. one.version)
row_of columns.Code = record {
  key = codes "otel.status_code";
  given = λ one. code_given one.span.status.code;
  is_idle = λ value c. is_idle value (code_in value);
}
row_of columns.Description = record {
  key = codes "otel.status_description";
  given = λ one. description_given one.span.status.code one.span.status.message;
  is_idle = λ value c. is_idle_description value (status_of_columns c);
}
row_of columns.Kind = record {
  key = codes "span.kind";
  given = λ one. kind_given one.span.kind;
  is_idle = λ value c. is_idle value (kind_in value);
}
row_of columns.State = text_row (codes "w3c.tracestate") (λ one. one.span.state)

-- ---- columns

-- what these tags hold in each column
abbrev pub looked : Pairs → Columns
looked tags = looked_by row_of tags

-- what a span and its scope hold there
abbrev pub columns_of : Scoped Span → Columns
columns_of one = λ column. (row_of column).given one

-- there is a tag, and it says nothing
abbrev pub is_idle_in : Columns → Column → Bool
is_idle_in c column = (row_of column).is_idle (c column) c

-- the tags that hold the columns, in the order of their keys
abbrev pub rows : Columns → Pairs
rows c = rows_by row_of all_columns c

-- those that say nothing
abbrev pub left_out : Columns → Keys
left_out c = left_out_by row_of all_columns c

-- ---- keys

-- a tag of the table stands under the key
abbrev pub has_column : List ℕ → Bool
has_column key = is_key row_of all_columns key

-- no tag of the table stands under the key
abbrev pub is_free : List ℕ → Bool
is_free key = not (has_column key)

-- a span's attribute of this key is written under another, since the key is reserved: all of these but the one of Jaeger's own
abbrev pub is_reserved : List ℕ → Bool
is_reserved key = has_column key && not (bytes_eq flags_key key)
