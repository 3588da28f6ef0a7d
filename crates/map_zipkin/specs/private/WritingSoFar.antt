-- Parts of the spans of a group, as their writer comes by them.
use Rattle.std.specs.Prelude.{ℕ, List, [], ◌∷◌, ◌++◌, map}
use Rattle.std.specs.Cmp.Lexicographic.{slice_cmp}
use Rattle.std.specs.Ordering.{nat_cmp}
use Rattle.span_tags.specs.Columns.{rows_by}
use Rattle.span_tags.specs.Runs.{under}
use Rattle.span_tags.specs.TagWords.{Pairs, row, text_given}
use Rattle.trace_model.specs.Attributes.{by_order, attrs}
use Rattle.trace_model.specs.declared.span.Span.{Span}
use Rattle.map_zipkin.specs.TagColumns.{TagColumns, row_of, zipkin_columns_of}
use Rattle.map_zipkin.specs.Writing.{resource_pairs, escaped_pairs, zipkin_tag_of}
use Rattle.map_zipkin.specs.declared.columns.Column.{Column}
use Rattle.map_zipkin.specs.declared.columns.Column.TheVariants as columns

-- the columns that a span doesn't share with its scope, by rising keys
abbrev pub unshared_columns : List Column
unshared_columns =
    columns.Error ∷ columns.DroppedAttributes ∷ columns.DroppedEvents ∷ columns.DroppedLinks ∷ columns.Code ∷ columns.State ∷ []

-- what a span holds in the columns, without its scope
abbrev pub span_columns : Span → TagColumns
span_columns span = zipkin_columns_of (under [] [] span)

-- the tags of the columns that a span doesn't share with its scope, by rising keys
abbrev pub unshared_rows : Span → Pairs
unshared_rows span = rows_by row_of unshared_columns (span_columns span)

-- the tags that all spans of a scope of this name and version have
abbrev pub shared_pairs : Pairs → List ℕ → List ℕ → Pairs
shared_pairs resource name version =
    row (row_of columns.ScopeName).key (text_given name) ++ (row (row_of columns.ScopeVersion).key (text_given version) ++ resource_pairs resource)

-- the same, by rising keys
abbrev pub shared_rows : Pairs → List ℕ → List ℕ → Pairs
shared_rows resource name version = attrs (shared_pairs resource name version)

-- the tags of a span that has these rows, these in common with its scope, and these attributes
abbrev pub tags_by : Pairs → Pairs → Pairs → List (List ℕ × List ℕ)
tags_by own shared attributes = map zipkin_tag_of (attrs (own ++ (shared ++ escaped_pairs attributes)))

-- ---- rising rows around a key

-- those below it
abbrev pub rows_below : List ℕ → Pairs → Pairs
rows_below key [] = []
rows_below key (row ∷ rows) = by_order (slice_cmp nat_cmp row.0 key) (row ∷ rows_below key rows) [] []

-- those above it
abbrev pub rows_above : List ℕ → Pairs → Pairs
rows_above key [] = []
rows_above key (row ∷ rows) = by_order (slice_cmp nat_cmp row.0 key) (rows_above key rows) rows (row ∷ rows)
