-- Parts of the batch of a group, as its writer comes by them.
use Rattle.std.specs.Prelude.{ℕ, List, ◌++◌, map}
use Rattle.jaeger_model.specs.declared.tag.Tag.{Tag}
use Rattle.trace_model.specs.Attributes.{attrs}
use Rattle.trace_model.specs.declared.span.Span.{Span}
use Rattle.trace_model.specs.declared.value.Value.{Value}
use Rattle.span_tags.specs.Escapes.{escaped}
use Rattle.span_tags.specs.Runs.{Scoped}
use Rattle.span_tags.specs.TagWords.{row, text_given, without}
use Rattle.map_jaeger.specs.Columns.{columns_of, rows, is_reserved}
use Rattle.map_jaeger.specs.Keys.{event_key, is_event_reserved, flags_key}
use Rattle.map_jaeger.specs.TagValues.{tag_of}

-- the tags of a span that has these attributes
abbrev pub tags_with : Scoped Span → List (List ℕ × Value) → List Tag
tags_with one attributes = map tag_of (attrs (rows (columns_of one) ++ escaped is_reserved (without flags_key attributes)))

-- the fields of the log of an event that has this name and these attributes
abbrev pub fields_held : List ℕ → List (List ℕ × Value) → List Tag
fields_held name attributes = map tag_of (attrs (row event_key (text_given name) ++ escaped is_event_reserved attributes))
