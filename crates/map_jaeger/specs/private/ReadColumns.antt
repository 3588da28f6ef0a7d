-- The tags of a span, those of the table and the others, and the span that they make.
use Rattle.std.specs.Prelude.{◌≡◌, ℕ, List, [], filter, not}
use Rattle.trace_model.specs.declared.span.Event.{Event}
use Rattle.trace_model.specs.declared.value.Value.{Value}
use Rattle.trace_model.specs.declared.span.Span.{Span}
use Rattle.jaeger_model.specs.declared.span.JSpan.{JSpan}
use Rattle.span_tags.specs.Runs.{Scoped}
use Rattle.map_jaeger.specs.Columns.{looked, is_free}
use Rattle.map_jaeger.specs.Reading.{scoped_by}
use Rattle.map_jaeger.specs.declared.reading.attributes.Parted.{Parted}

-- the tags that the table has a row for, in their order
abbrev pub own_tags : List (List ℕ × Value) → List (List ℕ × Value)
own_tags tags = filter (λ tag. not (is_free tag.0)) tags

-- the tags that the table has no row for, in their order
abbrev pub free_tags : List (List ℕ × Value) → List (List ℕ × Value)
free_tags tags = filter (λ tag. is_free tag.0) tags

-- the parts of a span's tags: those that the table has a row for, and the others
pub record ArePartsOf (tags : List (List ℕ × Value)) (parts : Parted) : Type 0 where
  pub own : parts.own ≡ own_tags tags
  pub free : parts.free ≡ free_tags tags

-- the span, by the tags of the table, its attributes and its events
abbrev pub scoped_by_parts : JSpan → List (List ℕ × Value) → List (List ℕ × Value) → List Event → Scoped Span
scoped_by_parts span own attributes events =
    let one = scoped_by span (looked own) [] in
    record one { span = record one.span { attributes = attributes; events = events } }
