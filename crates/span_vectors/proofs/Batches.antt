-- Each text and list in the batch of a group of the gauge has a size that Thrift can tell, and its times are whole microseconds.
use Rattle.std.proofs.Common.{ℕ, ◌+◌, ◌%◌, ◌≤◌, List, [], ◌∷◌, ◌++◌, map, length, All, Option, Some, None, arith}
use Rattle.std.specs.Prelude.{codes}
use Rattle.std.specs.Ordering.{nat_cmp}
use Rattle.std.specs.declared.cmp.Ordering.{Ordering}
use Rattle.std.specs.declared.cmp.Ordering.TheVariants.{Less, Equal, Greater}
use Rattle.std.specs.Cmp.Lexicographic.{slice_cmp}
use Rattle.std.proofs.lemmas.List.{length-append, length-map}
use Rattle.std.proofs.lemmas.List.Elements.{All-nil, All-append, All-map}
use Rattle.std.proofs.lemmas.List.FromFn.{length-map-range_with_len}
use Rattle.span_io.specs.Sizes.{IsShort}
use Rattle.jaeger_model.specs.Writable.{IsShortValue, IsWritableTag, AreWritable, IsWritableLog, IsWritableSpan, IsWritable}
use Rattle.trace_model.specs.Attributes.{attrs, placed, by_order}
use Rattle.trace_model.specs.declared.span.Code.{Code}
use Rattle.trace_model.specs.declared.span.Code.TheVariants as statuses
use Rattle.trace_model.specs.declared.span.Kind.{Kind}
use Rattle.trace_model.specs.declared.span.Kind.TheVariants as kinds
use Rattle.trace_model.specs.declared.value.Value.{Value, Text}
use Rattle.span_tags.proofs.AttributeLaws.{all_attrs}
use Rattle.span_tags.specs.Runs.{scoped, under}
use Rattle.span_tags.specs.TagWords.{Pairs, row, code_given}
use Rattle.map_jaeger.specs.ColumnWords.{error_given, description_given, kind_given}
use Rattle.map_jaeger.specs.Columns.{Columns, columns_of, rows}
use Rattle.map_jaeger.specs.TagValues.{tag_value, tag_of}
use Rattle.map_jaeger.specs.Writing.{jaeger_span, batch_of}
use Rattle.span_vectors.specs.Gauge.{kind_numbered, code_numbered, gauge_attributes, gauge_span, gauge_spans, gauge_group, first_span, group_size}
use Rattle.span_vectors.proofs.Faults.{all_scoped}
use Rattle.span_vectors.proofs.Held.{alone, both, number_pair, text_pair}

-- ---- pairs that are tags of such sizes

abbrev IsFine : List ℕ × Value → Type 0
IsFine pair = IsWritableTag (tag_of pair)

-- there are at most so many
record AreFine (most : ℕ) (pairs : Pairs) : Type 0 where
  few : length pairs ≤ most
  each : All IsFine pairs

together : {m n : ℕ} {a b : Pairs} → AreFine m a → AreFine n b → AreFine (m + n) (a ++ b)
together {m} {n} {a} {b} first second = record {
  few = omega (arith, length-append a b, first.few, second.few);
  each = All-append IsFine a b first.each second.each;
}

placed_length : (pair : List ℕ × Value) (pairs : Pairs) → length (placed pair pairs) ≤ length pairs + 1
placed_length pair [] = omega arith
placed_length pair (other ∷ others) = by (slice_cmp nat_cmp pair.0 other.0) (placed_length pair others)
  where
    by : (order : Ordering) → length (placed pair others) ≤ length others + 1
        → length (by_order order (pair ∷ other ∷ others) (other ∷ others) (other ∷ placed pair others)) ≤ length (other ∷ others) + 1
    by Less rest = omega arith
    by Equal rest = omega arith
    by Greater rest = omega (arith, rest)

attrs_length : (pairs : Pairs) → length (attrs pairs) ≤ length pairs
attrs_length [] = omega arith
attrs_length (pair ∷ pairs) = omega (arith, placed_length pair (attrs pairs), attrs_length pairs)

tags_fine : (most : ℕ) (pairs : Pairs) → most ≤ 2147483647 → AreFine most pairs → AreWritable IsWritableTag (map tag_of (attrs pairs))
tags_fine most pairs low fine = record {
  sized = omega (arith, length-map (attrs pairs) tag_of, attrs_length pairs, fine.few);
  each = All-map IsWritableTag tag_of (attrs pairs) (all_attrs IsFine pairs fine.each);
}

-- ---- the rows of a span

abbrev Held : Option Value → Type 0
Held None = Unit {0}
Held (Some value) = IsShortValue (tag_value value)

row_fine : (key : List ℕ) (value : Option Value) → IsShort key → Held value → AreFine 1 (row key value)
row_fine key None short held = record { few = omega arith; each = All-nil IsFine }
row_fine key (Some value) short held = record { few = omega arith; each = alone IsFine (key, value) (record { key = short; value = held }) }

no_pairs : AreFine 0 []
no_pairs = record { few = omega arith; each = All-nil IsFine }

error_held : (code : Code) → Held (error_given code)
error_held statuses.Unset = tt
error_held statuses.Okay = tt
error_held statuses.Fail = tt

code_held : (code : Code) → Held (code_given code)
code_held statuses.Unset = tt
code_held statuses.Okay = omega arith
code_held statuses.Fail = omega arith

description_held : (code : Code) → Held (description_given code [])
description_held statuses.Unset = tt
description_held statuses.Okay = tt
description_held statuses.Fail = tt

kind_held : (kind : Kind) → Held (kind_given kind)
kind_held kinds.Unspecified = tt
kind_held kinds.Internal = tt
kind_held kinds.Server = omega arith
kind_held kinds.Client = omega arith
kind_held kinds.Producer = omega arith
kind_held kinds.Consumer = omega arith

attributes_fine : (i : ℕ) → AreFine 2 (gauge_attributes i)
attributes_fine i = record {
  few = omega arith;
  each = both IsFine (number_pair i) text_pair (record { key = omega arith; value = tt }) (record { key = omega arith; value = omega arith });
}

-- what a span has in the columns
abbrev gauge_columns : ℕ → Columns
gauge_columns i = columns_of (under (codes "gauge") [] (gauge_span i))

-- five of them hold something, at the most
rows_fine : (i : ℕ) → AreFine 5 (rows (gauge_columns i))
unfolding gauge_span
rows_fine i =
    let code = code_numbered (i % 3) in
    let kind = kind_numbered (1 + i % 5) in
    together (row_fine (codes "error") (error_given code) (omega arith) (error_held code))
    (together (row_fine (codes "otel.scope.name") (Some (Text (codes "gauge"))) (omega arith) (omega arith))
    (together (row_fine (codes "otel.status_code") (code_given code) (omega arith) (code_held code))
    (together (row_fine (codes "otel.status_description") (description_given code []) (omega arith) (description_held code))
    (together (row_fine (codes "span.kind") (kind_given kind) (omega arith) (kind_held kind))
    no_pairs))))

span_tags_fine : (i : ℕ) → AreWritable IsWritableTag (map tag_of (attrs (rows (gauge_columns i) ++ gauge_attributes i)))
span_tags_fine i = tags_fine 7 (rows (gauge_columns i) ++ gauge_attributes i) (omega arith) (together (rows_fine i) (attributes_fine i))

-- ---- spans, and the batch

span_fine : (i : ℕ) → IsWritableSpan (jaeger_span (under (codes "gauge") [] (gauge_span i)))
unfolding gauge_span
span_fine i = record {
  name = omega arith;
  references = omega arith;
  start = omega arith;
  end = omega arith;
  ordered = omega arith;
  tags = span_tags_fine i;
  logs = record { sized = omega arith; each = All-nil IsWritableLog };
}

scoped_length : (spans group : ℕ) → length (scoped (gauge_group spans group).scopes) ≤ 100
unfolding gauge_group gauge_spans
scoped_length spans group =
    let list = gauge_spans (first_span group) (group_size spans group) in
    omega (arith, length-append (map (under (codes "gauge") []) list) [], length-map list (under (codes "gauge") []), length-map-range_with_len gauge_span (first_span group) (group_size spans group))

pub batch_fine : (spans group : ℕ) → IsWritable (batch_of (gauge_group spans group))
unfolding gauge_group
batch_fine spans group = record {
  service = omega arith;
  tags = record { sized = omega arith; each = All-nil IsWritableTag };
  spans = record {
    sized = omega (arith, length-map (scoped (gauge_group spans group).scopes) jaeger_span, scoped_length spans group);
    each = All-map IsWritableSpan jaeger_span (scoped (gauge_group spans group).scopes) (all_scoped (λ one. IsWritableSpan (jaeger_span one)) spans group span_fine);
  };
}
