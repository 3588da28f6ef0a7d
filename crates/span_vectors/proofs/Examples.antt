-- The gauge of 1, 100, 101 and 250 spans, computed: its groups, and their first and last spans.
use Rattle.std.proofs.Common.{◌≡◌, ℕ, List, [], ◌∷◌, length, map, get_or, Option, Some, None, refl}
use Rattle.std.specs.List.{flat_map}
use Rattle.trace_model.specs.OtlpParts.{kind_number, code_number}
use Rattle.trace_model.specs.declared.span.Span.{Span}
use Rattle.trace_model.specs.declared.group.Group.{Group}
use Rattle.span_io.specs.Varint.{varint_text, shortest_within}
use Rattle.proto_wire.specs.Wire.{record_text}
use Rattle.otlp_proto.specs.Canonical.{group_text, scope_text, instrumentation_scope_text, resource_text, span_text, list_text}
use Rattle.span_convert.specs.Requests.{request_text}
use Rattle.span_vectors.specs.Gauge.{gauge, first_groups, gauge_group, gauge_spans, gauge_span}

spans_in : Group → List Span
spans_in group = flat_map (λ scope. scope.spans) group.scopes

-- how many spans each group has
sizes : ℕ → List ℕ
sizes spans = map (λ group. length (spans_in group)) (gauge spans)

one : sizes 1 ≡ 1 ∷ []
unfolding sizes spans_in first_groups gauge_group gauge_spans gauge_span
one = refl

hundred : sizes 100 ≡ 100 ∷ []
unfolding sizes spans_in first_groups gauge_group gauge_spans gauge_span
hundred = refl

one_more : sizes 101 ≡ 100 ∷ 1 ∷ []
unfolding sizes spans_in first_groups gauge_group gauge_spans gauge_span
one_more = refl

rest : sizes 250 ≡ 100 ∷ 100 ∷ 50 ∷ []
unfolding sizes spans_in first_groups gauge_group gauge_spans gauge_span
rest = refl

-- what is told of a span: its trace, its number, its parent, kind, start, end and code
pub record Told : Type 0 where
  pub trace : ℕ
  pub id : ℕ
  pub parent : Option ℕ
  pub kind : ℕ
  pub start : ℕ
  pub end : ℕ
  pub code : ℕ

abbrev told : Span → Told
told span = record {
  trace = span.trace;
  id = span.id;
  parent = span.parent;
  kind = kind_number span.kind;
  start = span.start;
  end = span.end;
  code = code_number span.status.code;
}

-- the span at a place in all of them, counted from 0
at : ℕ → ℕ → Told
at spans place = told (get_or (flat_map spans_in (gauge spans)) place (gauge_span 0))

first : at 1 0 ≡ record { trace = 1; id = 1; parent = None; kind = 2; start = 1000000; end = 1001000; code = 1 }
unfolding at sizes spans_in first_groups gauge_group gauge_spans gauge_span
first = refl

last_of_hundred : at 100 99 ≡ record { trace = 1; id = 100; parent = Some 99; kind = 1; start = 100000000; end = 100100000; code = 1 }
unfolding at sizes spans_in first_groups gauge_group gauge_spans gauge_span
last_of_hundred = refl

first_of_second : at 101 100 ≡ record { trace = 2; id = 101; parent = None; kind = 2; start = 101000000; end = 101101000; code = 2 }
unfolding at sizes spans_in first_groups gauge_group gauge_spans gauge_span
first_of_second = refl

first_of_third : at 250 200 ≡ record { trace = 3; id = 201; parent = None; kind = 2; start = 201000000; end = 201201000; code = 0 }
unfolding at sizes spans_in first_groups gauge_group gauge_spans gauge_span
first_of_third = refl

last : at 250 249 ≡ record { trace = 3; id = 250; parent = Some 249; kind = 1; start = 250000000; end = 250250000; code = 1 }
unfolding at sizes spans_in first_groups gauge_group gauge_spans gauge_span
last = refl

-- its number of microseconds begins anew behind 999 spans
whole_second : told (gauge_span 1000) ≡ record { trace = 10; id = 1000; parent = Some 999; kind = 1; start = 1000000000; end = 1000000000; code = 1 }
unfolding gauge_span
whole_second = refl

-- ---- texts

request_size : length (request_text (gauge 1)) ≡ 123
unfolding first_groups gauge_group gauge_spans gauge_span group_text scope_text instrumentation_scope_text resource_text span_text list_text record_text varint_text shortest_within
request_size = refl
