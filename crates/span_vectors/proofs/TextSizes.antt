-- How long the text of the gauge is as a request of OTLP: a group has less than 50,000 bytes.
use Rattle.std.proofs.Common.{◌≡◌, ℕ, ◌+◌, ◌-◌, ◌*◌, ◌%◌, ◌≤◌, pos, Bool, true, false, List, [], ◌∷◌, length, Some, None, refl, arith}
use Rattle.std.specs.Prelude.{◌==◌, if◌then◌else◌, codes}
use Rattle.std.specs.Int.{w32, w64, w128, to_le_bytes, to_be_bytes, cast_unsigned}
use Rattle.std.proofs.lemmas.List.FromFn.{length-map-range_with_len}
use Rattle.proto_wire.specs.Records.{varint, fixed64, fixed32}
use Rattle.proto_wire.specs.Wire.{record_text, key_of}
use Rattle.trace_model.specs.OtlpParts.{kind_number, code_number}
use Rattle.trace_model.specs.declared.span.Code.{Code}
use Rattle.trace_model.specs.declared.span.Span.{Span}
use Rattle.otlp_proto.specs.Canonical.{bytes_field, filled_field, count_field, time_field, flags_field, trace_field, span_field, parent_field, list_text, key_value_text, attributes_text, status_text, otlp_event_text, link_text, span_text, instrumentation_scope_text, scope_text, resource_text, group_text, group_record}
use Rattle.span_vectors.specs.Gauge.{group_number, gauge_parent, kind_numbered, code_numbered, gauge_attributes, gauge_span, gauge_spans, gauge_scope, gauge_resource, gauge_group, first_span, group_size}
use Rattle.span_vectors.proofs.Held.{number_pair, text_pair, service_pair}
use Rattle.span_vectors.proofs.Sizes.{IsWithin, wider, none, one_behind, varint_size, number_size, bytes_size, list_size}
use Rattle.span_vectors.proofs.Spans.{all_spans}

-- ---- fields

word_size : (n : ℕ) (word : List ℕ) → length word ≡ n → IsWithin n word
word_size n word e = record { within = omega (arith, e) }

filled_size : {m : ℕ} {held : List ℕ} (number : ℕ) → IsWithin m held → IsWithin (20 + m) (filled_field number held)
filled_size {m} {held} number h = by held h
  where
    by : (held : List ℕ) → IsWithin m held → IsWithin (20 + m) (filled_field number held)
    by [] h = wider (20 + m) none (omega arith)
    by (b ∷ held) h = bytes_size number h

count_size : (number n : ℕ) → IsWithin 20 (count_field number n)
count_size number n = by (n == 0)
  where
    by : (nought : Bool) → IsWithin 20 (if nought then [] else record_text (record { number = number; held = varint n }))
    by true = wider 20 none (omega arith)
    by false = number_size number n

time_size : (number n : ℕ) → IsWithin 18 (time_field number n)
unfolding record_text
time_size number n = by (n == 0)
  where
    by : (nought : Bool) → IsWithin 18 (if nought then [] else record_text (record { number = number; held = fixed64 n }))
    by true = wider 18 none (omega arith)
    by false = one_behind (varint_size (key_of (record { number = number; held = fixed64 n }))) (word_size 8 (to_le_bytes w64 n) refl)

flags_size : (number n : ℕ) → IsWithin 14 (flags_field number n)
unfolding record_text
flags_size number n = by (n == 0)
  where
    by : (nought : Bool) → IsWithin 14 (if nought then [] else record_text (record { number = number; held = fixed32 n }))
    by true = wider 14 none (omega arith)
    by false = one_behind (varint_size (key_of (record { number = number; held = fixed32 n }))) (word_size 4 (to_le_bytes w32 n) refl)

trace_size : (number id : ℕ) → IsWithin 36 (trace_field number id)
trace_size number id = bytes_size number (word_size 16 (to_be_bytes w128 id) refl)

id_size : (number id : ℕ) → IsWithin 28 (span_field number id)
id_size number id = bytes_size number (word_size 8 (to_be_bytes w64 id) refl)

parent_size : (number i : ℕ) → IsWithin 28 (parent_field number (gauge_parent i))
parent_size number i = by (i % 100 == 1)
  where
    by : (first : Bool) → IsWithin 28 (parent_field number (if first then None else Some (i - 1)))
    by true = wider 28 none (omega arith)
    by false = id_size number (i - 1)

-- ---- attributes

number_value : (i : ℕ) → IsWithin 61 (key_value_text (number_pair i))
number_value i = one_behind (filled_size 1 (word_size 1 (codes "n") refl)) (filled_size 2 (number_size 3 (cast_unsigned w64 (pos i))))

text_value : IsWithin 62 (key_value_text text_pair)
text_value = one_behind (filled_size 1 (word_size 1 (codes "t") refl)) (filled_size 2 (bytes_size 1 (word_size 1 (codes "x") refl)))

service_value : IsWithin 77 (key_value_text service_pair)
service_value = one_behind (filled_size 1 (word_size 12 (codes "service.name") refl)) (filled_size 2 (bytes_size 1 (word_size 5 (codes "gauge") refl)))

attributes_size : (i : ℕ) → IsWithin 163 (attributes_text 9 (gauge_attributes i))
unfolding list_text
attributes_size i = one_behind (bytes_size 9 (number_value i)) (one_behind (bytes_size 9 text_value) none)

resource_size : IsWithin 97 (attributes_text 1 gauge_resource)
unfolding list_text
resource_size = one_behind (bytes_size 1 service_value) none

-- ---- spans

status_size : (code : Code) → IsWithin 20 (status_text (record { code = code; message = [] }))
status_size code = one_behind none (count_size 3 (code_number code))

no_list : {A : Type 0} (number : ℕ) (text : A → List ℕ) → IsWithin 0 (list_text number text [])
unfolding list_text
no_list number text = none

pub span_size : (i : ℕ) → IsWithin 400 (span_text (gauge_span i))
unfolding span_text gauge_span
span_size i = wider 400
    (one_behind (trace_size 1 (group_number i))
    (one_behind (id_size 2 i)
    (one_behind none
    (one_behind (parent_size 4 i)
    (one_behind (filled_size 5 (word_size 2 (codes "op") refl))
    (one_behind (count_size 6 (kind_number (kind_numbered (1 + i % 5))))
    (one_behind (time_size 7 (i * 1000000))
    (one_behind (time_size 8 (i * 1000000 + (i % 1000) * 1000))
    (one_behind (attributes_size i)
    (one_behind none
    (one_behind (no_list 11 otlp_event_text)
    (one_behind none
    (one_behind (no_list 13 link_text)
    (one_behind none
    (one_behind (filled_size 15 (status_size (code_numbered (i % 3))))
    (flags_size 16 1))))))))))))))))
    (omega arith)

-- ---- groups

spans_length : (first count : ℕ) → length (gauge_spans first count) ≡ count
unfolding gauge_spans
spans_length first count = length-map-range_with_len gauge_span first count

list_of_spans : (first count : ℕ) → count ≤ 100 → IsWithin 42000 (list_text 2 span_text (gauge_spans first count))
unfolding list_text
list_of_spans first count few = wider 42000
    (list_size (λ (span : Span). bytes_field 2 (span_text span)) 420 (gauge_spans first count)
    (all_spans (λ (span : Span). IsWithin 420 (bytes_field 2 (span_text span))) first count (λ i low high. bytes_size 2 (span_size i))))
    (omega (arith, spans_length first count))

instrumentation_size : (list : List Span) → IsWithin 25 (instrumentation_scope_text (gauge_scope list))
unfolding instrumentation_scope_text list_text
instrumentation_size list = one_behind (filled_size 1 (word_size 5 (codes "gauge") refl)) none

scope_size : (first count : ℕ) → count ≤ 100 → IsWithin 42045 (scope_text (gauge_scope (gauge_spans first count)))
unfolding scope_text
scope_size first count few = one_behind (filled_size 1 (instrumentation_size (gauge_spans first count))) (one_behind (list_of_spans first count few) none)

pub group_text_size : (spans group : ℕ) → IsWithin 49000 (group_text (gauge_group spans group))
unfolding group_text gauge_group resource_text list_text
group_text_size spans group = wider 49000
    (one_behind (filled_size 1 (one_behind resource_size none))
    (one_behind (one_behind (bytes_size 2 (scope_size (first_span group) (group_size spans group) (omega arith))) none) none))
    (omega arith)

pub record_size : (spans group : ℕ) → IsWithin 50000 (group_record (gauge_group spans group))
record_size spans group = wider 50000 (bytes_size 1 (group_text_size spans group)) (omega arith)
