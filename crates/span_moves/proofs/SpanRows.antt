-- Row by row: of what Jaeger leaves, what Zipkin leaves is left by Jaeger; and of what Zipkin leaves, what Jaeger leaves is left by Zipkin.
use Rattle.std.proofs.Common.{◌≡◌, ℕ, List, map, refl, sym, ap, ◌∙◌, arith}
use Rattle.span_ids.specs.Times.{floor}
use Rattle.trace_model.specs.EventTexts.{bytes_as_texts, with_texts}
use Rattle.trace_model.specs.declared.span.Code.{Code}
use Rattle.trace_model.specs.declared.span.Code.TheVariants as statuses
use Rattle.trace_model.specs.declared.span.Event.{Event}
use Rattle.trace_model.specs.declared.span.Kind.{Kind}
use Rattle.trace_model.specs.declared.span.Kind.TheVariants as kinds
use Rattle.trace_model.specs.declared.span.Span.{Span}
use Rattle.trace_model.specs.declared.value.Value.{Value, Text, Truth, Number, Eight, Bytes, List', Map', Nothing}
use Rattle.span_tags.specs.TagWords.{Pairs}
use Rattle.map_jaeger.specs.Normal.{normal_attributes, normal_kind, normal_status, normal_event, normal_span}
use Rattle.map_jaeger.specs.TagValues.{normal_value, normal_attribute}
use Rattle.map_zipkin.specs.Keys.{peer_key}
use Rattle.map_zipkin.specs.Normal.{normal_pairs, zipkin_normal_kind, message_kept, zipkin_normal_event, zipkin_normal_span}
use Rattle.span_moves.proofs.Lists.{third_stays}
use Rattle.span_moves.proofs.TextPairs.{texts_normal, left_texts, left_again}

-- ---- times

floor_again : (n : ℕ) → floor (floor n) ≡ floor n
floor_again n = omega arith

-- ---- kinds

kind_of_zipkin : (kind : Kind) → normal_kind (zipkin_normal_kind kind) ≡ zipkin_normal_kind kind
kind_of_zipkin kinds.Unspecified = refl
kind_of_zipkin kinds.Internal = refl
kind_of_zipkin kinds.Server = refl
kind_of_zipkin kinds.Client = refl
kind_of_zipkin kinds.Producer = refl
kind_of_zipkin kinds.Consumer = refl

kind_of_jaeger : (kind : Kind) → zipkin_normal_kind (normal_kind kind) ≡ normal_kind kind
kind_of_jaeger kinds.Unspecified = refl
kind_of_jaeger kinds.Internal = refl
kind_of_jaeger kinds.Server = refl
kind_of_jaeger kinds.Client = refl
kind_of_jaeger kinds.Producer = refl
kind_of_jaeger kinds.Consumer = refl

-- ---- messages

-- what Jaeger leaves of a message with a code
abbrev left_message : Code → List ℕ → List ℕ
left_message code message = (normal_status (record { code = code; message = message })).message

-- Zipkin leaves that of an error alone, which Jaeger leaves
message_of_zipkin : (code : Code) (message : List ℕ) → left_message code (message_kept code message) ≡ message_kept code message
message_of_zipkin statuses.Unset message = refl
message_of_zipkin statuses.Okay message = refl
message_of_zipkin statuses.Fail message = refl

message_of_jaeger : (code : Code) (message : List ℕ) → message_kept code (left_message code (message_kept code message)) ≡ left_message code (message_kept code message)
message_of_jaeger statuses.Unset message = refl
message_of_jaeger statuses.Okay message = refl
message_of_jaeger statuses.Fail message = refl

-- ---- attributes of a span

attributes_of_zipkin : (attributes : Pairs) → normal_attributes (normal_pairs peer_key attributes) ≡ normal_pairs peer_key attributes
attributes_of_zipkin attributes = texts_normal (normal_pairs peer_key attributes) (left_texts peer_key attributes)

attributes_of_jaeger : (attributes : Pairs)
    → normal_pairs peer_key (normal_attributes (normal_pairs peer_key attributes)) ≡ normal_attributes (normal_pairs peer_key attributes)
attributes_of_jaeger attributes =
    ap (normal_pairs peer_key) (attributes_of_zipkin attributes)
    ∙ left_again peer_key attributes
    ∙ sym (attributes_of_zipkin attributes)

-- ---- values in events: bytes become texts with Zipkin, lists, maps and no value with Jaeger

value_of_zipkin : (value : Value) → normal_value (bytes_as_texts (normal_value value)) ≡ bytes_as_texts (normal_value value)
value_of_zipkin (Text text) = refl
value_of_zipkin (Truth truth) = refl
value_of_zipkin (Number n) = refl
value_of_zipkin (Eight double) = refl
value_of_zipkin (Bytes held) = refl
value_of_zipkin (List' shape members) = refl
value_of_zipkin (Map' shape members) = refl
value_of_zipkin Nothing = refl

value_of_jaeger : (value : Value) → bytes_as_texts (normal_value (bytes_as_texts value)) ≡ normal_value (bytes_as_texts value)
value_of_jaeger (Text text) = refl
value_of_jaeger (Truth truth) = refl
value_of_jaeger (Number n) = refl
value_of_jaeger (Eight double) = refl
value_of_jaeger (Bytes held) = refl
value_of_jaeger (List' shape members) = refl
value_of_jaeger (Map' shape members) = refl
value_of_jaeger Nothing = refl

abbrev pair_with_text : List ℕ × Value → List ℕ × Value
pair_with_text pair = (pair.0, bytes_as_texts pair.1)

values_of_zipkin : (attributes : Pairs) → normal_attributes (with_texts (normal_attributes attributes)) ≡ with_texts (normal_attributes attributes)
values_of_zipkin attributes = third_stays normal_attribute pair_with_text normal_attribute pair_with_text
    (λ pair. let value = value_of_zipkin pair.1 in λ i. (pair.0, value i)) attributes

values_of_jaeger : (attributes : Pairs) → with_texts (normal_attributes (with_texts attributes)) ≡ normal_attributes (with_texts attributes)
values_of_jaeger attributes = third_stays pair_with_text normal_attribute pair_with_text normal_attribute
    (λ pair. let value = value_of_jaeger pair.1 in λ i. (pair.0, value i)) attributes

-- ---- events

event_of_zipkin : (event : Event) → normal_event (zipkin_normal_event (normal_event event)) ≡ zipkin_normal_event (normal_event event)
event_of_zipkin event = λ i. record {
  time = floor_again (floor event.time) i;
  name = event.name;
  attributes = values_of_zipkin event.attributes i;
  dropped = 0;
}

event_of_jaeger : (event : Event) → zipkin_normal_event (normal_event (zipkin_normal_event event)) ≡ normal_event (zipkin_normal_event event)
event_of_jaeger event = λ i. record {
  time = floor_again (floor event.time) i;
  name = event.name;
  attributes = values_of_jaeger event.attributes i;
  dropped = 0;
}

-- ---- spans; links and flags go with Zipkin

pub span_of_zipkin : (span : Span) → normal_span (zipkin_normal_span (normal_span span)) ≡ zipkin_normal_span (normal_span span)
span_of_zipkin span =
    let from = normal_span span in
    let events : map normal_event (map zipkin_normal_event from.events) ≡ map zipkin_normal_event from.events =
    third_stays normal_event zipkin_normal_event normal_event zipkin_normal_event event_of_zipkin span.events in
    λ i. record (zipkin_normal_span from) {
      kind = kind_of_zipkin from.kind i;
      start = floor_again from.start i;
      end = floor_again from.end i;
      attributes = attributes_of_zipkin from.attributes i;
      events = events i;
      status = record { code = from.status.code; message = message_of_zipkin from.status.code from.status.message i };
    }

pub span_of_jaeger : (span : Span) → zipkin_normal_span (normal_span (zipkin_normal_span span)) ≡ normal_span (zipkin_normal_span span)
span_of_jaeger span =
    let from = zipkin_normal_span span in
    let events : map zipkin_normal_event (map normal_event from.events) ≡ map normal_event from.events =
    third_stays zipkin_normal_event normal_event zipkin_normal_event normal_event event_of_jaeger span.events in
    λ i. record (normal_span from) {
      kind = kind_of_jaeger from.kind i;
      start = floor_again from.start i;
      end = floor_again from.end i;
      attributes = attributes_of_jaeger span.attributes i;
      events = events i;
      status = record { code = span.status.code; message = message_of_jaeger span.status.code span.status.message i };
    }
