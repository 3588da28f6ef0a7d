-- What is read of a batch is sound: the values of tags are leaves.
use Rattle.std.proofs.Common.{ℕ, ◌-◌, ◌%◌, ◌==◌, ◌&&◌, Bool, true, false, not, if◌then◌else◌, List, [], ◌∷◌, ◌++◌, map, filter, All, Some, None, decimal, lit≤}
use Rattle.std.specs.Str.{bytes_eq}
use Rattle.std.proofs.lemmas.List.Elements.{All-nil, All-cons, All-head, All-tail, All-append, All-filter}
use Rattle.jaeger_model.specs.declared.batch.Batch.{Batch}
use Rattle.jaeger_model.specs.declared.span.JSpan.{JSpan}
use Rattle.jaeger_model.specs.declared.span.Log.{Log}
use Rattle.jaeger_model.specs.declared.span.SpanRef.{SpanRef}
use Rattle.jaeger_model.specs.declared.tag.Tag.{Tag}
use Rattle.jaeger_model.specs.declared.tag.TagValue.{TagValue}
use Rattle.jaeger_model.specs.declared.tag.TagValue.TheVariants as tags
use Rattle.trace_model.specs.Attributes.{attrs}
use Rattle.trace_model.specs.Soundness.{IsSoundEvent, IsSoundLink, IsSoundSpan, IsSoundScope}
use Rattle.trace_model.specs.Values.{IsSound, AreSound}
use Rattle.trace_model.specs.declared.span.Span.{Span}
use Rattle.trace_model.specs.declared.group.Scope.{Scope}
use Rattle.trace_model.specs.declared.value.Value.{Value, Text}
use Rattle.span_tags.specs.Escapes.{unescaped}
use Rattle.span_tags.proofs.AttributeLaws.{attrs_rise, all_attrs}
use Rattle.span_tags.proofs.EscapeLaws.{unescaped_all, unescaped_rise}
use Rattle.span_tags.specs.Runs.{Scoped, in_front, is_of, plain_scope, runs}
use Rattle.span_tags.specs.TagKeys.{service_key}
use Rattle.span_tags.specs.TagWords.{row, text_given, without}
use Rattle.map_jaeger.specs.Keys.{flags_key, event_key, is_event_reserved, reference_key, child_of_word}
use Rattle.map_jaeger.specs.Columns.{is_free, is_reserved}
use Rattle.map_jaeger.specs.Reading.{attributes_of, event_of, flag_bits, high_flags_of, is_own_parent, link_of_reference, names, parent_of, resource_of, scoped_of, span_attributes}
use Rattle.map_jaeger.specs.TagValues.{attribute_of, value_of}

abbrev HoldsSound : List ℕ × Value → Type 0
HoldsSound pair = IsSound pair.1

text_sound : (text : List ℕ) → IsSound (Text text)
text_sound text = record { shallow = lit≤ tt; rising = tt }

leaf : (value : TagValue) → IsSound (value_of value)
leaf (tags.Text text) = text_sound text
leaf (tags.Eight double) = record { shallow = lit≤ tt; rising = tt }
leaf (tags.Truth truth) = record { shallow = lit≤ tt; rising = tt }
leaf (tags.Number number) = record { shallow = lit≤ tt; rising = tt }
leaf (tags.Bytes bytes) = record { shallow = lit≤ tt; rising = tt }

leaves : (list : List Tag) → All HoldsSound (map attribute_of list)
leaves [] = All-nil HoldsSound
leaves (tag ∷ list) = All-cons HoldsSound (attribute_of tag) (map attribute_of list) (leaf tag.value) (leaves list)

attrs_sound : (pairs : List (List ℕ × Value)) → All HoldsSound pairs → AreSound (attrs pairs)
attrs_sound pairs each = record { rising = attrs_rise pairs; values = all_attrs HoldsSound pairs each }

none_sound : AreSound []
none_sound = attrs_sound [] (All-nil HoldsSound)

one_sound : (key text : List ℕ) → AreSound ((key, Text text) ∷ [])
one_sound key text = attrs_sound ((key, Text text) ∷ []) (All-cons HoldsSound (key, Text text) [] (text_sound text) (All-nil HoldsSound))

tags_sound : (list : List Tag) → All HoldsSound (attributes_of list)
tags_sound list = all_attrs HoldsSound (map attribute_of list) (leaves list)

-- ---- rows in front

flags_row : (n : ℕ) (none : Bool) → All HoldsSound (row flags_key (if none then None else Some (Text (decimal n))))
flags_row n true = All-nil HoldsSound
flags_row n false = (one_sound flags_key (decimal n)).values

service_row : (service : List ℕ) → All HoldsSound (row service_key (text_given service))
service_row [] = All-nil HoldsSound
service_row (x ∷ more) = (one_sound service_key (x ∷ more)).values

pub resource_sound : (batch : Batch) → AreSound (resource_of batch)
resource_sound batch = attrs_sound (row service_key (text_given batch.service) ++ without service_key (attributes_of batch.tags))
    (All-append HoldsSound (row service_key (text_given batch.service)) (without service_key (attributes_of batch.tags)) (service_row batch.service)
    (All-filter (λ pair. not (bytes_eq service_key pair.0)) HoldsSound (attributes_of batch.tags) (tags_sound batch.tags)))

span_attributes_sound : (span : JSpan) → AreSound (span_attributes span.flags (attributes_of span.tags))
span_attributes_sound span =
    let high = flag_bits span.flags - flag_bits span.flags % 2 in
    let free = filter (λ pair. is_free pair.0) (attributes_of span.tags) in
    attrs_sound (row flags_key (high_flags_of span.flags) ++ unescaped is_reserved free)
    (All-append HoldsSound (row flags_key (high_flags_of span.flags)) (unescaped is_reserved free)
    (flags_row high (high == 0))
    (unescaped_all is_reserved HoldsSound free (All-filter (λ pair. is_free pair.0) HoldsSound (attributes_of span.tags) (tags_sound span.tags))))

-- ---- parts of a span

event_sound : (log : Log) → IsSoundEvent (event_of log)
event_sound log = record {
  rising = unescaped_rise is_event_reserved (without event_key (attributes_of log.fields));
  values = unescaped_all is_event_reserved HoldsSound (without event_key (attributes_of log.fields))
      (All-filter (λ pair. not (bytes_eq event_key pair.0)) HoldsSound (attributes_of log.fields) (tags_sound log.fields));
}

events_sound : (logs : List Log) → All IsSoundEvent (map event_of logs)
events_sound [] = All-nil IsSoundEvent
events_sound (log ∷ logs) = All-cons IsSoundEvent (event_of log) (map event_of logs) (event_sound log) (events_sound logs)

mark_sound : (child_of : Bool) → AreSound (if child_of then (reference_key, Text child_of_word) ∷ [] else [])
mark_sound true = one_sound reference_key child_of_word
mark_sound false = none_sound

links_sound : (references : List SpanRef) → All IsSoundLink (map link_of_reference references)
links_sound [] = All-nil IsSoundLink
links_sound (reference ∷ references) =
    All-cons IsSoundLink (link_of_reference reference) (map link_of_reference references) (mark_sound reference.child_of) (links_sound references)

span_sound : (span : JSpan) → IsSoundSpan (scoped_of span).span
span_sound span = record {
  attributes = span_attributes_sound span;
  events = events_sound span.logs;
  links = links_sound (filter (λ reference. not (is_own_parent span.trace reference && names (parent_of span) reference.span)) span.references);
}

-- ---- scopes

plain_sound : (name version : List ℕ) (spans : List Span) → All IsSoundSpan spans → IsSoundScope (plain_scope name version spans)
plain_sound name version spans each = record { attributes = none_sound; spans = each }

single : (one : Scoped Span) → IsSoundSpan one.span → IsSoundScope (plain_scope one.name one.version (one.span ∷ []))
single one its = plain_sound one.name one.version (one.span ∷ []) (All-cons IsSoundSpan one.span [] its (All-nil IsSoundSpan))

by_test : (one : Scoped Span) (scope : Scope) (scopes : List Scope) (same : Bool) → IsSoundSpan one.span → IsSoundScope scope → All IsSoundScope scopes
    → All IsSoundScope (if same then plain_scope scope.name scope.version (one.span ∷ scope.spans) ∷ scopes
    else plain_scope one.name one.version (one.span ∷ []) ∷ scope ∷ scopes)
by_test one scope scopes true its first others = All-cons IsSoundScope (plain_scope scope.name scope.version (one.span ∷ scope.spans)) scopes
    (plain_sound scope.name scope.version (one.span ∷ scope.spans) (All-cons IsSoundSpan one.span scope.spans its first.spans)) others
by_test one scope scopes false its first others = All-cons IsSoundScope (plain_scope one.name one.version (one.span ∷ [])) (scope ∷ scopes)
    (single one its) (All-cons IsSoundScope scope scopes first others)

front_sound : (one : Scoped Span) (scopes : List Scope) → IsSoundSpan one.span → All IsSoundScope scopes → All IsSoundScope (in_front one scopes)
front_sound one [] its each = All-cons IsSoundScope (plain_scope one.name one.version (one.span ∷ [])) [] (single one its) (All-nil IsSoundScope)
front_sound one (scope ∷ scopes) its each = by_test one scope scopes (is_of one scope) its
    (All-head IsSoundScope scope scopes each) (All-tail IsSoundScope scope scopes each)

pub scopes_sound : (spans : List JSpan) → All IsSoundScope (runs (map scoped_of spans))
scopes_sound [] = All-nil IsSoundScope
scopes_sound (span ∷ spans) = front_sound (scoped_of span) (runs (map scoped_of spans)) (span_sound span) (scopes_sound spans)
