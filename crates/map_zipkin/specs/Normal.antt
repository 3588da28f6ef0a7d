-- What Zipkin can hold of a trace in which nothing is a fault: its normal form.
use Rattle.std.specs.Prelude.{ℕ, List, [], ◌++◌, map}
use Rattle.std.specs.List.{flat_map}
use Rattle.span_ids.specs.Times.{floor}
use Rattle.span_tags.specs.Runs.{Scoped, scoped}
use Rattle.span_tags.specs.TagKeys.{service_key}
use Rattle.span_tags.specs.TagWords.{Pairs, row, without, text_given, text_or_none}
use Rattle.trace_model.specs.Attributes.{attrs, at}
use Rattle.trace_model.specs.EventTexts.{with_texts}
use Rattle.trace_model.specs.declared.span.Code.{Code}
use Rattle.trace_model.specs.declared.span.Code.TheVariants as statuses
use Rattle.trace_model.specs.declared.span.Event.{Event}
use Rattle.trace_model.specs.declared.span.Kind.{Kind}
use Rattle.trace_model.specs.declared.span.Kind.TheVariants as kinds
use Rattle.trace_model.specs.declared.span.Span.{Span}
use Rattle.trace_model.specs.declared.span.Status.{Status}
use Rattle.trace_model.specs.declared.group.Group.{Group}
use Rattle.map_zipkin.specs.Keys.{peer_key}
use Rattle.map_zipkin.specs.Regrouped.{RunSpan, regrouped}
use Rattle.map_zipkin.specs.Writing.{as_texts}

-- all values are texts, and that of the one key goes where it is empty
abbrev pub normal_pairs : List ℕ → Pairs → Pairs
normal_pairs key pairs = attrs (row key (text_given (text_or_none (at key pairs))) ++ as_texts (without key pairs))

-- a span of Zipkin v2 without a `kind` is read as internal, so that an unspecified kind becomes internal
abbrev pub zipkin_normal_kind : Kind → Kind
zipkin_normal_kind kinds.Unspecified = kinds.Internal
zipkin_normal_kind kind = kind

-- the message stays with an error
abbrev pub message_kept : Code → List ℕ → List ℕ
message_kept statuses.Fail message = message
message_kept code message = []

-- the code of the status stays, and its message with an error alone
abbrev pub zipkin_normal_status : Status → Status
zipkin_normal_status status = record { code = status.code; message = message_kept status.code status.message }

-- times to the microsecond; bytes in an event's attributes become texts
abbrev pub zipkin_normal_event : Event → Event
zipkin_normal_event event =
    record { time = floor event.time; name = event.name; attributes = with_texts event.attributes; dropped = 0 }

-- what comes back of a span: times to the microsecond, attributes as texts, no links and no flags; its identifiers, name,
-- trace state and dropped counts stay
abbrev pub zipkin_normal_span : Span → Span
zipkin_normal_span span = record span {
  kind = zipkin_normal_kind span.kind;
  start = floor span.start;
  end = floor span.end;
  attributes = normal_pairs peer_key span.attributes;
  events = map zipkin_normal_event span.events;
  links = [];
  status = zipkin_normal_status span.status;
  flags = 0;
}

-- a span of a group in normal form, with its run
abbrev pub normal_one : Pairs → Scoped Span → RunSpan
normal_one resource one =
    (record { resource = normal_pairs service_key resource; name = one.name; version = one.version }, zipkin_normal_span one.span)

-- all spans of a group in normal form, in order, each with the resource in normal form and its scope
abbrev pub normal_spans : Group → List RunSpan
normal_spans group = map (normal_one group.resource) (scoped group.scopes)

-- spans are taken one after the other, and stand in maximal runs
abbrev pub zipkin_normal : List Group → List Group
zipkin_normal groups = regrouped (flat_map normal_spans groups)
