-- Spans as they are written are read as themselves, with nothing noted.
use Rattle.std.proofs.Common.{◌≡◌, [], map, get_or, false, Some, None, option_map, codes, refl, sym}
use Rattle.std.specs.List.{list_any}
use Rattle.std.proofs.lemmas.Bool.{or_parts}
use Rattle.serde_json.specs.Data.{string, object, no_members}
use Rattle.span_io.specs.Paths.{Given, Never}
use Rattle.trace_model.specs.EventTexts.{holds_double}
use Rattle.trace_model.specs.declared.noted.Noted.{Noted}
use Rattle.trace_model.specs.OtlpParts.{kind_number, code_number, no_status}
use Rattle.trace_model.specs.Proper.{IsProperEvent, IsProperLink, IsProperSpan}
use Rattle.trace_model.specs.Remarks.{Keys}
use Rattle.trace_model.specs.Soundness.{IsSoundEvent, IsSoundLink, IsSoundSpan}
use Rattle.trace_model.specs.declared.span.Code.{Code}
use Rattle.trace_model.specs.declared.span.Code.TheVariants as statuses
use Rattle.trace_model.specs.declared.span.Event.{Event}
use Rattle.trace_model.specs.declared.span.Kind.TheVariants as kinds
use Rattle.trace_model.specs.declared.span.Link.{Link}
use Rattle.trace_model.specs.declared.span.Span.{Span}
use Rattle.trace_model.specs.declared.span.Status.{Status}
use Rattle.trace_model.proofs.RemarkLaws.{quiet, quiet_link, quiet_span, mapped, all_back, links_back, links_noted, none_dropped}
use Rattle.json_members.specs.Canonical.{members_given, unless_empty, count_data, trace_id_text, span_id_text}
use Rattle.json_members.specs.Members.{unless_null, Spelled}
use Rattle.json_members.proofs.MeaningLaws.{given_row}
use Rattle.otlp_json.specs.Canonical.{list_data, status_rows, event_rows, event_data, link_rows, link_data, otlp_span_rows, otlp_span_data}
use Rattle.otlp_json.specs.Doubles.{double_in_event, double_in_link, double_in_span}
use Rattle.otlp_json.specs.Identifiers.{SpellsJsonTrace, SpellsJsonSpan, SpellsTraceOrNone, SpellsSpanOrNone}
use Rattle.otlp_json.specs.Numbers.{IsJsonKind, IsJsonCode}
use Rattle.otlp_json.specs.Span.{IsJsonStatus, IsJsonEvent, IsJsonLink, AreJsonEvents, AreJsonLinks, IsJsonSpan}
use Rattle.otlp_json.proofs.NumbersAgain.{kind_again, code_again}
use Rattle.otlp_json.proofs.WrittenLaws.{Laws}
use Rattle.otlp_json.proofs.WrittenLists.{list_again, none_passes}
use Rattle.otlp_json.proofs.WrittenRows.{text_row, count_row, time_row, attributes_row, trace_again, span_id_again, parent_again, or_absent, rows_none, no_text}

-- ---- `Status`

status_means : (s : Status) → IsJsonStatus s (object (members_given (status_rows s)))
status_means s = record {
  shape = refl;
  message = text_row (status_rows s) (codes "message") s.message refl;
  code = given_row IsJsonCode (λ code. code ≡ statuses.Unset) s.code (codes "code") (status_rows s) (count_data (code_number s.code)) refl (code_again s.code);
}

no_code : (code : Code) → count_data (code_number code) ≡ None → code ≡ statuses.Unset
no_code statuses.Unset e = refl
no_code statuses.Okay e = absurd cc
no_code statuses.Fail e = absurd cc

status_default : (s : Status) → members_given (status_rows s) ≡ no_members → s ≡ no_status
status_default s e =
    let none = rows_none (status_rows s) e in
    let code = no_code s.code none.0 in
    let message = no_text s.message none.1.0 in
    λ i. record { code = code i; message = message i }

status_again : (s : Status) → Given IsJsonStatus (λ status. status ≡ no_status) s (unless_null (unless_empty (members_given (status_rows s))))
status_again s = or_absent IsJsonStatus (λ status. status ≡ no_status) s (members_given (status_rows s)) (status_means s) (status_default s)

-- ---- `Event` and `Link`

module _ (L : Laws) where
  event_again : (e : Event) → IsSoundEvent e → IsProperEvent e → double_in_event e ≡ false → IsJsonEvent (quiet e) (event_data e)
  event_again e sound proper none = record {
    shape = refl;
    time = time_row (event_rows e) (codes "timeUnixNano") e.time proper.time refl;
    name = text_row (event_rows e) (codes "name") e.name refl;
    attributes = attributes_row (event_rows e) (codes "attributes") L e.attributes sound proper.attributes none refl;
    dropped = count_row (event_rows e) (codes "droppedAttributesCount") e.dropped proper.dropped refl;
  }

  link_again : (l : Link) → IsSoundLink l → IsProperLink l → double_in_link l ≡ false → IsJsonLink (quiet_link l) (link_data l)
  link_again l sound proper none = record {
    shape = refl;
    trace = Some l.trace;
    trace_id = given_row (Spelled SpellsTraceOrNone) (λ id. id ≡ None) (Some l.trace) (codes "traceId") (link_rows l) (Some (string (trace_id_text l.trace))) refl
        (some_trace (trace_again L.ids l.trace proper.trace));
    span = Some l.span;
    span_id = given_row (Spelled SpellsSpanOrNone) (λ id. id ≡ None) (Some l.span) (codes "spanId") (link_rows l) (Some (string (span_id_text l.span))) refl
        (parent_again L.ids (Some l.span) proper.span);
    parts = record { state = l.state; attributes = l.attributes; keys = []; dropped = l.dropped; flags = l.flags };
    state = text_row (link_rows l) (codes "traceState") l.state refl;
    attributes = attributes_row (link_rows l) (codes "attributes") L l.attributes sound proper.attributes none refl;
    dropped = count_row (link_rows l) (codes "droppedAttributesCount") l.dropped proper.dropped refl;
    flags = count_row (link_rows l) (codes "flags") l.flags proper.flags refl;
    link = refl;
  }
    where
      some_trace : Spelled SpellsJsonTrace l.trace (string (trace_id_text l.trace)) → Spelled SpellsTraceOrNone (Some l.trace) (string (trace_id_text l.trace))
      some_trace h = record { held = h.held; shape = h.shape; means = h.means }

-- ---- `Span`

module _ (L : Laws) (s : Span) (sound : IsSoundSpan s) (proper : IsProperSpan s) (none : double_in_span s ≡ false) where
  none_inside : (holds_double s.attributes ≡ false) × (list_any double_in_event s.events ≡ false) × (list_any double_in_link s.links ≡ false)
  none_inside =
      let own = or_parts (holds_double s.attributes) _ none in
      let others = or_parts (list_any double_in_event s.events) _ own.1 in
      (own.0, others.0, others.1)

  events_again : Given AreJsonEvents (λ xs. xs ≡ []) (map quiet s.events) (unless_null (list_data event_data s.events))
  events_again = list_again IsJsonEvent event_data quiet s.events
      (λ k e lt. event_again L (get_or s.events k e) (sound.events k e lt) (proper.events k e lt) (none_passes double_in_event s.events none_inside.1 k e lt))

  links_again : Given AreJsonLinks (λ xs. xs ≡ []) (map quiet_link s.links) (unless_null (list_data link_data s.links))
  links_again = list_again IsJsonLink link_data quiet_link s.links
      (λ k l lt. link_again L (get_or s.links k l) (sound.links k l lt) (proper.links k l lt) (none_passes double_in_link s.links none_inside.2 k l lt))

  pub span_again : IsJsonSpan (quiet_span s) (otlp_span_data s)
  span_again = record {
    shape = refl;
    trace = given_row (Spelled SpellsJsonTrace) Never s.trace (codes "traceId") (otlp_span_rows s) (Some (string (trace_id_text s.trace))) refl (trace_again L.ids s.trace proper.trace);
    id = given_row (Spelled SpellsJsonSpan) Never s.id (codes "spanId") (otlp_span_rows s) (Some (string (span_id_text s.id))) refl (span_id_again L.ids s.id proper.id);
    state = text_row (otlp_span_rows s) (codes "traceState") s.state refl;
    parent = given_row (Spelled SpellsSpanOrNone) (λ id. id ≡ None) s.parent (codes "parentSpanId") (otlp_span_rows s) (option_map (λ id. string (span_id_text id)) s.parent) refl (parent_again L.ids s.parent proper.parent);
    name = text_row (otlp_span_rows s) (codes "name") s.name refl;
    kind = given_row IsJsonKind (λ kind. kind ≡ kinds.Unspecified) s.kind (codes "kind") (otlp_span_rows s) (count_data (kind_number s.kind)) refl (kind_again s.kind);
    start = time_row (otlp_span_rows s) (codes "startTimeUnixNano") s.start proper.start refl;
    end = time_row (otlp_span_rows s) (codes "endTimeUnixNano") s.end proper.end refl;
    attributes = attributes_row (otlp_span_rows s) (codes "attributes") L s.attributes sound.attributes proper.attributes none_inside.0 refl;
    dropped_attributes = count_row (otlp_span_rows s) (codes "droppedAttributesCount") s.dropped_attributes proper.dropped_attributes refl;
    events = map quiet s.events;
    each_event = given_row AreJsonEvents (λ xs. xs ≡ []) (map quiet s.events) (codes "events") (otlp_span_rows s) (list_data event_data s.events) refl events_again;
    its_events = record { kept = sym (all_back (λ (e : Noted Event Keys). e.means) quiet (λ e. refl) s.events); noted = sym (mapped (λ (e : Noted Event Keys). e.notes) quiet s.events) };
    dropped_events = count_row (otlp_span_rows s) (codes "droppedEventsCount") s.dropped_events proper.dropped_events refl;
    links = map quiet_link s.links;
    each_link = given_row AreJsonLinks (λ xs. xs ≡ []) (map quiet_link s.links) (codes "links") (otlp_span_rows s) (list_data link_data s.links) refl links_again;
    its_links = record { kept = sym (links_back s.links); noted = sym (links_noted s.links); any_dropped = sym (none_dropped s.links) };
    dropped_links = count_row (otlp_span_rows s) (codes "droppedLinksCount") s.dropped_links proper.dropped_links refl;
    status = given_row IsJsonStatus (λ status. status ≡ no_status) s.status (codes "status") (otlp_span_rows s) (unless_empty (members_given (status_rows s.status))) refl (status_again s.status);
    flags = count_row (otlp_span_rows s) (codes "flags") s.flags proper.flags refl;
  }
