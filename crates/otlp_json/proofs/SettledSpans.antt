-- Spans with their parts mean one thing, or one offence in them counts.
use Rattle.std.proofs.Common.{◌≡◌, List, map, Bool, is_none, codes, refl, sym}
use Rattle.std.specs.List.{list_any}
use Rattle.serde_json.specs.Data.{Data}
use Rattle.span_io.proofs.PathDecisions.{IsSettled, decided_optional}
use Rattle.trace_model.specs.StatedLaws.{AttributesOnce, AttributesExist}
use Rattle.trace_model.specs.declared.noted.Noted.{Noted}
use Rattle.trace_model.specs.Notes.{SpanNotes}
use Rattle.trace_model.specs.Remarks.{Keys}
use Rattle.trace_model.specs.declared.span.Event.{Event}
use Rattle.trace_model.specs.declared.span.Link.{Link}
use Rattle.trace_model.specs.declared.span.Span.{Span}
use Rattle.trace_model.specs.OtlpParts.{link_of, kept_links, no_status}
use Rattle.json_members.proofs.DecisionLaws.{◌&◌, next, last, object_settled, text_settled, array_settled}
use Rattle.json_members.specs.Members.{member}
use Rattle.otlp_json.specs.Span.{IsJsonStatus, status_members, status_offends, IsJsonEvent, event_members, event_offends, IsJsonLink, link_members, link_offends, IsJsonSpan, json_span_members, otlp_span_offends}
use Rattle.otlp_json.proofs.SettledMembers.{count_settled, time_settled, kind_settled, code_settled, trace_settled, span_id_settled, trace_or_none_settled, span_or_none_settled}
use Rattle.otlp_json.proofs.SettledValues.{attributes_settled}

status_settled : (d : Data) → IsSettled (λ s. IsJsonStatus s d) (status_offends d)
unfolding status_members
status_settled d =
    object_settled d (next (text_settled d (codes "message")) (next (code_settled d (codes "code")) last)).settled (λ s. IsJsonStatus s d)
    (λ p. record { message = p.0; code = p.1.0 })
    (λ p shape h. record { shape = shape; message = h.0; code = h.1.0 })
    (λ z h. (h.shape, (z.message & z.code & tt, h.message & h.code & tt, refl)))

-- a span whose events and links are these
span_is : (s : Noted Span SpanNotes) (events : List Event) (links : List Link) (notes : List Keys) (dropped : Bool) (linked : List Keys) → s.means.events ≡ events → s.means.links ≡ links
    → s.notes.events ≡ notes → s.notes.dropped ≡ dropped → s.notes.links ≡ linked
    → record { means = record s.means { events = events; links = links }; notes = record s.notes { dropped = dropped; events = notes; links = linked } } ≡ s
span_is s events links notes dropped linked e l n d k = rw (sym e, sym l, sym n, sym d, sym k) refl

module _ (once : AttributesOnce) (exist : AttributesExist) where
  event_settled : (d : Data) → IsSettled (λ e. IsJsonEvent e d) (event_offends d)
  unfolding event_members
  event_settled d =
      object_settled d
      (next (time_settled d (codes "timeUnixNano"))
      (next (text_settled d (codes "name"))
      (next (attributes_settled once exist d (codes "attributes"))
      (next (count_settled d (codes "droppedAttributesCount")) last)))).settled
      (λ e. IsJsonEvent e d)
      (λ p. record { means = record { time = p.0; name = p.1.0; attributes = p.1.1.0.0; dropped = p.1.1.1.0 }; notes = p.1.1.0.1 })
      (λ p shape h. record { shape = shape; time = h.0; name = h.1.0; attributes = h.1.1.0; dropped = h.1.1.1.0 })
      (λ z h. (
        h.shape,
        (z.means.time & z.means.name & (z.means.attributes, z.notes) & z.means.dropped & tt, h.time & h.name & h.attributes & h.dropped & tt, refl),
      ))

  link_settled : (d : Data) → IsSettled (λ l. IsJsonLink l d) (link_offends d)
  unfolding link_members
  link_settled d =
      object_settled d
      (next (trace_or_none_settled d (codes "traceId"))
      (next (span_or_none_settled d (codes "spanId"))
      (next (text_settled d (codes "traceState"))
      (next (attributes_settled once exist d (codes "attributes"))
      (next (count_settled d (codes "droppedAttributesCount"))
      (next (count_settled d (codes "flags")) last)))))).settled
      (λ l. IsJsonLink l d)
      (λ p. link_of p.0 p.1.0 (record { state = p.1.1.0; attributes = p.1.1.1.0.0; keys = p.1.1.1.0.1; dropped = p.1.1.1.1.0; flags = p.1.1.1.1.1.0 }))
      (λ p shape h. record {
        shape = shape;
        trace = p.0;
        trace_id = h.0;
        span = p.1.0;
        span_id = h.1.0;
        parts = record { state = p.1.1.0; attributes = p.1.1.1.0.0; keys = p.1.1.1.0.1; dropped = p.1.1.1.1.0; flags = p.1.1.1.1.1.0 };
        state = h.1.1.0;
        attributes = h.1.1.1.0;
        dropped = h.1.1.1.1.0;
        flags = h.1.1.1.1.1.0;
        link = refl;
      })
      (λ z h. (
        h.shape,
        (
          h.trace & h.span & h.parts.state & (h.parts.attributes, h.parts.keys) & h.parts.dropped & h.parts.flags & tt,
          h.trace_id & h.span_id & h.state & h.attributes & h.dropped & h.flags & tt,
          sym h.link,
        ),
      ))

  pub span_settled : (d : Data) → IsSettled (λ s. IsJsonSpan s d) (otlp_span_offends d)
  unfolding json_span_members
  span_settled d =
      object_settled d
      (next (trace_settled d (codes "traceId"))
      (next (span_id_settled d (codes "spanId"))
      (next (text_settled d (codes "traceState"))
      (next (span_or_none_settled d (codes "parentSpanId"))
      (next (text_settled d (codes "name"))
      (next (kind_settled d (codes "kind"))
      (next (time_settled d (codes "startTimeUnixNano"))
      (next (time_settled d (codes "endTimeUnixNano"))
      (next (attributes_settled once exist d (codes "attributes"))
      (next (count_settled d (codes "droppedAttributesCount"))
      (next (array_settled IsJsonEvent event_offends event_settled (member (codes "events") d))
      (next (count_settled d (codes "droppedEventsCount"))
      (next (array_settled IsJsonLink link_offends link_settled (member (codes "links") d))
      (next (count_settled d (codes "droppedLinksCount"))
      (next (decided_optional IsJsonStatus status_offends status_settled no_status (member (codes "status") d))
      (next (count_settled d (codes "flags")) last)))))))))))))))).settled
      (λ s. IsJsonSpan s d)
      (λ p. record {
        means = record {
          trace = p.0;
          id = p.1.0;
          state = p.1.1.0;
          parent = p.1.1.1.0;
          name = p.1.1.1.1.0;
          kind = p.1.1.1.1.1.0;
          start = p.1.1.1.1.1.1.0;
          end = p.1.1.1.1.1.1.1.0;
          attributes = p.1.1.1.1.1.1.1.1.0.0;
          dropped_attributes = p.1.1.1.1.1.1.1.1.1.0;
          events = map (λ e. e.means) p.1.1.1.1.1.1.1.1.1.1.0;
          dropped_events = p.1.1.1.1.1.1.1.1.1.1.1.0;
          links = map (λ l. l.means) (kept_links p.1.1.1.1.1.1.1.1.1.1.1.1.0);
          dropped_links = p.1.1.1.1.1.1.1.1.1.1.1.1.1.0;
          status = p.1.1.1.1.1.1.1.1.1.1.1.1.1.1.0;
          flags = p.1.1.1.1.1.1.1.1.1.1.1.1.1.1.1.0;
        };
        notes = record {
          keys = p.1.1.1.1.1.1.1.1.0.1;
          dropped = list_any (λ l. is_none l) p.1.1.1.1.1.1.1.1.1.1.1.1.0;
          events = map (λ e. e.notes) p.1.1.1.1.1.1.1.1.1.1.0;
          links = map (λ l. l.notes) (kept_links p.1.1.1.1.1.1.1.1.1.1.1.1.0);
        };
      })
      (λ p shape h. record {
        shape = shape;
        trace = h.0;
        id = h.1.0;
        state = h.1.1.0;
        parent = h.1.1.1.0;
        name = h.1.1.1.1.0;
        kind = h.1.1.1.1.1.0;
        start = h.1.1.1.1.1.1.0;
        end = h.1.1.1.1.1.1.1.0;
        attributes = h.1.1.1.1.1.1.1.1.0;
        dropped_attributes = h.1.1.1.1.1.1.1.1.1.0;
        events = p.1.1.1.1.1.1.1.1.1.1.0;
        each_event = h.1.1.1.1.1.1.1.1.1.1.0;
        its_events = record { kept = refl; noted = refl };
        dropped_events = h.1.1.1.1.1.1.1.1.1.1.1.0;
        links = p.1.1.1.1.1.1.1.1.1.1.1.1.0;
        each_link = h.1.1.1.1.1.1.1.1.1.1.1.1.0;
        its_links = record { kept = refl; noted = refl; any_dropped = refl };
        dropped_links = h.1.1.1.1.1.1.1.1.1.1.1.1.1.0;
        status = h.1.1.1.1.1.1.1.1.1.1.1.1.1.1.0;
        flags = h.1.1.1.1.1.1.1.1.1.1.1.1.1.1.1.0;
      })
      (λ z h. (
        h.shape,
        (
          z.means.trace & z.means.id & z.means.state & z.means.parent & z.means.name & z.means.kind & z.means.start & z.means.end
              & (z.means.attributes, z.notes.keys) & z.means.dropped_attributes & h.events & z.means.dropped_events
              & h.links & z.means.dropped_links & z.means.status & z.means.flags & tt,
          h.trace & h.id & h.state & h.parent & h.name & h.kind & h.start & h.end & h.attributes & h.dropped_attributes
              & h.each_event & h.dropped_events & h.each_link & h.dropped_links & h.status & h.flags & tt,
          span_is z _ _ _ _ _ h.its_events.kept h.its_links.kept h.its_events.noted h.its_links.any_dropped h.its_links.noted,
        ),
      ))
