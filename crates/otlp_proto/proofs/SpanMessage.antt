-- `Span`, told by the values of its rows, with what is proved of it.
use Rattle.std.proofs.Common.{◌≡◌, ℕ, ◌^◌, List, [], map, get_or, All, Option, Some, None, refl, sym, subst, arith}
use Rattle.std.specs.List.{AllByRecursion, list_any}
use Rattle.std.specs.Prelude.{is_none}
use Rattle.std.proofs.lemmas.Str.{IsUtf8-nil}
use Rattle.span_io.specs.Tables.{Singular, Values}
use Rattle.span_ids.specs.StatedLaws.{IdentifiersReadBack}
use Rattle.proto_wire.specs.Records.{Record}
use Rattle.trace_model.specs.Proper.{AreProper, IsProperStatus, IsProperEvent, IsProperLink, IsProperSpan}
use Rattle.trace_model.specs.Soundness.{IsSoundSpan}
use Rattle.trace_model.specs.declared.span.Event.{Event}
use Rattle.trace_model.specs.declared.span.Kind.TheVariants as kinds
use Rattle.trace_model.specs.declared.span.Kind.{Kind}
use Rattle.trace_model.specs.declared.span.Link.{Link}
use Rattle.trace_model.specs.declared.span.Span.{Span}
use Rattle.trace_model.specs.declared.value.Value.{Value}
use Rattle.otlp_proto.specs.StatedLaws.{ReadingLaws}
use Rattle.otlp_proto.specs.Attributes.{AttributesOf}
use Rattle.otlp_proto.specs.Event.{IsEvent}
use Rattle.otlp_proto.specs.Identifiers.{MeansTraceId, MeansSpanId}
use Rattle.otlp_proto.specs.Link.{IsLink}
use Rattle.trace_model.specs.Remarks.{Keys}
use Rattle.otlp_proto.specs.Rows.{bytes_of, varints_of, fixed64s_of, fixed32s_of, MeansMessage}
use Rattle.otlp_proto.specs.Span.{IsSpan, span_table, span_padded, span_ends}
use Rattle.otlp_proto.specs.Status.{IsStatus}
use Rattle.otlp_proto.specs.Canonical.{status_text, otlp_event_text, link_text, span_text}
use Rattle.trace_model.specs.declared.noted.Noted.{Noted}
use Rattle.trace_model.specs.Notes.{SpanNotes}
use Rattle.trace_model.specs.OtlpParts.{kept_links, no_status, kind_number}
use Rattle.otlp_proto.proofs.Bridges.{Bridge, read_back}
use Rattle.otlp_proto.proofs.CanonicalLaws.{Laws}
use Rattle.trace_model.proofs.OtlpEnums.{kind_laws, kind_numbered}
use Rattle.otlp_proto.proofs.EventMessage.{event_proof, event_again, event_proper}
use Rattle.otlp_proto.proofs.FieldLemmas.{Fits}
use Rattle.otlp_proto.proofs.LinkMessage.{link_proof, link_again, links_proper}
use Rattle.otlp_proto.proofs.MessageProofs.{MessageProof, message_proof, messages_proof, proved}
use Rattle.otlp_proto.proofs.ProperLemmas.{singular_in_range, text_proper, number_proper, count_proper, trace_proper, span_id_proper}
use Rattle.trace_model.proofs.PartLaws.{each_in_range}
use Rattle.trace_model.proofs.RemarkLaws.{quiet, quiet_link, quiet_span, mapped, all_back, links_back, links_noted, none_dropped}
use Rattle.otlp_proto.proofs.Ranges.{AreBytes, AllInRange, wire_in_range, all_bytes, all_times, all_flags}
use Rattle.otlp_proto.proofs.RowProofs.{TableProof, text_proof, time_proof, flags_proof, count_proof, enum_proof, trace_id_proof, span_id_proof, attributes_proof}
use Rattle.otlp_proto.proofs.SpanEnds.{span_end, known, known_trace, known_span, ends_moved, span_ends_well}
use Rattle.otlp_proto.proofs.StatusMessage.{status_proof, status_none, status_again, status_proper}
use Rattle.otlp_proto.proofs.WrittenAttributes.{attributes_written}
use Rattle.otlp_proto.proofs.WrittenFields.{text_written, time_written, flags_written, count_written, enum_written, message_written, messages_written, trace_id_written, span_id_written}
use Rattle.otlp_proto.proofs.WrittenRows.{AllWritten, values_of, ◌and◌}

abbrev span_of : Values span_table → Noted Span SpanNotes
span_of v = record {
  means = record {
    trace = known v.0;
    id = known v.1.0;
    state = v.1.1.0;
    parent = v.1.1.1.0;
    name = v.1.1.1.1.0;
    kind = v.1.1.1.1.1.0;
    start = v.1.1.1.1.1.1.0;
    end = v.1.1.1.1.1.1.1.0;
    attributes = v.1.1.1.1.1.1.1.1.0.means;
    dropped_attributes = v.1.1.1.1.1.1.1.1.1.0;
    events = map (λ e. e.means) v.1.1.1.1.1.1.1.1.1.1.0;
    dropped_events = v.1.1.1.1.1.1.1.1.1.1.1.0;
    links = map (λ l. l.means) (kept_links v.1.1.1.1.1.1.1.1.1.1.1.1.0);
    dropped_links = v.1.1.1.1.1.1.1.1.1.1.1.1.1.0;
    status = v.1.1.1.1.1.1.1.1.1.1.1.1.1.1.0;
    flags = v.1.1.1.1.1.1.1.1.1.1.1.1.1.1.1.0;
  };
  notes = record {
    keys = v.1.1.1.1.1.1.1.1.0.notes;
    dropped = list_any (λ l. is_none l) v.1.1.1.1.1.1.1.1.1.1.1.1.0;
    events = map (λ e. e.notes) v.1.1.1.1.1.1.1.1.1.1.0;
    links = map (λ l. l.notes) (kept_links v.1.1.1.1.1.1.1.1.1.1.1.1.0);
  };
}

abbrev span_values : (s : Noted Span SpanNotes) (records : List Record) → IsSpan s records → Values span_table
span_values s records is = (
  Some s.means.trace,
  (
    Some s.means.id,
    (
      s.means.state,
      (
        s.means.parent,
        (
          s.means.name,
          (
            s.means.kind,
            (
              s.means.start,
              (
                s.means.end,
                (record { means = s.means.attributes; notes = s.notes.keys }, (s.means.dropped_attributes, (is.events, (s.means.dropped_events, (is.links, (s.means.dropped_links, (s.means.status, (s.means.flags, tt)))))))),
              ),
            ),
          ),
        ),
      ),
    ),
  ),
)

module _ (ids : IdentifiersReadBack) where
  unfoldable pub span_bridge : Bridge (Noted Span SpanNotes) span_table span_ends IsSpan
  span_bridge = record {
    of = span_of;
    values = span_values;
    mean = λ s records is. (
      is.trace,
      (
        is.id,
        (
          is.state,
          (
            is.parent,
            (
              is.name,
              (
                is.kind,
                (
                  is.start,
                  (
                    is.end,
                    (
                      is.attributes,
                      (
                        is.dropped_attributes,
                        (is.each_event, (is.dropped_events, (is.each_link, (is.dropped_links, (is.status, (is.flags, tt)))))),
                      ),
                    ),
                  ),
                ),
              ),
            ),
          ),
        ),
      ),
    );
    again = λ s records is i. record {
      means = record s.means { events = is.its_events.kept i; links = is.its_links.kept i };
      notes = record { keys = s.notes.keys; dropped = is.its_links.any_dropped i; events = is.its_events.noted i; links = is.its_links.noted i };
    };
    build = λ records v clean m. record {
      trace = subst (λ (x : Option ℕ). Singular MeansTraceId (λ id. id ≡ None) (bytes_of 1 records) x) (known_trace records v.0 m.0 clean) m.0;
      id = subst (λ (x : Option ℕ). Singular MeansSpanId (λ id. id ≡ None) (bytes_of 2 records) x) (known_span records v.1.0 m.1.0 clean) m.1.0;
      state = m.1.1.0;
      parent = m.1.1.1.0;
      name = m.1.1.1.1.0;
      kind = m.1.1.1.1.1.0;
      start = m.1.1.1.1.1.1.0;
      end = m.1.1.1.1.1.1.1.0;
      attributes = m.1.1.1.1.1.1.1.1.0;
      dropped_attributes = m.1.1.1.1.1.1.1.1.1.0;
      events = v.1.1.1.1.1.1.1.1.1.1.0;
      each_event = m.1.1.1.1.1.1.1.1.1.1.0;
      its_events = record { kept = refl; noted = refl };
      dropped_events = m.1.1.1.1.1.1.1.1.1.1.1.0;
      links = v.1.1.1.1.1.1.1.1.1.1.1.1.0;
      each_link = m.1.1.1.1.1.1.1.1.1.1.1.1.0;
      its_links = record { kept = refl; noted = refl; any_dropped = refl };
      dropped_links = m.1.1.1.1.1.1.1.1.1.1.1.1.1.0;
      status = m.1.1.1.1.1.1.1.1.1.1.1.1.1.1.0;
      flags = m.1.1.1.1.1.1.1.1.1.1.1.1.1.1.1.0;
    };
    ended = λ s records is n h. span_ends_well ids records s.means.trace s.means.id is.trace is.id n h;
    ends_same = λ records others same n bad. (bad.0, ends_moved records others (λ i. (same i).0) (λ i. (same i).1.0) bad.1);
  }

-- ---- what is proved of its rows, and so of it

abbrev span_rows : ReadingLaws → TableProof span_table span_padded 3
span_rows K =
    trace_id_proof K 3 1 and
    span_id_proof K 3 2 and
    text_proof K 3 3 and
    span_id_proof K 3 4 and
    text_proof K 3 5 and
    enum_proof K 3 6 5 Kind kind_number kinds.Unspecified kind_laws kind_numbered and
    time_proof K 3 7 and
    time_proof K 3 8 and
    attributes_proof K 9 and
    count_proof K 3 10 and
    messages_proof 3 3 (omega arith) (event_proof K) 11 and
    count_proof K 3 12 and
    messages_proof 3 3 (omega arith) (link_proof K) 13 and
    count_proof K 3 14 and
    message_proof 3 3 (omega arith) (status_proof K) 15 no_status and
    flags_proof K 3 16 and
    tt

-- the end of a span offends with 12, and what stands inside at most with 3 there
pub span_proof : ReadingLaws → MessageProof IsSpan span_table span_padded span_ends 12
span_proof K = proved K span_table span_padded span_ends IsSpan 3 12 (omega arith) (omega arith) (span_rows K) refl span_end (span_bridge K.ids)

-- ---- as it is written

abbrev span_written : Laws → (s : Span) → IsSoundSpan s → IsProperSpan s → AllWritten span_table
span_written L s sound proper =
    trace_id_written L.spelled 1 refl L.ids s.trace proper.trace and
    span_id_written L.spelled 2 refl L.ids (Some s.id) proper.id and
    text_written L.spelled 3 refl s.state proper.state and
    span_id_written L.spelled 4 refl L.ids s.parent proper.parent and
    text_written L.spelled 5 refl s.name proper.name and
    enum_written L.spelled 6 refl 5 Kind kind_number kinds.Unspecified s.kind (omega arith) kind_laws refl and
    time_written L.spelled 7 refl s.start proper.start and
    time_written L.spelled 8 refl s.end proper.end and
    attributes_written L 9 refl s.attributes sound.attributes proper.attributes and
    count_written L.spelled 10 refl s.dropped_attributes proper.dropped_attributes and
    messages_written L.spelled 11 refl _ (MeansMessage IsEvent) _ otlp_event_text quiet s.events (λ k d lt. event_again L (get_or s.events k d) (sound.events k d lt) (proper.events k d lt)) and
    count_written L.spelled 12 refl s.dropped_events proper.dropped_events and
    messages_written L.spelled 13 refl _ (MeansMessage IsLink) _ link_text quiet_link s.links (λ k d lt. link_again L (get_or s.links k d) (sound.links k d lt) (proper.links k d lt)) and
    count_written L.spelled 14 refl s.dropped_links proper.dropped_links and
    message_written L.spelled 15 refl _ (MeansMessage IsStatus) no_status _ s.status (status_text s.status) (status_none s.status) (status_again L s.status proper.status) and
    flags_written L.spelled 16 refl s.flags proper.flags and
    tt

-- the span that these values make
same_span : (L : Laws) (s : Span) (sound : IsSoundSpan s) (proper : IsProperSpan s) → (span_bridge L.ids).of (values_of span_table (span_written L s sound proper)) ≡ quiet_span s
unfolding span_bridge
same_span L s sound proper = λ i. record {
  means = record s { events = all_back (λ (e : Noted Event Keys). e.means) quiet (λ e. refl) s.events i; links = links_back s.links i };
  notes = record { keys = []; dropped = none_dropped s.links i; events = mapped (λ (e : Noted Event Keys). e.notes) quiet s.events i; links = links_noted s.links i };
}

pub span_again : (L : Laws) (s : Span) → IsSoundSpan s → IsProperSpan s → Fits (span_text s) → MeansMessage IsSpan (span_text s) (quiet_span s)
unfolding span_text
span_again L s sound proper fits =
    subst (λ (x : Noted Span SpanNotes). MeansMessage IsSpan (span_text s) x) (same_span L s sound proper)
    (read_back span_table span_ends IsSpan (span_bridge L.ids) (span_written L s sound proper) refl (λ records mean n h. span_ends_well L.ids records s.trace s.id mean.0 mean.1.0 n h) fits)

-- ---- what is read is proper

module _ (attributes_proper : (texts : List (List ℕ)) (attributes : List (List ℕ × Value)) (keys : Keys) → AllByRecursion AreBytes texts → AttributesOf texts attributes keys → AreProper attributes) where
  pub span_proper : (s : Noted Span SpanNotes) (text : List ℕ) → AreBytes text → MeansMessage IsSpan text s → IsProperSpan s.means
  span_proper s text all h =
      let seen : AllInRange h.items = wire_in_range h.items text all h.are in
      let is = h.is in
      record {
        trace = trace_proper (bytes_of 1 h.items) (Some s.means.trace) (all_bytes 1 h.items seen) is.trace;
        id = span_id_proper (bytes_of 2 h.items) (Some s.means.id) (all_bytes 2 h.items seen) is.id;
        state = text_proper (bytes_of 3 h.items) s.means.state (all_bytes 3 h.items seen) is.state;
        parent = span_id_proper (bytes_of 4 h.items) s.means.parent (all_bytes 4 h.items seen) is.parent;
        name = text_proper (bytes_of 5 h.items) s.means.name (all_bytes 5 h.items seen) is.name;
        start = number_proper (2 ^ 64) (omega arith) (fixed64s_of 7 h.items) s.means.start (all_times 7 h.items seen) is.start;
        end = number_proper (2 ^ 64) (omega arith) (fixed64s_of 8 h.items) s.means.end (all_times 8 h.items seen) is.end;
        attributes = attributes_proper (bytes_of 9 h.items) s.means.attributes s.notes.keys (all_bytes 9 h.items seen) is.attributes;
        dropped_attributes = count_proper (varints_of 10 h.items) s.means.dropped_attributes is.dropped_attributes;
        events = subst (λ (l : List Event). All IsProperEvent l) (sym is.its_events.kept)
            (each_in_range (MeansMessage IsEvent) (λ e. e.means) AreBytes IsProperEvent (λ e held b one. event_proper attributes_proper e held b one) (bytes_of 11 h.items) is.events (all_bytes 11 h.items seen) is.each_event);
        dropped_events = count_proper (varints_of 12 h.items) s.means.dropped_events is.dropped_events;
        links = subst (λ (l : List Link). All IsProperLink l) (sym is.its_links.kept) (links_proper attributes_proper (bytes_of 13 h.items) is.links (all_bytes 13 h.items seen) is.each_link);
        dropped_links = count_proper (varints_of 14 h.items) s.means.dropped_links is.dropped_links;
        status = singular_in_range (MeansMessage IsStatus) no_status AreBytes IsProperStatus (record { message = IsUtf8-nil }) (λ held status b one. status_proper status held b one)
            (bytes_of 15 h.items) s.means.status (all_bytes 15 h.items seen) is.status;
        flags = number_proper (2 ^ 32) (omega arith) (fixed32s_of 16 h.items) s.means.flags (all_flags 16 h.items seen) is.flags;
      }
