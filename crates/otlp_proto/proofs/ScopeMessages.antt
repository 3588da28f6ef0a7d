-- `InstrumentationScope` and `ScopeSpans`, told by the values of their rows, with what is proved of them.
use Rattle.std.proofs.Common.{◌≡◌, ℕ, ◌<◌, ◌^◌, List, [], map, get_or, refl, sym, subst, arith}
use Rattle.std.specs.Prelude.{IsUtf8}
use Rattle.std.specs.List.{AllByRecursion}
use Rattle.std.proofs.lemmas.List.Elements.{All-nil}
use Rattle.std.proofs.lemmas.Str.{IsUtf8-nil}
use Rattle.span_io.specs.Tables.{Values, no_ends}
use Rattle.trace_model.specs.Proper.{IsProperPair, AreProper, IsProperSpan, IsProperScope}
use Rattle.trace_model.specs.Soundness.{IsSoundScope}
use Rattle.trace_model.specs.declared.span.Span.{Span}
use Rattle.trace_model.specs.declared.group.Scope.{Scope}
use Rattle.trace_model.specs.declared.value.Value.{Value}
use Rattle.otlp_proto.specs.StatedLaws.{ReadingLaws}
use Rattle.otlp_proto.specs.Attributes.{AttributesOf}
use Rattle.trace_model.specs.Remarks.{Keys}
use Rattle.otlp_proto.specs.Rows.{bytes_of, varints_of, MeansMessage}
use Rattle.otlp_proto.specs.Scope.{IsInstrumentationScope, instrumentation_scope_table, instrumentation_scope_padded, IsScope, scope_table, scope_padded}
use Rattle.trace_model.specs.declared.noted.Noted.{Noted}
use Rattle.trace_model.specs.Notes.{SpanNotes, ScopeNotes}
use Rattle.trace_model.specs.declared.noted.InstrumentationScope.{InstrumentationScope}
use Rattle.trace_model.specs.OtlpParts.{no_instrumentation_scope}
use Rattle.otlp_proto.specs.Span.{IsSpan}
use Rattle.otlp_proto.specs.Canonical.{filled_field, attributes_text, key_value_text, span_text, instrumentation_scope_text, scope_text}
use Rattle.otlp_proto.proofs.Bridges.{Bridge, read_back}
use Rattle.otlp_proto.proofs.CanonicalLaws.{Laws}
use Rattle.otlp_proto.proofs.FieldLemmas.{Fits}
use Rattle.otlp_proto.proofs.Fronts.{front_none, rest_none, no_filled, no_count, no_list}
use Rattle.otlp_proto.proofs.MessageProofs.{MessageProof, message_proof, messages_proof, never_ends, proved}
use Rattle.otlp_proto.proofs.ProperLemmas.{singular_in_range, text_proper, count_proper}
use Rattle.trace_model.proofs.PartLaws.{each_in_range}
use Rattle.trace_model.proofs.RemarkLaws.{quiet, quiet_span, quiet_scope, mapped, all_back}
use Rattle.otlp_proto.proofs.Ranges.{AreBytes, AllInRange, wire_in_range, all_bytes}
use Rattle.otlp_proto.proofs.RowProofs.{TableProof, text_proof, count_proof, attributes_proof}
use Rattle.otlp_proto.proofs.SpanMessage.{span_proof, span_again, span_proper}
use Rattle.otlp_proto.proofs.WrittenAttributes.{attributes_written}
use Rattle.otlp_proto.proofs.WrittenFields.{text_written, count_written, message_written, messages_written}
use Rattle.otlp_proto.proofs.WrittenRows.{AllWritten, values_of, ◌and◌}

-- ---- `InstrumentationScope`

unfoldable pub instrumentation_scope_bridge : Bridge (Noted InstrumentationScope Keys) instrumentation_scope_table no_ends IsInstrumentationScope
instrumentation_scope_bridge = record {
  of = λ v. record { means = record { name = v.0; version = v.1.0; attributes = v.1.1.0.means; dropped = v.1.1.1.0 }; notes = v.1.1.0.notes };
  values = λ s records is. (s.means.name, (s.means.version, (record { means = s.means.attributes; notes = s.notes }, (s.means.dropped, tt))));
  mean = λ s records is. (is.name, (is.version, (is.attributes, (is.dropped, tt))));
  again = λ s records is. refl;
  build = λ records v clean m. record { name = m.0; version = m.1.0; attributes = m.1.1.0; dropped = m.1.1.1.0 };
  ended = λ s records is n h. h;
  ends_same = λ records others same n h. h;
}

abbrev instrumentation_scope_rows : ReadingLaws → TableProof instrumentation_scope_table instrumentation_scope_padded 3
instrumentation_scope_rows K = (text_proof K 3 1, (text_proof K 3 2, (attributes_proof K 3, (count_proof K 3 4, tt))))

pub instrumentation_scope_proof : ReadingLaws → MessageProof IsInstrumentationScope instrumentation_scope_table instrumentation_scope_padded no_ends 3
instrumentation_scope_proof K = proved K instrumentation_scope_table instrumentation_scope_padded no_ends IsInstrumentationScope 3 3 (omega arith) (omega arith) (instrumentation_scope_rows K) refl never_ends instrumentation_scope_bridge

-- what a scope gives to it
abbrev origin_of : Scope → InstrumentationScope
origin_of s = record { name = s.name; version = s.version; attributes = s.attributes; dropped = s.dropped }

scope_none : (s : Scope) → instrumentation_scope_text s ≡ [] → quiet (origin_of s) ≡ no_instrumentation_scope
unfolding instrumentation_scope_text
scope_none s e =
    let name : s.name ≡ [] = no_filled 1 s.name (front_none (filled_field 1 s.name) _ e) in
    let behind_name = rest_none (filled_field 1 s.name) _ e in
    let version : s.version ≡ [] = no_filled 2 s.version (front_none (filled_field 2 s.version) _ behind_name) in
    let behind_version = rest_none (filled_field 2 s.version) _ behind_name in
    let kept : s.attributes ≡ [] = no_list 3 key_value_text s.attributes (front_none (attributes_text 3 s.attributes) _ behind_version) in
    let dropped : s.dropped ≡ 0 = no_count 4 s.dropped (rest_none (attributes_text 3 s.attributes) _ behind_version) in
    λ i. quiet (record { name = name i; version = version i; attributes = kept i; dropped = dropped i })

instrumentation_scope_again : Laws → (s : Scope) → IsSoundScope s → IsProperScope s → Fits (instrumentation_scope_text s) → MeansMessage IsInstrumentationScope (instrumentation_scope_text s) (quiet (origin_of s))
unfolding instrumentation_scope_text instrumentation_scope_bridge
instrumentation_scope_again L s sound proper fits =
    let rows : AllWritten instrumentation_scope_table =
    text_written L.spelled 1 refl s.name proper.name and
    text_written L.spelled 2 refl s.version proper.version and
    attributes_written L 3 refl s.attributes sound.attributes proper.attributes and
    count_written L.spelled 4 refl s.dropped proper.dropped and
    tt in
    read_back instrumentation_scope_table no_ends IsInstrumentationScope instrumentation_scope_bridge rows refl (λ records mean n h. h) fits

-- ---- `ScopeSpans`

abbrev scope_of : Values scope_table → Noted Scope ScopeNotes
scope_of v = record {
  means = record { name = v.0.means.name; version = v.0.means.version; attributes = v.0.means.attributes; dropped = v.0.means.dropped; schema_url = v.1.1.0; spans = map (λ x. x.means) v.1.0 };
  notes = record { keys = v.0.notes; spans = map (λ x. x.notes) v.1.0 };
}

unfoldable pub scope_bridge : Bridge (Noted Scope ScopeNotes) scope_table no_ends IsScope
scope_bridge = record {
  of = scope_of;
  values = λ s records is. (is.instrumentation, (is.spans, (is.url, tt)));
  mean = λ s records is. (is.its_instrumentation, (is.each_span, (is.its_url, tt)));
  again = λ s records is i. record { means = is.scope.scope i; notes = is.scope.noted i };
  build = λ records v clean m. record { instrumentation = v.0; its_instrumentation = m.0; spans = v.1.0; each_span = m.1.0; url = v.1.1.0; its_url = m.1.1.0; scope = record { scope = refl; noted = refl } };
  ended = λ s records is n h. h;
  ends_same = λ records others same n h. h;
}

abbrev scope_rows : ReadingLaws → TableProof scope_table scope_padded 12
scope_rows K = (message_proof 3 12 (omega arith) (instrumentation_scope_proof K) 1 no_instrumentation_scope, (messages_proof 12 12 (omega arith) (span_proof K) 2, (text_proof K 12 3, tt)))

pub scope_proof : ReadingLaws → MessageProof IsScope scope_table scope_padded no_ends 12
scope_proof K = proved K scope_table scope_padded no_ends IsScope 12 12 (omega arith) (omega arith) (scope_rows K) refl never_ends scope_bridge

abbrev scope_written : Laws → (s : Scope) → IsSoundScope s → IsProperScope s → AllWritten scope_table
scope_written L s sound proper =
    message_written L.spelled 1 refl _ (MeansMessage IsInstrumentationScope) no_instrumentation_scope _ (quiet (origin_of s)) (instrumentation_scope_text s) (scope_none s) (instrumentation_scope_again L s sound proper) and
    messages_written L.spelled 2 refl _ (MeansMessage IsSpan) _ span_text quiet_span s.spans (λ k d lt. span_again L (get_or s.spans k d) (sound.spans k d lt) (proper.spans k d lt)) and
    text_written L.spelled 3 refl s.schema_url proper.schema_url and
    tt

same_scope : (L : Laws) (s : Scope) (sound : IsSoundScope s) (proper : IsProperScope s) → scope_bridge.of (values_of scope_table (scope_written L s sound proper)) ≡ quiet_scope s
unfolding scope_bridge
same_scope L s sound proper = λ i. record {
  means = record s { spans = all_back (λ (x : Noted Span SpanNotes). x.means) quiet_span (λ x. refl) s.spans i };
  notes = record { keys = []; spans = mapped (λ (x : Noted Span SpanNotes). x.notes) quiet_span s.spans i };
}

pub scope_again : (L : Laws) (s : Scope) → IsSoundScope s → IsProperScope s → Fits (scope_text s) → MeansMessage IsScope (scope_text s) (quiet_scope s)
unfolding scope_text
scope_again L s sound proper fits =
    subst (λ (x : Noted Scope ScopeNotes). MeansMessage IsScope (scope_text s) x) (same_scope L s sound proper)
    (read_back scope_table no_ends IsScope scope_bridge (scope_written L s sound proper) refl (λ records mean n h. h) fits)

-- ---- what is read is proper

module _ (attributes_proper : (texts : List (List ℕ)) (attributes : List (List ℕ × Value)) (keys : Keys) → AllByRecursion AreBytes texts → AttributesOf texts attributes keys → AreProper attributes) where
  -- the parts of a scope that its origin gives
  record ProperInstrumentationScope (o : Noted InstrumentationScope Keys) : Type 0 where
    name : IsUtf8 o.means.name
    version : IsUtf8 o.means.version
    attributes : AreProper o.means.attributes
    dropped : o.means.dropped < 2 ^ 32

  instrumentation_scope_proper : (o : Noted InstrumentationScope Keys) (text : List ℕ) → AreBytes text → MeansMessage IsInstrumentationScope text o → ProperInstrumentationScope o
  instrumentation_scope_proper o text all is =
      let seen : AllInRange is.items = wire_in_range is.items text all is.are in
      record {
        name = text_proper (bytes_of 1 is.items) o.means.name (all_bytes 1 is.items seen) is.is.name;
        version = text_proper (bytes_of 2 is.items) o.means.version (all_bytes 2 is.items seen) is.is.version;
        attributes = attributes_proper (bytes_of 3 is.items) o.means.attributes o.notes (all_bytes 3 is.items seen) is.is.attributes;
        dropped = count_proper (varints_of 4 is.items) o.means.dropped is.is.dropped;
      }

  pub scope_proper : (s : Noted Scope ScopeNotes) (text : List ℕ) → AreBytes text → MeansMessage IsScope text s → IsProperScope s.means
  scope_proper s text all h =
      let seen : AllInRange h.items = wire_in_range h.items text all h.are in
      let is = h.is in
      let origin : ProperInstrumentationScope is.instrumentation = singular_in_range (MeansMessage IsInstrumentationScope) no_instrumentation_scope AreBytes ProperInstrumentationScope
      (record { name = IsUtf8-nil; version = IsUtf8-nil; attributes = All-nil IsProperPair; dropped = omega arith }) (λ held o b one. instrumentation_scope_proper o held b one)
      (bytes_of 1 h.items) is.instrumentation (all_bytes 1 h.items seen) is.its_instrumentation in
      subst (λ (x : Scope). IsProperScope x) (sym is.scope.scope) (record {
        name = origin.name;
        version = origin.version;
        attributes = origin.attributes;
        dropped = origin.dropped;
        schema_url = text_proper (bytes_of 3 h.items) is.url (all_bytes 3 h.items seen) is.its_url;
        spans = each_in_range (MeansMessage IsSpan) (λ s. s.means) AreBytes IsProperSpan (λ s held b one. span_proper attributes_proper s held b one) (bytes_of 2 h.items) is.spans (all_bytes 2 h.items seen) is.each_span;
      })
