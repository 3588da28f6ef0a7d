-- `Span.Event`, told by the values of its rows, with what is proved of it.
use Rattle.std.proofs.Common.{ℕ, ◌^◌, List, refl, arith}
use Rattle.std.specs.List.{AllByRecursion}
use Rattle.span_io.specs.Tables.{no_ends}
use Rattle.trace_model.specs.Proper.{AreProper, IsProperEvent}
use Rattle.trace_model.specs.Soundness.{IsSoundEvent}
use Rattle.trace_model.specs.declared.span.Event.{Event}
use Rattle.trace_model.specs.declared.value.Value.{Value}
use Rattle.otlp_proto.specs.StatedLaws.{ReadingLaws}
use Rattle.otlp_proto.specs.Attributes.{AttributesOf}
use Rattle.otlp_proto.specs.Event.{IsEvent, event_table, event_padded}
use Rattle.trace_model.specs.Remarks.{Keys}
use Rattle.trace_model.specs.declared.noted.Noted.{Noted}
use Rattle.otlp_proto.specs.Rows.{bytes_of, varints_of, fixed64s_of, MeansMessage}
use Rattle.otlp_proto.specs.Canonical.{otlp_event_text}
use Rattle.otlp_proto.proofs.Bridges.{Bridge, read_back}
use Rattle.otlp_proto.proofs.CanonicalLaws.{Laws}
use Rattle.otlp_proto.proofs.FieldLemmas.{Fits}
use Rattle.otlp_proto.proofs.MessageProofs.{MessageProof, never_ends, proved}
use Rattle.otlp_proto.proofs.ProperLemmas.{text_proper, number_proper, count_proper}
use Rattle.trace_model.proofs.RemarkLaws.{quiet}
use Rattle.otlp_proto.proofs.Ranges.{AreBytes, AllInRange, wire_in_range, all_bytes, all_times}
use Rattle.otlp_proto.proofs.RowProofs.{TableProof, text_proof, time_proof, count_proof, attributes_proof}
use Rattle.otlp_proto.proofs.WrittenAttributes.{attributes_written}
use Rattle.otlp_proto.proofs.WrittenFields.{text_written, time_written, count_written}
use Rattle.otlp_proto.proofs.WrittenRows.{AllWritten, ◌and◌}

unfoldable pub event_bridge : Bridge (Noted Event Keys) event_table no_ends IsEvent
event_bridge = record {
  of = λ v. record { means = record { time = v.0; name = v.1.0; attributes = v.1.1.0.means; dropped = v.1.1.1.0 }; notes = v.1.1.0.notes };
  values = λ e records is. (e.means.time, (e.means.name, (record { means = e.means.attributes; notes = e.notes }, (e.means.dropped, tt))));
  mean = λ e records is. (is.time, (is.name, (is.attributes, (is.dropped, tt))));
  again = λ e records is. refl;
  build = λ records v clean m. record { time = m.0; name = m.1.0; attributes = m.1.1.0; dropped = m.1.1.1.0 };
  ended = λ e records is n h. h;
  ends_same = λ records others same n h. h;
}

-- ---- what is proved of its rows, and so of it

abbrev event_rows : ReadingLaws → TableProof event_table event_padded 3
event_rows K = (time_proof K 3 1, (text_proof K 3 2, (attributes_proof K 3, (count_proof K 3 4, tt))))

pub event_proof : ReadingLaws → MessageProof IsEvent event_table event_padded no_ends 3
event_proof K = proved K event_table event_padded no_ends IsEvent 3 3 (omega arith) (omega arith) (event_rows K) refl never_ends event_bridge

-- ---- as it is written

pub event_again : Laws → (e : Event) → IsSoundEvent e → IsProperEvent e → Fits (otlp_event_text e) → MeansMessage IsEvent (otlp_event_text e) (quiet e)
unfolding otlp_event_text event_bridge
event_again L e sound proper fits =
    let rows : AllWritten event_table =
    time_written L.spelled 1 refl e.time proper.time and
    text_written L.spelled 2 refl e.name proper.name and
    attributes_written L 3 refl e.attributes sound proper.attributes and
    count_written L.spelled 4 refl e.dropped proper.dropped and
    tt in
    read_back event_table no_ends IsEvent event_bridge rows refl (λ records mean n h. h) fits

module _ (attributes_proper : (texts : List (List ℕ)) (attributes : List (List ℕ × Value)) (keys : Keys) → AllByRecursion AreBytes texts → AttributesOf texts attributes keys → AreProper attributes) where
  pub event_proper : (e : Noted Event Keys) (text : List ℕ) → AreBytes text → MeansMessage IsEvent text e → IsProperEvent e.means
  event_proper e text all is =
      let seen : AllInRange is.items = wire_in_range is.items text all is.are in
      record {
        time = number_proper (2 ^ 64) (omega arith) (fixed64s_of 1 is.items) e.means.time (all_times 1 is.items seen) is.is.time;
        name = text_proper (bytes_of 2 is.items) e.means.name (all_bytes 2 is.items seen) is.is.name;
        attributes = attributes_proper (bytes_of 3 is.items) e.means.attributes e.notes (all_bytes 3 is.items seen) is.is.attributes;
        dropped = count_proper (varints_of 4 is.items) e.means.dropped is.is.dropped;
      }
