-- `Status`, told by the values of its rows, with what is proved of it.
use Rattle.std.proofs.Common.{◌≡◌, ℕ, List, [], refl, arith}
use Rattle.span_io.specs.Tables.{no_ends}
use Rattle.proto_wire.specs.Records.{varint}
use Rattle.trace_model.specs.Proper.{IsProperStatus}
use Rattle.trace_model.specs.declared.span.Code.TheVariants as codes
use Rattle.trace_model.specs.declared.span.Code.{Code}
use Rattle.trace_model.specs.declared.span.Status.{Status}
use Rattle.otlp_proto.specs.StatedLaws.{ReadingLaws}
use Rattle.otlp_proto.specs.Rows.{bytes_of, MeansMessage}
use Rattle.otlp_proto.specs.Status.{IsStatus, status_table, status_padded}
use Rattle.otlp_proto.specs.Canonical.{filled_field, count_field, status_text}
use Rattle.trace_model.specs.OtlpParts.{no_status, code_number}
use Rattle.otlp_proto.proofs.Bridges.{Bridge, read_back}
use Rattle.otlp_proto.proofs.CanonicalLaws.{Laws}
use Rattle.trace_model.proofs.OtlpEnums.{code_laws, code_numbered}
use Rattle.otlp_proto.proofs.FieldLemmas.{Fits, record_of}
use Rattle.otlp_proto.proofs.Fronts.{front_none, rest_none, record_some, no_filled}
use Rattle.otlp_proto.proofs.MessageProofs.{MessageProof, never_ends, proved}
use Rattle.otlp_proto.proofs.ProperLemmas.{text_proper}
use Rattle.otlp_proto.proofs.Ranges.{AreBytes, wire_in_range, all_bytes}
use Rattle.otlp_proto.proofs.RowProofs.{TableProof, text_proof, enum_proof}
use Rattle.otlp_proto.proofs.WrittenFields.{text_written, enum_written}
use Rattle.otlp_proto.proofs.WrittenRows.{AllWritten, ◌and◌}

unfoldable pub status_bridge : Bridge Status status_table no_ends IsStatus
status_bridge = record {
  of = λ v. record { message = v.0; code = v.1.0 };
  values = λ s records is. (s.message, (s.code, tt));
  mean = λ s records is. (is.message, (is.code, tt));
  again = λ s records is. refl;
  build = λ records v clean m. record { message = m.0; code = m.1.0 };
  ended = λ s records is n h. h;
  ends_same = λ records others same n h. h;
}

-- ---- what is proved of its rows, and so of it

abbrev status_rows : ReadingLaws → TableProof status_table status_padded 3
status_rows K = (text_proof K 3 2, (enum_proof K 3 3 2 Code code_number codes.Unset code_laws code_numbered, tt))

pub status_proof : ReadingLaws → MessageProof IsStatus status_table status_padded no_ends 3
status_proof K = proved K status_table status_padded no_ends IsStatus 3 3 (omega arith) (omega arith) (status_rows K) refl never_ends status_bridge

-- ---- as it is written

no_code : (code : Code) → count_field 3 (code_number code) ≡ [] → code ≡ codes.Unset
no_code codes.Unset e = refl
no_code codes.Okay e = absurd (record_some (record_of varint 3 1) e)
no_code codes.Fail e = absurd (record_some (record_of varint 3 2) e)

pub status_none : (s : Status) → status_text s ≡ [] → s ≡ no_status
status_none s e =
    let code : s.code ≡ codes.Unset = no_code s.code (rest_none (filled_field 2 s.message) (count_field 3 (code_number s.code)) e) in
    let message : s.message ≡ [] = no_filled 2 s.message (front_none (filled_field 2 s.message) (count_field 3 (code_number s.code)) e) in
    λ i. record { code = code i; message = message i }

pub status_again : Laws → (s : Status) → IsProperStatus s → Fits (status_text s) → MeansMessage IsStatus (status_text s) s
unfolding status_bridge
status_again L s proper fits =
    let rows : AllWritten status_table =
    text_written L.spelled 2 refl s.message proper.message and
    enum_written L.spelled 3 refl 2 Code code_number codes.Unset s.code (omega arith) code_laws refl and
    tt in
    read_back status_table no_ends IsStatus status_bridge rows refl (λ records mean n h. h) fits

pub status_proper : (s : Status) (text : List ℕ) → AreBytes text → MeansMessage IsStatus text s → IsProperStatus s
status_proper s text all is = record { message = text_proper (bytes_of 2 is.items) s.message (all_bytes 2 is.items (wire_in_range is.items text all is.are)) is.is.message }
