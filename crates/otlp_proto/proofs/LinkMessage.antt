-- `Span.Link`, told by the values of its rows, with what is proved of it.
use Rattle.std.proofs.Common.{◌≡◌, ℕ, ◌<◌, ◌^◌, List, [], ◌∷◌, map, All, Option, Some, None, refl, sym, subst, arith}
use Rattle.std.specs.Prelude.{IsUtf8}
use Rattle.std.specs.List.{AllZip, AllByRecursion}
use Rattle.std.proofs.lemmas.List.Elements.{All-nil, All-cons}
use Rattle.span_io.specs.Tables.{Values, no_ends}
use Rattle.span_ids.specs.Proper.{IsProperParent}
use Rattle.trace_model.specs.Proper.{AreProper, IsProperLink}
use Rattle.trace_model.specs.Soundness.{IsSoundLink}
use Rattle.trace_model.specs.declared.span.Link.{Link}
use Rattle.trace_model.specs.declared.value.Value.{Value}
use Rattle.otlp_proto.specs.StatedLaws.{ReadingLaws}
use Rattle.otlp_proto.specs.Attributes.{AttributesOf}
use Rattle.otlp_proto.specs.Link.{IsLink, link_table, link_padded}
use Rattle.trace_model.specs.Remarks.{Keys}
use Rattle.otlp_proto.specs.Rows.{bytes_of, varints_of, fixed32s_of, MeansMessage}
use Rattle.trace_model.specs.declared.noted.Noted.{Noted}
use Rattle.trace_model.specs.declared.noted.LinkParts.{LinkParts}
use Rattle.trace_model.specs.OtlpParts.{link_of, kept_links}
use Rattle.otlp_proto.specs.Canonical.{link_text}
use Rattle.otlp_proto.proofs.Bridges.{Bridge, read_back}
use Rattle.otlp_proto.proofs.CanonicalLaws.{Laws}
use Rattle.otlp_proto.proofs.FieldLemmas.{Fits}
use Rattle.otlp_proto.proofs.MessageProofs.{MessageProof, never_ends, proved}
use Rattle.otlp_proto.proofs.ProperLemmas.{text_proper, number_proper, count_proper, trace_proper, span_id_proper}
use Rattle.trace_model.proofs.PartLaws.{ProperTrace}
use Rattle.trace_model.proofs.RemarkLaws.{quiet_link}
use Rattle.otlp_proto.proofs.Ranges.{AreBytes, AllInRange, wire_in_range, all_bytes, all_flags}
use Rattle.otlp_proto.proofs.RowProofs.{TableProof, text_proof, flags_proof, count_proof, trace_id_proof, span_id_proof, attributes_proof}
use Rattle.otlp_proto.proofs.WrittenAttributes.{attributes_written}
use Rattle.otlp_proto.proofs.WrittenFields.{text_written, flags_written, count_written, trace_id_written, span_id_written}
use Rattle.otlp_proto.proofs.WrittenRows.{AllWritten, ◌and◌}

abbrev link_parts : Values link_table → LinkParts
link_parts v = record { state = v.1.1.0; attributes = v.1.1.1.0.means; keys = v.1.1.1.0.notes; dropped = v.1.1.1.1.0; flags = v.1.1.1.1.1.0 }

unfoldable pub link_bridge : Bridge (Option (Noted Link Keys)) link_table no_ends IsLink
link_bridge = record {
  of = λ v. link_of v.0 v.1.0 (link_parts v);
  values = λ l records is. (is.trace, (is.span, (is.parts.state, (record { means = is.parts.attributes; notes = is.parts.keys }, (is.parts.dropped, (is.parts.flags, tt))))));
  mean = λ l records is. (is.trace_id, (is.span_id, (is.state, (is.attributes, (is.dropped, (is.flags, tt))))));
  again = λ l records is. is.link;
  build = λ records v clean m. record {
    trace = v.0;
    trace_id = m.0;
    span = v.1.0;
    span_id = m.1.0;
    parts = link_parts v;
    state = m.1.1.0;
    attributes = m.1.1.1.0;
    dropped = m.1.1.1.1.0;
    flags = m.1.1.1.1.1.0;
    link = refl;
  };
  ended = λ l records is n h. h;
  ends_same = λ records others same n h. h;
}

-- ---- what is proved of its rows, and so of it

abbrev link_rows : ReadingLaws → TableProof link_table link_padded 3
link_rows K = (trace_id_proof K 3 1, (span_id_proof K 3 2, (text_proof K 3 3, (attributes_proof K 4, (count_proof K 3 5, (flags_proof K 3 6, tt))))))

pub link_proof : ReadingLaws → MessageProof IsLink link_table link_padded no_ends 3
link_proof K = proved K link_table link_padded no_ends IsLink 3 3 (omega arith) (omega arith) (link_rows K) refl never_ends link_bridge

-- ---- as it is written

pub link_again : Laws → (l : Link) → IsSoundLink l → IsProperLink l → Fits (link_text l) → MeansMessage IsLink (link_text l) (quiet_link l)
unfolding link_text link_bridge
link_again L l sound proper fits =
    let rows : AllWritten link_table =
    trace_id_written L.spelled 1 refl L.ids l.trace proper.trace and
    span_id_written L.spelled 2 refl L.ids (Some l.span) proper.span and
    text_written L.spelled 3 refl l.state proper.state and
    attributes_written L 4 refl l.attributes sound proper.attributes and
    count_written L.spelled 5 refl l.dropped proper.dropped and
    flags_written L.spelled 6 refl l.flags proper.flags and
    tt in
    read_back link_table no_ends IsLink link_bridge rows refl (λ records mean n h. h) fits

-- ---- what is read is proper

-- a link that isn't dropped is made of its identifiers and parts
link_made : (trace span : Option ℕ) (parts : LinkParts) (link : Noted Link Keys) → Some link ≡ link_of trace span parts → ProperTrace trace → IsProperParent span → IsUtf8 parts.state → AreProper parts.attributes → parts.dropped < 2 ^ 32 → parts.flags < 2 ^ 32
    → IsProperLink link.means
link_made None span parts link e t s state attributes dropped flags = absurd (cc)
link_made (Some trace) None parts link e t s state attributes dropped flags = absurd (cc)
link_made (Some trace) (Some span) parts link e t s state attributes dropped flags =
    subst (λ (l : Noted Link Keys). IsProperLink l.means) (same_link _ _ (sym e)) (record { trace = t; span = s; state = state; attributes = attributes; dropped = dropped; flags = flags })
  where
    same_link : (one other : Noted Link Keys) → Some one ≡ Some other → one ≡ other
    same_link one other e = cc

module _ (attributes_proper : (texts : List (List ℕ)) (attributes : List (List ℕ × Value)) (keys : Keys) → AllByRecursion AreBytes texts → AttributesOf texts attributes keys → AreProper attributes) where
  link_proper : (link : Noted Link Keys) (text : List ℕ) → AreBytes text → MeansMessage IsLink text (Some link) → IsProperLink link.means
  link_proper link text all h =
      let seen : AllInRange h.items = wire_in_range h.items text all h.are in
      let is = h.is in
      link_made is.trace is.span is.parts link is.link
      (trace_proper (bytes_of 1 h.items) is.trace (all_bytes 1 h.items seen) is.trace_id)
      (span_id_proper (bytes_of 2 h.items) is.span (all_bytes 2 h.items seen) is.span_id)
      (text_proper (bytes_of 3 h.items) is.parts.state (all_bytes 3 h.items seen) is.state)
      (attributes_proper (bytes_of 4 h.items) is.parts.attributes is.parts.keys (all_bytes 4 h.items seen) is.attributes)
      (count_proper (varints_of 5 h.items) is.parts.dropped is.dropped)
      (number_proper (2 ^ 32) (omega arith) (fixed32s_of 6 h.items) is.parts.flags (all_flags 6 h.items seen) is.flags)

  pub links_proper : (texts : List (List ℕ)) (links : List (Option (Noted Link Keys))) → AllByRecursion AreBytes texts → AllZip (MeansMessage IsLink) texts links → All IsProperLink (map (λ l. l.means) (kept_links links))
  links_proper [] [] all each = All-nil IsProperLink
  links_proper [] (l ∷ links) all each = absurd each
  links_proper (text ∷ texts) [] all each = absurd each
  links_proper (text ∷ texts) (None ∷ links) all each = links_proper texts links all.1 each.1
  links_proper (text ∷ texts) (Some link ∷ links) all each =
      All-cons IsProperLink link.means (map (λ l. l.means) (kept_links links)) (link_proper link text all.0 each.0) (links_proper texts links all.1 each.1)
