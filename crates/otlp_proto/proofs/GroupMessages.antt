-- `Resource` and `ResourceSpans`, told by the values of their rows, with what is proved of them.
use Rattle.std.proofs.Common.{◌≡◌, ℕ, ◌<◌, ◌^◌, List, [], map, get_or, refl, sym, ap, subst, ◌∙◌, arith}
use Rattle.std.specs.List.{AllByRecursion}
use Rattle.std.proofs.lemmas.List.Elements.{All-nil}
use Rattle.span_io.specs.Tables.{no_ends}
use Rattle.trace_model.specs.Proper.{IsProperPair, AreProper, IsProperScope, IsProperGroup}
use Rattle.trace_model.specs.Soundness.{IsSoundGroup}
use Rattle.trace_model.specs.declared.remark.Remark.{Remark}
use Rattle.trace_model.specs.declared.group.Group.{Group}
use Rattle.trace_model.specs.declared.group.Scope.{Scope}
use Rattle.trace_model.specs.declared.value.Value.{Value}
use Rattle.otlp_proto.specs.StatedLaws.{ReadingLaws}
use Rattle.otlp_proto.specs.Attributes.{AttributesOf}
use Rattle.otlp_proto.specs.Group.{IsResource, resource_table, resource_padded, IsGroup, IsGroupText, group_table, group_padded}
use Rattle.trace_model.specs.Remarks.{Keys}
use Rattle.trace_model.specs.GroupRemarks.{group_remarks, scopes_remarks}
use Rattle.trace_model.specs.declared.noted.Noted.{Noted}
use Rattle.trace_model.specs.Notes.{ScopeNotes}
use Rattle.trace_model.specs.declared.noted.Resource.{Resource}
use Rattle.trace_model.specs.OtlpParts.{no_resource, NotedGroup}
use Rattle.otlp_proto.specs.Rows.{bytes_of, varints_of, MeansMessage}
use Rattle.otlp_proto.specs.Scope.{IsScope}
use Rattle.otlp_proto.specs.Canonical.{attributes_text, key_value_text, scope_text, resource_text, group_text}
use Rattle.otlp_proto.proofs.Bridges.{Bridge, read_back}
use Rattle.otlp_proto.proofs.CanonicalLaws.{Laws}
use Rattle.otlp_proto.proofs.FieldLemmas.{Fits}
use Rattle.otlp_proto.proofs.Fronts.{front_none, rest_none, no_count, no_list}
use Rattle.otlp_proto.proofs.MessageProofs.{MessageProof, message_proof, messages_proof, never_ends, proved}
use Rattle.otlp_proto.proofs.ProperLemmas.{singular_in_range, text_proper, count_proper}
use Rattle.trace_model.proofs.PartLaws.{each_in_range}
use Rattle.trace_model.proofs.RemarkLaws.{quiet, quiet_scope, quiet_scopes, mapped, all_back}
use Rattle.otlp_proto.proofs.Ranges.{AreBytes, AllInRange, wire_in_range, all_bytes}
use Rattle.otlp_proto.proofs.RowProofs.{TableProof, text_proof, count_proof, attributes_proof}
use Rattle.otlp_proto.proofs.ScopeMessages.{scope_proof, scope_again, scope_proper}
use Rattle.otlp_proto.proofs.WrittenAttributes.{attributes_written}
use Rattle.otlp_proto.proofs.WrittenFields.{text_written, count_written, message_written, messages_written}
use Rattle.otlp_proto.proofs.WrittenRows.{AllWritten, values_of, ◌and◌}

-- ---- `Resource`

unfoldable pub resource_bridge : Bridge (Noted Resource Keys) resource_table no_ends IsResource
resource_bridge = record {
  of = λ v. record { means = record { attributes = v.0.means; dropped = v.1.0 }; notes = v.0.notes };
  values = λ r records is. (record { means = r.means.attributes; notes = r.notes }, (r.means.dropped, tt));
  mean = λ r records is. (is.attributes, (is.dropped, tt));
  again = λ r records is. refl;
  build = λ records v clean m. record { attributes = m.0; dropped = m.1.0 };
  ended = λ r records is n h. h;
  ends_same = λ records others same n h. h;
}

abbrev resource_rows : ReadingLaws → TableProof resource_table resource_padded 3
resource_rows K = (attributes_proof K 1, (count_proof K 3 2, tt))

pub resource_proof : ReadingLaws → MessageProof IsResource resource_table resource_padded no_ends 3
resource_proof K = proved K resource_table resource_padded no_ends IsResource 3 3 (omega arith) (omega arith) (resource_rows K) refl never_ends resource_bridge

-- what a group gives to it
abbrev resource_of : Group → Resource
resource_of g = record { attributes = g.resource; dropped = g.dropped }

resource_none : (g : Group) → resource_text g ≡ [] → quiet (resource_of g) ≡ no_resource
unfolding resource_text
resource_none g e =
    let kept : g.resource ≡ [] = no_list 1 key_value_text g.resource (front_none (attributes_text 1 g.resource) _ e) in
    let dropped : g.dropped ≡ 0 = no_count 2 g.dropped (rest_none (attributes_text 1 g.resource) _ e) in
    λ i. quiet (record { attributes = kept i; dropped = dropped i })

resource_again : Laws → (g : Group) → IsSoundGroup g → IsProperGroup g → Fits (resource_text g) → MeansMessage IsResource (resource_text g) (quiet (resource_of g))
unfolding resource_text resource_bridge
resource_again L g sound proper fits =
    let rows : AllWritten resource_table =
    attributes_written L 1 refl g.resource sound.resource proper.resource and
    count_written L.spelled 2 refl g.dropped proper.dropped and
    tt in
    read_back resource_table no_ends IsResource resource_bridge rows refl (λ records mean n h. h) fits

-- ---- `ResourceSpans`

unfoldable pub group_bridge : Bridge NotedGroup group_table no_ends IsGroup
group_bridge = record {
  of = λ v. record {
    means = record { resource = v.0.means.attributes; dropped = v.0.means.dropped; schema_url = v.1.1.0; scopes = map (λ x. x.means) v.1.0 };
    notes = group_remarks v.0.notes (map (λ x. x.notes) v.1.0);
  };
  values = λ g records is. (is.resource, (is.scopes, (is.url, tt)));
  mean = λ g records is. (is.its_resource, (is.each_scope, (is.its_url, tt)));
  again = λ g records is i. record { means = is.group.group i; notes = is.group.remarks i };
  build = λ records v clean m. record { resource = v.0; its_resource = m.0; scopes = v.1.0; each_scope = m.1.0; url = v.1.1.0; its_url = m.1.1.0; group = record { group = refl; remarks = refl } };
  ended = λ g records is n h. h;
  ends_same = λ records others same n h. h;
}

abbrev group_rows : ReadingLaws → TableProof group_table group_padded 12
group_rows K = (message_proof 3 12 (omega arith) (resource_proof K) 1 no_resource, (messages_proof 12 12 (omega arith) (scope_proof K) 2, (text_proof K 12 3, tt)))

pub group_proof : ReadingLaws → MessageProof IsGroup group_table group_padded no_ends 12
group_proof K = proved K group_table group_padded no_ends IsGroup 12 12 (omega arith) (omega arith) (group_rows K) refl never_ends group_bridge

abbrev group_written : Laws → (g : Group) → IsSoundGroup g → IsProperGroup g → AllWritten group_table
group_written L g sound proper =
    message_written L.spelled 1 refl _ (MeansMessage IsResource) no_resource _ (quiet (resource_of g)) (resource_text g) (resource_none g) (resource_again L g sound proper) and
    messages_written L.spelled 2 refl _ (MeansMessage IsScope) _ scope_text quiet_scope g.scopes (λ k d lt. scope_again L (get_or g.scopes k d) (sound.scopes k d lt) (proper.scopes k d lt)) and
    text_written L.spelled 3 refl g.schema_url proper.schema_url and
    tt

same_group : (L : Laws) (g : Group) (sound : IsSoundGroup g) (proper : IsProperGroup g) → group_bridge.of (values_of group_table (group_written L g sound proper)) ≡ record { means = g; notes = [] }
unfolding group_bridge
same_group L g sound proper = λ i. record {
  means = record g { scopes = all_back (λ (x : Noted Scope ScopeNotes). x.means) quiet_scope (λ x. refl) g.scopes i };
  notes = (ap (scopes_remarks 1 1) (mapped (λ (x : Noted Scope ScopeNotes). x.notes) quiet_scope g.scopes) ∙ quiet_scopes 1 1 g.scopes) i;
}

pub group_again : (L : Laws) (g : Group) → IsSoundGroup g → IsProperGroup g → Fits (group_text g) → IsGroupText g [] (group_text g)
unfolding group_text
group_again L g sound proper fits =
    subst (λ (x : NotedGroup). MeansMessage IsGroup (group_text g) x) (same_group L g sound proper)
    (read_back group_table no_ends IsGroup group_bridge (group_written L g sound proper) refl (λ records mean n h. h) fits)

-- ---- what is read is proper

module _ (attributes_proper : (texts : List (List ℕ)) (attributes : List (List ℕ × Value)) (keys : Keys) → AllByRecursion AreBytes texts → AttributesOf texts attributes keys → AreProper attributes) where
  -- the parts of a group that its resource gives
  record ProperResource (r : Noted Resource Keys) : Type 0 where
    attributes : AreProper r.means.attributes
    dropped : r.means.dropped < 2 ^ 32

  resource_proper : (r : Noted Resource Keys) (text : List ℕ) → AreBytes text → MeansMessage IsResource text r → ProperResource r
  resource_proper r text all is = record {
    attributes = attributes_proper (bytes_of 1 is.items) r.means.attributes r.notes (all_bytes 1 is.items (wire_in_range is.items text all is.are)) is.is.attributes;
    dropped = count_proper (varints_of 2 is.items) r.means.dropped is.is.dropped;
  }

  pub group_proper : (g : Group) (remarks : List Remark) (text : List ℕ) → AreBytes text → IsGroupText g remarks text → IsProperGroup g
  group_proper g remarks text all h =
      let seen : AllInRange h.items = wire_in_range h.items text all h.are in
      let is = h.is in
      let resource : ProperResource is.resource = singular_in_range (MeansMessage IsResource) no_resource AreBytes ProperResource
      (record { attributes = All-nil IsProperPair; dropped = omega arith }) (λ held r b one. resource_proper r held b one)
      (bytes_of 1 h.items) is.resource (all_bytes 1 h.items seen) is.its_resource in
      subst (λ (x : Group). IsProperGroup x) (sym is.group.group) (record {
        resource = resource.attributes;
        dropped = resource.dropped;
        schema_url = text_proper (bytes_of 3 h.items) is.url (all_bytes 3 h.items seen) is.its_url;
        scopes = each_in_range (MeansMessage IsScope) (λ s. s.means) AreBytes IsProperScope (λ s held b one. scope_proper attributes_proper s held b one) (bytes_of 2 h.items) is.scopes (all_bytes 2 h.items seen) is.each_scope;
      })
