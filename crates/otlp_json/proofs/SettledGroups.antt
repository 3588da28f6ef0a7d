-- A JSON value means one list of groups, or one offence in it counts.
use Rattle.std.proofs.Common.{map, codes, refl}
use Rattle.serde_json.specs.Data.{Data}
use Rattle.span_io.proofs.PathDecisions.{IsSettled, decided_as, decided_optional}
use Rattle.trace_model.specs.StatedLaws.{AttributesOnce, AttributesExist}
use Rattle.trace_model.specs.GroupRemarks.{group_remarks}
use Rattle.trace_model.specs.OtlpParts.{no_resource, no_instrumentation_scope}
use Rattle.json_members.proofs.DecisionLaws.{◌&◌, next, last, object_settled, text_settled, array_settled}
use Rattle.json_members.specs.Members.{member}
use Rattle.otlp_json.specs.Group.{IsJsonInstrumentationScope, instrumentation_scope_members, instrumentation_scope_offends, IsJsonScope, scope_members, scope_offends, IsJsonResource, resource_members, resource_offends, IsJsonGroup, group_members, group_offends, IsRemarkedGroup, AreJsonGroups, json_groups_offend}
use Rattle.otlp_json.specs.Span.{IsJsonSpan, otlp_span_offends}
use Rattle.otlp_json.proofs.SettledMembers.{count_settled, noted_is}
use Rattle.otlp_json.proofs.SettledValues.{attributes_settled}
use Rattle.otlp_json.proofs.SettledSpans.{span_settled}

module _ (once : AttributesOnce) (exist : AttributesExist) where
  instrumentation_settled : (d : Data) → IsSettled (λ s. IsJsonInstrumentationScope s d) (instrumentation_scope_offends d)
  unfolding instrumentation_scope_members
  instrumentation_settled d =
      object_settled d
      (next (text_settled d (codes "name"))
      (next (text_settled d (codes "version"))
      (next (attributes_settled once exist d (codes "attributes"))
      (next (count_settled d (codes "droppedAttributesCount")) last)))).settled
      (λ s. IsJsonInstrumentationScope s d)
      (λ p. record { means = record { name = p.0; version = p.1.0; attributes = p.1.1.0.0; dropped = p.1.1.1.0 }; notes = p.1.1.0.1 })
      (λ p shape h. record { shape = shape; name = h.0; version = h.1.0; attributes = h.1.1.0; dropped = h.1.1.1.0 })
      (λ z h. (h.shape, (z.means.name & z.means.version & (z.means.attributes, z.notes) & z.means.dropped & tt, h.name & h.version & h.attributes & h.dropped & tt, refl)))

  scope_settled : (d : Data) → IsSettled (λ s. IsJsonScope s d) (scope_offends d)
  unfolding scope_members
  scope_settled d =
      object_settled d
      (next (decided_optional IsJsonInstrumentationScope instrumentation_scope_offends instrumentation_settled no_instrumentation_scope (member (codes "scope") d))
      (next (array_settled IsJsonSpan otlp_span_offends (span_settled once exist) (member (codes "spans") d))
      (next (text_settled d (codes "schemaUrl")) last))).settled
      (λ s. IsJsonScope s d)
      (λ p. record {
        means = record {
          name = p.0.means.name;
          version = p.0.means.version;
          attributes = p.0.means.attributes;
          dropped = p.0.means.dropped;
          schema_url = p.1.1.0;
          spans = map (λ x. x.means) p.1.0;
        };
        notes = record { keys = p.0.notes; spans = map (λ x. x.notes) p.1.0 };
      })
      (λ p shape h. record { shape = shape; instrumentation = p.0; its_instrumentation = h.0; spans = p.1.0; each_span = h.1.0; url = p.1.1.0; its_url = h.1.1.0; scope = record { scope = refl; noted = refl } })
      (λ z h. (h.shape, (h.instrumentation & h.spans & h.url & tt, h.its_instrumentation & h.each_span & h.its_url & tt, noted_is z _ _ h.scope.scope h.scope.noted)))

  resource_settled : (d : Data) → IsSettled (λ r. IsJsonResource r d) (resource_offends d)
  unfolding resource_members
  resource_settled d =
      object_settled d (next (attributes_settled once exist d (codes "attributes")) (next (count_settled d (codes "droppedAttributesCount")) last)).settled
      (λ r. IsJsonResource r d) (λ p. record { means = record { attributes = p.0.0; dropped = p.1.0 }; notes = p.0.1 })
      (λ p shape h. record { shape = shape; attributes = h.0; dropped = h.1.0 })
      (λ z h. (h.shape, ((z.means.attributes, z.notes) & z.means.dropped & tt, h.attributes & h.dropped & tt, refl)))

  group_settled : (d : Data) → IsSettled (λ g. IsJsonGroup g d) (group_offends d)
  unfolding group_members
  group_settled d =
      object_settled d
      (next (decided_optional IsJsonResource resource_offends resource_settled no_resource (member (codes "resource") d))
      (next (array_settled IsJsonScope scope_offends scope_settled (member (codes "scopeSpans") d))
      (next (text_settled d (codes "schemaUrl")) last))).settled
      (λ g. IsJsonGroup g d)
      (λ p. record {
        means = record { resource = p.0.means.attributes; dropped = p.0.means.dropped; schema_url = p.1.1.0; scopes = map (λ x. x.means) p.1.0 };
        notes = group_remarks p.0.notes (map (λ x. x.notes) p.1.0);
      })
      (λ p shape h. record { shape = shape; resource = p.0; its_resource = h.0; scopes = p.1.0; each_scope = h.1.0; url = p.1.1.0; its_url = h.1.1.0; group = record { group = refl; remarks = refl } })
      (λ z h. (h.shape, (h.resource & h.scopes & h.url & tt, h.its_resource & h.each_scope & h.its_url & tt, noted_is z _ _ h.group.group h.group.remarks)))

  remarked_settled : (d : Data) → IsSettled (λ g. IsRemarkedGroup g d) (group_offends d)
  remarked_settled d = decided_as (λ g. IsRemarkedGroup g d) (λ g. (g.means, g.notes)) (λ g h. h) (λ z h. (record { means = z.0; notes = z.1 }, h, refl)) (group_settled d)

  pub groups_settled : (d : Data) → IsSettled (λ groups. AreJsonGroups groups d) (json_groups_offend d)
  groups_settled d =
      object_settled d (array_settled IsRemarkedGroup group_offends remarked_settled (member (codes "resourceSpans") d)) (λ groups. AreJsonGroups groups d) (λ groups. groups)
      (λ groups shape h. record { shape = shape; each = h }) (λ z h. (h.shape, (z, h.each, refl)))
