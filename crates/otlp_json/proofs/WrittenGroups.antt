-- Groups as they are written are read as themselves, without remarks.
use Rattle.std.proofs.Common.{◌≡◌, List, [], map, All, get_or, false, codes, refl, sym, ap, ◌∙◌}
use Rattle.std.specs.List.{list_any}
use Rattle.std.proofs.lemmas.Bool.{or_parts}
use Rattle.serde_json.specs.Data.{object, no_members}
use Rattle.span_io.specs.Paths.{Given}
use Rattle.trace_model.specs.EventTexts.{holds_double}
use Rattle.trace_model.specs.GroupRemarks.{scopes_remarks}
use Rattle.trace_model.specs.declared.noted.Noted.{Noted}
use Rattle.trace_model.specs.Notes.{SpanNotes, ScopeNotes}
use Rattle.trace_model.specs.declared.noted.Resource.{Resource}
use Rattle.trace_model.specs.declared.noted.InstrumentationScope.{InstrumentationScope}
use Rattle.trace_model.specs.OtlpParts.{no_resource, no_instrumentation_scope}
use Rattle.trace_model.specs.Proper.{IsProperScope}
use Rattle.trace_model.specs.Soundness.{IsSoundScope}
use Rattle.trace_model.specs.declared.span.Span.{Span}
use Rattle.trace_model.specs.declared.group.Group.{Group}
use Rattle.trace_model.specs.declared.group.Scope.{Scope}
use Rattle.trace_model.proofs.RemarkLaws.{quiet, quiet_span, quiet_scope, quiet_scopes, mapped, all_back}
use Rattle.json_members.specs.Canonical.{members_given, unless_empty}
use Rattle.json_members.specs.Members.{unless_null, member}
use Rattle.json_members.proofs.MeaningLaws.{given_row}
use Rattle.otlp_json.specs.Canonical.{list_data, otlp_span_data, instrumentation_scope_rows, scope_rows, scope_data, resource_rows, group_rows, group_data, groups_data}
use Rattle.otlp_json.specs.Doubles.{double_in_span, double_in_scope}
use Rattle.otlp_json.specs.Group.{IsJsonInstrumentationScope, AreJsonSpans, IsJsonScope, IsJsonResource, AreJsonScopes, IsJsonGroup, IsRemarkedGroup, AreJsonGroups}
use Rattle.otlp_json.specs.Held.{IsHeldByJson}
use Rattle.otlp_json.specs.Span.{IsJsonSpan}
use Rattle.otlp_json.specs.Texts.{unremarked}
use Rattle.otlp_json.proofs.WrittenLaws.{Laws}
use Rattle.otlp_json.proofs.WrittenLists.{each_again, list_again, none_passes}
use Rattle.otlp_json.proofs.WrittenRows.{text_row, count_row, attributes_row, or_absent, rows_none, no_text, no_count, no_list}
use Rattle.otlp_json.proofs.WrittenSpans.{span_again}

-- ---- `InstrumentationScope` and `ScopeSpans`

-- what a scope gives to it
abbrev instrumentation_of : Scope → InstrumentationScope
instrumentation_of s = record { name = s.name; version = s.version; attributes = s.attributes; dropped = s.dropped }

instrumentation_default : (s : Scope) → members_given (instrumentation_scope_rows s) ≡ no_members → quiet (instrumentation_of s) ≡ no_instrumentation_scope
instrumentation_default s e =
    let none = rows_none (instrumentation_scope_rows s) e in
    let attributes = no_list _ s.attributes none.0 in
    let dropped = no_count s.dropped none.1.0 in
    let name = no_text s.name none.1.1.0 in
    let version = no_text s.version none.1.1.1.0 in
    λ i. quiet (record { name = name i; version = version i; attributes = attributes i; dropped = dropped i })

module _ (L : Laws) (s : Scope) (sound : IsSoundScope s) (proper : IsProperScope s) (none : double_in_scope s ≡ false) where
  none_inside : (holds_double s.attributes ≡ false) × (list_any double_in_span s.spans ≡ false)
  none_inside = or_parts (holds_double s.attributes) _ none

  instrumentation_means : IsJsonInstrumentationScope (quiet (instrumentation_of s)) (object (members_given (instrumentation_scope_rows s)))
  instrumentation_means = record {
    shape = refl;
    name = text_row (instrumentation_scope_rows s) (codes "name") s.name refl;
    version = text_row (instrumentation_scope_rows s) (codes "version") s.version refl;
    attributes = attributes_row (instrumentation_scope_rows s) (codes "attributes") L s.attributes sound.attributes proper.attributes none_inside.0 refl;
    dropped = count_row (instrumentation_scope_rows s) (codes "droppedAttributesCount") s.dropped proper.dropped refl;
  }

  instrumentation_again : Given IsJsonInstrumentationScope (λ i. i ≡ no_instrumentation_scope) (quiet (instrumentation_of s)) (unless_null (unless_empty (members_given (instrumentation_scope_rows s))))
  instrumentation_again = or_absent IsJsonInstrumentationScope (λ i. i ≡ no_instrumentation_scope) _ _ instrumentation_means (instrumentation_default s)

  spans_again : Given AreJsonSpans (λ xs. xs ≡ []) (map quiet_span s.spans) (unless_null (list_data otlp_span_data s.spans))
  spans_again = list_again IsJsonSpan otlp_span_data quiet_span s.spans
      (λ k x lt. span_again L (get_or s.spans k x) (sound.spans k x lt) (proper.spans k x lt) (none_passes double_in_span s.spans none_inside.1 k x lt))

  scope_again : IsJsonScope (quiet_scope s) (scope_data s)
  scope_again = record {
    shape = refl;
    instrumentation = quiet (instrumentation_of s);
    its_instrumentation = given_row IsJsonInstrumentationScope (λ i. i ≡ no_instrumentation_scope) (quiet (instrumentation_of s)) (codes "scope") (scope_rows s)
        (unless_empty (members_given (instrumentation_scope_rows s))) refl instrumentation_again;
    spans = map quiet_span s.spans;
    each_span = given_row AreJsonSpans (λ xs. xs ≡ []) (map quiet_span s.spans) (codes "spans") (scope_rows s) (list_data otlp_span_data s.spans) refl spans_again;
    url = s.schema_url;
    its_url = text_row (scope_rows s) (codes "schemaUrl") s.schema_url refl;
    scope = record {
      scope = λ i. record s { spans = sym (all_back (λ (x : Noted Span SpanNotes). x.means) quiet_span (λ x. refl) s.spans) i };
      noted = λ i. record { keys = []; spans = sym (mapped (λ (x : Noted Span SpanNotes). x.notes) quiet_span s.spans) i };
    };
  }

-- ---- `Resource` and `ResourceSpans`

abbrev resource_of : Group → Resource
resource_of g = record { attributes = g.resource; dropped = g.dropped }

resource_default : (g : Group) → members_given (resource_rows g) ≡ no_members → quiet (resource_of g) ≡ no_resource
resource_default g e =
    let none = rows_none (resource_rows g) e in
    let attributes = no_list _ g.resource none.0 in
    let dropped = no_count g.dropped none.1.0 in
    λ i. quiet (record { attributes = attributes i; dropped = dropped i })

module _ (L : Laws) (g : Group) (h : IsHeldByJson g) where
  group_none : (holds_double g.resource ≡ false) × (list_any double_in_scope g.scopes ≡ false)
  group_none = or_parts (holds_double g.resource) _ h.no_fault

  resource_means : IsJsonResource (quiet (resource_of g)) (object (members_given (resource_rows g)))
  resource_means = record {
    shape = refl;
    attributes = attributes_row (resource_rows g) (codes "attributes") L g.resource h.sound.resource h.proper.resource group_none.0 refl;
    dropped = count_row (resource_rows g) (codes "droppedAttributesCount") g.dropped h.proper.dropped refl;
  }

  resource_again : Given IsJsonResource (λ r. r ≡ no_resource) (quiet (resource_of g)) (unless_null (unless_empty (members_given (resource_rows g))))
  resource_again = or_absent IsJsonResource (λ r. r ≡ no_resource) _ _ resource_means (resource_default g)

  scopes_again : Given AreJsonScopes (λ xs. xs ≡ []) (map quiet_scope g.scopes) (unless_null (list_data scope_data g.scopes))
  scopes_again = list_again IsJsonScope scope_data quiet_scope g.scopes
      (λ k x lt. scope_again L (get_or g.scopes k x) (h.sound.scopes k x lt) (h.proper.scopes k x lt) (none_passes double_in_scope g.scopes group_none.1 k x lt))

  pub group_again : IsJsonGroup (record { means = g; notes = [] }) (group_data g)
  group_again = record {
    shape = refl;
    resource = quiet (resource_of g);
    its_resource = given_row IsJsonResource (λ r. r ≡ no_resource) (quiet (resource_of g)) (codes "resource") (group_rows g) (unless_empty (members_given (resource_rows g))) refl resource_again;
    scopes = map quiet_scope g.scopes;
    each_scope = given_row AreJsonScopes (λ xs. xs ≡ []) (map quiet_scope g.scopes) (codes "scopeSpans") (group_rows g) (list_data scope_data g.scopes) refl scopes_again;
    url = g.schema_url;
    its_url = text_row (group_rows g) (codes "schemaUrl") g.schema_url refl;
    group = record {
      group = λ i. record g { scopes = sym (all_back (λ (x : Noted Scope ScopeNotes). x.means) quiet_scope (λ x. refl) g.scopes) i };
      remarks = sym (ap (scopes_remarks 1 1) (mapped (λ (x : Noted Scope ScopeNotes). x.notes) quiet_scope g.scopes) ∙ quiet_scopes 1 1 g.scopes);
    };
  }

-- ---- the whole text

pub groups_again : Laws → (groups : List Group) → All IsHeldByJson groups → AreJsonGroups (unremarked groups) (groups_data groups)
unfolding member
groups_again L groups h = record {
  shape = refl;
  each = record {
    held = _;
    shape = refl;
    means = each_again IsRemarkedGroup group_data (λ g. (g, [])) groups (λ k g lt. group_again L (get_or groups k g) (h k g lt));
  };
}
