-- `ScopeSpans` with its `InstrumentationScope`, `ResourceSpans` with its `Resource`, and the whole text, an object whose `resourceSpans`
-- are the groups, in OTLP/JSON. The path to a group begins with its number: the one member of the whole has none.
use Rattle.std.specs.Prelude.{◌≡◌, ℕ, List, [], ◌∷◌, true, codes, is_some}
use Rattle.serde_json.specs.Data.{Data}
use Rattle.serde_json.specs.Find.{as_object}
use Rattle.span_io.specs.Paths.{Offences, optional, valued, Given}
use Rattle.trace_model.specs.Remarks.{Keys}
use Rattle.trace_model.specs.declared.remark.Remark.{Remark}
use Rattle.trace_model.specs.declared.span.Span.{Span}
use Rattle.trace_model.specs.declared.group.Group.{Group}
use Rattle.trace_model.specs.declared.group.Scope.{Scope}
use Rattle.trace_model.specs.declared.noted.Noted.{Noted}
use Rattle.trace_model.specs.Notes.{SpanNotes, ScopeNotes}
use Rattle.trace_model.specs.declared.noted.Resource.{Resource}
use Rattle.trace_model.specs.declared.noted.InstrumentationScope.{InstrumentationScope}
use Rattle.trace_model.specs.OtlpParts.{no_resource, NotedGroup, IsGroupOfParts, no_instrumentation_scope, IsScopeOfParts}
use Rattle.json_members.specs.Members.{member, AreHeld, elements_offend, IsText, text_offends}
use Rattle.json_members.specs.Parts.{object_offends}
use Rattle.otlp_json.specs.Attributes.{AreJsonAttributes, pairs_offend}
use Rattle.otlp_json.specs.Numbers.{IsJsonCount, json_count_offends}
use Rattle.otlp_json.specs.Span.{IsJsonSpan, otlp_span_offends}

-- ---- `InstrumentationScope`

-- the object means this scope, and the keys that are noted in its attributes; a member that is absent means its default:
-- the empty text, no attributes, or 0
pub record IsJsonInstrumentationScope (s : Noted InstrumentationScope Keys) (d : Data) : Type 0 where
  pub shape : is_some (as_object d) ≡ true
  pub name : Given IsText (λ text. text ≡ []) s.means.name (member (codes "name") d)
  pub version : Given IsText (λ text. text ≡ []) s.means.version (member (codes "version") d)
  pub attributes : AreJsonAttributes s.means.attributes s.notes (member (codes "attributes") d)
  pub dropped : Given IsJsonCount (λ n. n ≡ 0) s.means.dropped (member (codes "droppedAttributesCount") d)

-- how its members offend, in the order of field numbers: `name` 1, `version` 2, `attributes` 3, `dropped_attributes_count` 4
unfoldable pub instrumentation_scope_members : Data → List Offences
instrumentation_scope_members d =
    optional text_offends (member (codes "name") d) ∷ optional text_offends (member (codes "version") d)
    ∷ optional pairs_offend (member (codes "attributes") d) ∷ optional json_count_offends
    (member (codes "droppedAttributesCount") d) ∷ []

-- BadShape: an `InstrumentationScope` that is no object; else what offends in its members
abbrev pub instrumentation_scope_offends : Data → Offences
instrumentation_scope_offends d = object_offends instrumentation_scope_members d

-- ---- `ScopeSpans`

-- the elements of an array mean these spans, one by one, with what is noted of each
abbrev pub AreJsonSpans : List (Noted Span SpanNotes) → Data → Type 0
AreJsonSpans spans d = AreHeld IsJsonSpan spans d

-- BadShape: `spans` that are no array; else what offends in one of them
abbrev pub otlp_spans_offend : Data → Offences
otlp_spans_offend d = elements_offend otlp_span_offends d

-- the object means this scope with its spans, and what is noted of them; a member that is absent means its default:
-- a scope without name, no spans, or the empty URL
pub record IsJsonScope (s : Noted Scope ScopeNotes) (d : Data) : Type 0 where
  pub shape : is_some (as_object d) ≡ true
  pub instrumentation : Noted InstrumentationScope Keys
  pub its_instrumentation : Given IsJsonInstrumentationScope (λ i. i ≡ no_instrumentation_scope) instrumentation (member (codes "scope") d)
  pub spans : List (Noted Span SpanNotes)
  pub each_span : Given AreJsonSpans (λ xs. xs ≡ []) spans (member (codes "spans") d)
  pub url : List ℕ
  pub its_url : Given IsText (λ text. text ≡ []) url (member (codes "schemaUrl") d)
  pub scope : IsScopeOfParts instrumentation spans url s

-- how its members offend, in the order of field numbers: `scope` 1, `spans` 2, `schema_url` 3
unfoldable pub scope_members : Data → List Offences
scope_members d =
    optional instrumentation_scope_offends (member (codes "scope") d) ∷ optional otlp_spans_offend (member (codes "spans") d)
    ∷ optional text_offends (member (codes "schemaUrl") d) ∷ []

-- BadShape: a `ScopeSpans` that is no object; else what offends in its members
abbrev pub scope_offends : Data → Offences
scope_offends d = object_offends scope_members d

-- ---- `Resource`

-- the object means this resource, and the keys that are noted in its attributes; what is absent means no attributes, or 0
pub record IsJsonResource (r : Noted Resource Keys) (d : Data) : Type 0 where
  pub shape : is_some (as_object d) ≡ true
  pub attributes : AreJsonAttributes r.means.attributes r.notes (member (codes "attributes") d)
  pub dropped : Given IsJsonCount (λ n. n ≡ 0) r.means.dropped (member (codes "droppedAttributesCount") d)

-- how its members offend, in the order of field numbers: `attributes` 1, `dropped_attributes_count` 2
unfoldable pub resource_members : Data → List Offences
resource_members d =
    optional pairs_offend (member (codes "attributes") d) ∷ optional json_count_offends
    (member (codes "droppedAttributesCount") d) ∷ []

-- BadShape: a `Resource` that is no object; else what offends in its members
abbrev pub resource_offends : Data → Offences
resource_offends d = object_offends resource_members d

-- ---- `ResourceSpans`

-- the elements of an array mean these scopes, one by one, with what is noted of each
abbrev pub AreJsonScopes : List (Noted Scope ScopeNotes) → Data → Type 0
AreJsonScopes scopes d = AreHeld IsJsonScope scopes d

-- BadShape: `scopeSpans` that are no array; else what offends in one of them
abbrev pub scopes_offend : Data → Offences
scopes_offend d = elements_offend scope_offends d

-- the members of this group, with the remarks on it
pub record IsJsonGroup (g : NotedGroup) (d : Data) : Type 0 where
  pub shape : is_some (as_object d) ≡ true
  pub resource : Noted Resource Keys
  pub its_resource : Given IsJsonResource (λ r. r ≡ no_resource) resource (member (codes "resource") d)
  pub scopes : List (Noted Scope ScopeNotes)
  pub each_scope : Given AreJsonScopes (λ xs. xs ≡ []) scopes (member (codes "scopeSpans") d)
  pub url : List ℕ
  pub its_url : Given IsText (λ text. text ≡ []) url (member (codes "schemaUrl") d)
  pub group : IsGroupOfParts resource scopes url g

-- how its members offend, in the order of field numbers: `resource` 1, `scope_spans` 2, `schema_url` 3
unfoldable pub group_members : Data → List Offences
group_members d = optional resource_offends (member (codes "resource") d) ∷ optional scopes_offend (member (codes "scopeSpans") d)
    ∷ optional text_offends (member (codes "schemaUrl") d) ∷ []

-- BadShape: a `ResourceSpans` that is no object; else what offends in its members
abbrev pub group_offends : Data → Offences
group_offends d = object_offends group_members d

-- ---- the whole text

-- a group beside the remarks on it
abbrev pub RemarkedGroup : Type 0
RemarkedGroup = Group × List Remark

-- the object, a `ResourceSpans`, means this group, with these remarks on it
abbrev pub IsRemarkedGroup : RemarkedGroup → Data → Type 0
IsRemarkedGroup g d = IsJsonGroup (record { means = g.0; notes = g.1 }) d

-- the elements of an array mean these groups, one by one, with the remarks on each
abbrev pub AreRemarkedGroups : List RemarkedGroup → Data → Type 0
AreRemarkedGroups groups d = AreHeld IsRemarkedGroup groups d

-- BadShape: `resourceSpans` that are no array; else what offends in one of them
abbrev pub groups_offend : Data → Offences
groups_offend d = elements_offend group_offends d

-- the whole value, an object (`TracesData`), means the groups of its `resourceSpans`; without that member there are none
pub record AreJsonGroups (groups : List RemarkedGroup) (d : Data) : Type 0 where
  pub shape : is_some (as_object d) ≡ true
  pub each : Given AreRemarkedGroups (λ xs. xs ≡ []) groups (member (codes "resourceSpans") d)

-- BadShape: a whole that is no object; else what offends in its `resourceSpans`, at a path that begins with the group's number
abbrev pub json_groups_offend : Data → Offences
json_groups_offend d = valued (λ members. optional groups_offend (member (codes "resourceSpans") d)) (as_object d)
