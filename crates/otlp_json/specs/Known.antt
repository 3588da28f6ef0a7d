-- The members that OTLP/JSON knows, as its tables name them. Values nest, so their members are told by the levels that are left, as their
-- meanings are: no value below the last level is looked into.
use Rattle.std.specs.Prelude.{ℕ, zero, suc, List, [], ◌∷◌, codes}
use Rattle.trace_model.specs.OtlpParts.{levels_below}
use Rattle.json_members.specs.Agreement.{Agreement, same, KnownMember, objects_agree, arrays_agree}

-- ---- values

-- of a list and of a map, by how what they hold agrees
abbrev pub many_known : Agreement → List KnownMember
many_known Held = (codes "values", arrays_agree Held) ∷ []

-- of a value, by how values in a list and `KeyValue`s in a map agree
abbrev pub value_known : Agreement → Agreement → List KnownMember
value_known Inner Pair = (codes "stringValue", same) ∷ (codes "boolValue", same) ∷ (codes "intValue", same) ∷ (codes "doubleValue", same)
    ∷ (codes "arrayValue", objects_agree (many_known Inner)) ∷ (codes "kvlistValue", objects_agree (many_known Pair))
    ∷ (codes "bytesValue", same) ∷ []

-- of a `KeyValue`, by how its value agrees
abbrev pub key_value_known : Agreement → List KnownMember
key_value_known Inner = (codes "key", same) ∷ (codes "value", Inner) ∷ []

unfoldable mutual
  -- values in a list or map below which so many levels are left
  pub inner_values_agree : ℕ → Agreement
  inner_values_agree zero v w = Unit {0}
  inner_values_agree (suc left) v w = objects_agree (value_known (inner_values_agree left) (inner_pairs_agree left)) v w

  -- `KeyValue`s in such a map
  pub inner_pairs_agree : ℕ → Agreement
  inner_pairs_agree zero v w = Unit {0}
  inner_pairs_agree (suc left) v w =
      objects_agree (key_value_known (λ a b. objects_agree (value_known (inner_values_agree left) (inner_pairs_agree left)) a b)) v w

-- values below which so many levels are left
abbrev pub values_agree : ℕ → Agreement
values_agree left v w = objects_agree (value_known (inner_values_agree left) (inner_pairs_agree left)) v w

-- arrays of `KeyValue`s that agree one by one, each value at level 1 of 24
abbrev pub attributes_agree : Agreement
attributes_agree v w = arrays_agree (objects_agree (key_value_known (values_agree levels_below))) v w

-- ---- the parts of a group

-- the members of `Status`
abbrev pub status_known : List KnownMember
status_known = (codes "message", same) ∷ (codes "code", same) ∷ []

-- the members of `Span.Event`
abbrev pub event_known : List KnownMember
event_known = (codes "timeUnixNano", same) ∷ (codes "name", same) ∷ (codes "attributes", attributes_agree)
    ∷ (codes "droppedAttributesCount", same) ∷ []

-- the members of `Span.Link`
abbrev pub link_known : List KnownMember
link_known = (codes "traceId", same) ∷ (codes "spanId", same) ∷ (codes "traceState", same) ∷ (codes "attributes", attributes_agree)
    ∷ (codes "droppedAttributesCount", same) ∷ (codes "flags", same) ∷ []

-- the members of `Span`, with those of its events, its links and its status
abbrev pub otlp_span_known : List KnownMember
otlp_span_known = (codes "traceId", same) ∷ (codes "spanId", same) ∷ (codes "traceState", same) ∷ (codes "parentSpanId", same)
    ∷ (codes "name", same) ∷ (codes "kind", same) ∷ (codes "startTimeUnixNano", same) ∷ (codes "endTimeUnixNano", same)
    ∷ (codes "attributes", attributes_agree) ∷ (codes "droppedAttributesCount", same)
    ∷ (codes "events", arrays_agree (objects_agree event_known)) ∷ (codes "droppedEventsCount", same)
    ∷ (codes "links", arrays_agree (objects_agree link_known)) ∷ (codes "droppedLinksCount", same)
    ∷ (codes "status", objects_agree status_known) ∷ (codes "flags", same) ∷ []

-- the members of `InstrumentationScope`
abbrev pub instrumentation_scope_known : List KnownMember
instrumentation_scope_known = (codes "name", same) ∷ (codes "version", same) ∷ (codes "attributes", attributes_agree)
    ∷ (codes "droppedAttributesCount", same) ∷ []

-- the members of `ScopeSpans`, with those of its `InstrumentationScope` and its spans
abbrev pub scope_known : List KnownMember
scope_known = (codes "scope", objects_agree instrumentation_scope_known) ∷ (codes "spans", arrays_agree (objects_agree otlp_span_known))
    ∷ (codes "schemaUrl", same) ∷ []

-- the members of `Resource`
abbrev pub resource_known : List KnownMember
resource_known = (codes "attributes", attributes_agree) ∷ (codes "droppedAttributesCount", same) ∷ []

-- the members of `ResourceSpans`, with those of its `Resource` and its `ScopeSpans`
abbrev pub group_known : List KnownMember
group_known = (codes "resource", objects_agree resource_known) ∷ (codes "scopeSpans", arrays_agree (objects_agree scope_known))
    ∷ (codes "schemaUrl", same) ∷ []

-- the whole text
abbrev pub groups_agree : Agreement
groups_agree v w = objects_agree ((codes "resourceSpans", arrays_agree (objects_agree group_known)) ∷ []) v w
