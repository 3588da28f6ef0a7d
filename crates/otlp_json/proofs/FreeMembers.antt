-- Unknown members change nothing: values whose known members agree stand for the same groups, and the same offends in them.
use Rattle.std.proofs.Common.{◌≡◌, [], ◌∷◌, None, codes, sym, ◌∙◌}
use Rattle.serde_json.specs.Find.{as_object}
use Rattle.span_io.specs.Paths.{optional, Never}
use Rattle.trace_model.specs.declared.span.Code.TheVariants as statuses
use Rattle.trace_model.specs.declared.span.Kind.TheVariants as kinds
use Rattle.trace_model.specs.OtlpParts.{no_status, no_instrumentation_scope, no_resource}
use Rattle.json_members.specs.Agreement.{objects_agree, arrays_agree}
use Rattle.json_members.proofs.AgreementLaws.{AgreesBothWays, same_turns, objects_turn, arrays_turn, MeanAlike, given_same, OffencesAlike, no_parts_alike, parts_alike, same_alike, object_offends_alike, by_parts_alike, object_alike, list_alike, object_offence_alike, list_offence_alike}
use Rattle.json_members.proofs.DecisionLaws.{◌&◌}
use Rattle.json_members.specs.Members.{IsText, text_offends, Spelled}
use Rattle.otlp_json.specs.Group.{IsJsonInstrumentationScope, instrumentation_scope_members, instrumentation_scope_offends, IsJsonScope, scope_members, scope_offends, IsJsonResource, resource_members, resource_offends, IsJsonGroup, group_members, group_offends, IsRemarkedGroup, AreJsonGroups, json_groups_offend}
use Rattle.otlp_json.specs.Identifiers.{SpellsJsonTrace, SpellsJsonSpan, SpellsTraceOrNone, SpellsSpanOrNone, json_trace_offends, json_span_offends, trace_or_none_offends, span_or_none_offends, identified}
use Rattle.otlp_json.specs.Known.{status_known, event_known, link_known, otlp_span_known, instrumentation_scope_known, scope_known, resource_known, group_known, groups_agree}
use Rattle.otlp_json.specs.StatedLaws.{FreeGroupMembers}
use Rattle.otlp_json.specs.Numbers.{IsJsonCount, json_count_offends, IsJsonTime, json_time_offends, enum_offends, IsJsonKind, IsJsonCode}
use Rattle.otlp_json.specs.Span.{IsJsonStatus, status_members, status_offends, IsJsonEvent, event_members, event_offends, IsJsonLink, link_members, link_offends, IsJsonSpan, json_span_members, otlp_span_offends}
use Rattle.otlp_json.proofs.FreeValues.{attributes_turn, attributes_alike, attributes_offend_alike}

-- ---- `Status`

status_turns : AgreesBothWays (objects_agree status_known)
status_turns = objects_turn status_known (same_turns & same_turns & tt)

status_alike : MeanAlike IsJsonStatus (objects_agree status_known)
status_alike v w h s is =
    let m = h.1 in
    record {
      shape = sym h.0 ∙ is.shape;
      message = given_same IsText (λ text. text ≡ []) _ _ m.0 s.message is.message;
      code = given_same IsJsonCode (λ code. code ≡ statuses.Unset) _ _ m.1.0 s.code is.code;
    }

status_offends_alike : OffencesAlike status_offends (objects_agree status_known)
unfolding status_members
status_offends_alike v w h =
    let m = h.1 in
    by_parts_alike status_members v w h.0
    (parts_alike (same_alike (optional text_offends) _ _ m.0)
    (parts_alike (same_alike (optional (enum_offends 2)) _ _ m.1.0) no_parts_alike))

-- ---- `Event`

event_turns : AgreesBothWays (objects_agree event_known)
event_turns = objects_turn event_known (same_turns & same_turns & attributes_turn & same_turns & tt)

event_alike : MeanAlike IsJsonEvent (objects_agree event_known)
event_alike v w h e is =
    let m = h.1 in
    record {
      shape = sym h.0 ∙ is.shape;
      time = given_same IsJsonTime (λ n. n ≡ 0) _ _ m.0 e.means.time is.time;
      name = given_same IsText (λ text. text ≡ []) _ _ m.1.0 e.means.name is.name;
      attributes = attributes_alike e.means.attributes e.notes _ _ m.1.1.0 is.attributes;
      dropped = given_same IsJsonCount (λ n. n ≡ 0) _ _ m.1.1.1.0 e.means.dropped is.dropped;
    }

event_offends_alike : OffencesAlike event_offends (objects_agree event_known)
unfolding event_members
event_offends_alike v w h =
    let m = h.1 in
    by_parts_alike event_members v w h.0
    (parts_alike (same_alike (optional json_time_offends) _ _ m.0)
    (parts_alike (same_alike (optional text_offends) _ _ m.1.0)
    (parts_alike (attributes_offend_alike _ _ m.1.1.0)
    (parts_alike (same_alike (optional json_count_offends) _ _ m.1.1.1.0) no_parts_alike))))

-- ---- `Link`

link_turns : AgreesBothWays (objects_agree link_known)
link_turns = objects_turn link_known (same_turns & same_turns & same_turns & attributes_turn & same_turns & same_turns & tt)

link_alike : MeanAlike IsJsonLink (objects_agree link_known)
link_alike v w h l is =
    let m = h.1 in
    record {
      shape = sym h.0 ∙ is.shape;
      trace = is.trace;
      span = is.span;
      parts = is.parts;
      link = is.link;
      trace_id = given_same (Spelled SpellsTraceOrNone) (λ id. id ≡ None) _ _ m.0 is.trace is.trace_id;
      span_id = given_same (Spelled SpellsSpanOrNone) (λ id. id ≡ None) _ _ m.1.0 is.span is.span_id;
      state = given_same IsText (λ text. text ≡ []) _ _ m.1.1.0 is.parts.state is.state;
      attributes = attributes_alike is.parts.attributes is.parts.keys _ _ m.1.1.1.0 is.attributes;
      dropped = given_same IsJsonCount (λ n. n ≡ 0) _ _ m.1.1.1.1.0 is.parts.dropped is.dropped;
      flags = given_same IsJsonCount (λ n. n ≡ 0) _ _ m.1.1.1.1.1.0 is.parts.flags is.flags;
    }

link_offends_alike : OffencesAlike link_offends (objects_agree link_known)
unfolding link_members
link_offends_alike v w h =
    let m = h.1 in
    by_parts_alike link_members v w h.0
    (parts_alike (same_alike (optional trace_or_none_offends) _ _ m.0)
    (parts_alike (same_alike (optional span_or_none_offends) _ _ m.1.0)
    (parts_alike (same_alike (optional text_offends) _ _ m.1.1.0)
    (parts_alike (attributes_offend_alike _ _ m.1.1.1.0)
    (parts_alike (same_alike (optional json_count_offends) _ _ m.1.1.1.1.0)
    (parts_alike (same_alike (optional json_count_offends) _ _ m.1.1.1.1.1.0) no_parts_alike))))))

-- ---- `Span`

span_turns : AgreesBothWays (objects_agree otlp_span_known)
span_turns =
    objects_turn otlp_span_known (
    same_turns & same_turns & same_turns & same_turns & same_turns & same_turns & same_turns & same_turns & attributes_turn & same_turns
    & arrays_turn (objects_agree event_known) event_turns & same_turns & arrays_turn (objects_agree link_known) link_turns & same_turns
    & status_turns & same_turns & tt)

span_alike : MeanAlike IsJsonSpan (objects_agree otlp_span_known)
span_alike v w h s is =
    let m = h.1 in
    record {
      shape = sym h.0 ∙ is.shape;
      events = is.events;
      its_events = is.its_events;
      links = is.links;
      its_links = is.its_links;
      trace = given_same (Spelled SpellsJsonTrace) Never _ _ m.0 s.means.trace is.trace;
      id = given_same (Spelled SpellsJsonSpan) Never _ _ m.1.0 s.means.id is.id;
      state = given_same IsText (λ text. text ≡ []) _ _ m.1.1.0 s.means.state is.state;
      parent = given_same (Spelled SpellsSpanOrNone) (λ id. id ≡ None) _ _ m.1.1.1.0 s.means.parent is.parent;
      name = given_same IsText (λ text. text ≡ []) _ _ m.1.1.1.1.0 s.means.name is.name;
      kind = given_same IsJsonKind (λ kind. kind ≡ kinds.Unspecified) _ _ m.1.1.1.1.1.0 s.means.kind is.kind;
      start = given_same IsJsonTime (λ n. n ≡ 0) _ _ m.1.1.1.1.1.1.0 s.means.start is.start;
      end = given_same IsJsonTime (λ n. n ≡ 0) _ _ m.1.1.1.1.1.1.1.0 s.means.end is.end;
      attributes = attributes_alike s.means.attributes s.notes.keys _ _ m.1.1.1.1.1.1.1.1.0 is.attributes;
      dropped_attributes = given_same IsJsonCount (λ n. n ≡ 0) _ _ m.1.1.1.1.1.1.1.1.1.0 s.means.dropped_attributes is.dropped_attributes;
      each_event = list_alike IsJsonEvent event_known event_alike _ _ m.1.1.1.1.1.1.1.1.1.1.0 is.events is.each_event;
      dropped_events = given_same IsJsonCount (λ n. n ≡ 0) _ _ m.1.1.1.1.1.1.1.1.1.1.1.0 s.means.dropped_events is.dropped_events;
      each_link = list_alike IsJsonLink link_known link_alike _ _ m.1.1.1.1.1.1.1.1.1.1.1.1.0 is.links is.each_link;
      dropped_links = given_same IsJsonCount (λ n. n ≡ 0) _ _ m.1.1.1.1.1.1.1.1.1.1.1.1.1.0 s.means.dropped_links is.dropped_links;
      status = object_alike IsJsonStatus status_known status_alike _ _ m.1.1.1.1.1.1.1.1.1.1.1.1.1.1.0 no_status s.means.status is.status;
      flags = given_same IsJsonCount (λ n. n ≡ 0) _ _ m.1.1.1.1.1.1.1.1.1.1.1.1.1.1.1.0 s.means.flags is.flags;
    }

span_offends_alike : OffencesAlike otlp_span_offends (objects_agree otlp_span_known)
unfolding json_span_members
span_offends_alike v w h =
    let m = h.1 in
    by_parts_alike json_span_members v w h.0
    (parts_alike (same_alike (identified json_trace_offends) _ _ m.0)
    (parts_alike (same_alike (identified json_span_offends) _ _ m.1.0)
    (parts_alike (same_alike (optional text_offends) _ _ m.1.1.0)
    (parts_alike (same_alike (optional span_or_none_offends) _ _ m.1.1.1.0)
    (parts_alike (same_alike (optional text_offends) _ _ m.1.1.1.1.0)
    (parts_alike (same_alike (optional (enum_offends 5)) _ _ m.1.1.1.1.1.0)
    (parts_alike (same_alike (optional json_time_offends) _ _ m.1.1.1.1.1.1.0)
    (parts_alike (same_alike (optional json_time_offends) _ _ m.1.1.1.1.1.1.1.0)
    (parts_alike (attributes_offend_alike _ _ m.1.1.1.1.1.1.1.1.0)
    (parts_alike (same_alike (optional json_count_offends) _ _ m.1.1.1.1.1.1.1.1.1.0)
    (parts_alike (list_offence_alike event_offends event_known event_offends_alike _ _ m.1.1.1.1.1.1.1.1.1.1.0)
    (parts_alike (same_alike (optional json_count_offends) _ _ m.1.1.1.1.1.1.1.1.1.1.1.0)
    (parts_alike (list_offence_alike link_offends link_known link_offends_alike _ _ m.1.1.1.1.1.1.1.1.1.1.1.1.0)
    (parts_alike (same_alike (optional json_count_offends) _ _ m.1.1.1.1.1.1.1.1.1.1.1.1.1.0)
    (parts_alike (object_offence_alike status_offends status_known status_offends_alike _ _ m.1.1.1.1.1.1.1.1.1.1.1.1.1.1.0)
    (parts_alike (same_alike (optional json_count_offends) _ _ m.1.1.1.1.1.1.1.1.1.1.1.1.1.1.1.0) no_parts_alike))))))))))))))))

-- ---- `InstrumentationScope`

instrumentation_turns : AgreesBothWays (objects_agree instrumentation_scope_known)
instrumentation_turns = objects_turn instrumentation_scope_known (same_turns & same_turns & attributes_turn & same_turns & tt)

instrumentation_alike : MeanAlike IsJsonInstrumentationScope (objects_agree instrumentation_scope_known)
instrumentation_alike v w h s is =
    let m = h.1 in
    record {
      shape = sym h.0 ∙ is.shape;
      name = given_same IsText (λ text. text ≡ []) _ _ m.0 s.means.name is.name;
      version = given_same IsText (λ text. text ≡ []) _ _ m.1.0 s.means.version is.version;
      attributes = attributes_alike s.means.attributes s.notes _ _ m.1.1.0 is.attributes;
      dropped = given_same IsJsonCount (λ n. n ≡ 0) _ _ m.1.1.1.0 s.means.dropped is.dropped;
    }

instrumentation_offends_alike : OffencesAlike instrumentation_scope_offends (objects_agree instrumentation_scope_known)
unfolding instrumentation_scope_members
instrumentation_offends_alike v w h =
    let m = h.1 in
    by_parts_alike instrumentation_scope_members v w h.0
    (parts_alike (same_alike (optional text_offends) _ _ m.0)
    (parts_alike (same_alike (optional text_offends) _ _ m.1.0)
    (parts_alike (attributes_offend_alike _ _ m.1.1.0)
    (parts_alike (same_alike (optional json_count_offends) _ _ m.1.1.1.0) no_parts_alike))))

-- ---- `ScopeSpans`

scope_turns : AgreesBothWays (objects_agree scope_known)
scope_turns =
    objects_turn scope_known (instrumentation_turns & arrays_turn (objects_agree otlp_span_known) span_turns & same_turns & tt)

scope_alike : MeanAlike IsJsonScope (objects_agree scope_known)
scope_alike v w h s is =
    let m = h.1 in
    record {
      shape = sym h.0 ∙ is.shape;
      instrumentation = is.instrumentation;
      spans = is.spans;
      url = is.url;
      scope = is.scope;
      its_instrumentation =
          object_alike IsJsonInstrumentationScope instrumentation_scope_known instrumentation_alike _ _ m.0
          no_instrumentation_scope is.instrumentation is.its_instrumentation;
      each_span = list_alike IsJsonSpan otlp_span_known span_alike _ _ m.1.0 is.spans is.each_span;
      its_url = given_same IsText (λ text. text ≡ []) _ _ m.1.1.0 is.url is.its_url;
    }

scope_offends_alike : OffencesAlike scope_offends (objects_agree scope_known)
unfolding scope_members
scope_offends_alike v w h =
    let m = h.1 in
    by_parts_alike scope_members v w h.0
    (parts_alike (object_offence_alike instrumentation_scope_offends instrumentation_scope_known instrumentation_offends_alike _ _ m.0)
    (parts_alike (list_offence_alike otlp_span_offends otlp_span_known span_offends_alike _ _ m.1.0)
    (parts_alike (same_alike (optional text_offends) _ _ m.1.1.0) no_parts_alike)))

-- ---- `Resource`

resource_turns : AgreesBothWays (objects_agree resource_known)
resource_turns = objects_turn resource_known (attributes_turn & same_turns & tt)

resource_alike : MeanAlike IsJsonResource (objects_agree resource_known)
resource_alike v w h r is =
    let m = h.1 in
    record {
      shape = sym h.0 ∙ is.shape;
      attributes = attributes_alike r.means.attributes r.notes _ _ m.0 is.attributes;
      dropped = given_same IsJsonCount (λ n. n ≡ 0) _ _ m.1.0 r.means.dropped is.dropped;
    }

resource_offends_alike : OffencesAlike resource_offends (objects_agree resource_known)
unfolding resource_members
resource_offends_alike v w h =
    let m = h.1 in
    by_parts_alike resource_members v w h.0
    (parts_alike (attributes_offend_alike _ _ m.0)
    (parts_alike (same_alike (optional json_count_offends) _ _ m.1.0) no_parts_alike))

-- ---- `ResourceSpans`

group_turns : AgreesBothWays (objects_agree group_known)
group_turns = objects_turn group_known (resource_turns & arrays_turn (objects_agree scope_known) scope_turns & same_turns & tt)

group_alike : MeanAlike IsJsonGroup (objects_agree group_known)
group_alike v w h g is =
    let m = h.1 in
    record {
      shape = sym h.0 ∙ is.shape;
      resource = is.resource;
      scopes = is.scopes;
      url = is.url;
      group = is.group;
      its_resource = object_alike IsJsonResource resource_known resource_alike _ _ m.0 no_resource is.resource is.its_resource;
      each_scope = list_alike IsJsonScope scope_known scope_alike _ _ m.1.0 is.scopes is.each_scope;
      its_url = given_same IsText (λ text. text ≡ []) _ _ m.1.1.0 is.url is.its_url;
    }

group_offends_alike : OffencesAlike group_offends (objects_agree group_known)
unfolding group_members
group_offends_alike v w h =
    let m = h.1 in
    by_parts_alike group_members v w h.0
    (parts_alike (object_offence_alike resource_offends resource_known resource_offends_alike _ _ m.0)
    (parts_alike (list_offence_alike scope_offends scope_known scope_offends_alike _ _ m.1.0)
    (parts_alike (same_alike (optional text_offends) _ _ m.1.1.0) no_parts_alike)))

-- ---- the whole text

remarked_alike : MeanAlike IsRemarkedGroup (objects_agree group_known)
remarked_alike v w h g is = group_alike v w h (record { means = g.0; notes = g.1 }) is

groups_turn : AgreesBothWays groups_agree
groups_turn v w h =
    objects_turn ((codes "resourceSpans", arrays_agree (objects_agree group_known)) ∷ [])
    (arrays_turn (objects_agree group_known) group_turns, tt) v w h

groups_alike : MeanAlike AreJsonGroups groups_agree
groups_alike v w h groups is = record {
  shape = sym h.0 ∙ is.shape;
  each = list_alike IsRemarkedGroup group_known remarked_alike _ _ h.1.0 groups is.each;
}

groups_offend_alike : OffencesAlike json_groups_offend groups_agree
groups_offend_alike v w h =
    object_offends_alike _ _ (as_object v) (as_object w) h.0
    (list_offence_alike group_offends group_known group_offends_alike _ _ h.1.0)

pub free_members : FreeGroupMembers
free_members = record {
  means = λ v w h groups. (groups_alike v w h groups, groups_alike w v (groups_turn v w h) groups);
  offends = λ v w h path number. (groups_offend_alike v w h path number, groups_offend_alike w v (groups_turn v w h) path number);
}
