-- Unknown members change nothing: values whose known members agree mean the same spans, and the same offends in them.
use Rattle.std.proofs.Common.{◌≡◌, [], false, Option, None, sym, ◌∙◌, subst}
use Rattle.serde_json.specs.Data.{Data}
use Rattle.span_io.specs.Paths.{required, optional, Never}
use Rattle.json_members.specs.Agreement.{same, both_or_neither, objects_agree}
use Rattle.json_members.proofs.AgreementLaws.{AgreesBothWays, same_turns, objects_turn, arrays_turn, found_same, MeanAlike, given_same, array_alike, OffendAlike, OffencesAlike, no_parts_alike, parts_alike, same_alike, array_offends_alike, by_parts_alike, object_alike, list_alike, object_offence_alike, list_offence_alike}
use Rattle.json_members.proofs.DecisionLaws.{◌&◌}
use Rattle.json_members.specs.Members.{IsText, text_offends, IsTruth, truth_offends, IsCount, Spelled}
use Rattle.zipkin_json.specs.Identifiers.{SpellsTrace, SpellsSpan, SpellsParent}
use Rattle.zipkin_json.specs.Known.{endpoint_known, annotation_known, span_known, spans_agree}
use Rattle.zipkin_json.specs.StatedLaws.{FreeMembers}
use Rattle.zipkin_json.specs.Members.{IsPort, port_offends, count_offends, count_or_zero}
use Rattle.zipkin_json.specs.Span.{SpellsKind, trace_offends, id_offends, parent_offends, kind_offends, IsEndpoint, no_endpoint, endpoint_members, endpoint_offends, IsAnnotation, annotation_members, annotation_offends, AreTags, tags_offend, IsZSpan, span_members, span_offends, AreSpans, spans_offend}
use Rattle.zipkin_json.specs.declared.span.ZKind.TheVariants as kinds

-- ---- endpoints

endpoints_turn : AgreesBothWays (objects_agree endpoint_known)
endpoints_turn = objects_turn endpoint_known (same_turns & same_turns & same_turns & same_turns & tt)

endpoint_alike : MeanAlike IsEndpoint (objects_agree endpoint_known)
endpoint_alike v w h e is =
    let m = h.1 in
    record {
      shape = sym h.0 ∙ is.shape;
      service = given_same IsText (λ text. text ≡ []) _ _ m.0 e.service is.service;
      ipv4 = given_same IsText (λ text. text ≡ []) _ _ m.1.0 e.ipv4 is.ipv4;
      ipv6 = given_same IsText (λ text. text ≡ []) _ _ m.1.1.0 e.ipv6 is.ipv6;
      port = given_same IsPort (λ port. port ≡ 0) _ _ m.1.1.1.0 e.port is.port;
    }

endpoint_offends_alike : OffencesAlike endpoint_offends (objects_agree endpoint_known)
unfolding endpoint_members
endpoint_offends_alike v w h =
    let m = h.1 in
    by_parts_alike endpoint_members v w h.0
    (parts_alike (same_alike (optional text_offends) _ _ m.0)
    (parts_alike (same_alike (optional text_offends) _ _ m.1.0)
    (parts_alike (same_alike (optional text_offends) _ _ m.1.1.0)
    (parts_alike (same_alike (optional port_offends) _ _ m.1.1.1.0) no_parts_alike))))

-- ---- annotations

annotation_turns : AgreesBothWays (objects_agree annotation_known)
annotation_turns = objects_turn annotation_known (same_turns & same_turns & tt)

annotation_alike : MeanAlike IsAnnotation (objects_agree annotation_known)
annotation_alike v w h a is =
    let m = h.1 in
    record {
      shape = sym h.0 ∙ is.shape;
      timestamp = is.timestamp;
      its_timestamp = given_same IsCount Never _ _ m.0 is.timestamp is.its_timestamp;
      fits = is.fits;
      time = is.time;
      value = given_same IsText Never _ _ m.1.0 a.1 is.value;
    }

annotation_offends_alike : OffencesAlike annotation_offends (objects_agree annotation_known)
unfolding annotation_members
annotation_offends_alike v w h =
    let m = h.1 in
    by_parts_alike annotation_members v w h.0
    (parts_alike (same_alike (required (count_offends 0)) _ _ m.0) (parts_alike (same_alike (required text_offends) _ _ m.1.0) no_parts_alike))

-- ---- spans

spans_turn : AgreesBothWays spans_agree
spans_turn =
    arrays_turn (objects_agree span_known) (objects_turn span_known (
    same_turns & same_turns & same_turns & same_turns & same_turns & same_turns & same_turns & same_turns & same_turns
    & endpoints_turn & endpoints_turn & arrays_turn (objects_agree annotation_known) annotation_turns & same_turns & tt))

span_alike : MeanAlike IsZSpan (objects_agree span_known)
span_alike v w h s is =
    let m = h.1 in
    record {
      shape = sym h.0 ∙ is.shape;
      trace = given_same (Spelled SpellsTrace) Never _ _ m.0 s.trace is.trace;
      id = given_same (Spelled SpellsSpan) Never _ _ m.1.0 s.id is.id;
      parent = given_same (Spelled SpellsParent) (λ parent. parent ≡ None) _ _ m.1.1.0 s.parent is.parent;
      name = given_same IsText (λ text. text ≡ []) _ _ m.1.1.1.0 s.name is.name;
      kind = given_same (Spelled SpellsKind) (λ kind. kind ≡ kinds.Absent) _ _ m.1.1.1.1.0 s.kind is.kind;
      timestamp = is.timestamp;
      its_timestamp = given_same IsCount (λ count. count ≡ 0) _ _ m.1.1.1.1.1.0 is.timestamp is.its_timestamp;
      start = is.start;
      duration = is.duration;
      its_duration = given_same IsCount (λ count. count ≡ 0) _ _ m.1.1.1.1.1.1.0 is.duration is.its_duration;
      sum = is.sum;
      end = is.end;
      debug = given_same IsTruth (λ truth. truth ≡ false) _ _ m.1.1.1.1.1.1.1.0 s.debug is.debug;
      shared = given_same IsTruth (λ truth. truth ≡ false) _ _ m.1.1.1.1.1.1.1.1.0 s.shared is.shared;
      local = object_alike IsEndpoint endpoint_known endpoint_alike _ _ m.1.1.1.1.1.1.1.1.1.0 no_endpoint s.local is.local;
      remote = object_alike IsEndpoint endpoint_known endpoint_alike _ _ m.1.1.1.1.1.1.1.1.1.1.0 no_endpoint s.remote is.remote;
      annotations = list_alike IsAnnotation annotation_known annotation_alike _ _ m.1.1.1.1.1.1.1.1.1.1.1.0 s.annotations is.annotations;
      tags = given_same AreTags (λ tags. tags ≡ []) _ _ m.1.1.1.1.1.1.1.1.1.1.1.1.0 s.tags is.tags;
    }

-- the duration offends by what the timestamp is
duration_alike : (t u d e : Option Data) → both_or_neither same t u → both_or_neither same d e
    → OffendAlike (optional (count_offends (count_or_zero t)) d) (optional (count_offends (count_or_zero u)) e)
duration_alike t u d e h k path number offends =
    subst (λ (q : Option Data). optional (count_offends (count_or_zero q)) e path number) (found_same t u h)
    (same_alike (optional (count_offends (count_or_zero t))) d e k path number offends)

span_offends_alike : OffencesAlike span_offends (objects_agree span_known)
unfolding span_members
span_offends_alike v w h =
    let m = h.1 in
    by_parts_alike span_members v w h.0
    (parts_alike (same_alike (required trace_offends) _ _ m.0)
    (parts_alike (same_alike (required id_offends) _ _ m.1.0)
    (parts_alike (same_alike (optional parent_offends) _ _ m.1.1.0)
    (parts_alike (same_alike (optional text_offends) _ _ m.1.1.1.0)
    (parts_alike (same_alike (optional kind_offends) _ _ m.1.1.1.1.0)
    (parts_alike (same_alike (optional (count_offends 0)) _ _ m.1.1.1.1.1.0)
    (parts_alike (duration_alike _ _ _ _ m.1.1.1.1.1.0 m.1.1.1.1.1.1.0)
    (parts_alike (same_alike (optional truth_offends) _ _ m.1.1.1.1.1.1.1.0)
    (parts_alike (same_alike (optional truth_offends) _ _ m.1.1.1.1.1.1.1.1.0)
    (parts_alike (object_offence_alike endpoint_offends endpoint_known endpoint_offends_alike _ _ m.1.1.1.1.1.1.1.1.1.0)
    (parts_alike (object_offence_alike endpoint_offends endpoint_known endpoint_offends_alike _ _ m.1.1.1.1.1.1.1.1.1.1.0)
    (parts_alike (list_offence_alike annotation_offends annotation_known annotation_offends_alike _ _ m.1.1.1.1.1.1.1.1.1.1.1.0)
    (parts_alike (same_alike (optional tags_offend) _ _ m.1.1.1.1.1.1.1.1.1.1.1.1.0) no_parts_alike)))))))))))))

-- ---- the whole text

pub free_members : FreeMembers
free_members = record {
  means = λ v w h spans. (means v w h spans, means w v (spans_turn v w h) spans);
  offends = λ v w h path number. (offends v w h path number, offends w v (spans_turn v w h) path number);
}
  where
    means : MeanAlike AreSpans spans_agree
    means = array_alike IsZSpan (objects_agree span_known) span_alike

    offends : OffencesAlike spans_offend spans_agree
    offends = array_offends_alike span_offends (objects_agree span_known) span_offends_alike
