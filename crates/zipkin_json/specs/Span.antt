-- A span of the Zipkin v2 API (`Span`, `Endpoint`, `Annotation`): what each object means, member by member, and how it offends, its
-- members in the order in which their offences count. Members that the tables don't have are passed over.
use Rattle.std.specs.Prelude.{◌≡◌, ℕ, ◌+◌, ◌≤◌, List, [], ◌∷◌, true, false, Option, Some, None, option_map, is_some, codes, map}
use Rattle.std.specs.Cmp.Lexicographic.{slice_cmp}
use Rattle.std.specs.List.Sorted.{IsStrictlySortedBy}
use Rattle.std.specs.Ordering.{nat_cmp}
use Rattle.serde_json.specs.Data.{Data, null, string, Members, no_members, member as has}
use Rattle.serde_json.specs.Find.{as_object}
use Rattle.span_ids.specs.Times.{last_micros, nanos}
use Rattle.span_io.specs.Paths.{Offences, required, optional, each, valued, Given, Never, OfKind}
use Rattle.zipkin_json.specs.declared.span.Endpoint.{Endpoint}
use Rattle.zipkin_json.specs.declared.span.ZKind.{ZKind}
use Rattle.zipkin_json.specs.declared.span.ZKind.TheVariants as kinds
use Rattle.zipkin_json.specs.declared.span.ZSpan.{ZSpan}
use Rattle.zipkin_json.specs.Identifiers.{SpellsTrace, SpellsSpan, SpellsParent}
use Rattle.json_members.specs.Members.{unless_null, member, AreHeld, elements_offend, member_values, IsText, text_offends, IsTruth, truth_offends, IsCount, Spelled, unspelled}
use Rattle.json_members.specs.Parts.{object_offends}
use Rattle.zipkin_json.specs.Members.{IsPort, port_offends, count_offends, count_or_zero}

-- ---- identifiers and the kind, which are texts

-- `kind`: CLIENT, SERVER, PRODUCER or CONSUMER, in capital letters; no text spells a kind that is absent
abbrev pub SpellsKind : List ℕ → ZKind → Type 0
SpellsKind text kinds.Absent = ⊥
SpellsKind text kinds.Client = text ≡ codes "CLIENT"
SpellsKind text kinds.Server = text ≡ codes "SERVER"
SpellsKind text kinds.Producer = text ≡ codes "PRODUCER"
SpellsKind text kinds.Consumer = text ≡ codes "CONSUMER"

-- BadId, BadEnum
abbrev pub trace_offends : Data → Offences
trace_offends d = unspelled SpellsTrace 12 d

-- BadId: the text of `id` spells no span's identifier; BadShape: it is no text
abbrev pub id_offends : Data → Offences
id_offends d = unspelled SpellsSpan 12 d

-- BadId: the text of `parentId` spells neither a span's identifier nor no parent; BadShape: it is no text
abbrev pub parent_offends : Data → Offences
parent_offends d = unspelled SpellsParent 12 d

-- BadEnum: the text of `kind` is none of the four words; BadShape: it is no text
abbrev pub kind_offends : Data → Offences
kind_offends d = unspelled SpellsKind 13 d

-- ---- `Endpoint`

-- the members of this `Endpoint`: an absent text is the empty one, and an absent `port` is 0
pub record IsEndpoint (e : Endpoint) (d : Data) : Type 0 where
  pub shape : is_some (as_object d) ≡ true
  pub service : Given IsText (λ text. text ≡ []) e.service (member (codes "serviceName") d)
  pub ipv4 : Given IsText (λ text. text ≡ []) e.ipv4 (member (codes "ipv4") d)
  pub ipv6 : Given IsText (λ text. text ≡ []) e.ipv6 (member (codes "ipv6") d)
  pub port : Given IsPort (λ port. port ≡ 0) e.port (member (codes "port") d)

-- what stands for one that is absent
abbrev pub no_endpoint : Endpoint
no_endpoint = record { service = []; ipv4 = []; ipv6 = []; port = 0 }

-- how its members offend, which may all be absent, in the order in which their offences count
unfoldable pub endpoint_members : Data → List Offences
endpoint_members d = optional text_offends (member (codes "serviceName") d) ∷ optional text_offends (member (codes "ipv4") d)
    ∷ optional text_offends (member (codes "ipv6") d) ∷ optional port_offends (member (codes "port") d) ∷ []

-- BadShape: no object; else what offends in the members of `Endpoint`
abbrev pub endpoint_offends : Data → Offences
endpoint_offends d = object_offends endpoint_members d

-- ---- `Annotation`

-- the members of this `Annotation`, both required: `timestamp` counts microseconds, and is kept as nanoseconds, below 2 ^ 64;
-- `value` is a text
pub record IsAnnotation (a : ℕ × List ℕ) (d : Data) : Type 0 where
  pub shape : is_some (as_object d) ≡ true
  pub timestamp : ℕ
  pub its_timestamp : Given IsCount Never timestamp (member (codes "timestamp") d)
  pub fits : timestamp ≤ last_micros
  pub time : a.0 ≡ nanos timestamp
  pub value : Given IsText Never a.1 (member (codes "value") d)

-- how its members offend, both required, in the order in which their offences count
unfoldable pub annotation_members : Data → List Offences
annotation_members d =
    required (count_offends 0) (member (codes "timestamp") d) ∷ required text_offends (member (codes "value") d) ∷ []

-- BadShape: no object; else what offends in the members of `Annotation`
abbrev pub annotation_offends : Data → Offences
annotation_offends d = object_offends annotation_members d

-- `annotations`: an array of these annotations, in their order
abbrev pub AreAnnotations : List (ℕ × List ℕ) → Data → Type 0
AreAnnotations list d = AreHeld IsAnnotation list d

-- BadShape: no array; else what offends in its elements, one by one
abbrev pub annotations_offend : Data → Offences
annotations_offend d = elements_offend annotation_offends d

-- ---- `tags`, whose keys name texts; a tag that is null is absent too

-- the keys and texts of these members, without those that are null, if each other one is a text
abbrev pub texts_in : Members → Option (List (List ℕ × List ℕ))
texts_in no_members = Some []
texts_in (has key null more) = texts_in more
texts_in (has key (string text) more) = option_map (λ texts. (key, text) ∷ texts) (texts_in more)
texts_in (has key d more) = None

-- `tags`: an object whose members are these keys and texts
abbrev pub AreTags : List (List ℕ × List ℕ) → Data → Type 0
AreTags tags d = OfKind (λ texts members. texts_in members ≡ Some texts) tags (as_object d)

-- BadShape: a tag that is neither a text nor null
abbrev pub tag_offends : Data → Offences
tag_offends d = optional text_offends (unless_null (Some d))

-- BadShape: no object; else what offends in its tags, one by one
abbrev pub tags_offend : Data → Offences
tags_offend d = valued (λ members. each tag_offends (member_values members)) (as_object d)

-- ---- `Span`

-- the members of this span
pub record IsZSpan (s : ZSpan) (d : Data) : Type 0 where
  pub shape : is_some (as_object d) ≡ true
  pub trace : Given (Spelled SpellsTrace) Never s.trace (member (codes "traceId") d)
  pub id : Given (Spelled SpellsSpan) Never s.id (member (codes "id") d)
  pub parent : Given (Spelled SpellsParent) (λ parent. parent ≡ None) s.parent (member (codes "parentId") d)
  pub name : Given IsText (λ text. text ≡ []) s.name (member (codes "name") d)
  pub kind : Given (Spelled SpellsKind) (λ kind. kind ≡ kinds.Absent) s.kind (member (codes "kind") d)
  pub timestamp : ℕ
  pub its_timestamp : Given IsCount (λ count. count ≡ 0) timestamp (member (codes "timestamp") d)
  pub start : s.start ≡ nanos timestamp
  pub duration : ℕ
  pub its_duration : Given IsCount (λ count. count ≡ 0) duration (member (codes "duration") d)
  pub sum : timestamp + duration ≤ last_micros
  pub end : s.end ≡ nanos (timestamp + duration)
  pub debug : Given IsTruth (λ truth. truth ≡ false) s.debug (member (codes "debug") d)
  pub shared : Given IsTruth (λ truth. truth ≡ false) s.shared (member (codes "shared") d)
  pub local : Given IsEndpoint (λ e. e ≡ no_endpoint) s.local (member (codes "localEndpoint") d)
  pub remote : Given IsEndpoint (λ e. e ≡ no_endpoint) s.remote (member (codes "remoteEndpoint") d)
  pub annotations : Given AreAnnotations (λ list. list ≡ []) s.annotations (member (codes "annotations") d)
  pub tags : Given AreTags (λ tags. tags ≡ []) s.tags (member (codes "tags") d)

-- the start and the duration are added at `duration`
unfoldable pub span_members : Data → List Offences
span_members d = required trace_offends (member (codes "traceId") d) ∷ required id_offends (member (codes "id") d)
    ∷ optional parent_offends (member (codes "parentId") d) ∷ optional text_offends (member (codes "name") d)
    ∷ optional kind_offends (member (codes "kind") d) ∷ optional (count_offends 0) (member (codes "timestamp") d)
    ∷ optional (count_offends (count_or_zero (member (codes "timestamp") d))) (member (codes "duration") d)
    ∷ optional truth_offends (member (codes "debug") d) ∷ optional truth_offends (member (codes "shared") d)
    ∷ optional endpoint_offends (member (codes "localEndpoint") d) ∷ optional endpoint_offends (member (codes "remoteEndpoint") d)
    ∷ optional annotations_offend (member (codes "annotations") d) ∷ optional tags_offend (member (codes "tags") d) ∷ []

-- BadShape: no object; else what offends in the members of `Span`
abbrev pub span_offends : Data → Offences
span_offends d = object_offends span_members d

-- what is read has rising keys, since an object has each name once, in their order
abbrev pub TagsRise : List (List ℕ × List ℕ) → Type 0
TagsRise tags = IsStrictlySortedBy (slice_cmp nat_cmp) (map (λ tag. tag.0) tags)

-- the keys of the span's tags rise by their bytes, so none stands twice
abbrev pub HasRisingTags : ZSpan → Type 0
HasRisingTags s = TagsRise s.tags

-- ---- the whole text: an array of spans

-- an array of these spans, in their order
abbrev pub AreSpans : List ZSpan → Data → Type 0
AreSpans spans d = AreHeld IsZSpan spans d

-- BadShape: no array; else what offends in its spans, one by one
abbrev pub spans_offend : Data → Offences
spans_offend d = elements_offend span_offends d
