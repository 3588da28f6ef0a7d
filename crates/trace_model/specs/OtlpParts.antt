-- Parts of OTLP's messages, as its readers of protobuf and of JSON gather them, with what is noted of them; and the numbers of its enums.
-- Each form says in its own terms which parts stand in a text. What they make together is said here.
use Rattle.std.specs.Prelude.{◌≡◌, ◌↔◌, ◌⊎◌, ℕ, ◌-◌, List, [], ◌∷◌, ◌++◌, length, map, All, Contains, Option, Some, None, is_none}
use Rattle.std.specs.List.{flat_map, list_any}
use Rattle.trace_model.specs.Attributes.{AreAttributes, AreRepeated, Rise, StandsTwice}
use Rattle.trace_model.specs.GroupRemarks.{group_remarks}
use Rattle.trace_model.specs.declared.noted.Noted.{Noted}
use Rattle.trace_model.specs.Notes.{SpanNotes, ScopeNotes}
use Rattle.trace_model.specs.Remarks.{Keys}
use Rattle.trace_model.specs.declared.noted.InstrumentationScope.{InstrumentationScope}
use Rattle.trace_model.specs.declared.noted.KeyValue.{KeyValue}
use Rattle.trace_model.specs.declared.noted.LinkParts.{LinkParts}
use Rattle.trace_model.specs.declared.noted.Resource.{Resource}
use Rattle.trace_model.specs.declared.remark.Remark.{Remark}
use Rattle.trace_model.specs.declared.span.Code.{Code}
use Rattle.trace_model.specs.declared.span.Code.TheVariants as codes
use Rattle.trace_model.specs.declared.span.Event.{Event}
use Rattle.trace_model.specs.declared.span.Kind.{Kind}
use Rattle.trace_model.specs.declared.span.Kind.TheVariants as kinds
use Rattle.trace_model.specs.declared.span.Link.{Link}
use Rattle.trace_model.specs.declared.span.Span.{Span}
use Rattle.trace_model.specs.declared.span.Status.{Status}
use Rattle.trace_model.specs.declared.group.Group.{Group}
use Rattle.trace_model.specs.declared.group.Scope.{Scope}
use Rattle.trace_model.specs.Values.{most_levels}
use Rattle.trace_model.specs.declared.value.Value.{Value}
use Rattle.trace_model.specs.declared.value.Value.TheVariants as values

-- ---- values and attributes (common.proto)

-- how many levels are left below the value of an attribute
abbrev pub levels_below : ℕ
levels_below = most_levels - 1

-- a value with the keys that are noted inside it
abbrev pub NotedValue : Type 0
NotedValue = Noted Value Keys

-- a value with no key noted inside it
abbrev pub leaf : Value → NotedValue
leaf v = record { means = v; notes = [] }

-- what it gives to attributes
abbrev pub entry : KeyValue → List ℕ × Value
entry p = (p.key, p.value.means)

-- the keys that are noted inside the values of these pairs, in the order of the pairs
abbrev pub keys_inside : List KeyValue → Keys
keys_inside pairs = flat_map (λ p. p.value.notes) pairs

-- the list of these members, and the keys that are noted inside them
pub record IsNotedList (members : List NotedValue) (r : NotedValue) : Type 0 where
  pub value : r.means ≡ values.List (map (λ m. m.means) members)
  pub noted : r.notes ≡ flat_map (λ m. m.notes) members

-- the map of these pairs, of which the last value of each key is kept; and the keys that are noted inside their values, and behind
-- them the map's own, those that stand more than once
pub record IsNotedMap (pairs : List (List ℕ × Value)) (inside : Keys) (r : NotedValue) : Type 0 where
  pub attributes : List (List ℕ × Value)
  pub kept : AreAttributes attributes pairs
  pub repeated : Keys
  pub twice : AreRepeated repeated pairs
  pub value : r.means ≡ values.Map attributes
  pub noted : r.notes ≡ inside ++ repeated

-- the attributes of these pairs: the last value of each key, in the order of the keys; and the keys that are noted, in their order:
-- those that stand more than once, and those inside the values
pub record AreNotedAttributes (pairs : List (List ℕ × Value)) (inside : Keys) (attributes : List (List ℕ × Value)) (keys : Keys)
    : Type 0 where
  pub kept : AreAttributes attributes pairs
  pub rising : Rise keys
  pub noted : (key : List ℕ) → Contains keys key ↔ (StandsTwice key pairs ⊎ Contains inside key)

-- ---- identifiers (trace.proto)

-- the empty text, and one of so many zeros, are no identifier; a zero is a byte 0 in protobuf, and a digit `0` in JSON
abbrev pub IsNoIdentifier : ℕ → ℕ → List ℕ → Type 0
IsNoIdentifier nought size text = (text ≡ []) ⊎ ((length text ≡ size) × All (λ u. u ≡ nought) text)

-- the identifier that a text spells, or none
abbrev pub IsIdentifierOrNone : (List ℕ → ℕ → Type 0) → ℕ → ℕ → List ℕ → Option ℕ → Type 0
IsIdentifierOrNone Spells nought size text None = IsNoIdentifier nought size text
IsIdentifierOrNone Spells nought size text (Some id) = Spells text id

-- ---- links (trace.proto)

-- the link of these identifiers, if both are there
abbrev pub link_of : Option ℕ → Option ℕ → LinkParts → Option (Noted Link Keys)
link_of (Some trace) (Some span) parts = Some (record {
  means = record { trace = trace; span = span; state = parts.state; attributes = parts.attributes; dropped = parts.dropped; flags = parts.flags };
  notes = parts.keys;
})
link_of (Some trace) None parts = None
link_of None span parts = None

-- the links that aren't dropped
abbrev pub kept_link : Option (Noted Link Keys) → List (Noted Link Keys)
kept_link None = []
kept_link (Some link) = link ∷ []

-- of a span's links, in their order, those that aren't dropped
abbrev pub kept_links : List (Option (Noted Link Keys)) → List (Noted Link Keys)
kept_links links = flat_map kept_link links

-- ---- `Span` (trace.proto)

-- the events of this span, and the keys that are noted of each
pub record AreEventsOf (events : List (Noted Event Keys)) (s : Noted Span SpanNotes) : Type 0 where
  pub kept : s.means.events ≡ map (λ e. e.means) events
  pub noted : s.notes.events ≡ map (λ e. e.notes) events

-- its links that aren't dropped, the keys that are noted of each, and whether one was dropped
pub record AreLinksOf (links : List (Option (Noted Link Keys))) (s : Noted Span SpanNotes) : Type 0 where
  pub kept : s.means.links ≡ map (λ l. l.means) (kept_links links)
  pub noted : s.notes.links ≡ map (λ l. l.notes) (kept_links links)
  pub any_dropped : s.notes.dropped ≡ list_any (λ l. is_none l) links

-- ---- `Status`, `InstrumentationScope`, `ScopeSpans`, `Resource` and `ResourceSpans`

-- what stands for a status that is absent
abbrev pub no_status : Status
no_status = record { code = codes.Unset; message = [] }

-- what stands for an `InstrumentationScope` that is absent
abbrev pub no_instrumentation_scope : Noted InstrumentationScope Keys
no_instrumentation_scope = record { means = record { name = []; version = []; attributes = []; dropped = 0 }; notes = [] }

-- the scope of these spans, which has this instrumentation and this schema's URL, and what is noted of it
pub record IsScopeOfParts (instrumentation : Noted InstrumentationScope Keys) (spans : List (Noted Span SpanNotes)) (url : List ℕ)
    (s : Noted Scope ScopeNotes) : Type 0 where
  pub scope : s.means ≡ record {
    name = instrumentation.means.name;
    version = instrumentation.means.version;
    attributes = instrumentation.means.attributes;
    dropped = instrumentation.means.dropped;
    schema_url = url;
    spans = map (λ x. x.means) spans;
  }
  pub noted : s.notes ≡ record { keys = instrumentation.notes; spans = map (λ x. x.notes) spans }

-- what stands for a `Resource` that is absent
abbrev pub no_resource : Noted Resource Keys
no_resource = record { means = record { attributes = []; dropped = 0 }; notes = [] }

-- a group, with the remarks on it
abbrev pub NotedGroup : Type 0
NotedGroup = Noted Group (List Remark)

-- the group of these scopes, which has this resource and this schema's URL, and the remarks on it
pub record IsGroupOfParts (resource : Noted Resource Keys) (scopes : List (Noted Scope ScopeNotes)) (url : List ℕ)
    (g : NotedGroup) : Type 0 where
  pub group : g.means ≡ record { resource = resource.means.attributes; dropped = resource.means.dropped; schema_url = url; scopes = map (λ x. x.means) scopes }
  pub remarks : g.notes ≡ group_remarks resource.notes (map (λ x. x.notes) scopes)

-- ---- enums (trace.proto)

-- `Span.SpanKind` by its numbers, from SPAN_KIND_UNSPECIFIED 0 to SPAN_KIND_CONSUMER 5
abbrev pub kind_number : Kind → ℕ
kind_number kinds.Unspecified = 0
kind_number kinds.Internal = 1
kind_number kinds.Server = 2
kind_number kinds.Client = 3
kind_number kinds.Producer = 4
kind_number kinds.Consumer = 5

-- `Status.StatusCode` by its numbers: STATUS_CODE_UNSET 0, STATUS_CODE_OK 1 and STATUS_CODE_ERROR 2
abbrev pub code_number : Code → ℕ
code_number codes.Unset = 0
code_number codes.Okay = 1
code_number codes.Fail = 2
