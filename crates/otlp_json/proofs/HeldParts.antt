-- What is read of a text can be held: spans and groups are sound and proper, and no double stands in them.
use Rattle.std.proofs.Common.{◌≡◌, ℕ, ◌<◌, ◌^◌, List, [], ◌∷◌, map, All, Option, Some, None, codes, IsUtf8, refl, sym, subst, arith}
use Rattle.std.specs.List.Sorted.{IsStrictlySortedBy}
use Rattle.std.proofs.lemmas.Bool.{or_from}
use Rattle.std.proofs.lemmas.List.Elements.{All-nil, All-cons, All-head, All-tail}
use Rattle.std.proofs.lemmas.Str.{IsUtf8-nil}
use Rattle.serde_json.specs.Data.{Data}
use Rattle.span_ids.specs.Proper.{IsProperTraceId, IsProperSpanId, IsProperParent}
use Rattle.span_io.specs.Paths.{Given, Never}
use Rattle.trace_model.specs.declared.noted.Noted.{Noted}
use Rattle.trace_model.specs.Notes.{SpanNotes, ScopeNotes}
use Rattle.trace_model.specs.declared.noted.LinkParts.{LinkParts}
use Rattle.trace_model.specs.declared.noted.InstrumentationScope.{InstrumentationScope}
use Rattle.trace_model.specs.declared.noted.Resource.{Resource}
use Rattle.trace_model.specs.OtlpParts.{link_of, kept_links, no_status, no_instrumentation_scope, no_resource, NotedGroup}
use Rattle.trace_model.specs.Proper.{IsProperPair, IsProperStatus, IsProperEvent, IsProperLink, IsProperSpan, IsProperScope}
use Rattle.trace_model.specs.Remarks.{Keys}
use Rattle.trace_model.specs.Soundness.{IsSoundEvent, IsSoundLink, IsSoundSpan, IsSoundScope}
use Rattle.trace_model.specs.Values.{IsSound}
use Rattle.trace_model.specs.declared.span.Event.{Event}
use Rattle.trace_model.specs.declared.span.Link.{Link}
use Rattle.trace_model.specs.declared.span.Span.{Span}
use Rattle.trace_model.specs.declared.span.Status.{Status}
use Rattle.trace_model.specs.declared.group.Scope.{Scope}
use Rattle.trace_model.proofs.PartLaws.{ProperTrace}
use Rattle.json_members.specs.Members.{member, Spelled}
use Rattle.json_members.proofs.SoundLaws.{member_sound, given_text, Sound as InUtf8, read_sound}
use Rattle.json_members.proofs.TextLaws.{number_below}
use Rattle.json_members.proofs.Utf8Laws.{HoldsOf}
use Rattle.otlp_json.specs.Doubles.{double_in_event, double_in_link, double_in_span, double_in_scope}
use Rattle.otlp_json.specs.Group.{IsJsonInstrumentationScope, IsJsonScope, IsJsonResource, IsJsonGroup, RemarkedGroup, IsRemarkedGroup}
use Rattle.otlp_json.specs.Held.{IsHeldByJson}
use Rattle.otlp_json.specs.Identifiers.{SpellsJsonTrace, SpellsJsonSpan, SpellsTraceOrNone, SpellsSpanOrNone}
use Rattle.otlp_json.specs.StatedLaws.{ReadsHeldGroups}
use Rattle.otlp_json.specs.Span.{IsJsonStatus, IsJsonEvent, IsJsonLink, IsJsonSpan}
use Rattle.otlp_json.proofs.HeldValues.{Held, all_held, HeldAttributes, given_has, each_has, each_of, number_fits, ValueLaws, attributes_held}

-- ---- identifiers

trace_proper : (text : List ℕ) (id : ℕ) → SpellsJsonTrace text id → IsProperTraceId id
trace_proper text id h =
    let long = h.0.0.0 in
    let below = number_below text 32 h.0.0.1 (omega (arith, long)) in
    let some = h.0.1 in
    let is = h.1 in
    (omega (arith, some, is), omega (arith, below, is))

span_proper : (text : List ℕ) (id : ℕ) → SpellsJsonSpan text id → IsProperSpanId id
span_proper text id h =
    let long = h.0.0.0 in
    let below = number_below text 16 h.0.0.1 (omega (arith, long)) in
    let some = h.0.1 in
    let is = h.1 in
    (omega (arith, some, is), omega (arith, below, is))

given_trace : (id : ℕ) (o : Option Data) → Given (Spelled SpellsJsonTrace) Never id o → IsProperTraceId id
given_trace id None h = absurd h
given_trace id (Some d) h = trace_proper h.held id h.means

given_id : (id : ℕ) (o : Option Data) → Given (Spelled SpellsJsonSpan) Never id o → IsProperSpanId id
given_id id None h = absurd h
given_id id (Some d) h = span_proper h.held id h.means

trace_or_none : (id : Option ℕ) (o : Option Data) → Given (Spelled SpellsTraceOrNone) (λ x. x ≡ None) id o → ProperTrace id
trace_or_none None o h = tt
trace_or_none (Some id) None h = cc
trace_or_none (Some id) (Some d) h = trace_proper h.held id h.means

span_or_none : (id : Option ℕ) (o : Option Data) → Given (Spelled SpellsSpanOrNone) (λ x. x ≡ None) id o → IsProperParent id
span_or_none None o h = tt
span_or_none (Some id) None h = cc
span_or_none (Some id) (Some d) h = span_proper h.held id h.means

-- ---- parts of spans

abbrev HeldEvent : Event → Type 0
HeldEvent event = Held IsSoundEvent IsProperEvent double_in_event event

abbrev HeldLink : Link → Type 0
HeldLink link = Held IsSoundLink IsProperLink double_in_link link

abbrev HeldSpan : Span → Type 0
HeldSpan span = Held IsSoundSpan IsProperSpan double_in_span span

abbrev HeldScope : Scope → Type 0
HeldScope scope = Held IsSoundScope IsProperScope double_in_scope scope

none_held : HeldAttributes []
unfolding IsStrictlySortedBy
none_held = record { sound = record { rising = tt; values = All-nil (λ pair. IsSound pair.1) }; proper = All-nil IsProperPair; no_double = refl }

given_status : (s : Status) (o : Option Data) → HoldsOf InUtf8 o → Given IsJsonStatus (λ x. x ≡ no_status) s o → IsProperStatus s
given_status s o utf8 h = given_has IsJsonStatus no_status IsProperStatus (record { message = IsUtf8-nil })
    (λ x d u is. record { message = given_text x.message (member (codes "message") d) (member_sound (codes "message") d u) is.message }) s o utf8 h

-- a link that isn't dropped has what was read of it
made_link : (trace span : Option ℕ) (parts : LinkParts) → ProperTrace trace → IsProperParent span → IsUtf8 parts.state → HeldAttributes parts.attributes → parts.dropped < 2 ^ 32 → parts.flags < 2 ^ 32
    → HoldsOf (λ l. HeldLink l.means) (link_of trace span parts)
made_link None span parts its_trace its_span state attributes dropped flags = tt
made_link (Some trace) None parts its_trace its_span state attributes dropped flags = tt
made_link (Some trace) (Some span) parts its_trace its_span state attributes dropped flags = record {
  sound = attributes.sound;
  proper = record { trace = its_trace; span = its_span; state = state; attributes = attributes.proper; dropped = dropped; flags = flags };
  no_double = attributes.no_double;
}

kept_held : (links : List (Option (Noted Link Keys))) → All (HoldsOf (λ l. HeldLink l.means)) links → All HeldLink (map (λ l. l.means) (kept_links links))
kept_held [] all = All-nil HeldLink
kept_held (None ∷ links) all = kept_held links (All-tail (HoldsOf (λ l. HeldLink l.means)) None links all)
kept_held (Some link ∷ links) all =
    All-cons HeldLink link.means (map (λ l. l.means) (kept_links links)) (All-head (HoldsOf (λ l. HeldLink l.means)) (Some link) links all)
    (kept_held links (All-tail (HoldsOf (λ l. HeldLink l.means)) (Some link) links all))

-- what is held of an instrumentation scope, and of a resource
record HeldInstrumentation (i : Noted InstrumentationScope Keys) : Type 0 where
  name : IsUtf8 i.means.name
  version : IsUtf8 i.means.version
  attributes : HeldAttributes i.means.attributes
  dropped : i.means.dropped < 2 ^ 32

record HeldResource (r : Noted Resource Keys) : Type 0 where
  attributes : HeldAttributes r.means.attributes
  dropped : r.means.dropped < 2 ^ 32

module _ (L : ValueLaws) where
  event_held : (e : Noted Event Keys) (d : Data) → InUtf8 d → IsJsonEvent e d → HeldEvent e.means
  event_held e d utf8 is =
      let attributes = attributes_held L e.means.attributes e.notes _ (member_sound (codes "attributes") d utf8) is.attributes in
      record {
        sound = attributes.sound;
        proper = record {
          time = number_fits (2 ^ 64) e.means.time _ (omega arith) is.time;
          name = given_text e.means.name _ (member_sound (codes "name") d utf8) is.name;
          attributes = attributes.proper;
          dropped = number_fits (2 ^ 32) e.means.dropped _ (omega arith) is.dropped;
        };
        no_double = attributes.no_double;
      }

  link_held : (l : Option (Noted Link Keys)) (d : Data) → InUtf8 d → IsJsonLink l d → HoldsOf (λ k. HeldLink k.means) l
  link_held l d utf8 is = subst (HoldsOf (λ k. HeldLink k.means)) (sym is.link) (made_link is.trace is.span is.parts (trace_or_none is.trace _ is.trace_id) (span_or_none is.span _ is.span_id)
      (given_text is.parts.state _ (member_sound (codes "traceState") d utf8) is.state)
      (attributes_held L is.parts.attributes is.parts.keys _ (member_sound (codes "attributes") d utf8) is.attributes)
      (number_fits (2 ^ 32) is.parts.dropped _ (omega arith) is.dropped) (number_fits (2 ^ 32) is.parts.flags _ (omega arith) is.flags))

  -- ---- spans

  span_held : (s : Noted Span SpanNotes) (d : Data) → InUtf8 d → IsJsonSpan s d → HeldSpan s.means
  span_held s d utf8 is =
      let attributes = attributes_held L s.means.attributes s.notes.keys _ (member_sound (codes "attributes") d utf8) is.attributes in
      let each_event = each_has IsJsonEvent (λ e. e.means) HeldEvent event_held is.events _ (member_sound (codes "events") d utf8) is.each_event in
      let each_link = kept_held is.links (each_of IsJsonLink (HoldsOf (λ l. HeldLink l.means)) link_held is.links _ (member_sound (codes "links") d utf8) is.each_link) in
      let events = all_held IsSoundEvent IsProperEvent double_in_event s.means.events (subst (All HeldEvent) (sym is.its_events.kept) each_event) in
      let links = all_held IsSoundLink IsProperLink double_in_link s.means.links (subst (All HeldLink) (sym is.its_links.kept) each_link) in
      record {
        sound = record { attributes = attributes.sound; events = events.sound; links = links.sound };
        proper = record {
          trace = given_trace s.means.trace _ is.trace;
          id = given_id s.means.id _ is.id;
          state = given_text s.means.state _ (member_sound (codes "traceState") d utf8) is.state;
          parent = span_or_none s.means.parent _ is.parent;
          name = given_text s.means.name _ (member_sound (codes "name") d utf8) is.name;
          start = number_fits (2 ^ 64) s.means.start _ (omega arith) is.start;
          end = number_fits (2 ^ 64) s.means.end _ (omega arith) is.end;
          attributes = attributes.proper;
          dropped_attributes = number_fits (2 ^ 32) s.means.dropped_attributes _ (omega arith) is.dropped_attributes;
          events = events.proper;
          dropped_events = number_fits (2 ^ 32) s.means.dropped_events _ (omega arith) is.dropped_events;
          links = links.proper;
          dropped_links = number_fits (2 ^ 32) s.means.dropped_links _ (omega arith) is.dropped_links;
          status = given_status s.means.status _ (member_sound (codes "status") d utf8) is.status;
          flags = number_fits (2 ^ 32) s.means.flags _ (omega arith) is.flags;
        };
        no_double = or_from _ _ attributes.no_double (or_from _ _ events.no_double links.no_double);
      }

  -- ---- scopes

  instrumentation_held : (i : Noted InstrumentationScope Keys) (d : Data) → InUtf8 d → IsJsonInstrumentationScope i d → HeldInstrumentation i
  instrumentation_held i d utf8 is = record {
    name = given_text i.means.name _ (member_sound (codes "name") d utf8) is.name;
    version = given_text i.means.version _ (member_sound (codes "version") d utf8) is.version;
    attributes = attributes_held L i.means.attributes i.notes _ (member_sound (codes "attributes") d utf8) is.attributes;
    dropped = number_fits (2 ^ 32) i.means.dropped _ (omega arith) is.dropped;
  }

  no_instrumentation_held : HeldInstrumentation no_instrumentation_scope
  no_instrumentation_held = record { name = IsUtf8-nil; version = IsUtf8-nil; attributes = none_held; dropped = omega arith }

  scope_held : (s : Noted Scope ScopeNotes) (d : Data) → InUtf8 d → IsJsonScope s d → HeldScope s.means
  scope_held s d utf8 is =
      let gives = given_has IsJsonInstrumentationScope no_instrumentation_scope HeldInstrumentation no_instrumentation_held instrumentation_held is.instrumentation _ (member_sound (codes "scope") d utf8) is.its_instrumentation in
      let each_span = each_has IsJsonSpan (λ x. x.means) HeldSpan span_held is.spans _ (member_sound (codes "spans") d utf8) is.each_span in
      let spans = all_held IsSoundSpan IsProperSpan double_in_span (map (λ x. x.means) is.spans) each_span in
      subst HeldScope (sym is.scope.scope) (record {
        sound = record { attributes = gives.attributes.sound; spans = spans.sound };
        proper = record {
          name = gives.name;
          version = gives.version;
          attributes = gives.attributes.proper;
          dropped = gives.dropped;
          schema_url = given_text is.url _ (member_sound (codes "schemaUrl") d utf8) is.its_url;
          spans = spans.proper;
        };
        no_double = or_from _ _ gives.attributes.no_double spans.no_double;
      })

  -- ---- groups

  resource_held : (r : Noted Resource Keys) (d : Data) → InUtf8 d → IsJsonResource r d → HeldResource r
  resource_held r d utf8 is = record {
    attributes = attributes_held L r.means.attributes r.notes _ (member_sound (codes "attributes") d utf8) is.attributes;
    dropped = number_fits (2 ^ 32) r.means.dropped _ (omega arith) is.dropped;
  }

  group_held : (g : NotedGroup) (d : Data) → InUtf8 d → IsJsonGroup g d → IsHeldByJson g.means
  group_held g d utf8 is =
      let gives = given_has IsJsonResource no_resource HeldResource (record { attributes = none_held; dropped = omega arith }) resource_held is.resource _ (member_sound (codes "resource") d utf8) is.its_resource in
      let each_scope = each_has IsJsonScope (λ x. x.means) HeldScope scope_held is.scopes _ (member_sound (codes "scopeSpans") d utf8) is.each_scope in
      let scopes = all_held IsSoundScope IsProperScope double_in_scope (map (λ x. x.means) is.scopes) each_scope in
      subst IsHeldByJson (sym is.group.group) (record {
        sound = record { resource = gives.attributes.sound; scopes = scopes.sound };
        proper = record {
          resource = gives.attributes.proper;
          dropped = gives.dropped;
          schema_url = given_text is.url _ (member_sound (codes "schemaUrl") d utf8) is.its_url;
          scopes = scopes.proper;
        };
        no_fault = or_from _ _ gives.attributes.no_double scopes.no_double;
      })

  pub text_held : ReadsHeldGroups
  text_held groups bytes h =
      let utf8 = read_sound bytes h.value h.is_text.utf8 h.is_text.reading in
      each_of IsRemarkedGroup (λ (g : RemarkedGroup). IsHeldByJson g.0) (λ g d u is. group_held (record { means = g.0; notes = g.1 }) d u is) groups _
      (member_sound (codes "resourceSpans") h.value utf8) h.are_groups.each
