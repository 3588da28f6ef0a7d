-- What is read of messages is sound.
use Rattle.std.proofs.Common.{◌≡◌, ℕ, List, [], ◌∷◌, map, All, Option, Some, None, sym, ap, subst}
use Rattle.std.specs.List.Sorted.{IsStrictlySortedBy}
use Rattle.std.proofs.lemmas.List.Elements.{All-nil, All-cons}
use Rattle.std.specs.List.{AllZip}
use Rattle.span_io.specs.Tables.{Singular}
use Rattle.trace_model.specs.Soundness.{IsSoundEvent, IsSoundLink, IsSoundSpan, IsSoundScope, IsSoundGroup}
use Rattle.trace_model.specs.Values.{IsSound, AreSound}
use Rattle.trace_model.specs.declared.remark.Remark.{Remark}
use Rattle.trace_model.specs.declared.span.Event.{Event}
use Rattle.trace_model.specs.declared.span.Link.{Link}
use Rattle.trace_model.specs.declared.span.Span.{Span}
use Rattle.trace_model.specs.declared.group.Scope.{Scope}
use Rattle.trace_model.specs.declared.group.Group.{Group}
use Rattle.trace_model.specs.declared.value.Value.{Value}
use Rattle.otlp_proto.specs.Attributes.{AttributesOf}
use Rattle.otlp_proto.specs.Event.{IsEvent}
use Rattle.otlp_proto.specs.Group.{IsResource, IsGroupText}
use Rattle.otlp_proto.specs.Link.{IsLink}
use Rattle.trace_model.specs.Remarks.{Keys}
use Rattle.otlp_proto.specs.Rows.{bytes_of, MeansMessage}
use Rattle.otlp_proto.specs.Scope.{IsInstrumentationScope, IsScope}
use Rattle.otlp_proto.specs.Span.{IsSpan}
use Rattle.trace_model.specs.declared.noted.Noted.{Noted}
use Rattle.trace_model.specs.Notes.{SpanNotes, ScopeNotes}
use Rattle.trace_model.specs.declared.noted.Resource.{Resource}
use Rattle.trace_model.specs.declared.noted.LinkParts.{LinkParts}
use Rattle.trace_model.specs.declared.noted.InstrumentationScope.{InstrumentationScope}
use Rattle.trace_model.specs.OtlpParts.{no_resource, link_of, no_instrumentation_scope, kept_links}
use Rattle.otlp_proto.proofs.SoundLemmas.{each_all}

-- the value of a singular row has what its default and each that is meant have
singular_has : {A B : Type 0} (Means : A → B → Type 0) (absent : B) (P : B → Type 0) → P absent → ((x : A) (b : B) → Means x b → P b) → (xs : List A) (b : B) → Singular Means (λ x. x ≡ absent) xs b → P b
singular_has Means absent P none some [] b h = subst P (sym h) none
singular_has Means absent P none some (x ∷ []) b h = some x b h
singular_has Means absent P none some (x ∷ other ∷ more) b h = absurd h

-- a link that isn't dropped has the attributes that were read
link_has : (P : List (List ℕ × Value) → Type 0) (trace span : Option ℕ) (parts : LinkParts) (link : Noted Link Keys) → P parts.attributes → Some link ≡ link_of trace span parts → P link.means.attributes
link_has P None span parts link has e = absurd (cc)
link_has P (Some trace) None parts link has e = absurd (cc)
link_has P (Some trace) (Some span) parts link has e = subst (λ (l : List (List ℕ × Value)). P l) (same_link _ _ (sym e)) has
  where
    same_link : (one other : Noted Link Keys) → Some one ≡ Some other → one.means.attributes ≡ other.means.attributes
    same_link one other e = let same : one ≡ other = cc in ap (λ (l : Noted Link Keys). l.means.attributes) same

none_sound : AreSound []
unfolding IsStrictlySortedBy
none_sound = record { rising = tt; values = All-nil (λ pair. IsSound pair.1) }

module _ (attributes_sound : (texts : List (List ℕ)) (attributes : List (List ℕ × Value)) (keys : Keys) → AttributesOf texts attributes keys → AreSound attributes) where
  event_sound : (e : Noted Event Keys) (text : List ℕ) → MeansMessage IsEvent text e → IsSoundEvent e.means
  event_sound e text is = attributes_sound (bytes_of 3 is.items) e.means.attributes e.notes is.is.attributes

  links_sound : (texts : List (List ℕ)) (links : List (Option (Noted Link Keys))) → AllZip (MeansMessage IsLink) texts links → All IsSoundLink (map (λ l. l.means) (kept_links links))
  links_sound [] [] each = All-nil IsSoundLink
  links_sound [] (l ∷ links) each = absurd each
  links_sound (text ∷ texts) [] each = absurd each
  links_sound (text ∷ texts) (None ∷ links) each = links_sound texts links each.1
  links_sound (text ∷ texts) (Some link ∷ links) each =
      let is = each.0.is in
      All-cons IsSoundLink link.means (map (λ l. l.means) (kept_links links)) (link_has AreSound is.trace is.span is.parts link (attributes_sound (bytes_of 4 each.0.items) is.parts.attributes is.parts.keys is.attributes) is.link)
      (links_sound texts links each.1)

  span_sound : (s : Noted Span SpanNotes) (text : List ℕ) → MeansMessage IsSpan text s → IsSoundSpan s.means
  span_sound s text h =
      let is = h.is in
      record {
        attributes = attributes_sound (bytes_of 9 h.items) s.means.attributes s.notes.keys is.attributes;
        events = subst (λ (l : List Event). All IsSoundEvent l) (sym is.its_events.kept) (each_all (MeansMessage IsEvent) (λ e. e.means) IsSoundEvent (λ e held one. event_sound e held one) (bytes_of 11 h.items) is.events is.each_event);
        links = subst (λ (l : List Link). All IsSoundLink l) (sym is.its_links.kept) (links_sound (bytes_of 13 h.items) is.links is.each_link);
      }

  instrumentation_scope_sound : (o : Noted InstrumentationScope Keys) (text : List ℕ) → MeansMessage IsInstrumentationScope text o → AreSound o.means.attributes
  instrumentation_scope_sound o text is = attributes_sound (bytes_of 3 is.items) o.means.attributes o.notes is.is.attributes

  scope_sound : (s : Noted Scope ScopeNotes) (text : List ℕ) → MeansMessage IsScope text s → IsSoundScope s.means
  scope_sound s text h =
      let is = h.is in
      subst (λ (x : Scope). IsSoundScope x) (sym is.scope.scope) (record {
        attributes = singular_has (MeansMessage IsInstrumentationScope) no_instrumentation_scope (λ o. AreSound o.means.attributes) none_sound (λ held o one. instrumentation_scope_sound o held one) (bytes_of 1 h.items) is.instrumentation is.its_instrumentation;
        spans = each_all (MeansMessage IsSpan) (λ s. s.means) IsSoundSpan (λ s held one. span_sound s held one) (bytes_of 2 h.items) is.spans is.each_span;
      })

  resource_sound : (r : Noted Resource Keys) (text : List ℕ) → MeansMessage IsResource text r → AreSound r.means.attributes
  resource_sound r text is = attributes_sound (bytes_of 1 is.items) r.means.attributes r.notes is.is.attributes

  pub group_sound : (g : Group) (remarks : List Remark) (text : List ℕ) → IsGroupText g remarks text → IsSoundGroup g
  group_sound g remarks text h =
      let is = h.is in
      subst (λ (x : Group). IsSoundGroup x) (sym is.group.group) (record {
        resource = singular_has (MeansMessage IsResource) no_resource (λ r. AreSound r.means.attributes) none_sound (λ held r one. resource_sound r held one) (bytes_of 1 h.items) is.resource is.its_resource;
        scopes = each_all (MeansMessage IsScope) (λ s. s.means) IsSoundScope (λ s held one. scope_sound s held one) (bytes_of 2 h.items) is.scopes is.each_scope;
      })
