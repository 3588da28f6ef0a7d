-- What a JSON value stands for is sound, whatever its texts are: keys rise, and no value is too deep.
use Rattle.std.proofs.Common.{◌≡◌, ℕ, zero, suc, ◌+◌, ◌≤◌, List, [], ◌∷◌, map, All, Option, Some, None, Result, Ok, Err, codes, refl, sym, subst, arith, IfOk}
use Rattle.std.specs.List.{AllByRecursion}
use Rattle.std.specs.List.Sorted.{IsStrictlySortedBy}
use Rattle.std.proofs.lemmas.List.{map-id}
use Rattle.std.proofs.lemmas.List.Elements.{All-nil, All-cons, All-head, All-tail, All-weaker}
use Rattle.serde_json.specs.Data.{Data}
use Rattle.span_io.specs.Paths.{Given}
use Rattle.trace_model.specs.Attributes.{Rise, keys}
use Rattle.trace_model.specs.StatedLaws.{MembersOfValues}
use Rattle.trace_model.specs.declared.noted.Noted.{Noted}
use Rattle.trace_model.specs.Notes.{SpanNotes, ScopeNotes}
use Rattle.trace_model.specs.declared.noted.KeyValue.{KeyValue}
use Rattle.trace_model.specs.declared.noted.LinkParts.{LinkParts}
use Rattle.trace_model.specs.declared.noted.InstrumentationScope.{InstrumentationScope}
use Rattle.trace_model.specs.declared.noted.Resource.{Resource}
use Rattle.trace_model.specs.OtlpParts.{levels_below, NotedValue, leaf, entry, link_of, kept_links, no_instrumentation_scope, no_resource, NotedGroup}
use Rattle.trace_model.proofs.PartLaws.{Sound, kept_all, each_in_range}
use Rattle.trace_model.specs.Remarks.{Keys}
use Rattle.trace_model.specs.Soundness.{IsSoundEvent, IsSoundLink, IsSoundSpan, IsSoundScope, IsSoundGroup}
use Rattle.trace_model.specs.Values.{depth, MapsRise, IsSound, AreSound, most_levels}
use Rattle.trace_model.specs.declared.span.Event.{Event}
use Rattle.trace_model.specs.declared.span.Link.{Link}
use Rattle.trace_model.specs.declared.span.Span.{Span}
use Rattle.trace_model.specs.declared.group.Scope.{Scope}
use Rattle.trace_model.specs.declared.value.Value.{Value}
use Rattle.trace_model.specs.declared.value.Value.TheVariants as values
use Rattle.json_members.specs.Members.{member, elements, AreHeld}
use Rattle.json_members.proofs.Utf8Laws.{HoldsOf}
use Rattle.otlp_json.specs.Attributes.{AreJsonAttributes}
use Rattle.otlp_json.specs.Group.{IsJsonInstrumentationScope, IsJsonScope, IsJsonResource, IsJsonGroup, RemarkedGroup, IsRemarkedGroup, AreJsonGroups}
use Rattle.otlp_json.specs.Span.{IsJsonEvent, IsJsonLink, IsJsonSpan}
use Rattle.otlp_json.specs.Values.{JsonMember, string_member, bool_member, int_member, double_member, array_member, kvlist_member, bytes_member, standing_members, IsJsonList, IsJsonMap, MeansJsonMember, MeansStanding, IsJsonValue, IsJsonKeyValue, json_value_in, json_key_value_in, json_key_value_at}

-- ---- members that may be absent

given_is : {A : Type 0} (Means : A → Data → Type 0) (absent : A) (P : A → Type 0) → P absent → ((x : A) (d : Data) → Means x d → P x)
    → (x : A) (o : Option Data) → Given Means (λ y. y ≡ absent) x o → P x
given_is Means absent P none some x None h = subst P (sym h) none
given_is Means absent P none some x (Some d) h = some x d h

any_data : (ds : List Data) → AllByRecursion (λ (d : Data). Unit {0}) ds
any_data [] = tt
any_data (d ∷ ds) = (tt, any_data ds)

each_is : {A B : Type 0} (Means : A → Data → Type 0) (f : A → B) (P : B → Type 0) → ((x : A) (d : Data) → Means x d → P (f x))
    → (xs : List A) (o : Option Data) → Given (AreHeld Means) (λ ys. ys ≡ []) xs o → All P (map f xs)
each_is Means f P so xs None h = subst (λ ys. All P (map f ys)) (sym h) (All-nil P)
each_is Means f P so xs (Some d) h = each_in_range (λ e x. Means x e) f (λ e. Unit {0}) P (λ x e any is. so x e is) (elements h.held) xs (any_data (elements h.held)) h.means

-- ---- values

leaf_sound : (d : ℕ) (r : NotedValue) (v : Value) → depth v ≡ 1 → MapsRise v → r ≡ leaf v → Sound (d + 1) r.means
leaf_sound d r v one rises e = subst (λ (x : NotedValue). Sound (d + 1) x.means) (sym e) (record { shallow = omega (arith, one); rising = rises })

abbrev SoundPair : ℕ → List ℕ × Value → Type 0
SoundPair d pair = Sound d pair.1

module _ (L : MembersOfValues) where
  list_sound : (d : ℕ) (members : List Value) → All (Sound d) members → Sound (d + 1) (values.List members)
  list_sound d members all = record {
    shallow = (L.list_depth d members).1 (All-weaker (Sound d) (λ v. depth v ≤ d) (λ v s. s.shallow) members all);
    rising = (L.list_rises members).1 (All-weaker (Sound d) MapsRise (λ v s. s.rising) members all);
  }

  map_sound : (d : ℕ) (pairs : List (List ℕ × Value)) → Rise (keys pairs) → All (SoundPair d) pairs → Sound (d + 1) (values.Map pairs)
  map_sound d pairs rise all = record {
    shallow = (L.map_depth d pairs).1 (All-weaker (SoundPair d) (λ p. depth p.1 ≤ d) (λ p s. s.shallow) pairs all);
    rising = (L.map_rises pairs).1 (rise, All-weaker (SoundPair d) (λ p. MapsRise p.1) (λ p s. s.rising) pairs all);
  }

  module _ (d : ℕ) (IsValue : NotedValue → Data → Type 0) (IsPair : KeyValue → Data → Type 0)
      (values_sound : (r : NotedValue) (e : Data) → IsValue r e → Sound d r.means) (pairs_sound : (p : KeyValue) (e : Data) → IsPair p e → SoundPair d (entry p)) where
    list_member_sound : (r : NotedValue) (e : Data) → IsJsonList IsValue r e → Sound (d + 1) r.means
    list_member_sound r e is = subst (Sound (d + 1)) (sym is.make.value)
        (list_sound d (map (λ m. m.means) is.members) (each_is IsValue (λ m. m.means) (Sound d) values_sound is.members (member (codes "values") e) is.each))

    map_member_sound : (r : NotedValue) (e : Data) → IsJsonMap IsPair r e → Sound (d + 1) r.means
    map_member_sound r e is = subst (Sound (d + 1)) (sym is.make.value) (map_sound d is.make.attributes is.make.kept.rising (kept_all (SoundPair d) is.make.attributes (map entry is.pairs) is.make.kept
        (each_is IsPair entry (SoundPair d) pairs_sound is.pairs (member (codes "values") e) is.each)))

    one_sound : (m : JsonMember) (r : NotedValue) → MeansJsonMember IsValue IsPair m r → Sound (d + 1) r.means
    one_sound (string_member e) r h = leaf_sound d r (values.Text h.0) refl tt h.2
    one_sound (bool_member e) r h = leaf_sound d r (values.Truth h.0) refl tt h.2
    one_sound (int_member e) r h = leaf_sound d r (values.Number h.0) refl tt h.2
    one_sound (double_member e) r h = absurd h
    one_sound (array_member e) r h = list_member_sound r e h
    one_sound (kvlist_member e) r h = map_member_sound r e h
    one_sound (bytes_member e) r h = leaf_sound d r (values.Bytes h.0) refl tt h.2

    value_sound : (r : NotedValue) (e : Data) → IsJsonValue IsValue IsPair r e → Sound (d + 1) r.means
    value_sound r e is = of (standing_members e) is.value
      where
        of : (ms : List JsonMember) → MeansStanding IsValue IsPair ms r → Sound (d + 1) r.means
        of [] h = leaf_sound d r values.Nothing refl tt h
        of (m ∷ []) h = one_sound m r h
        of (m ∷ n ∷ ms) h = absurd h

    pair_sound : (p : KeyValue) (e : Data) → IsJsonKeyValue (λ r inner. IsJsonValue IsValue IsPair r inner) p e → SoundPair (d + 1) (entry p)
    pair_sound p e is = given_is (λ r inner. IsJsonValue IsValue IsPair r inner) (leaf values.Nothing) (λ (r : NotedValue). Sound (d + 1) r.means)
        (leaf_sound d (leaf values.Nothing) values.Nothing refl tt refl) value_sound p.value (member (codes "value") e) is.value

  -- the levels as they are counted
  counted : (left : ℕ) (v : Value) → Sound (left + 1) v → Sound (suc left) v
  counted left v h = record { shallow = omega (arith, h.shallow); rising = h.rising }

  mutual
    unfolding json_value_in json_key_value_in

    value_in_sound : (left : ℕ) (r : NotedValue) (e : Data) → json_value_in left r e → Sound left r.means
    value_in_sound zero r e is = absurd is
    value_in_sound (suc left) r e is =
        counted left r.means (value_sound left (json_value_in left) (json_key_value_in left) (value_in_sound left) (pair_in_sound left) r e is)

    pair_in_sound : (left : ℕ) (p : KeyValue) (e : Data) → json_key_value_in left p e → SoundPair left (entry p)
    pair_in_sound zero p e is = absurd is
    pair_in_sound (suc left) p e is =
        counted left p.value.means (pair_sound left (json_value_in left) (json_key_value_in left) (value_in_sound left) (pair_in_sound left) p e is)

  -- ---- attributes

  attribute_sound : (p : KeyValue) (e : Data) → json_key_value_at levels_below p e → SoundPair most_levels (entry p)
  attribute_sound p e is = pair_sound levels_below (json_value_in levels_below) (json_key_value_in levels_below) (value_in_sound levels_below) (pair_in_sound levels_below) p e is

  attributes_sound : (attributes : List (List ℕ × Value)) (noted : Keys) (o : Option Data) → AreJsonAttributes attributes noted o → AreSound attributes
  attributes_sound attributes noted o is =
      let all = kept_all (SoundPair most_levels) attributes (map entry is.pairs) is.make.kept (each_is (json_key_value_at levels_below) entry (SoundPair most_levels) attribute_sound is.pairs o is.each) in
      record {
        rising = is.make.kept.rising;
        values = All-weaker (SoundPair most_levels) (λ p. IsSound p.1) (λ p s. record { shallow = s.shallow; rising = s.rising }) attributes all;
      }

none_sound : AreSound []
unfolding IsStrictlySortedBy
none_sound = record { rising = tt; values = All-nil (λ pair. IsSound pair.1) }

-- ---- parts of spans

-- a link that isn't dropped has what was read of it
made_link : (trace span : Option ℕ) (parts : LinkParts) → AreSound parts.attributes → HoldsOf (λ l. IsSoundLink l.means) (link_of trace span parts)
made_link None span parts attributes = tt
made_link (Some trace) None parts attributes = tt
made_link (Some trace) (Some span) parts attributes = attributes

kept_sound : (links : List (Option (Noted Link Keys))) → All (HoldsOf (λ l. IsSoundLink l.means)) links → All IsSoundLink (map (λ l. l.means) (kept_links links))
kept_sound [] all = All-nil IsSoundLink
kept_sound (None ∷ links) all = kept_sound links (All-tail (HoldsOf (λ l. IsSoundLink l.means)) None links all)
kept_sound (Some link ∷ links) all =
    All-cons IsSoundLink link.means (map (λ l. l.means) (kept_links links)) (All-head (HoldsOf (λ l. IsSoundLink l.means)) (Some link) links all)
    (kept_sound links (All-tail (HoldsOf (λ l. IsSoundLink l.means)) (Some link) links all))

each_of : {A : Type 0} (Means : A → Data → Type 0) (P : A → Type 0) → ((x : A) (d : Data) → Means x d → P x)
    → (xs : List A) (o : Option Data) → Given (AreHeld Means) (λ ys. ys ≡ []) xs o → All P xs
each_of {A} Means P so xs o h = subst (All P) (map-id xs) (each_is Means (λ (x : A). x) P so xs o h)

module _ (L : MembersOfValues) where
  event_sound : (e : Noted Event Keys) (d : Data) → IsJsonEvent e d → IsSoundEvent e.means
  event_sound e d is = attributes_sound L e.means.attributes e.notes _ is.attributes

  link_sound : (l : Option (Noted Link Keys)) (d : Data) → IsJsonLink l d → HoldsOf (λ k. IsSoundLink k.means) l
  link_sound l d is = subst (HoldsOf (λ k. IsSoundLink k.means)) (sym is.link)
      (made_link is.trace is.span is.parts (attributes_sound L is.parts.attributes is.parts.keys _ is.attributes))

  span_sound : (s : Noted Span SpanNotes) (d : Data) → IsJsonSpan s d → IsSoundSpan s.means
  span_sound s d is = record {
    attributes = attributes_sound L s.means.attributes s.notes.keys _ is.attributes;
    events = subst (All IsSoundEvent) (sym is.its_events.kept) (each_is IsJsonEvent (λ e. e.means) IsSoundEvent event_sound is.events _ is.each_event);
    links = subst (All IsSoundLink) (sym is.its_links.kept) (kept_sound is.links (each_of IsJsonLink (HoldsOf (λ l. IsSoundLink l.means)) link_sound is.links _ is.each_link));
  }

  -- ---- scopes and groups

  instrumentation_sound : (i : Noted InstrumentationScope Keys) (d : Data) → IsJsonInstrumentationScope i d → AreSound i.means.attributes
  instrumentation_sound i d is = attributes_sound L i.means.attributes i.notes _ is.attributes

  scope_sound : (s : Noted Scope ScopeNotes) (d : Data) → IsJsonScope s d → IsSoundScope s.means
  scope_sound s d is = subst IsSoundScope (sym is.scope.scope) (record {
    attributes = given_is IsJsonInstrumentationScope no_instrumentation_scope (λ (i : Noted InstrumentationScope Keys). AreSound i.means.attributes) none_sound instrumentation_sound is.instrumentation _ is.its_instrumentation;
    spans = each_is IsJsonSpan (λ x. x.means) IsSoundSpan span_sound is.spans _ is.each_span;
  })

  resource_sound : (r : Noted Resource Keys) (d : Data) → IsJsonResource r d → AreSound r.means.attributes
  resource_sound r d is = attributes_sound L r.means.attributes r.notes _ is.attributes

  group_sound : (g : NotedGroup) (d : Data) → IsJsonGroup g d → IsSoundGroup g.means
  group_sound g d is = subst IsSoundGroup (sym is.group.group) (record {
    resource = given_is IsJsonResource no_resource (λ (r : Noted Resource Keys). AreSound r.means.attributes) none_sound resource_sound is.resource _ is.its_resource;
    scopes = each_is IsJsonScope (λ x. x.means) IsSoundScope scope_sound is.scopes _ is.each_scope;
  })

  pub groups_sound : {E : Type 0} (d : Data) (answer : Result (List RemarkedGroup) E) → IfOk answer (λ groups. AreJsonGroups groups d) → IfOk answer (All (λ g. IsSoundGroup g.0))
  groups_sound d (Ok groups) is = each_of IsRemarkedGroup (λ (g : RemarkedGroup). IsSoundGroup g.0) (λ g e h. group_sound (record { means = g.0; notes = g.1 }) e h) groups _ is.each
  groups_sound d (Err error) is = tt
