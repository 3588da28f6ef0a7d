-- A loss is told of a group exactly where the condition of its row holds at its place, part by part.
use Rattle.std.proofs.Common.{◌≡◌, ℕ, ◌+◌, ◌%◌, Bool, true, false, not, cond, List, [], ◌∷◌, ◌++◌, length, map, All, Contains, Option, Some, None, is_some, refl, sym, ap, ◌∙◌, subst, true≢false, inl, inr, arith}
use Rattle.std.specs.Prelude.{◌↔◌, ◌≢◌, ◌⊎◌, ◌&&◌, if◌then◌else◌, slice_get}
use Rattle.std.specs.Str.{bytes_eq}
use Rattle.std.proofs.lemmas.List.{append-nil}
use Rattle.std.proofs.lemmas.List.Elements.{All-weaker}
use Rattle.span_ids.specs.Times.{floor}
use Rattle.trace_model.specs.Attributes.{Rise, keys, at}
use Rattle.trace_model.specs.Soundness.{IsSoundEvent, IsSoundLink, IsSoundSpan, IsSoundScope, IsSoundGroup}
use Rattle.trace_model.specs.ValueTexts.{value_text}
use Rattle.trace_model.specs.declared.loss.Loss.{Loss}
use Rattle.trace_model.specs.declared.loss.LossRow.{LossRow}
use Rattle.trace_model.specs.declared.loss.LossRow.TheVariants as rows
use Rattle.trace_model.specs.declared.place.Place.{Place}
use Rattle.trace_model.specs.declared.place.Place.TheVariants as places
use Rattle.trace_model.specs.declared.span.Code.{Code}
use Rattle.trace_model.specs.declared.span.Code.TheVariants as statuses
use Rattle.trace_model.specs.declared.span.Event.{Event}
use Rattle.trace_model.specs.declared.span.Kind.{Kind}
use Rattle.trace_model.specs.declared.span.Kind.TheVariants as kinds
use Rattle.trace_model.specs.declared.span.Link.{Link}
use Rattle.trace_model.specs.declared.span.Span.{Span}
use Rattle.trace_model.specs.declared.group.Group.{Group}
use Rattle.trace_model.specs.declared.group.Scope.{Scope}
use Rattle.trace_model.specs.declared.value.Value.{Value}
use Rattle.span_tags.specs.LossMeanings.{StaysOther, Goes, OfResource, OfSpan, OfEvent, OfLink, InPlace, IsLinkLoss, spans_in, Begins}
use Rattle.span_tags.specs.Losses.{is_empty, is_text, is_unspecified, differ, lost, lost_key, lost_keys, losses_of, joins, scopes_losses}
use Rattle.span_tags.specs.Runs.{scoped, runs}
use Rattle.span_tags.specs.TagKeys.{service_key}
use Rattle.span_tags.specs.TagWords.{text_given}
use Rattle.span_tags.proofs.AttributeLaws.{same_key, key_itself}
use Rattle.span_tags.proofs.BeginLaws.{joins_meant, runs_spans}
use Rattle.span_tags.proofs.MeaningLaws.{Told, ToldAt, told_not, told_parts, told_both, told_as, IsRow, told_row, IsOne, told_one, told_differ, told_given, Becomes, told_other, becomes, told_made, made_stays, text_goes, text_becomes, Among, told_list, member_of, among_member, in_place_of, placed_of, told_scopes, number_map, scope_same, AmongScopes, IsScope, scope_of, among_scope, names_after}
use Rattle.span_tags.proofs.QuietLaws.{given_not}
use Rattle.map_jaeger.specs.LossMeaning.{MeansLoss}
use Rattle.map_jaeger.specs.Losses.{is_told_as_text, becomes_text, event_losses, are_kept, link_losses, message_goes, own_losses, span_losses, service_goes, changes, resource_losses, group_losses}
use Rattle.map_jaeger.specs.Normal.{normal_status, normal_event, normal_link, normal_span, normal_scoped, normal_resource, normal_group}
use Rattle.map_jaeger.specs.StatedLaws.{LossesMean}
use Rattle.map_jaeger.specs.TagValues.{normal_value}
use Rattle.map_jaeger.proofs.NoneLost.{value_stays, marks_stay, kept_at, at_normal}

-- ---- events

abbrev EventLoss : ℕ → ℕ → Event → Loss → Type 0
EventLoss span n event loss = (loss.place ≡ places.Event span n) × OfEvent loss.row loss.key event (normal_event event)

module _ (span n : ℕ) (event : Event) where
  abbrev EventRows : LossRow → List ℕ → Type 0
  EventRows row key =
      ((row ≡ rows.Value) × StaysOther key event.attributes (normal_event event).attributes)
      ⊎ (IsOne rows.DroppedCount (event.dropped ≢ 0) row key
      ⊎ IsOne rows.Time (event.time ≢ (normal_event event).time) row key)

  event_rows : (row : LossRow) (key : List ℕ) → EventRows row key → OfEvent row key event (normal_event event)
  event_rows row key (inl its) = subst (λ r. OfEvent r key event (normal_event event)) (sym its.0) its.1
  event_rows row key (inr (inl its)) = subst (λ r. OfEvent r key event (normal_event event)) (sym its.row) (its.key, its.holds)
  event_rows row key (inr (inr its)) = subst (λ r. OfEvent r key event (normal_event event)) (sym its.row) (its.key, its.holds)

  rows_event : (row : LossRow) (key : List ℕ) → OfEvent row key event (normal_event event) → EventRows row key
  rows_event rows.Value key its = inl (refl, its)
  rows_event rows.DroppedCount key its = inr (inl (record { row = refl; key = its.0; holds = its.1 }))
  rows_event rows.Time key its = inr (inr (record { row = refl; key = its.0; holds = its.1 }))
  rows_event other key its = absurd its

  event_told : IsSoundEvent event → Told (event_losses span n event) (EventLoss span n event)
  event_told sound =
      let place = places.Event span n in
      let rest = told_both place (lost place rows.DroppedCount (differ event.dropped 0)) (lost place rows.Time (differ event.time (floor event.time)))
      (told_differ place rows.DroppedCount event.dropped 0) (told_differ place rows.Time event.time (floor event.time)) in
      (told_as place (event_losses span n event)
      (told_both place (lost_keys place rows.Value becomes_text event.attributes) _
      (told_made place rows.Value normal_value becomes_text event.attributes (λ pair. value_stays pair.1) sound.rising) rest)
      (λ row key. (event_rows row key, rows_event row key))).at

-- ---- links

abbrev LinkLoss : ℕ → ℕ → Link → Loss → Type 0
LinkLoss span n link loss = (loss.place ≡ places.Link span n) × OfLink loss.row loss.key link (Some (normal_link link))

module _ (span n : ℕ) (link : Link) where
  abbrev LinkRows : LossRow → List ℕ → Type 0
  LinkRows row key =
      IsOne rows.DroppedCount (link.dropped ≢ 0) row key
      ⊎ (IsOne rows.Attributes (link.attributes ≢ (normal_link link).attributes) row key
      ⊎ (IsOne rows.Flags (link.flags ≢ 0) row key
      ⊎ IsOne rows.State (link.state ≢ []) row key))

  link_rows : (row : LossRow) (key : List ℕ) → LinkRows row key → OfLink row key link (Some (normal_link link))
  link_rows row key (inl its) = subst (λ r. OfLink r key link (Some (normal_link link))) (sym its.row) (its.key, its.holds)
  link_rows row key (inr (inl its)) = subst (λ r. OfLink r key link (Some (normal_link link))) (sym its.row) (its.key, its.holds)
  link_rows row key (inr (inr (inl its))) = subst (λ r. OfLink r key link (Some (normal_link link))) (sym its.row) (its.key, its.holds)
  link_rows row key (inr (inr (inr its))) = subst (λ r. OfLink r key link (Some (normal_link link))) (sym its.row) (its.key, its.holds)

  rows_link : (row : LossRow) (key : List ℕ) → OfLink row key link (Some (normal_link link)) → LinkRows row key
  rows_link rows.DroppedCount key its = inl (record { row = refl; key = its.0; holds = its.1 })
  rows_link rows.Attributes key its = inr (inl (record { row = refl; key = its.0; holds = its.1 }))
  rows_link rows.Flags key its = inr (inr (inl (record { row = refl; key = its.0; holds = its.1 })))
  rows_link rows.State key its = inr (inr (inr (record { row = refl; key = its.0; holds = its.1 })))
  rows_link other key its = absurd its

  link_told : Told (link_losses span n link) (LinkLoss span n link)
  link_told =
      let place = places.Link span n in
      let kept = marks_stay link.attributes in
      let rest_2 = told_both place (lost place rows.Flags (differ link.flags 0)) (lost place rows.State (not (is_empty link.state)))
      (told_differ place rows.Flags link.flags 0) (told_given place rows.State link.state) in
      let marks : ToldAt place (lost place rows.Attributes (not (are_kept link.attributes))) (IsOne rows.Attributes (link.attributes ≢ (normal_link link).attributes)) =
      told_one place rows.Attributes (not (are_kept link.attributes))
      (told_not (not (are_kept link.attributes)) (λ e. sym (kept.0 e), λ same. kept.1 (sym same))) in
      let rest_1 = told_both place (lost place rows.Attributes (not (are_kept link.attributes))) _ marks rest_2 in
      (told_as place (link_losses span n link)
      (told_both place (lost place rows.DroppedCount (differ link.dropped 0)) _ (told_differ place rows.DroppedCount link.dropped 0) rest_1)
      (λ row key. (link_rows row key, rows_link row key))).at

-- ---- spans

kind_told : (kind : Kind) → (is_unspecified kind ≡ true) ↔ (kind ≡ kinds.Unspecified)
kind_told kinds.Unspecified = (λ e. refl, λ e. refl)
kind_told other = (λ e. absurd (true≢false (sym e)), λ same. absurd (true≢false (sym (ap is_unspecified same))))

message_told : (code : Code) (message : List ℕ)
    → (message_goes code message ≡ true) ↔ ((message ≢ []) × ((normal_status (record { code = code; message = message })).message ≡ []))
message_told statuses.Unset message =
    let given = told_not (not (is_empty message)) (given_not message) in (λ e. (given.0 e, refl), λ holds. given.1 holds.0)
message_told statuses.Okay message = (λ e. absurd (true≢false (sym e)), λ holds. absurd (holds.0 holds.1))
message_told statuses.Fail message = (λ e. absurd (true≢false (sym e)), λ holds. absurd (holds.0 holds.1))

module _ (n : ℕ) (span : Span) where
  abbrev SpanRows : LossRow → List ℕ → Type 0
  SpanRows row key =
      ((row ≡ rows.Value) × StaysOther key span.attributes (normal_span span).attributes)
      ⊎ (IsOne rows.Start (span.start ≢ (normal_span span).start) row key
      ⊎ (IsOne rows.End (span.end ≢ (normal_span span).end) row key
      ⊎ (IsOne rows.Kind (span.kind ≡ kinds.Unspecified) row key
      ⊎ (IsOne rows.Message ((span.status.message ≢ []) × ((normal_span span).status.message ≡ [])) row key
      ⊎ IsOne rows.Flags (span.flags ≢ (normal_span span).flags) row key))))

  span_rows : (row : LossRow) (key : List ℕ) → SpanRows row key → OfSpan row key span (normal_span span)
  span_rows row key (inl its) = subst (λ r. OfSpan r key span (normal_span span)) (sym its.0) its.1
  span_rows row key (inr (inl its)) = subst (λ r. OfSpan r key span (normal_span span)) (sym its.row) (its.key, its.holds)
  span_rows row key (inr (inr (inl its))) = subst (λ r. OfSpan r key span (normal_span span)) (sym its.row) (its.key, its.holds)
  span_rows row key (inr (inr (inr (inl its)))) = subst (λ r. OfSpan r key span (normal_span span)) (sym its.row) (its.key, its.holds)
  span_rows row key (inr (inr (inr (inr (inl its))))) = subst (λ r. OfSpan r key span (normal_span span)) (sym its.row) (its.key, its.holds)
  span_rows row key (inr (inr (inr (inr (inr its))))) = subst (λ r. OfSpan r key span (normal_span span)) (sym its.row) (its.key, its.holds)

  rows_span : (row : LossRow) (key : List ℕ) → OfSpan row key span (normal_span span) → SpanRows row key
  rows_span rows.Value key its = inl (refl, its)
  rows_span rows.Empty key its = absurd (made_stays normal_value key span.attributes its)
  rows_span rows.Start key its = inr (inl (record { row = refl; key = its.0; holds = its.1 }))
  rows_span rows.End key its = inr (inr (inl (record { row = refl; key = its.0; holds = its.1 })))
  rows_span rows.Kind key its = inr (inr (inr (inl (record { row = refl; key = its.0; holds = its.1 }))))
  rows_span rows.Message key its = inr (inr (inr (inr (inl (record { row = refl; key = its.0; holds = its.1 })))))
  rows_span rows.Flags key its = inr (inr (inr (inr (inr (record { row = refl; key = its.0; holds = its.1 })))))
  rows_span other key its = absurd its

  own_told : IsSoundSpan span → ToldAt (places.Span n) (own_losses n span) (λ row key. OfSpan row key span (normal_span span))
  own_told sound =
      let place = places.Span n in
      let goes = message_goes span.status.code span.status.message in
      let rest_4 = told_both place (lost place rows.Message goes) (lost place rows.Flags (differ span.flags (span.flags % 2)))
      (told_one place rows.Message goes (message_told span.status.code span.status.message)) (told_differ place rows.Flags span.flags (span.flags % 2)) in
      let rest_3 = told_both place (lost place rows.Kind (is_unspecified span.kind)) _ (told_one place rows.Kind (is_unspecified span.kind) (kind_told span.kind)) rest_4 in
      let rest_2 = told_both place (lost place rows.End (differ span.end (floor span.end))) _ (told_differ place rows.End span.end (floor span.end)) rest_3 in
      let rest_1 = told_both place (lost place rows.Start (differ span.start (floor span.start))) _ (told_differ place rows.Start span.start (floor span.start)) rest_2 in
      told_as place (own_losses n span)
      (told_both place (lost_keys place rows.Value becomes_text span.attributes) _
      (told_made place rows.Value normal_value becomes_text span.attributes (λ pair. value_stays pair.1) sound.attributes.rising) rest_1)
      (λ row key. (span_rows row key, rows_span row key))

abbrev OwnLoss : ℕ → Span → Loss → Type 0
OwnLoss n span loss = (loss.place ≡ places.Span n) × OfSpan loss.row loss.key span (normal_span span)

-- of a span, its events and its links
abbrev SpanLoss : ℕ → Span → Loss → Type 0
SpanLoss n span loss = OwnLoss n span loss ⊎ (Among (EventLoss n) 1 span.events loss ⊎ Among (LinkLoss n) 1 span.links loss)

span_told : (n : ℕ) (span : Span) → IsSoundSpan span → Told (span_losses n span) (SpanLoss n span)
span_told n span sound = told_parts (own_losses n span) _ (own_told n span sound).at
    (told_parts (losses_of (event_losses n) 1 span.events) (losses_of (link_losses n) 1 span.links)
    (told_list (event_losses n) (EventLoss n) IsSoundEvent (event_told n) 1 span.events sound.events)
    (told_list (link_losses n) (LinkLoss n) IsSoundLink (λ l link its. link_told n l link) 1 span.links sound.links))

-- ---- the resource

module _ (group : Group) (up : Rise (keys group.resource)) where
  abbrev resource : List (List ℕ × Value)
  resource = group.resource

  abbrev normal : List (List ℕ × Value)
  normal = normal_resource group.resource

  abbrev gone : Bool
  gone = service_goes (at service_key group.resource)

  service_at : (key : List ℕ) (value : Value) → at key resource ≡ Some value → bytes_eq service_key key ≡ true → is_empty (value_text value) ≡ gone
  service_at key value found same = ap service_goes (sym found ∙ ap (λ (k : List ℕ). at k resource) (sym (same_key service_key key same)))

  value_changes : (key : List ℕ) (value : Value) → at key resource ≡ Some value → (changes gone (key, value) ≡ true) ↔ Becomes value (at key normal)
  value_changes key value found =
      subst (λ (made : Option Value). (changes gone (key, value) ≡ true) ↔ Becomes value made)
      (sym (at_normal resource up key ∙ ap (λ (o : Option Value). kept_at resource up key o) found))
      (by (bytes_eq service_key key) refl)
    where
      by : (b : Bool) → bytes_eq service_key key ≡ b
          → ((if b then not gone && not (is_text value) else is_told_as_text value) ≡ true) ↔ Becomes value (cond b (text_given (value_text value)) (Some (normal_value value)))
      by true same = text_becomes value gone (service_at key value found same)
      by false apart = becomes normal_value value (Some (normal_value value)) (is_told_as_text value) refl (value_stays value)

  service_gone : (key : List ℕ) → key ≡ service_key → gone ≡ true → Goes key resource normal
  service_gone key is told = by (at service_key resource) refl
    where
      by : (o : Option Value) → at service_key resource ≡ o → Goes key resource normal
      by None found = absurd (true≢false (sym told ∙ ap service_goes found))
      by (Some value) found =
          let stood : at key resource ≡ Some value = ap (λ (k : List ℕ). at k resource) is ∙ found in
          let same : bytes_eq service_key key ≡ true = ap (bytes_eq service_key) is ∙ key_itself service_key in
          record {
            value = value;
            stood = stood;
            gone = at_normal resource up key ∙ ap (λ (o : Option Value). kept_at resource up key o) stood
                ∙ ap (λ (b : Bool). cond b (text_given (value_text value)) (Some (normal_value value))) same
                ∙ (text_goes (value_text value)).0 (service_at key value stood same ∙ told);
          }

  gone_service : (key : List ℕ) → Goes key resource normal → (key ≡ service_key) × (gone ≡ true)
  gone_service key goes = by (bytes_eq service_key key) refl
      (sym (at_normal resource up key ∙ ap (λ (o : Option Value). kept_at resource up key o) goes.stood) ∙ goes.gone)
    where
      by : (b : Bool) → bytes_eq service_key key ≡ b → cond b (text_given (value_text goes.value)) (Some (normal_value goes.value)) ≡ None
          → (key ≡ service_key) × (gone ≡ true)
      by true same none = (sym (same_key service_key key same), sym (service_at key goes.value goes.stood same) ∙ (text_goes (value_text goes.value)).1 none)
      by false apart none = absurd (true≢false (ap is_some none))

  abbrev ResourceRows : LossRow → List ℕ → Type 0
  ResourceRows row key =
      ((row ≡ rows.Value) × StaysOther key resource normal)
      ⊎ (IsOne rows.DroppedCount (group.dropped ≢ 0) row key
      ⊎ (IsOne rows.SchemaUrl (group.schema_url ≢ []) row key
      ⊎ IsRow rows.Empty service_key gone row key))

  resource_rows : (row : LossRow) (key : List ℕ) → ResourceRows row key → OfResource group normal row key
  resource_rows row key (inl its) = subst (λ r. OfResource group normal r key) (sym its.0) its.1
  resource_rows row key (inr (inl its)) = subst (λ r. OfResource group normal r key) (sym its.row) (its.key, its.holds)
  resource_rows row key (inr (inr (inl its))) = subst (λ r. OfResource group normal r key) (sym its.row) (its.key, its.holds)
  resource_rows row key (inr (inr (inr its))) = subst (λ r. OfResource group normal r key) (sym its.row) (service_gone key its.key its.told)

  rows_resource : (row : LossRow) (key : List ℕ) → OfResource group normal row key → ResourceRows row key
  rows_resource rows.Value key its = inl (refl, its)
  rows_resource rows.DroppedCount key its = inr (inl (record { row = refl; key = its.0; holds = its.1 }))
  rows_resource rows.SchemaUrl key its = inr (inr (inl (record { row = refl; key = its.0; holds = its.1 })))
  rows_resource rows.Empty key its =
      let is = gone_service key its in inr (inr (inr (record { row = refl; key = is.0; told = is.1 })))
  rows_resource other key its = absurd its

  resource_told : ToldAt places.Resource (resource_losses group) (OfResource group normal)
  resource_told =
      let place = places.Resource in
      let rest_2 = told_both place (lost place rows.SchemaUrl (not (is_empty group.schema_url))) (lost_key place rows.Empty service_key gone)
      (told_given place rows.SchemaUrl group.schema_url) (told_row place rows.Empty service_key gone) in
      let rest_1 = told_both place (lost place rows.DroppedCount (differ group.dropped 0)) _ (told_differ place rows.DroppedCount group.dropped 0) rest_2 in
      told_as place (resource_losses group)
      (told_both place (lost_keys place rows.Value (changes gone) resource) _
      (told_other place rows.Value (changes gone) resource normal up value_changes) rest_1)
      (λ row key. (resource_rows row key, rows_resource row key))

-- ---- the group

module _ (group : Group) (loss : Loss) where
  abbrev spans : List Span
  spans = spans_in group.scopes

  abbrev kept : List Scope
  kept = (normal_group group).scopes

  abbrev Means : Place → Type 0
  Means place = MeansLoss group (normal_group group) place loss.row loss.key

  spans_kept : spans_in kept ≡ map normal_span spans ++ []
  spans_kept = runs_spans normal_span group.scopes ∙ sym (append-nil (map normal_span spans))

  all_kept : {A : Type 0} (f : A → A) (xs : List A) → map f xs ≡ map f xs ++ []
  all_kept f xs = sym (append-nil (map f xs))

  -- of a span
  of_span : (n k : ℕ) (span : Span) → slice_get spans k ≡ Some span → n ≡ 1 + k → SpanLoss n span loss → Means loss.place
  of_span n k span stood number (inl own) = subst Means (sym own.0)
      (in_place_of normal_span spans (spans_in kept) [] spans_kept (OfSpan loss.row loss.key) n k span stood number own.1)
  of_span n k span stood number (inr (inl events)) =
      let event = member_of (EventLoss n) loss 1 span.events events in
      subst Means (sym event.its.0)
      (in_place_of normal_span spans (spans_in kept) [] spans_kept
      (λ one other. InPlace event.n one.events other.events (OfEvent loss.row loss.key)) n k span stood number
      (in_place_of normal_event span.events (map normal_event span.events) [] (all_kept normal_event span.events) (OfEvent loss.row loss.key)
      event.n event.k event.part event.stood event.number event.its.1))
  of_span n k span stood number (inr (inr links)) =
      let link = member_of (LinkLoss n) loss 1 span.links links in
      let placed = in_place_of normal_link span.links (map normal_link span.links) [] (all_kept normal_link span.links)
      (λ one other. OfLink loss.row loss.key one (Some other)) link.n link.k link.part link.stood link.number link.its.1 in
      subst Means (sym link.its.0)
      (in_place_of normal_span spans (spans_in kept) [] spans_kept (IsLinkLoss link.n loss.row loss.key) n k span stood number
      (record {
        link = placed.part;
        stood = placed.stood;
        such = subst (OfLink loss.row loss.key placed.part) (sym placed.stands) placed.such;
      }))

  -- of a scope
  joined : (before : List Scope) (scope : Scope) (others : List Scope) → group.scopes ≡ before ++ scope ∷ others
      → (joins (names_after None before) scope ≡ true) ↔ ((scope.spans ≢ []) × (Begins (0 + length (spans_in before)) kept → ⊥))
  joined before scope others split = subst
      (λ (l : List Scope). (joins (names_after None before) scope ≡ true) ↔ ((scope.spans ≢ []) × (Begins (0 + length (spans_in before)) (runs (map normal_scoped (scoped l))) → ⊥)))
      (sym split) (joins_meant normal_span before scope others)

  of_scope : IsScope 1 None group.scopes loss → Means loss.place
  of_scope its = subst Means (sym its.place)
      (record {
        before = its.before;
        scope = its.scope;
        others = its.others;
        split = its.split;
        number = omega (arith, its.number);
        such = scope_same its.scope (joined its.before its.scope its.others its.split).0 loss.row loss.key its.such;
      })

  -- ---- and back

  abbrev Parts : Type 0
  Parts = ((loss.place ≡ places.Resource) × OfResource group (normal_resource group.resource) loss.row loss.key)
      ⊎ (AmongScopes 1 None group.scopes loss ⊎ Among SpanLoss 1 spans loss)

  forth : Parts → Means loss.place
  forth (inl its) = subst Means (sym its.0) its.1
  forth (inr (inl scope)) = of_scope (scope_of loss 1 None group.scopes scope)
  forth (inr (inr among)) =
      let its = member_of SpanLoss loss 1 spans among in of_span its.n its.k its.part its.stood its.number its.its

  at_span : (n k : ℕ) (span : Span) → slice_get spans k ≡ Some span → n ≡ 1 + k → SpanLoss n span loss → Parts
  at_span n k span stood number its = inr (inr (among_member SpanLoss loss 1 spans
      (record { k = k; n = n; part = span; stood = stood; number = number; its = its })))

  back : (place : Place) → loss.place ≡ place → Means place → Parts
  back places.Whole e means = absurd means
  back places.Resource e means = inl (e, means)
  back (places.Scope c) e means = inr (inl (among_scope loss 1 None group.scopes
      (record {
        before = means.before;
        scope = means.scope;
        others = means.others;
        split = means.split;
        n = c;
        number = omega (arith, means.number);
        place = e;
        such = scope_same means.scope (joined means.before means.scope means.others means.split).1 loss.row loss.key means.such;
      })))
  back (places.Span n) e means =
      let its = placed_of normal_span spans (spans_in kept) [] spans_kept (OfSpan loss.row loss.key) n means in
      at_span n its.k its.part its.stood its.number (inl (e, its.such))
  back (places.Event n m) e means =
      let its = placed_of normal_span spans (spans_in kept) [] spans_kept
      (λ one other. InPlace m one.events other.events (OfEvent loss.row loss.key)) n means in
      let event = placed_of normal_event its.part.events (map normal_event its.part.events) [] (all_kept normal_event its.part.events)
      (OfEvent loss.row loss.key) m its.such in
      at_span n its.k its.part its.stood its.number
      (inr (inl (among_member (EventLoss n) loss 1 its.part.events
      (record { k = event.k; n = m; part = event.part; stood = event.stood; number = event.number; its = (e, event.such) }))))
  back (places.Link n m) e means =
      let its = placed_of normal_span spans (spans_in kept) [] spans_kept (IsLinkLoss m loss.row loss.key) n means in
      let one = its.such in
      let stands = number_map normal_link its.part.links m one.link one.stood in
      let link = placed_of normal_link its.part.links (map normal_link its.part.links) [] (all_kept normal_link its.part.links)
      (λ its_link other. OfLink loss.row loss.key its_link (Some other)) m
      (record {
        part = one.link;
        in_place = normal_link one.link;
        stood = one.stood;
        stands = stands;
        such = subst (OfLink loss.row loss.key one.link) stands one.such;
      }) in
      at_span n its.k its.part its.stood its.number
      (inr (inr (among_member (LinkLoss n) loss 1 its.part.links
      (record { k = link.k; n = m; part = link.part; stood = link.stood; number = link.number; its = (e, link.such) }))))

  group_told : IsSoundGroup group → Contains (group_losses group) loss ↔ Means loss.place
  group_told sound =
      let told = told_parts (resource_losses group) (scopes_losses span_losses 1 1 None group.scopes)
      (resource_told group sound.resource.rising).at
      (told_scopes span_losses SpanLoss IsSoundSpan span_told 1 1 None group.scopes
      (All-weaker IsSoundScope (λ scope. All IsSoundSpan scope.spans) (λ scope its. its.spans) group.scopes sound.scopes)) loss in
      (λ there. forth (told.0 there), λ means. told.1 (back loss.place refl means))

pub losses_mean : LossesMean
losses_mean group sound loss = group_told group loss sound
