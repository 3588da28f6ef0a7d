-- A loss is told of a group exactly where the condition of its row holds at its place, part by part.
use Rattle.std.proofs.Common.{◌≡◌, ℕ, zero, suc, ◌+◌, Bool, true, false, not, cond, List, [], ◌∷◌, ◌++◌, length, map, drop, All, Contains, Option, Some, None, option_map, is_some, refl, sym, ap, ◌∙◌, subst, true≢false, append_assoc, inl, inr, arith}
use Rattle.std.specs.Prelude.{◌↔◌, ◌≢◌, ◌⊎◌, ◌&&◌, if◌then◌else◌, slice_get, ⊤}
use Rattle.std.specs.List.{flat_map}
use Rattle.std.specs.Option.{option_or}
use Rattle.std.specs.Str.{bytes_eq}
use Rattle.std.proofs.lemmas.Grind.{flat_map-append}
use Rattle.std.proofs.lemmas.List.{append-nil, map-append, length-map, length-append}
use Rattle.std.proofs.lemmas.List.Elements.{All-weaker}
use Rattle.span_ids.specs.Times.{floor}
use Rattle.trace_model.specs.Attributes.{Rise, keys, at}
use Rattle.trace_model.specs.EventTexts.{bytes_as_texts}
use Rattle.trace_model.specs.Soundness.{IsSoundEvent, IsSoundSpan, IsSoundScope, IsSoundGroup}
use Rattle.trace_model.specs.ValueTexts.{value_text}
use Rattle.trace_model.specs.declared.loss.Loss.{Loss}
use Rattle.trace_model.specs.declared.loss.LossRow.{LossRow}
use Rattle.trace_model.specs.declared.loss.LossRow.TheVariants as rows
use Rattle.trace_model.specs.declared.place.Place.{Place}
use Rattle.trace_model.specs.declared.place.Place.TheVariants as places
use Rattle.trace_model.specs.declared.span.Event.{Event}
use Rattle.trace_model.specs.declared.span.Kind.{Kind}
use Rattle.trace_model.specs.declared.span.Kind.TheVariants as kinds
use Rattle.trace_model.specs.declared.span.Link.{Link}
use Rattle.trace_model.specs.declared.span.Span.{Span}
use Rattle.trace_model.specs.declared.group.Group.{Group}
use Rattle.trace_model.specs.declared.group.Scope.{Scope}
use Rattle.trace_model.specs.declared.value.Value.{Value}
use Rattle.span_tags.specs.LossMeanings.{StaysOther, Goes, OfResource, OfSpan, OfEvent, OfLink, numbered, InPlace, IsLinkLoss, spans_in, Begins}
use Rattle.span_tags.specs.Losses.{is_empty, is_text, is_unspecified, differ, lost, lost_keys, losses_of, Names, named, are_names_of, joins, scopes_losses}
use Rattle.span_tags.specs.Runs.{Scoped, under, spans_of, scoped}
use Rattle.span_tags.specs.TagKeys.{service_key}
use Rattle.span_tags.specs.TagWords.{Pairs, text_given, text_or_none}
use Rattle.span_tags.proofs.AttributeLaws.{same_key}
use Rattle.span_tags.proofs.BeginLaws.{Starts, starts_begins, begins_starts, in_scoped, scoped_length, last_names, names_scoped}
use Rattle.span_tags.proofs.MeaningLaws.{Told, ToldAt, told_not, told_parts, told_both, told_as, IsRow, told_row, IsOne, told_one, told_differ, told_given, empty_is, Becomes, told_other, told_gone, becomes, told_made, text_goes, text_becomes, text_is, Among, told_list, member_of, among_member, in_place_of, placed_of, told_scopes, scope_same, AmongScopes, IsScope, scope_of, among_scope, names_after}
use Rattle.map_zipkin.specs.Keys.{peer_key}
use Rattle.map_zipkin.specs.LossMeaning.{scopes_in, all_spans, BeginsGroup, OfUnit, spans_from, MeansLoss, run_behind_all}
use Rattle.map_zipkin.specs.Losses.{goes, changes, bytes_change, event_losses, link_losses, message_goes, own_losses, span_losses, resource_losses, follows, names_before, last_of, run_behind, has_no_span, unit_losses, group_losses}
use Rattle.map_zipkin.specs.Normal.{message_kept, normal_pairs, zipkin_normal_event, zipkin_normal_span, normal_one, normal_spans, zipkin_normal}
use Rattle.map_zipkin.specs.Regrouped.{RunSpan, run_of, runs_of, same_resource, regrouped}
use Rattle.map_zipkin.specs.StatedLaws.{LossesMean}
use Rattle.map_zipkin.specs.declared.run.Run.{Run}
use Rattle.map_zipkin.proofs.GroupBegins.{has_resource, has_run, last_of_runs, scopes_start, StartsGroup, begins_group, group_begins, groups_start}
use Rattle.map_zipkin.proofs.NormalPairs.{to_text, kept_at, normal_at}
use Rattle.map_zipkin.proofs.NothingLost.{resource_itself}
use Rattle.map_zipkin.proofs.QuietSpans.{BytesStay}
use Rattle.map_zipkin.proofs.Regrouping.{regrouped_spans}

-- ---- attributes

module _ (key : List ℕ) (l : Pairs) (up : Rise (keys l)) (k : List ℕ) (value : Value) (found : at k l ≡ Some value) where
  -- what stands at the key in normal form
  abbrev made_by : Bool → Option Value
  made_by b = cond b (text_given (value_text value)) (Some (to_text value))

  kept_same : (b : Bool) → bytes_eq key k ≡ b → cond b (kept_at key l) (option_map to_text (at k l)) ≡ made_by b
  kept_same true same = ap (λ (o : Option Value). text_given (text_or_none o)) (ap (λ (q : List ℕ). at q l) (same_key key k same) ∙ found)
  kept_same false apart = ap (option_map to_text) found

  made_at : at k (normal_pairs key l) ≡ made_by (bytes_eq key k)
  made_at = normal_at key l up k ∙ kept_same (bytes_eq key k) refl

  pair_changes : (changes key (k, value) ≡ true) ↔ Becomes value (at k (normal_pairs key l))
  pair_changes = subst (λ (made : Option Value). (changes key (k, value) ≡ true) ↔ Becomes value made) (sym made_at) (by (bytes_eq key k))
    where
      by : (b : Bool) → ((not (b && is_empty (value_text value)) && not (is_text value)) ≡ true) ↔ Becomes value (made_by b)
      by true = text_becomes value (is_empty (value_text value)) refl
      by false = becomes to_text value (Some (to_text value)) (not (is_text value)) refl (text_is value)

  pair_goes : (goes key (k, value) ≡ true) ↔ (at k (normal_pairs key l) ≡ None)
  pair_goes = subst (λ (made : Option Value). (goes key (k, value) ≡ true) ↔ (made ≡ None)) (sym made_at) (by (bytes_eq key k))
    where
      by : (b : Bool) → ((b && is_empty (value_text value)) ≡ true) ↔ (made_by b ≡ None)
      by true = text_goes (value_text value)
      by false = (λ e. absurd (true≢false (sym e)), λ none. absurd (true≢false (ap is_some none)))

-- ---- links

abbrev LinkLoss : ℕ → ℕ → Link → Loss → Type 0
LinkLoss span n link loss = (loss.place ≡ places.Link span n) × OfLink loss.row loss.key link None

module _ (span n : ℕ) (link : Link) where
  link_row : (row : LossRow) (key : List ℕ) → IsRow rows.Link [] true row key → OfLink row key link None
  link_row row key its = subst (λ r. OfLink r key link None) (sym its.row) its.key

  row_link : (row : LossRow) (key : List ℕ) → OfLink row key link None → IsRow rows.Link [] true row key
  row_link rows.Link key its = record { row = refl; key = its; told = refl }
  row_link other key its = absurd its

  link_told : Told (link_losses span n link) (LinkLoss span n link)
  link_told =
      let place = places.Link span n in
      (told_as place (link_losses span n link) (told_row place rows.Link [] true) (λ row key. (link_row row key, row_link row key))).at

-- ---- spans

kind_told : (kind : Kind) → (is_unspecified kind ≡ true) ↔ (kind ≡ kinds.Unspecified)
kind_told kinds.Unspecified = (λ e. refl, λ e. refl)
kind_told other = (λ e. absurd (true≢false (sym e)), λ same. absurd (true≢false (sym (ap is_unspecified same))))

message_told : (message kept : List ℕ) → ((not (is_empty message) && is_empty kept) ≡ true) ↔ ((message ≢ []) × (kept ≡ []))
message_told [] kept = (λ e. absurd (true≢false (sym e)), λ holds. absurd (holds.0 refl))
message_told (x ∷ more) kept = (λ e. (λ none. absurd (cc), (empty_is kept).0 e), λ holds. (empty_is kept).1 holds.1)

abbrev EventLoss : ℕ → ℕ → Event → Loss → Type 0
EventLoss span n event loss = (loss.place ≡ places.Event span n) × OfEvent loss.row loss.key event (zipkin_normal_event event)

abbrev OwnLoss : ℕ → Span → Loss → Type 0
OwnLoss n span loss = (loss.place ≡ places.Span n) × OfSpan loss.row loss.key span (zipkin_normal_span span)

-- of a span, its events and its links
abbrev SpanLoss : ℕ → Span → Loss → Type 0
SpanLoss n span loss = OwnLoss n span loss ⊎ (Among (EventLoss n) 1 span.events loss ⊎ Among (LinkLoss n) 1 span.links loss)

module _ (n : ℕ) (span : Span) where
  abbrev SpanRows : LossRow → List ℕ → Type 0
  SpanRows row key =
      ((row ≡ rows.Value) × StaysOther key span.attributes (zipkin_normal_span span).attributes)
      ⊎ (((row ≡ rows.Empty) × Goes key span.attributes (zipkin_normal_span span).attributes)
      ⊎ (IsOne rows.Start (span.start ≢ (zipkin_normal_span span).start) row key
      ⊎ (IsOne rows.End (span.end ≢ (zipkin_normal_span span).end) row key
      ⊎ (IsOne rows.Kind (span.kind ≡ kinds.Unspecified) row key
      ⊎ (IsOne rows.Message ((span.status.message ≢ []) × ((zipkin_normal_span span).status.message ≡ [])) row key
      ⊎ IsOne rows.Flags (span.flags ≢ (zipkin_normal_span span).flags) row key)))))

  span_rows : (row : LossRow) (key : List ℕ) → SpanRows row key → OfSpan row key span (zipkin_normal_span span)
  span_rows row key (inl its) = subst (λ r. OfSpan r key span (zipkin_normal_span span)) (sym its.0) its.1
  span_rows row key (inr (inl its)) = subst (λ r. OfSpan r key span (zipkin_normal_span span)) (sym its.0) its.1
  span_rows row key (inr (inr (inl its))) = subst (λ r. OfSpan r key span (zipkin_normal_span span)) (sym its.row) (its.key, its.holds)
  span_rows row key (inr (inr (inr (inl its)))) = subst (λ r. OfSpan r key span (zipkin_normal_span span)) (sym its.row) (its.key, its.holds)
  span_rows row key (inr (inr (inr (inr (inl its))))) = subst (λ r. OfSpan r key span (zipkin_normal_span span)) (sym its.row) (its.key, its.holds)
  span_rows row key (inr (inr (inr (inr (inr (inl its)))))) = subst (λ r. OfSpan r key span (zipkin_normal_span span)) (sym its.row) (its.key, its.holds)
  span_rows row key (inr (inr (inr (inr (inr (inr its)))))) = subst (λ r. OfSpan r key span (zipkin_normal_span span)) (sym its.row) (its.key, its.holds)

  rows_span : (row : LossRow) (key : List ℕ) → OfSpan row key span (zipkin_normal_span span) → SpanRows row key
  rows_span rows.Value key its = inl (refl, its)
  rows_span rows.Empty key its = inr (inl (refl, its))
  rows_span rows.Start key its = inr (inr (inl (record { row = refl; key = its.0; holds = its.1 })))
  rows_span rows.End key its = inr (inr (inr (inl (record { row = refl; key = its.0; holds = its.1 }))))
  rows_span rows.Kind key its = inr (inr (inr (inr (inl (record { row = refl; key = its.0; holds = its.1 })))))
  rows_span rows.Message key its = inr (inr (inr (inr (inr (inl (record { row = refl; key = its.0; holds = its.1 }))))))
  rows_span rows.Flags key its = inr (inr (inr (inr (inr (inr (record { row = refl; key = its.0; holds = its.1 }))))))
  rows_span other key its = absurd its

  own_told : IsSoundSpan span → ToldAt (places.Span n) (own_losses n span) (λ row key. OfSpan row key span (zipkin_normal_span span))
  own_told sound =
      let place = places.Span n in
      let up = sound.attributes.rising in
      let normal = normal_pairs peer_key span.attributes in
      let message = message_goes span.status in
      let rest_5 = told_both place (lost place rows.Message message) (lost place rows.Flags (differ span.flags 0))
      (told_one place rows.Message message (message_told span.status.message (message_kept span.status.code span.status.message))) (told_differ place rows.Flags span.flags 0) in
      let rest_4 = told_both place (lost place rows.Kind (is_unspecified span.kind)) _ (told_one place rows.Kind (is_unspecified span.kind) (kind_told span.kind)) rest_5 in
      let rest_3 = told_both place (lost place rows.End (differ span.end (floor span.end))) _ (told_differ place rows.End span.end (floor span.end)) rest_4 in
      let rest_2 = told_both place (lost place rows.Start (differ span.start (floor span.start))) _ (told_differ place rows.Start span.start (floor span.start)) rest_3 in
      let rest_1 = told_both place (lost_keys place rows.Empty (goes peer_key) span.attributes) _
      (told_gone place rows.Empty (goes peer_key) span.attributes normal up (pair_goes peer_key span.attributes up)) rest_2 in
      told_as place (own_losses n span)
      (told_both place (lost_keys place rows.Value (changes peer_key) span.attributes) _
      (told_other place rows.Value (changes peer_key) span.attributes normal up (pair_changes peer_key span.attributes up)) rest_1)
      (λ row key. (span_rows row key, rows_span row key))

module _ (bytes : BytesStay) where
  -- ---- events

  module _ (span n : ℕ) (event : Event) where
    abbrev EventRows : LossRow → List ℕ → Type 0
    EventRows row key =
        ((row ≡ rows.Value) × StaysOther key event.attributes (zipkin_normal_event event).attributes)
        ⊎ (IsOne rows.DroppedCount (event.dropped ≢ 0) row key
        ⊎ IsOne rows.Time (event.time ≢ (zipkin_normal_event event).time) row key)

    event_rows : (row : LossRow) (key : List ℕ) → EventRows row key → OfEvent row key event (zipkin_normal_event event)
    event_rows row key (inl its) = subst (λ r. OfEvent r key event (zipkin_normal_event event)) (sym its.0) its.1
    event_rows row key (inr (inl its)) = subst (λ r. OfEvent r key event (zipkin_normal_event event)) (sym its.row) (its.key, its.holds)
    event_rows row key (inr (inr its)) = subst (λ r. OfEvent r key event (zipkin_normal_event event)) (sym its.row) (its.key, its.holds)

    rows_event : (row : LossRow) (key : List ℕ) → OfEvent row key event (zipkin_normal_event event) → EventRows row key
    rows_event rows.Value key its = inl (refl, its)
    rows_event rows.DroppedCount key its = inr (inl (record { row = refl; key = its.0; holds = its.1 }))
    rows_event rows.Time key its = inr (inr (record { row = refl; key = its.0; holds = its.1 }))
    rows_event other key its = absurd its

    event_told : IsSoundEvent event → Told (event_losses span n event) (EventLoss span n event)
    event_told sound =
        let place = places.Event span n in
        let rest = told_both place (lost place rows.DroppedCount (differ event.dropped 0)) (lost place rows.Time (differ event.time (floor event.time)))
        (told_differ place rows.DroppedCount event.dropped 0) (told_differ place rows.Time event.time (floor event.time)) in
        (told_as place (event_losses span n event)
        (told_both place (lost_keys place rows.Value bytes_change event.attributes) _
        (told_made place rows.Value bytes_as_texts bytes_change event.attributes (λ pair. bytes pair.1) sound.rising) rest)
        (λ row key. (event_rows row key, rows_event row key))).at

  span_told : (n : ℕ) (span : Span) → IsSoundSpan span → Told (span_losses n span) (SpanLoss n span)
  span_told n span sound = told_parts (own_losses n span) _ (own_told n span sound).at
      (told_parts (losses_of (event_losses n) 1 span.events) (losses_of (link_losses n) 1 span.links)
      (told_list (event_losses n) (EventLoss n) IsSoundEvent (event_told n) 1 span.events sound.events)
      (told_list (link_losses n) (LinkLoss n) (λ link. ⊤) (λ l link its. link_told n l link) 1 span.links (λ k d lt. tt)))

-- ---- the resource

module _ (group : Group) (up : Rise (keys group.resource)) where
  abbrev normal_of : Pairs
  normal_of = normal_pairs service_key group.resource

  abbrev ResourceRows : LossRow → List ℕ → Type 0
  ResourceRows row key =
      ((row ≡ rows.Value) × StaysOther key group.resource normal_of)
      ⊎ (IsOne rows.DroppedCount (group.dropped ≢ 0) row key
      ⊎ (IsOne rows.SchemaUrl (group.schema_url ≢ []) row key
      ⊎ ((row ≡ rows.Empty) × Goes key group.resource normal_of)))

  resource_rows : (row : LossRow) (key : List ℕ) → ResourceRows row key → OfResource group normal_of row key
  resource_rows row key (inl its) = subst (λ r. OfResource group normal_of r key) (sym its.0) its.1
  resource_rows row key (inr (inl its)) = subst (λ r. OfResource group normal_of r key) (sym its.row) (its.key, its.holds)
  resource_rows row key (inr (inr (inl its))) = subst (λ r. OfResource group normal_of r key) (sym its.row) (its.key, its.holds)
  resource_rows row key (inr (inr (inr its))) = subst (λ r. OfResource group normal_of r key) (sym its.0) its.1

  rows_resource : (row : LossRow) (key : List ℕ) → OfResource group normal_of row key → ResourceRows row key
  rows_resource rows.Value key its = inl (refl, its)
  rows_resource rows.DroppedCount key its = inr (inl (record { row = refl; key = its.0; holds = its.1 }))
  rows_resource rows.SchemaUrl key its = inr (inr (inl (record { row = refl; key = its.0; holds = its.1 })))
  rows_resource rows.Empty key its = inr (inr (inr (refl, its)))
  rows_resource other key its = absurd its

  resource_told : ToldAt places.Resource (resource_losses group) (OfResource group normal_of)
  resource_told =
      let place = places.Resource in
      let resource = group.resource in
      let rest_2 = told_both place (lost place rows.SchemaUrl (not (is_empty group.schema_url))) (lost_keys place rows.Empty (goes service_key) resource)
      (told_given place rows.SchemaUrl group.schema_url)
      (told_gone place rows.Empty (goes service_key) resource normal_of up (pair_goes service_key resource up)) in
      let rest_1 = told_both place (lost place rows.DroppedCount (differ group.dropped 0)) _ (told_differ place rows.DroppedCount group.dropped 0) rest_2 in
      told_as place (resource_losses group)
      (told_both place (lost_keys place rows.Value (changes service_key) resource) _
      (told_other place rows.Value (changes service_key) resource normal_of up (pair_changes service_key resource up)) rest_1)
      (λ row key. (resource_rows row key, rows_resource row key))

-- ---- spans of groups one after the other

second_of_runs : (resource : Pairs) (l : List (Scoped Span)) → map (λ (one : RunSpan). one.1) (map (run_of resource) l) ≡ map (λ (one : Scoped Span). one.span) l
second_of_runs resource [] = refl
second_of_runs resource (one ∷ l) = ap (λ (rest : List Span). one.span ∷ rest) (second_of_runs resource l)

second_of_normal : (resource : Pairs) (l : List (Scoped Span))
    → map (λ (one : RunSpan). one.1) (map (normal_one resource) l) ≡ map zipkin_normal_span (map (λ (one : Scoped Span). one.span) l)
second_of_normal resource [] = refl
second_of_normal resource (one ∷ l) = ap (λ (rest : List Span). zipkin_normal_span one.span ∷ rest) (second_of_normal resource l)

abbrev second : RunSpan → Span
second one = one.1

spans_of_two : (group : Group) (groups : List Group) → all_spans (group ∷ groups) ≡ spans_in group.scopes ++ all_spans groups
spans_of_two group groups = flat_map-append (λ (scope : Scope). scope.spans) group.scopes (scopes_in groups)

runs_second : (groups : List Group) → map second (flat_map runs_of groups) ≡ all_spans groups
runs_second [] = refl
runs_second (group ∷ groups) =
    map-append second (runs_of group) (flat_map runs_of groups)
    ∙ (λ i. (second_of_runs group.resource (scoped group.scopes) ∙ in_scoped group.scopes) i ++ runs_second groups i)
    ∙ sym (spans_of_two group groups)

normal_second : (groups : List Group) → map second (flat_map normal_spans groups) ≡ map zipkin_normal_span (all_spans groups)
normal_second [] = refl
normal_second (group ∷ groups) =
    map-append second (normal_spans group) (flat_map normal_spans groups)
    ∙ (λ i. (second_of_normal group.resource (scoped group.scopes) ∙ ap (map zipkin_normal_span) (in_scoped group.scopes)) i ++ normal_second groups i)
    ∙ sym (map-append zipkin_normal_span (spans_in group.scopes) (all_spans groups))
    ∙ ap (map zipkin_normal_span) (sym (spans_of_two group groups))

-- the spans of the normal form, in order
normal_all : (groups : List Group) → all_spans (zipkin_normal groups) ≡ map zipkin_normal_span (all_spans groups)
normal_all groups =
    sym (runs_second (zipkin_normal groups)) ∙ ap (map second) (regrouped_spans (flat_map normal_spans groups)) ∙ normal_second groups

spans_split : (before : List Group) (group : Group) (others : List Group)
    → all_spans (before ++ group ∷ others) ≡ all_spans before ++ (spans_in group.scopes ++ all_spans others)
spans_split before group others =
    ap spans_in (flat_map-append (λ (one : Group). one.scopes) before (group ∷ others))
    ∙ flat_map-append (λ (scope : Scope). scope.spans) (scopes_in before) (scopes_in (group ∷ others))
    ∙ ap (λ (rest : List Span). all_spans before ++ rest) (spans_of_two group others)

from_there : {A : Type 0} (xs ys : List A) (n : ℕ) → length xs ≡ n → drop n (xs ++ ys) ≡ ys
from_there [] ys n count = ap (λ (m : ℕ). drop m ys) (sym count)
from_there (x ∷ xs) ys n count = ap (λ (m : ℕ). drop m (x ∷ (xs ++ ys))) (sym count) ∙ from_there xs ys (length xs) refl

module _ (before : List Group) (group : Group) (others : List Group) where
  abbrev more_spans : List Span
  more_spans = map zipkin_normal_span (all_spans others)

  spans_there : spans_from before (zipkin_normal (before ++ group ∷ others)) ≡ map zipkin_normal_span (spans_in group.scopes) ++ more_spans
  spans_there =
      ap (drop (length (all_spans before)))
      (normal_all (before ++ group ∷ others)
      ∙ ap (map zipkin_normal_span) (spans_split before group others)
      ∙ map-append zipkin_normal_span (all_spans before) (spans_in group.scopes ++ all_spans others)
      ∙ ap (λ (rest : List Span). map zipkin_normal_span (all_spans before) ++ rest) (map-append zipkin_normal_span (spans_in group.scopes) (all_spans others)))
      ∙ from_there (map zipkin_normal_span (all_spans before)) (map zipkin_normal_span (spans_in group.scopes) ++ more_spans) (length (all_spans before))
      (length-map (all_spans before) zipkin_normal_span)

-- ---- the run of the span before

last_more : (run : Option Run) (xs ys : List RunSpan) → last_of_runs run (xs ++ ys) ≡ last_of_runs (last_of_runs run xs) ys
last_more run [] ys = refl
last_more run (x ∷ xs) ys = last_more (Some x.0) xs ys

last_is : (run : Option Run) (xs : List RunSpan) → option_or (option_map (λ (one : RunSpan). one.0) (last_of xs)) run ≡ last_of_runs run xs
last_is run [] = refl
last_is run (x ∷ []) = refl
last_is run (x ∷ y ∷ more) = last_is run (y ∷ more)

runs_behind : (run : Option Run) (groups : List Group) → run_behind_all run groups ≡ last_of_runs run (flat_map normal_spans groups)
runs_behind run [] = refl
runs_behind run (group ∷ groups) =
    runs_behind (run_behind run group) groups
    ∙ ap (λ (r : Option Run). last_of_runs r (flat_map normal_spans groups)) (last_is run (normal_spans group))
    ∙ sym (last_more run (normal_spans group) (flat_map normal_spans groups))

normal_count : (groups : List Group) → length (flat_map normal_spans groups) ≡ length (all_spans groups)
normal_count groups =
    sym (length-map (flat_map normal_spans groups) second) ∙ ap length (normal_second groups) ∙ length-map (all_spans groups) zipkin_normal_span

-- the names of the scope before, where it has the resource
module _ (resource : Pairs) (itself : same_resource (normal_pairs service_key resource) (normal_pairs service_key resource) ≡ true)
    (scope : Scope) (span : Span) where
  abbrev next : RunSpan
  next = normal_one resource (under scope.name scope.version span)

  names_first : (run : Option Run) → has_run run next ≡ are_names_of (names_before run resource) scope
  names_first None = refl
  names_first (Some run) = by (same_resource run.resource (normal_pairs service_key resource))
    where
      by : (b : Bool) → (b && (bytes_eq run.name scope.name && bytes_eq run.version scope.version))
          ≡ are_names_of (if b then Some (named run.name run.version) else None) scope
      by true = refl
      by false = refl

  names_run : (run : Option Run) (xs : List (Scoped Span))
      → has_run (last_of_runs run (map (normal_one resource) xs)) next ≡ are_names_of (last_names (names_before run resource) xs) scope
  names_run run [] = names_first run
  names_run run (one ∷ xs) =
      names_run (Some (normal_one resource one).0) xs
      ∙ ap (λ (b : Bool). are_names_of (last_names (if b then Some (named one.name one.version) else None) xs) scope) itself

module _ (before : List Group) (group : Group) (others : List Group) (up : Rise (keys group.resource)) where
  abbrev whole : List Group
  whole = before ++ group ∷ others

  abbrev run : Option Run
  run = run_behind_all None before

  -- its spans, as they are regrouped
  list_split : flat_map normal_spans whole ≡ flat_map normal_spans before ++ (map (normal_one group.resource) (scoped group.scopes) ++ flat_map normal_spans others)
  list_split = flat_map-append normal_spans before (group ∷ others)

  module _ (fore : List Scope) (scope : Scope) (rest : List Scope) (split : group.scopes ≡ fore ++ scope ∷ rest) (span : Span) (more : List Span) (spans : scope.spans ≡ span ∷ more) where
    abbrev N : Scoped Span → RunSpan
    N one = normal_one group.resource one

    abbrev front : List RunSpan
    front = flat_map normal_spans before ++ map N (scoped fore)

    abbrev tail : List RunSpan
    tail = map N (map (under scope.name scope.version) more ++ scoped rest)

    abbrev first : RunSpan
    first = N (under scope.name scope.version span)

    group_list : map N (scoped group.scopes) ≡ map N (scoped fore) ++ first ∷ tail
    group_list =
        ap (λ (l : List Scope). map N (scoped l)) split
        ∙ ap (map N) (flat_map-append spans_of fore (scope ∷ rest))
        ∙ map-append N (scoped fore) (spans_of scope ++ scoped rest)
        ∙ ap (λ (l : List Span). map N (scoped fore) ++ map N (map (under scope.name scope.version) l ++ scoped rest)) spans

    list_at : flat_map normal_spans whole ≡ front ++ first ∷ (tail ++ flat_map normal_spans others)
    list_at =
        list_split
        ∙ ap (λ (l : List RunSpan). flat_map normal_spans before ++ (l ++ flat_map normal_spans others)) group_list
        ∙ ap (λ (l : List RunSpan). flat_map normal_spans before ++ l) (append_assoc (map N (scoped fore)) (first ∷ tail) (flat_map normal_spans others))
        ∙ sym (append_assoc (flat_map normal_spans before) (map N (scoped fore)) (first ∷ (tail ++ flat_map normal_spans others)))

    front_count : length front ≡ length (all_spans before) + length (spans_in fore)
    front_count =
        length-append (flat_map normal_spans before) (map N (scoped fore))
        ∙ (λ i. normal_count before i + (length-map (scoped fore) N ∙ scoped_length fore) i)

    run_same : has_run (last_of_runs None front) first ≡ are_names_of (names_after (names_before run group.resource) fore) scope
    run_same =
        ap (λ (r : Option Run). has_run r first) (last_more None (flat_map normal_spans before) (map N (scoped fore)))
        ∙ ap (λ (r : Option Run). has_run (last_of_runs r (map N (scoped fore))) first) (sym (runs_behind None before))
        ∙ names_run group.resource (resource_itself group.resource up) scope span run (scoped fore)
        ∙ ap (λ (n : Option Names). are_names_of n scope) (sym (names_scoped (names_before run group.resource) fore))

    scope_begins : Begins (length (all_spans before) + length (spans_in fore)) (scopes_in (zipkin_normal whole))
        ↔ (are_names_of (names_after (names_before run group.resource) fore) scope ≡ false)
    scope_begins =
        let known = scopes_start front first (tail ++ flat_map normal_spans others) in (
          λ begins. sym run_same ∙ known.0 (subst (λ (l : List RunSpan). Starts (length front) (scopes_in (regrouped l))) list_at
              (subst (λ (n : ℕ). Starts n (scopes_in (zipkin_normal whole))) (sym front_count)
              (starts_begins (length (all_spans before) + length (spans_in fore)) (scopes_in (zipkin_normal whole)) begins))),
          λ e. begins_starts (length (all_spans before) + length (spans_in fore)) (scopes_in (zipkin_normal whole))
              (subst (λ (n : ℕ). Starts n (scopes_in (zipkin_normal whole))) front_count
              (subst (λ (l : List RunSpan). Starts (length front) (scopes_in (regrouped l))) (sym list_at) (known.1 (run_same ∙ e)))),
        )

  joined : (fore : List Scope) (scope : Scope) (rest : List Scope) → group.scopes ≡ fore ++ scope ∷ rest
      → (joins (names_after (names_before run group.resource) fore) scope ≡ true)
      ↔ ((scope.spans ≢ []) × (Begins (length (all_spans before) + length (spans_in fore)) (scopes_in (zipkin_normal whole)) → ⊥))
  joined fore scope rest split = by scope.spans refl
    where
      by : (spans : List Span) → scope.spans ≡ spans
          → ((not (is_empty spans) && are_names_of (names_after (names_before run group.resource) fore) scope) ≡ true)
          ↔ ((spans ≢ []) × (Begins (length (all_spans before) + length (spans_in fore)) (scopes_in (zipkin_normal whole)) → ⊥))
      by [] is = (λ e. absurd (true≢false (sym e)), λ holds. absurd (holds.0 refl))
      by (span ∷ more) is =
          let begins = scope_begins fore scope rest split span more is in
          let told = told_not (are_names_of (names_after (names_before run group.resource) fore) scope) (begins.1, begins.0) in
          (λ e. (λ none. absurd (cc), told.0 e), λ holds. told.1 holds.1)

  -- ---- the unit

  unit_begins : (one : Scoped Span) (more : List (Scoped Span)) → scoped group.scopes ≡ one ∷ more
      → BeginsGroup (length (all_spans before)) (zipkin_normal whole) ↔ (follows run group.resource ≡ false)
  unit_begins one more is =
      let front = flat_map normal_spans before in
      let first = normal_one group.resource one in
      let tail = map (normal_one group.resource) more ++ flat_map normal_spans others in
      let list : flat_map normal_spans whole ≡ front ++ first ∷ tail =
      list_split ∙ ap (λ (l : List (Scoped Span)). front ++ (map (normal_one group.resource) l ++ flat_map normal_spans others)) is in
      let count : length front ≡ length (all_spans before) = normal_count before in
      let test : has_resource (last_of_runs None front) first ≡ follows run group.resource =
      ap (λ (r : Option Run). has_resource r first) (sym (runs_behind None before)) ∙ same_test run in
      let known = groups_start front first tail in (
        λ begins. sym test ∙ known.0 (subst (λ (l : List RunSpan). StartsGroup (length front) (regrouped l)) list
            (subst (λ (n : ℕ). StartsGroup n (zipkin_normal whole)) (sym count) (group_begins (length (all_spans before)) (zipkin_normal whole) begins))),
        λ e. begins_group (length (all_spans before)) (zipkin_normal whole)
            (subst (λ (n : ℕ). StartsGroup n (zipkin_normal whole)) count
            (subst (λ (l : List RunSpan). StartsGroup (length front) (regrouped l)) (sym list) (known.1 (test ∙ e)))),
      )
    where
      same_test : (r : Option Run) → has_resource r (normal_one group.resource one) ≡ follows r group.resource
      same_test None = refl
      same_test (Some r) = refl

  no_spans : (l : List (Scoped Span)) → scoped group.scopes ≡ l → (l ≡ []) ↔ (spans_in group.scopes ≡ [])
  no_spans l is =
      let same : map (λ (one : Scoped Span). one.span) l ≡ spans_in group.scopes = ap (map (λ (one : Scoped Span). one.span)) (sym is) ∙ in_scoped group.scopes in
      (λ none. sym same ∙ ap (map (λ (one : Scoped Span). one.span)) none, λ none. by l (same ∙ none))
    where
      by : (l : List (Scoped Span)) → map (λ (one : Scoped Span). one.span) l ≡ [] → l ≡ []
      by [] none = refl
      by (one ∷ more) none = absurd (cc)

  unit_joins : ((not (has_no_span group) && follows run group.resource) ≡ true)
      ↔ ((spans_in group.scopes ≢ []) × (BeginsGroup (length (all_spans before)) (zipkin_normal whole) → ⊥))
  unit_joins = by (scoped group.scopes) refl
    where
      by : (l : List (Scoped Span)) → scoped group.scopes ≡ l → ((not (is_empty l) && follows run group.resource) ≡ true)
          ↔ ((spans_in group.scopes ≢ []) × (BeginsGroup (length (all_spans before)) (zipkin_normal whole) → ⊥))
      by [] is = (λ e. absurd (true≢false (sym e)), λ holds. absurd (holds.0 ((no_spans [] is).0 refl)))
      by (one ∷ more) is =
          let begins = unit_begins one more is in
          let told = told_not (follows run group.resource) (begins.1, begins.0) in
          (λ e. (λ none. let is_none : one ∷ more ≡ [] = (no_spans (one ∷ more) is).1 none in absurd (cc), told.0 e), λ holds. told.1 holds.1)

  unit_empty : (has_no_span group ≡ true) ↔ (spans_in group.scopes ≡ [])
  unit_empty =
      let none = empty_is (scoped group.scopes) in
      let spans = no_spans (scoped group.scopes) refl in
      (λ e. spans.0 (none.0 e), λ e. none.1 (spans.1 e))

  abbrev UnitRows : LossRow → List ℕ → Type 0
  UnitRows row key =
      IsOne rows.UnitEmpty (spans_in group.scopes ≡ []) row key
      ⊎ IsOne rows.UnitJoined ((spans_in group.scopes ≢ []) × (BeginsGroup (length (all_spans before)) (zipkin_normal whole) → ⊥)) row key

  abbrev Unit_ : LossRow → List ℕ → Type 0
  Unit_ row key = OfUnit (length (all_spans before)) group (zipkin_normal whole) row key

  unit_rows : (row : LossRow) (key : List ℕ) → UnitRows row key → Unit_ row key
  unit_rows row key (inl its) = subst (λ r. Unit_ r key) (sym its.row) (its.key, its.holds)
  unit_rows row key (inr its) = subst (λ r. Unit_ r key) (sym its.row) (its.key, its.holds)

  rows_unit : (row : LossRow) (key : List ℕ) → Unit_ row key → UnitRows row key
  rows_unit rows.UnitEmpty key its = inl (record { row = refl; key = its.0; holds = its.1 })
  rows_unit rows.UnitJoined key its = inr (record { row = refl; key = its.0; holds = its.1 })
  rows_unit other key its = absurd its

  unit_told : ToldAt places.Whole (unit_losses run group) Unit_
  unit_told =
      let place = places.Whole in
      let joins_it : Bool = not (has_no_span group) && follows run group.resource in
      told_as place (unit_losses run group)
      (told_both place (lost place rows.UnitEmpty (has_no_span group)) (lost place rows.UnitJoined joins_it)
      (told_one place rows.UnitEmpty (has_no_span group) unit_empty) (told_one place rows.UnitJoined joins_it unit_joins))
      (λ row key. (unit_rows row key, rows_unit row key))

-- no link stands in the normal form
none_numbered : (n : ℕ) → numbered {A = Link} n [] ≡ None
none_numbered zero = refl
none_numbered (suc k) = refl

member_number : (links : List Link) (n : ℕ) (link : Link) → numbered n links ≡ Some link → (k : ℕ) × (slice_get links k ≡ Some link) × (n ≡ 1 + k)
member_number links zero link stood = absurd (true≢false (sym (ap is_some stood)))
member_number links (suc k) link stood = (k, stood, omega arith)

-- ---- the group

module _ (before : List Group) (group : Group) (others : List Group) (up : Rise (keys group.resource)) (loss : Loss) where
  abbrev spans : List Span
  spans = spans_in group.scopes

  abbrev kept : List Span
  kept = spans_from before (zipkin_normal (before ++ group ∷ others))

  abbrev more : List Span
  more = more_spans before group others

  abbrev names : Option Names
  names = names_before (run_behind_all None before) group.resource

  abbrev Means : Place → Type 0
  Means place = MeansLoss before group (zipkin_normal (before ++ group ∷ others)) place loss.row loss.key

  spans_kept : kept ≡ map zipkin_normal_span spans ++ more
  spans_kept = spans_there before group others

  all_kept : {A : Type 0} (f : A → A) (xs : List A) → map f xs ≡ map f xs ++ []
  all_kept f xs = sym (append-nil (map f xs))

  -- of a span
  of_span : (n k : ℕ) (span : Span) → slice_get spans k ≡ Some span → n ≡ 1 + k → SpanLoss n span loss → Means loss.place
  of_span n k span stood number (inl own) = subst Means (sym own.0)
      (in_place_of zipkin_normal_span spans kept more spans_kept (OfSpan loss.row loss.key) n k span stood number own.1)
  of_span n k span stood number (inr (inl events)) =
      let event = member_of (EventLoss n) loss 1 span.events events in
      subst Means (sym event.its.0)
      (in_place_of zipkin_normal_span spans kept more spans_kept
      (λ one other. InPlace event.n one.events other.events (OfEvent loss.row loss.key)) n k span stood number
      (in_place_of zipkin_normal_event span.events (map zipkin_normal_event span.events) [] (all_kept zipkin_normal_event span.events) (OfEvent loss.row loss.key)
      event.n event.k event.part event.stood event.number event.its.1))
  of_span n k span stood number (inr (inr links)) =
      let link = member_of (LinkLoss n) loss 1 span.links links in
      let is : link.n ≡ suc link.k = omega (arith, link.number) in
      subst Means (sym link.its.0)
      (in_place_of zipkin_normal_span spans kept more spans_kept (IsLinkLoss link.n loss.row loss.key) n k span stood number
      (record {
        link = link.part;
        stood = ap (λ (m : ℕ). numbered m span.links) is ∙ link.stood;
        such = subst (OfLink loss.row loss.key link.part) (sym (none_numbered link.n)) link.its.1;
      }))

  -- of a scope
  of_scope : IsScope 1 names group.scopes loss → Means loss.place
  of_scope its = subst Means (sym its.place)
      (record {
        before = its.before;
        scope = its.scope;
        others = its.others;
        split = its.split;
        number = omega (arith, its.number);
        such = scope_same its.scope (joined before group others up its.before its.scope its.others its.split).0 loss.row loss.key its.such;
      })

  -- ---- and back

  abbrev Parts : Type 0
  Parts = ((loss.place ≡ places.Whole) × Means places.Whole)
      ⊎ (((loss.place ≡ places.Resource) × Means places.Resource)
      ⊎ (AmongScopes 1 names group.scopes loss ⊎ Among SpanLoss 1 spans loss))

  forth : Parts → Means loss.place
  forth (inl its) = subst Means (sym its.0) its.1
  forth (inr (inl its)) = subst Means (sym its.0) its.1
  forth (inr (inr (inl scope))) = of_scope (scope_of loss 1 names group.scopes scope)
  forth (inr (inr (inr among))) =
      let its = member_of SpanLoss loss 1 spans among in of_span its.n its.k its.part its.stood its.number its.its

  at_span : (n k : ℕ) (span : Span) → slice_get spans k ≡ Some span → n ≡ 1 + k → SpanLoss n span loss → Parts
  at_span n k span stood number its = inr (inr (inr (among_member SpanLoss loss 1 spans
      (record { k = k; n = n; part = span; stood = stood; number = number; its = its }))))

  back : (place : Place) → loss.place ≡ place → Means place → Parts
  back places.Whole e means = inl (e, means)
  back places.Resource e means = inr (inl (e, means))
  back (places.Scope c) e means = inr (inr (inl (among_scope loss 1 names group.scopes
      (record {
        before = means.before;
        scope = means.scope;
        others = means.others;
        split = means.split;
        n = c;
        number = omega (arith, means.number);
        place = e;
        such = scope_same means.scope (joined before group others up means.before means.scope means.others means.split).1 loss.row loss.key means.such;
      }))))
  back (places.Span n) e means =
      let its = placed_of zipkin_normal_span spans kept more spans_kept (OfSpan loss.row loss.key) n means in
      at_span n its.k its.part its.stood its.number (inl (e, its.such))
  back (places.Event n m) e means =
      let its = placed_of zipkin_normal_span spans kept more spans_kept
      (λ one other. InPlace m one.events other.events (OfEvent loss.row loss.key)) n means in
      let event = placed_of zipkin_normal_event its.part.events (map zipkin_normal_event its.part.events) [] (all_kept zipkin_normal_event its.part.events)
      (OfEvent loss.row loss.key) m its.such in
      at_span n its.k its.part its.stood its.number
      (inr (inl (among_member (EventLoss n) loss 1 its.part.events
      (record { k = event.k; n = m; part = event.part; stood = event.stood; number = event.number; its = (e, event.such) }))))
  back (places.Link n m) e means =
      let its = placed_of zipkin_normal_span spans kept more spans_kept (IsLinkLoss m loss.row loss.key) n means in
      let one = its.such in
      let link = member_number its.part.links m one.link one.stood in
      at_span n its.k its.part its.stood its.number
      (inr (inr (among_member (LinkLoss n) loss 1 its.part.links
      (record {
        k = link.0;
        n = m;
        part = one.link;
        stood = link.1;
        number = link.2;
        its = (e, subst (OfLink loss.row loss.key one.link) (none_numbered m) one.such);
      }))))

  group_told : BytesStay → IsSoundGroup group → Contains (group_losses (run_behind_all None before) group) loss ↔ Means loss.place
  group_told bytes sound =
      let run = run_behind_all None before in
      let told = told_parts (unit_losses run group) (resource_losses group ++ scopes_losses span_losses 1 1 names group.scopes)
      (unit_told before group others up).at
      (told_parts (resource_losses group) (scopes_losses span_losses 1 1 names group.scopes)
      (resource_told group up).at
      (told_scopes span_losses SpanLoss IsSoundSpan (span_told bytes) 1 1 names group.scopes
      (All-weaker IsSoundScope (λ scope. All IsSoundSpan scope.spans) (λ scope its. its.spans) group.scopes sound.scopes))) loss in
      (λ there. forth (told.0 there), λ means. told.1 (back loss.place refl means))

pub losses_mean : BytesStay → LossesMean
losses_mean bytes before group others sound loss = group_told before group others sound.resource.rising loss bytes sound
