-- Nothing is lost of a group exactly where it is its own normal form.
use Rattle.std.proofs.Common.{◌≡◌, ℕ, ◌%◌, Bool, true, false, not, cond, List, [], ◌∷◌, Option, Some, None, option_map, is_some, refl, sym, ap, ◌∙◌, subst, true≢false}
use Rattle.std.specs.Prelude.{◌↔◌, ◌&&◌, if◌then◌else◌}
use Rattle.std.specs.List.{AllByRecursion}
use Rattle.std.specs.List.Sorted.{IsStrictlySortedBy}
use Rattle.std.specs.Option.{option_or}
use Rattle.std.specs.Str.{bytes_eq}
use Rattle.std.proofs.lemmas.Slice.Eq.{bytes_eq-Decides}
use Rattle.span_ids.specs.Times.{floor}
use Rattle.trace_model.specs.Attributes.{Rise, keys, at}
use Rattle.trace_model.specs.ValueTexts.{value_text}
use Rattle.trace_model.specs.declared.loss.LossRow.TheVariants as rows
use Rattle.trace_model.specs.declared.place.Place.TheVariants as places
use Rattle.trace_model.specs.declared.span.Code.{Code}
use Rattle.trace_model.specs.declared.span.Code.TheVariants as statuses
use Rattle.trace_model.specs.declared.span.Event.{Event}
use Rattle.trace_model.specs.declared.span.Kind.{Kind}
use Rattle.trace_model.specs.declared.span.Kind.TheVariants as kinds
use Rattle.trace_model.specs.declared.span.Link.{Link}
use Rattle.trace_model.specs.declared.span.Span.{Span}
use Rattle.trace_model.specs.declared.group.Group.{Group}
use Rattle.trace_model.specs.declared.value.Value.{Value, Text, List', Map', Nothing}
use Rattle.span_tags.proofs.AttributeLaws.{same_key, key_itself, other_way, option_or-none, at_below, at_attrs-append, same_pairs, at_filter, at_map}
use Rattle.span_tags.specs.Losses.{is_empty, differ, is_text, is_unspecified, lost, lost_key, lost_keys, losses_of, scopes_losses}
use Rattle.span_tags.proofs.QuietLaws.{Quiet, both, quiet_as, row_quiet, differ_not, given_not, same_test, same_parts, keys_quiet, mapped_quiet, list_quiet, scopes_quiet}
use Rattle.span_tags.proofs.RowLaws.{last_at-row}
use Rattle.span_tags.specs.TagKeys.{service_key}
use Rattle.span_tags.specs.TagWords.{row, text_given, without, text_or_none}
use Rattle.map_jaeger.specs.Keys.{reference_key, child_of_word}
use Rattle.map_jaeger.specs.StatedLaws.{NoneLost}
use Rattle.map_jaeger.specs.Losses.{is_told_as_text, becomes_text, event_losses, are_kept, link_losses, message_goes, own_losses, span_losses, service_goes, changes, resource_losses, group_losses}
use Rattle.map_jaeger.specs.Normal.{normal_kind, normal_status, normal_event, normal_link, normal_span, normal_resource}
use Rattle.map_jaeger.specs.TagValues.{normal_value, normal_attribute}
use Rattle.map_jaeger.specs.Writing.{is_child_of}
use Rattle.map_jaeger.proofs.GroupResource.{with_service, service_at, made_rise, other_attributes, name_of, others_rise, others_none}

-- ---- attributes

pub value_stays : (value : Value) → (is_told_as_text value ≡ false) ↔ (normal_value value ≡ value)
value_stays (List' shape members) = (λ e. absurd (true≢false e), λ same. absurd (true≢false (ap is_text same)))
value_stays (Map' shape members) = (λ e. absurd (true≢false e), λ same. absurd (true≢false (ap is_text same)))
value_stays Nothing = (λ e. absurd (true≢false e), λ same. absurd (true≢false (ap is_text same)))
value_stays other = (λ e. refl, λ same. refl)

pair_stays : (pair : List ℕ × Value) → (becomes_text pair ≡ false) ↔ (normal_attribute pair ≡ pair)
pair_stays pair = (
  λ e. let same : normal_value pair.1 ≡ pair.1 = (value_stays pair.1).0 e in λ i. (pair.0, same i),
  λ same. (value_stays pair.1).1 (ap (λ (p : List ℕ × Value). p.1) same),
)

-- ---- events

event_quiet : (span n : ℕ) (event : Event) → Quiet (event_losses span n event) (normal_event event ≡ event)
event_quiet span n event =
    let place = places.Event span n in
    quiet_as (event_losses span n event)
    (both (lost_keys place rows.Value becomes_text event.attributes) _
    (mapped_quiet normal_attribute becomes_text pair_stays place rows.Value event.attributes)
    (both (lost place rows.DroppedCount (differ event.dropped 0)) (lost place rows.Time (differ event.time (floor event.time)))
    (row_quiet place rows.DroppedCount [] _ (differ_not event.dropped 0)) (row_quiet place rows.Time [] _ (differ_not event.time (floor event.time)))))
    (λ holds. λ i. record { time = sym holds.1.1 i; name = event.name; attributes = holds.0 i; dropped = sym holds.1.0 i })
    (λ same. (
      ap (λ (e : Event). e.attributes) same,
      (sym (ap (λ (e : Event). e.dropped) same), sym (ap (λ (e : Event). e.time) same)),
    ))

-- ---- links

abbrev pub kept_by : Bool → List (List ℕ × Value)
kept_by marked = if marked then (reference_key, Text child_of_word) ∷ [] else []

both_true : (a b : Bool) → (a && b) ≡ true → (a ≡ true) × (b ≡ true)
both_true true b e = (refl, e)
both_true false b e = (e, cc)

marked_is : (value : Value) → is_child_of (Some value) ≡ true → Text child_of_word ≡ value
marked_is (Text text) e = ap Text (sym ((bytes_eq-Decides text child_of_word).0 e))
marked_is other e = absurd (true≢false (sym e))

one_kept : (pair : List ℕ × Value) → bytes_eq reference_key pair.0 ≡ true → is_child_of (Some pair.1) ≡ true
    → kept_by (is_child_of (at reference_key (pair ∷ []))) ≡ pair ∷ []
one_kept pair key marked =
    let value : Text child_of_word ≡ pair.1 = marked_is pair.1 marked in
    ap (λ (b : Bool). kept_by (is_child_of (cond b (Some pair.1) None))) key ∙ ap kept_by marked
    ∙ (λ i. (same_key reference_key pair.0 key i, value i) ∷ [])

not_true : (b : Bool) → not b ≡ false → b ≡ true
not_true true e = refl
not_true false e = absurd (true≢false e)

one_only : (marked : Bool) (pair : List ℕ × Value) → kept_by marked ≡ pair ∷ [] → are_kept (pair ∷ []) ≡ true
one_only true pair same = subst (λ l. are_kept l ≡ true) same refl
one_only false pair same = absurd (cc)

none_of_two : (marked : Bool) (pair next : List ℕ × Value) (more : List (List ℕ × Value)) → kept_by marked ≡ pair ∷ next ∷ more → ⊥
none_of_two true pair next more same =
    let rest : [] ≡ next ∷ more = (same_parts (reference_key, Text child_of_word) pair [] (next ∷ more) same).1 in absurd (cc)
none_of_two false pair next more same = absurd (cc)

pub marks_stay : (l : List (List ℕ × Value)) → (not (are_kept l) ≡ false) ↔ (kept_by (is_child_of (at reference_key l)) ≡ l)
marks_stay [] = (λ e. refl, λ same. refl)
marks_stay (pair ∷ []) = (
  λ e. let parts = both_true (bytes_eq reference_key pair.0) (is_child_of (Some pair.1)) (not_true (are_kept (pair ∷ [])) e) in one_kept pair parts.0 parts.1,
  λ same. ap not (one_only (is_child_of (at reference_key (pair ∷ []))) pair same),
)
marks_stay (pair ∷ next ∷ more) = (
  λ e. absurd (true≢false e),
  λ same. absurd (none_of_two (is_child_of (at reference_key (pair ∷ next ∷ more))) pair next more same),
)

link_quiet : (span n : ℕ) (link : Link) → Quiet (link_losses span n link) (normal_link link ≡ link)
link_quiet span n link =
    let place = places.Link span n in
    let rest_2 = both (lost place rows.Flags (differ link.flags 0)) (lost place rows.State (not (is_empty link.state)))
    (row_quiet place rows.Flags [] _ (differ_not link.flags 0)) (row_quiet place rows.State [] _ (given_not link.state)) in
    let rest_1 = both (lost place rows.Attributes (not (are_kept link.attributes))) _ (row_quiet place rows.Attributes [] _ (marks_stay link.attributes)) rest_2 in
    quiet_as (link_losses span n link)
    (both (lost place rows.DroppedCount (differ link.dropped 0)) _ (row_quiet place rows.DroppedCount [] _ (differ_not link.dropped 0)) rest_1)
    (λ holds. λ i. record {
      trace = link.trace;
      span = link.span;
      state = sym holds.1.1.1 i;
      attributes = holds.1.0 i;
      dropped = sym holds.0 i;
      flags = sym holds.1.1.0 i;
    })
    (λ same. (
      sym (ap (λ (l : Link). l.dropped) same),
      (ap (λ (l : Link). l.attributes) same, (sym (ap (λ (l : Link). l.flags) same), sym (ap (λ (l : Link). l.state) same))),
    ))

-- ---- spans

kind_stays : (kind : Kind) → (is_unspecified kind ≡ false) ↔ (normal_kind kind ≡ kind)
kind_stays kinds.Unspecified = (λ e. absurd (true≢false e), λ same. absurd (true≢false (sym (ap is_unspecified same))))
kind_stays other = (λ e. refl, λ same. refl)

message_stays : (code : Code) (message : List ℕ) → (message_goes code message ≡ false) ↔ ((normal_status (record { code = code; message = message })).message ≡ message)
message_stays statuses.Unset message = (λ e. sym ((given_not message).0 e), λ same. (given_not message).1 (sym same))
message_stays statuses.Okay message = (λ e. refl, λ same. refl)
message_stays statuses.Fail message = (λ e. refl, λ same. refl)

span_quiet : (n : ℕ) (span : Span) → Quiet (span_losses n span) (normal_span span ≡ span)
span_quiet n span =
    let place = places.Span n in
    let goes = message_goes span.status.code span.status.message in
    let rest_4 = both (lost place rows.Message goes) (lost place rows.Flags (differ span.flags (span.flags % 2)))
    (row_quiet place rows.Message [] goes (message_stays span.status.code span.status.message)) (row_quiet place rows.Flags [] _ (differ_not span.flags (span.flags % 2))) in
    let rest_3 = both (lost place rows.Kind (is_unspecified span.kind)) _ (row_quiet place rows.Kind [] _ (kind_stays span.kind)) rest_4 in
    let rest_2 = both (lost place rows.End (differ span.end (floor span.end))) _ (row_quiet place rows.End [] _ (differ_not span.end (floor span.end))) rest_3 in
    let rest_1 = both (lost place rows.Start (differ span.start (floor span.start))) _ (row_quiet place rows.Start [] _ (differ_not span.start (floor span.start))) rest_2 in
    let own = both (lost_keys place rows.Value becomes_text span.attributes) _ (mapped_quiet normal_attribute becomes_text pair_stays place rows.Value span.attributes) rest_1 in
    let inner = both (losses_of (event_losses n) 1 span.events) (losses_of (link_losses n) 1 span.links)
    (list_quiet normal_event (event_losses n) (event_quiet n) 1 span.events) (list_quiet normal_link (link_losses n) (link_quiet n) 1 span.links) in
    quiet_as (span_losses n span) (both (own_losses n span) _ own inner)
    (λ holds. λ i. record span {
      kind = holds.0.1.1.1.0 i;
      start = sym holds.0.1.0 i;
      end = sym holds.0.1.1.0 i;
      attributes = holds.0.0 i;
      events = holds.1.0 i;
      links = holds.1.1 i;
      status = record { code = span.status.code; message = holds.0.1.1.1.1.0 i };
      flags = sym holds.0.1.1.1.1.1 i;
    })
    (λ same. (
      (
        ap (λ (s : Span). s.attributes) same,
        (
          sym (ap (λ (s : Span). s.start) same),
          (
            sym (ap (λ (s : Span). s.end) same),
            (
              ap (λ (s : Span). s.kind) same,
              (ap (λ (s : Span). s.status.message) same, sym (ap (λ (s : Span). s.flags) same)),
            ),
          ),
        ),
      ),
      (ap (λ (s : Span). s.events) same, ap (λ (s : Span). s.links) same),
    ))

-- ---- what stands at the keys of a resource

-- what all pairs have, one that is found has
found_has : (P : List ℕ × Value → Type 0) (l : List (List ℕ × Value)) → AllByRecursion P l → (k : List ℕ) (v : Value) → at k l ≡ Some v → P (k, v)
found_has P [] all k v found = absurd (true≢false (sym (ap is_some found)))
found_has P (pair ∷ l) all k v found = by (found_has P l all.1 k v) (bytes_eq k pair.0) refl found
  where
    by : (at k l ≡ Some v → P (k, v)) → (b : Bool) → bytes_eq k pair.0 ≡ b → cond b (Some pair.1) (at k l) ≡ Some v → P (k, v)
    by rest true same here =
        let key : pair.0 ≡ k = sym (same_key k pair.0 same) in
        let value : pair.1 ≡ v = cc in
        subst P (λ i. (key i, value i)) all.0
    by rest false apart later = rest later

-- where keys rise each pair is found
later_found : (pair : List ℕ × Value) (l : List (List ℕ × Value)) → at pair.0 l ≡ None → (k : List ℕ) (v : Value) → at k l ≡ Some v
    → (b : Bool) → bytes_eq k pair.0 ≡ b → cond b (Some pair.1) (at k l) ≡ Some v
later_found pair l none k v found true same =
    absurd (true≢false (sym (ap is_some found) ∙ ap (λ (q : List ℕ). is_some (at q l)) (same_key k pair.0 same) ∙ ap is_some none))
later_found pair l none k v found false apart = found

found_all : (P : List ℕ × Value → Type 0) (l : List (List ℕ × Value)) → Rise (keys l) → ((k : List ℕ) (v : Value) → at k l ≡ Some v → P (k, v)) → AllByRecursion P l
unfolding IsStrictlySortedBy
found_all P [] up found = tt
found_all P (pair ∷ l) up found = (
  found pair.0 pair.1 (ap (λ (b : Bool). cond b (Some pair.1) (at pair.0 l)) (key_itself pair.0)),
  found_all P l up.1 (λ k v there. found k v (later_found pair l (at_below pair.0 l up.0) k v there (bytes_eq k pair.0) refl)),
)

-- ---- values of a resource

text_stays : (value : Value) → not (is_text value) ≡ false → is_empty (value_text value) ≡ false → text_given (value_text value) ≡ Some value
text_stays (Text text) is given = by text given
  where
    by : (t : List ℕ) → is_empty t ≡ false → text_given t ≡ Some (Text t)
    by [] given = absurd (true≢false given)
    by (x ∷ more) given = refl
text_stays other is given = absurd (true≢false is)

-- a text that is given isn't empty
given_text : (text : List ℕ) (value : Value) → text_given text ≡ Some value → (is_empty text ≡ false) × (is_text value ≡ true)
given_text [] value same = absurd (true≢false (sym (ap is_some same)))
given_text (x ∷ more) value same = let is : Text (x ∷ more) ≡ value = cc in (refl, ap is_text (sym is))

service_stays : (value : Option Value) → text_given (text_or_none value) ≡ value → service_goes value ≡ false
service_stays None same = refl
service_stays (Some value) same = (given_text (value_text value) value same).0

none_kept : (b : Bool) (value : Option Value) → cond b value value ≡ value
none_kept true value = refl
none_kept false value = refl

-- where a value stays, and where it doesn't change
module _ (goes : Bool) (goes_not : goes ≡ false) where
  value_kept : (b : Bool) (value : Value) → (if b then not goes && not (is_text value) else is_told_as_text value) ≡ false
      → (b ≡ true → is_empty (value_text value) ≡ false) → cond b (text_given (value_text value)) (Some (normal_value value)) ≡ Some value
  value_kept true value same given = text_stays value (ap (λ (g : Bool). not g && not (is_text value)) (sym goes_not) ∙ same) (given refl)
  value_kept false value same given = ap Some ((value_stays value).0 same)

  value_same : (b : Bool) (value : Value) → cond b (text_given (value_text value)) (Some (normal_value value)) ≡ Some value
      → (if b then not goes && not (is_text value) else is_told_as_text value) ≡ false
  value_same true value same =
      ap (λ (g : Bool). not g && not (is_text value)) goes_not ∙ ap not (given_text (value_text value) value same).1
  value_same false value same = let stays : normal_value value ≡ value = cc in (value_stays value).1 stays

module _ (resource : List (List ℕ × Value)) (up : Rise (keys resource)) where
  -- under `service.name` its text, if there is any, and under other keys what becomes of the value
  abbrev pub kept_at : List ℕ → Option Value → Option Value
  kept_at key value = cond (bytes_eq service_key key) (text_given (text_or_none value)) (option_map normal_value value)

  pub at_normal : (key : List ℕ) → at key (normal_resource resource) ≡ kept_at key (at key resource)
  at_normal key = by (bytes_eq service_key key) refl
    where
      by : (b : Bool) → bytes_eq service_key key ≡ b
          → at key (with_service (name_of resource) (other_attributes resource)) ≡ cond b (text_given (text_or_none (at key resource))) (option_map normal_value (at key resource))
      by true same =
          subst (λ (k : List ℕ). at k (with_service (name_of resource) (other_attributes resource)) ≡ text_given (text_or_none (at k resource))) (same_key service_key key same)
          (service_at (name_of resource) (other_attributes resource) (others_rise resource up) (others_none resource up))
      by false apart =
          at_attrs-append key (row service_key (text_given (name_of resource))) (other_attributes resource) (others_rise resource up)
          ∙ ap (option_or (at key (other_attributes resource))) (last_at-row key service_key (text_given (name_of resource))
          ∙ ap (λ (b : Bool). cond b (text_given (name_of resource)) None) (other_way service_key key apart))
          ∙ option_or-none (at key (other_attributes resource))
          ∙ at_map normal_value key (without service_key resource)
          ∙ ap (option_map normal_value) (at_filter key (λ k. not (bytes_eq service_key k)) resource ∙ ap (λ (b : Bool). cond (not b) (at key resource) None) apart)

  abbrev goes : Bool
  goes = service_goes (at service_key resource)

  abbrev Stays : List ℕ × Value → Type 0
  Stays pair = changes goes pair ≡ false

  each_kept : AllByRecursion Stays resource → goes ≡ false → (key : List ℕ) (value : Option Value) → at key resource ≡ value → kept_at key value ≡ value
  each_kept all goes_not key None found = none_kept (bytes_eq service_key key) None
  each_kept all goes_not key (Some value) found =
      value_kept goes goes_not (bytes_eq service_key key) value (found_has Stays resource all key value found)
      (λ same. sym (ap service_goes (ap (λ (k : List ℕ). at k resource) (same_key service_key key same) ∙ found)) ∙ goes_not)

  stays_if : AllByRecursion Stays resource → goes ≡ false → normal_resource resource ≡ resource
  stays_if all goes_not = same_pairs (normal_resource resource) resource (made_rise (name_of resource) (other_attributes resource)) up
      (λ key. at_normal key ∙ each_kept all goes_not key (at key resource) refl)

  module _ (same : normal_resource resource ≡ resource) where
    each_same : (key : List ℕ) → kept_at key (at key resource) ≡ at key resource
    each_same key = sym (at_normal key) ∙ ap (at key) same

    goes_none : goes ≡ false
    goes_none = service_stays (at service_key resource)
        (ap (λ (b : Bool). cond b (text_given (text_or_none (at service_key resource))) (option_map normal_value (at service_key resource))) (sym (key_itself service_key))
        ∙ each_same service_key)

    none_changes : AllByRecursion Stays resource
    none_changes = found_all Stays resource up
        (λ key value found. value_same goes goes_none (bytes_eq service_key key) value
        (ap (kept_at key) (sym found) ∙ each_same key ∙ found))

-- ---- the group

resource_quiet : (group : Group) → Rise (keys group.resource)
    → Quiet (resource_losses group) ((normal_resource group.resource ≡ group.resource) × ((group.dropped ≡ 0) × (group.schema_url ≡ [])))
resource_quiet group up =
    let resource = group.resource in
    let gone : Bool = service_goes (at service_key resource) in
    let rest_2 = both (lost places.Resource rows.SchemaUrl (not (is_empty group.schema_url))) (lost_key places.Resource rows.Empty service_key gone)
    (row_quiet places.Resource rows.SchemaUrl [] _ (given_not group.schema_url)) (row_quiet places.Resource rows.Empty service_key gone (same_test gone)) in
    let rest_1 = both (lost places.Resource rows.DroppedCount (differ group.dropped 0)) _ (row_quiet places.Resource rows.DroppedCount [] _ (differ_not group.dropped 0)) rest_2 in
    quiet_as (resource_losses group)
    (both (lost_keys places.Resource rows.Value (changes gone) resource) _ (keys_quiet places.Resource rows.Value (changes gone) resource) rest_1)
    (λ holds. (stays_if resource up holds.0 holds.1.1.1, (holds.1.0, holds.1.1.0)))
    (λ stays. (none_changes resource up stays.0, (stays.1.0, (stays.1.1, goes_none resource up stays.0))))

pub none_lost : NoneLost
none_lost group sound = quiet_as (group_losses group)
    (both (resource_losses group) (scopes_losses span_losses 1 1 None group.scopes) (resource_quiet group sound.resource.rising)
    (scopes_quiet normal_span span_losses span_quiet 1 1 group.scopes))
    (λ holds. λ i. record {
      resource = holds.0.0 i;
      dropped = sym holds.0.1.0 i;
      schema_url = sym holds.0.1.1 i;
      scopes = holds.1 i;
    })
    (λ same. (
      (ap (λ (g : Group). g.resource) same, (sym (ap (λ (g : Group). g.dropped) same), sym (ap (λ (g : Group). g.schema_url) same))),
      ap (λ (g : Group). g.scopes) same,
    ))
