-- Nothing is lost of a span exactly where it is its own normal form, of which the attributes are made pair by pair.
use Rattle.std.proofs.Common.{◌≡◌, ℕ, true, false, not, List, [], ◌∷◌, refl, sym, ap, true≢false}
use Rattle.std.specs.Prelude.{◌↔◌, ◌&&◌}
use Rattle.std.specs.List.{AllByRecursion}
use Rattle.span_ids.specs.Times.{floor}
use Rattle.trace_model.specs.EventTexts.{has_bytes, bytes_as_texts}
use Rattle.trace_model.specs.declared.loss.LossRow.TheVariants as rows
use Rattle.trace_model.specs.declared.place.Place.TheVariants as places
use Rattle.trace_model.specs.declared.span.Code.{Code}
use Rattle.trace_model.specs.declared.span.Code.TheVariants as statuses
use Rattle.trace_model.specs.declared.span.Event.{Event}
use Rattle.trace_model.specs.declared.span.Kind.{Kind}
use Rattle.trace_model.specs.declared.span.Kind.TheVariants as kinds
use Rattle.trace_model.specs.declared.span.Link.{Link}
use Rattle.trace_model.specs.declared.span.Span.{Span}
use Rattle.trace_model.specs.declared.value.Value.{Value}
use Rattle.span_tags.specs.Losses.{is_empty, differ, is_unspecified, lost, lost_keys, losses_of}
use Rattle.span_tags.proofs.QuietLaws.{Quiet, both, quiet_as, row_quiet, differ_not, keys_quiet, mapped_quiet, list_quiet}
use Rattle.span_tags.specs.TagWords.{Pairs}
use Rattle.map_zipkin.specs.Keys.{peer_key}
use Rattle.map_zipkin.specs.Losses.{goes, changes, bytes_change, event_losses, link_losses, message_goes, own_losses, span_losses}
use Rattle.map_zipkin.specs.private.LossWalks.{kept_texts}
use Rattle.map_zipkin.specs.Normal.{message_kept, zipkin_normal_kind, zipkin_normal_event, zipkin_normal_span}
use Rattle.map_zipkin.proofs.KeptTexts.{Stays, all_stay, none_go}

-- ---- attributes

-- the one key, and values that become texts
pub pairs_stay : (key : List ℕ) (l : Pairs) → AllByRecursion (λ pair. changes key pair ≡ false) l → AllByRecursion (λ pair. goes key pair ≡ false) l
    → AllByRecursion (Stays key) l
pairs_stay key [] values kept = tt
pairs_stay key (pair ∷ l) values kept = ((values.0, kept.0), pairs_stay key l values.1 kept.1)

pub values_stay : (key : List ℕ) (l : Pairs) → AllByRecursion (Stays key) l → AllByRecursion (λ pair. changes key pair ≡ false) l
values_stay key [] all = tt
values_stay key (pair ∷ l) all = (all.0.0, values_stay key l all.1)

pub keys_stay : (key : List ℕ) (l : Pairs) → AllByRecursion (Stays key) l → AllByRecursion (λ pair. goes key pair ≡ false) l
keys_stay key [] all = tt
keys_stay key (pair ∷ l) all = (all.0.1, keys_stay key l all.1)

-- a value in which no bytes stand stays, and no other
abbrev pub BytesStay : Type 0
BytesStay = (value : Value) → (has_bytes value ≡ false) ↔ (bytes_as_texts value ≡ value)

-- the span in normal form, of which the attributes are made pair by pair
abbrev pub plain_span : Span → Span
plain_span span = record (zipkin_normal_span span) { attributes = kept_texts peer_key span.attributes }

-- ---- links

pub links_quiet : (span n : ℕ) (links : List Link) → Quiet (losses_of (link_losses span) n links) ([] ≡ links)
links_quiet span n [] = (λ e. refl, λ e. refl)
links_quiet span n (link ∷ links) = (λ e. absurd (cc), λ e. absurd (cc))

-- ---- kinds and messages

kind_stays : (kind : Kind) → (is_unspecified kind ≡ false) ↔ (zipkin_normal_kind kind ≡ kind)
kind_stays kinds.Unspecified = (λ e. absurd (true≢false e), λ same. absurd (true≢false (sym (ap is_unspecified same))))
kind_stays other = (λ e. refl, λ same. refl)

-- a message that is kept, and one that isn't
kept_itself : (message : List ℕ) → (not (is_empty message) && is_empty message) ≡ false
kept_itself [] = refl
kept_itself (x ∷ more) = refl

gone_message : (message : List ℕ) → ((not (is_empty message) && true) ≡ false) ↔ ([] ≡ message)
gone_message [] = (λ e. refl, λ e. refl)
gone_message (x ∷ more) = (λ e. absurd (true≢false e), λ e. absurd (cc))

message_stays : (code : Code) (message : List ℕ) → (message_goes (record { code = code; message = message }) ≡ false) ↔ (message_kept code message ≡ message)
message_stays statuses.Unset message = gone_message message
message_stays statuses.Okay message = gone_message message
message_stays statuses.Fail message = (λ e. refl, λ same. kept_itself message)

module _ (bytes : BytesStay) where
  -- ---- events

  event_pair : (pair : List ℕ × Value) → (bytes_change pair ≡ false) ↔ ((pair.0, bytes_as_texts pair.1) ≡ pair)
  event_pair pair = (
    λ e. let same : bytes_as_texts pair.1 ≡ pair.1 = (bytes pair.1).0 e in λ i. (pair.0, same i),
    λ same. (bytes pair.1).1 (ap (λ (p : List ℕ × Value). p.1) same),
  )

  event_quiet : (span n : ℕ) (event : Event) → Quiet (event_losses span n event) (zipkin_normal_event event ≡ event)
  event_quiet span n event =
      let place = places.Event span n in
      quiet_as (event_losses span n event)
      (both (lost_keys place rows.Value bytes_change event.attributes) _
      (mapped_quiet (λ pair. (pair.0, bytes_as_texts pair.1)) bytes_change event_pair place rows.Value event.attributes)
      (both (lost place rows.DroppedCount (differ event.dropped 0)) (lost place rows.Time (differ event.time (floor event.time)))
      (row_quiet place rows.DroppedCount [] _ (differ_not event.dropped 0)) (row_quiet place rows.Time [] _ (differ_not event.time (floor event.time)))))
      (λ holds. λ i. record { time = sym holds.1.1 i; name = event.name; attributes = holds.0 i; dropped = sym holds.1.0 i })
      (λ same. (
        ap (λ (e : Event). e.attributes) same,
        (sym (ap (λ (e : Event). e.dropped) same), sym (ap (λ (e : Event). e.time) same)),
      ))

  -- ---- spans

  pub span_quiet : (n : ℕ) (span : Span) → Quiet (span_losses n span) (plain_span span ≡ span)
  span_quiet n span =
      let place = places.Span n in
      let message = message_goes span.status in
      let rest_5 = both (lost place rows.Message message) (lost place rows.Flags (differ span.flags 0))
      (row_quiet place rows.Message [] message (message_stays span.status.code span.status.message)) (row_quiet place rows.Flags [] _ (differ_not span.flags 0)) in
      let rest_4 = both (lost place rows.Kind (is_unspecified span.kind)) _ (row_quiet place rows.Kind [] _ (kind_stays span.kind)) rest_5 in
      let rest_3 = both (lost place rows.End (differ span.end (floor span.end))) _ (row_quiet place rows.End [] _ (differ_not span.end (floor span.end))) rest_4 in
      let rest_2 = both (lost place rows.Start (differ span.start (floor span.start))) _ (row_quiet place rows.Start [] _ (differ_not span.start (floor span.start))) rest_3 in
      let rest_1 = both (lost_keys place rows.Empty (goes peer_key) span.attributes) _ (keys_quiet place rows.Empty (goes peer_key) span.attributes) rest_2 in
      let own = both (lost_keys place rows.Value (changes peer_key) span.attributes) _ (keys_quiet place rows.Value (changes peer_key) span.attributes) rest_1 in
      let inner = both (losses_of (event_losses n) 1 span.events) (losses_of (link_losses n) 1 span.links)
      (list_quiet zipkin_normal_event (event_losses n) (event_quiet n) 1 span.events) (links_quiet n 1 span.links) in
      quiet_as (span_losses n span) (both (own_losses n span) _ own inner)
      (λ holds. let attributes = all_stay peer_key span.attributes (pairs_stay peer_key span.attributes holds.0.0 holds.0.1.0) in
      λ i. record span {
        kind = holds.0.1.1.1.1.0 i;
        start = sym holds.0.1.1.0 i;
        end = sym holds.0.1.1.1.0 i;
        attributes = attributes i;
        events = holds.1.0 i;
        links = holds.1.1 i;
        status = record { code = span.status.code; message = holds.0.1.1.1.1.1.0 i };
        flags = sym holds.0.1.1.1.1.1.1 i;
      })
      (λ same.
      let stay = none_go peer_key span.attributes (ap (λ (s : Span). s.attributes) same) in (
        (
          values_stay peer_key span.attributes stay,
          (
            keys_stay peer_key span.attributes stay,
            (
              sym (ap (λ (s : Span). s.start) same),
              (
                sym (ap (λ (s : Span). s.end) same),
                (
                  ap (λ (s : Span). s.kind) same,
                  (ap (λ (s : Span). s.status.message) same, sym (ap (λ (s : Span). s.flags) same)),
                ),
              ),
            ),
          ),
        ),
        (ap (λ (s : Span). s.events) same, ap (λ (s : Span). s.links) same),
      ))
