-- An event that was written as an annotation is read as its normal form.
use Rattle.std.proofs.Common.{◌≡◌, ◌≢◌, ℕ, Bool, true, false, ◌||◌, List, [], ◌∷◌, get_or, All, Option, Some, None, refl, ap, subst}
use Rattle.std.specs.Prelude.{◌↔◌, Any}
use Rattle.std.specs.List.{list_any}
use Rattle.std.proofs.lemmas.List.{get_or_default}
use Rattle.std.proofs.lemmas.List.Elements.{All-head, All-tail}
use Rattle.span_ids.specs.Times.{floor}
use Rattle.span_tags.specs.TagWords.{Pairs}
use Rattle.trace_model.specs.EventReading.{event_text_read}
use Rattle.trace_model.specs.EventTexts.{IsEventText, event_text, holds_double, with_texts}
use Rattle.trace_model.specs.Proper.{AreProper, IsProperEvent}
use Rattle.trace_model.specs.Soundness.{IsSoundEvent}
use Rattle.trace_model.specs.ValueTexts.{has_double}
use Rattle.trace_model.specs.Values.{AreSound}
use Rattle.trace_model.specs.declared.span.Event.{Event}
use Rattle.map_zipkin.specs.Faults.{IsToldWrong, HasDoubleIn}
use Rattle.map_zipkin.specs.Normal.{zipkin_normal_event}
use Rattle.map_zipkin.specs.Reading.{event_by, zipkin_event_of}
use Rattle.map_zipkin.specs.Writing.{annotation_of}

-- what has none of a kind has none at each place
pub none_of : {A : Type 0} → (P : A → Type 0) (xs : List A) → (Any P xs → ⊥) → All (λ x. P x → ⊥) xs
none_of P xs never k d lt here = never (k, get_or xs k d, lt, get_or_default xs k (get_or xs k d) d lt, here)

pub none_passes : {A : Type 0} → (test : A → Bool) (xs : List A) → All (λ x. test x ≡ true → ⊥) xs → list_any test xs ≡ false
none_passes test [] all = refl
none_passes test (x ∷ xs) all = by (test x) (All-head (λ y. test y ≡ true → ⊥) x xs all) (none_passes test xs (All-tail (λ y. test y ≡ true → ⊥) x xs all))
  where
    by : (b : Bool) → (b ≡ true → ⊥) → list_any test xs ≡ false → (b || list_any test xs) ≡ false
    by true never rest = absurd (never refl)
    by false never rest = rest

-- laws of event text: it is read exactly, and what is written of attributes is read back
abbrev pub ReadsEvents : Type 0
ReadsEvents = (text name : List ℕ) (attributes : Pairs) → (event_text_read text ≡ Some (name, attributes)) ↔ IsEventText text name attributes

abbrev pub EventsReadBack : Type 0
EventsReadBack = (name : List ℕ) (attributes : Pairs) → AreProper attributes → AreSound attributes → attributes ≢ [] → holds_double attributes ≡ false
    → IsEventText (event_text name attributes) name (with_texts attributes)

module _ (reads : ReadsEvents) (written : EventsReadBack) (event : Event) (sound : IsSoundEvent event) (proper : IsProperEvent event)
    (told_right : IsToldWrong event → ⊥) (no_double : HasDoubleIn event.attributes → ⊥) where
  abbrev Back : Pairs → Type 0
  Back attributes = event_by (floor event.time) (event_text event.name attributes) (event_text_read (event_text event.name attributes))
      ≡ record { time = floor event.time; name = event.name; attributes = with_texts attributes; dropped = 0 }

  name_back : event.attributes ≡ [] → (read : Option (List ℕ × Pairs)) → event_text_read event.name ≡ read
      → event_by (floor event.time) event.name read ≡ record { time = floor event.time; name = event.name; attributes = []; dropped = 0 }
  name_back bare None e = refl
  name_back bare (Some (name, attributes)) e =
      absurd (told_right (record { bare = bare; name = name; attributes = attributes; reads = (reads event.name name attributes).0 e }))

  back_by : (attributes : Pairs) → event.attributes ≡ attributes → Back attributes
  back_by [] e = name_back e (event_text_read event.name) refl
  back_by (pair ∷ pairs) e =
      let plain : holds_double (pair ∷ pairs) ≡ false =
      subst (λ l. holds_double l ≡ false) e (none_passes (λ pair. has_double pair.1) event.attributes (none_of (λ attribute. has_double attribute.1 ≡ true) event.attributes no_double)) in
      let some : pair ∷ pairs ≢ [] = λ none. cc in
      let text : IsEventText (event_text event.name (pair ∷ pairs)) event.name (with_texts (pair ∷ pairs)) =
      written event.name (pair ∷ pairs) (subst AreProper e proper.attributes) (subst AreSound e sound) some plain in
      ap (event_by (floor event.time) (event_text event.name (pair ∷ pairs)))
      ((reads (event_text event.name (pair ∷ pairs)) event.name (with_texts (pair ∷ pairs))).1 text)

  pub event_back : zipkin_event_of (annotation_of event) ≡ zipkin_normal_event event
  event_back = back_by event.attributes refl
