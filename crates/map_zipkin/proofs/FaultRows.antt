-- Zipkin finds the faults of a span and of a resource, row by row.
use Rattle.std.proofs.Common.{◌≡◌, ℕ, Bool, true, false, not, List, [], ◌∷◌, Option, Some, None, is_some, refl, sym, ap, ◌∙◌, true≢false}
use Rattle.std.specs.Prelude.{Contains, IfSome, IfNone}
use Rattle.std.specs.Bool.{Decides}
use Rattle.std.specs.List.Sorted.{IsStrictlySortedBy}
use Rattle.std.proofs.lemmas.Bool.Decides.{Decides-and, Decides-like, Decides-ltb}
use Rattle.span_tags.specs.PlacedFaults.{KeyAtMost}
use Rattle.span_tags.specs.TagWords.{Pairs}
use Rattle.span_tags.specs.FoundFaults.{FindsRows, FindsFaults}
use Rattle.span_tags.proofs.FaultLaws.{doubles_decide, span_doubles}
use Rattle.span_tags.proofs.LeastRows.{least_same, least_found, least_key_of, Rising, any_decides, itself, never}
use Rattle.trace_model.specs.Attributes.{at}
use Rattle.trace_model.specs.EventExact.{EventTextsExact}
use Rattle.trace_model.specs.EventReading.{event_text_read}
use Rattle.trace_model.specs.EventTexts.{IsEventText}
use Rattle.trace_model.specs.Soundness.{IsSoundSpan}
use Rattle.trace_model.specs.ValueTexts.{has_double}
use Rattle.trace_model.specs.declared.fault.Fault.{Fault}
use Rattle.trace_model.specs.declared.fault.Fault.TheVariants.{DoubleInText}
use Rattle.trace_model.specs.declared.span.Event.{Event}
use Rattle.trace_model.specs.declared.span.Span.{Span}
use Rattle.trace_model.specs.declared.value.Value.{Value}
use Rattle.map_zipkin.specs.Faults.{IsOutOfForm, HasOwnKey, IsToldWrong, IsZipkinSpanFault, IsZipkinResourceFault}
use Rattle.map_zipkin.specs.LeastZipkinFault.{is_out_of_form, is_bare, is_told_wrong, zipkin_faults}
use Rattle.map_zipkin.specs.OwnColumns.{own_forms}

-- ---- keys of Zipkin's own

turned : (b : Bool) → Decides (not b) (b ≡ false)
turned true = (λ e. sym e, λ e. sym e)
turned false = (λ e. refl, λ e. refl)

out_decides : (form : Value → Bool) (value : Option Value) → Decides (is_out_of_form form value) (IsOutOfForm form value)
out_decides form None = never
out_decides form (Some value) = turned (form value)

abbrev OwnForm : Type 0
OwnForm = List ℕ × (Value → Bool)

abbrev key_of : OwnForm → List ℕ
key_of own = own.0

abbrev is_out : Pairs → OwnForm → Bool
is_out attributes own = is_out_of_form own.1 (at own.0 attributes)

abbrev IsOut : Pairs → OwnForm → Type 0
IsOut attributes own = (is_out attributes own ≡ true) × Contains own_forms own

abbrev IsOutAt : Pairs → List ℕ → Type 0
IsOutAt attributes key = (own : OwnForm) × (key ≡ key_of own) × IsOut attributes own

to_own : (span : Span) (key : List ℕ) → IsOutAt span.attributes key → HasOwnKey span key
to_own span key (own, same, (out, (k, lt, there))) = (k, own, lt, there, (same, (out_decides own.1 (at own.0 span.attributes)).0 out))

from_own : (span : Span) (key : List ℕ) → HasOwnKey span key → IsOutAt span.attributes key
from_own span key (k, own, lt, there, (same, out)) = (own, same, ((out_decides own.1 (at own.0 span.attributes)).1 out, (k, lt, there)))

own_forms_rise : Rising key_of own_forms
unfolding IsStrictlySortedBy
own_forms_rise = (
  (refl, (refl, (refl, (refl, (refl, (refl, (refl, tt))))))),
  (
    (refl, (refl, (refl, (refl, (refl, (refl, tt)))))),
    (
      (refl, (refl, (refl, (refl, (refl, tt))))),
      (
        (refl, (refl, (refl, (refl, tt)))),
        (
          (refl, (refl, (refl, tt))),
          (
            (refl, (refl, tt)),
            (
              (refl, tt),
              (tt, tt),
            ),
          ),
        ),
      ),
    ),
  ),
)

-- ---- names of events

bare_decides : (attributes : Pairs) → Decides (is_bare attributes) (attributes ≡ [])
bare_decides [] = (λ e. refl, λ e. refl)
bare_decides (pair ∷ pairs) = (λ e. absurd (true≢false (sym e)), λ e. cc)

abbrev ReadsAsEvent : List ℕ → Type 0
ReadsAsEvent name = (parts : List ℕ × Pairs) × (event_text_read name ≡ Some parts)

reads_decides : (name : List ℕ) (read : Option (List ℕ × Pairs)) → event_text_read name ≡ read → Decides (is_some read) (ReadsAsEvent name)
reads_decides name None e = (λ is. absurd (true≢false (sym is)), λ h. let apart : None ≡ Some h.0 = sym e ∙ h.1 in cc)
reads_decides name (Some parts) e = (λ is. (parts, e), λ h. refl)

module _ (exact : EventTextsExact) where
  wrong_decides : (event : Event) → Decides (is_told_wrong event) (IsToldWrong event)
  wrong_decides event = Decides-like (is_told_wrong event)
      (λ h. record { bare = h.0; name = h.1.0.0; attributes = h.1.0.1; reads = (exact event.name h.1.0.0 h.1.0.1).0 h.1.1 })
      (λ h. (h.bare, ((h.name, h.attributes), (exact event.name h.name h.attributes).1 h.reads)))
      (Decides-and (is_bare event.attributes) (is_some (event_text_read event.name)) (bare_decides event.attributes) (reads_decides event.name (event_text_read event.name) refl))

-- what reading event text answers, by the computation
pub found_or_none : EventTextsExact → (name : List ℕ) (read : Option (List ℕ × Pairs)) → IfSome read (λ parts. IsEventText name parts.0 parts.1)
    → IfNone read ((other : List ℕ) (attributes : Pairs) → ¬ IsEventText name other attributes) → is_some read ≡ is_some (event_text_read name)
found_or_none exact name (Some parts) found none = sym (ap is_some ((exact name parts.0 parts.1).1 found))
found_or_none exact name None found none = by (event_text_read name) refl
  where
    by : (o : Option (List ℕ × Pairs)) → event_text_read name ≡ o → false ≡ is_some o
    by None e = refl
    by (Some parts) e = absurd (none parts.0 parts.1 ((exact name parts.0 parts.1).0 e))

-- ---- all rows

only_doubles : (resource : Pairs) (fault : Fault) → IsZipkinResourceFault resource fault → fault ≡ DoubleInText
only_doubles resource DoubleInText h = refl
only_doubles resource other h = absurd h

module _ (exact : EventTextsExact) where
  rows : (span : Span) → IsSoundSpan span → FindsRows zipkin_faults span (IsZipkinSpanFault span)
  rows span sound = record {
    end = Decides-ltb span.end span.start;
    own = least_same KeyAtMost (IsOutAt span.attributes) (HasOwnKey span) (to_own span) (from_own span) _
        (least_key_of key_of (IsOut span.attributes) _ (least_found key_of (is_out span.attributes) own_forms own_forms_rise));
    event = any_decides is_told_wrong IsToldWrong (wrong_decides exact) span.events;
    link = never;
    double = span_doubles zipkin_faults (λ value. has_double value ≡ true) (λ value. itself (has_double value)) span;
  }

  pub finds_faults : FindsFaults zipkin_faults IsZipkinResourceFault IsZipkinSpanFault
  finds_faults = record {
    resource = doubles_decide zipkin_faults (λ value. has_double value ≡ true) (λ value. itself (has_double value));
    only_doubles = only_doubles;
    span = rows;
    no_own = refl;
    no_event = refl;
    no_link = refl;
  }
