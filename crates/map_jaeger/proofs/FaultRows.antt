-- Jaeger finds the faults of a span and of a resource, row by row.
use Rattle.std.proofs.Common.{◌≡◌, ℕ, List, Option, Some, None, is_some, refl, sym, ap, ⊎_elim, inl, inr, true≢false}
use Rattle.std.specs.Prelude.{◌⊎◌, ◌&&◌, ◌==◌, Contains, is_none}
use Rattle.std.specs.Bool.{Decides}
use Rattle.std.proofs.lemmas.Bool.Decides.{Decides-and, Decides-or, Decides-like, Decides-eqb, Decides-ltb}
use Rattle.trace_model.specs.Attributes.{keys, at}
use Rattle.trace_model.specs.Soundness.{IsSoundSpan}
use Rattle.trace_model.specs.ValueTexts.{has_double}
use Rattle.trace_model.specs.declared.fault.Fault.{Fault}
use Rattle.trace_model.specs.declared.fault.Fault.TheVariants.{DoubleInText}
use Rattle.trace_model.specs.declared.span.Link.{Link}
use Rattle.trace_model.specs.declared.span.Span.{Span}
use Rattle.trace_model.specs.declared.value.Value.{Value, List', Map'}
use Rattle.span_tags.specs.Doubles.{double_at}
use Rattle.span_tags.specs.PlacedFaults.{KeyAtMost}
use Rattle.span_tags.specs.TagKeys.{service_key}
use Rattle.span_tags.specs.TagWords.{Pairs}
use Rattle.span_tags.proofs.AttributeLaws.{key_of_some, some_of_key}
use Rattle.span_tags.specs.FoundFaults.{FindsRows, FindsFaults}
use Rattle.span_tags.proofs.FaultLaws.{doubles_decide, span_doubles}
use Rattle.span_tags.proofs.LeastRows.{least_same, least_if, not_above_itself, any_decides, itself, never}
use Rattle.map_jaeger.specs.ColumnWords.{flags_in}
use Rattle.map_jaeger.specs.Faults.{HasOwn, IsOwnParent, HasDoubleInside, HasDoubleAt, IsSpanFault, IsResourceFault}
use Rattle.map_jaeger.specs.Keys.{flags_key, reference_key}
use Rattle.map_jaeger.specs.LeastFault.{names_parent, is_own_link, double_inside, doubles_inside, jaeger_faults}
use Rattle.map_jaeger.specs.Writing.{is_child_of}

-- ---- keys

there_decides : (key : List ℕ) (attributes : Pairs) → Decides (is_some (at key attributes)) (Contains (keys attributes) key)
there_decides key attributes = (key_of_some key attributes, some_of_key key attributes)

none_decides : {A : Type 0} → (o : Option A) → Decides (is_none o) (o ≡ None)
none_decides None = (λ e. refl, λ e. refl)
none_decides (Some x) = (λ e. absurd (true≢false (sym e)), λ e. absurd (cc))

abbrev IsOut : Pairs → Type 0
IsOut attributes = Contains (keys attributes) flags_key × (flags_in (at flags_key attributes) ≡ None)

out_decides : (attributes : Pairs) → Decides (is_some (at flags_key attributes) && is_none (flags_in (at flags_key attributes))) (IsOut attributes)
out_decides attributes = Decides-and (is_some (at flags_key attributes)) (is_none (flags_in (at flags_key attributes)))
    (there_decides flags_key attributes) (none_decides (flags_in (at flags_key attributes)))

-- ---- links

names_decides : (parent : Option ℕ) (id : ℕ) → Decides (names_parent parent id) ((parent ≡ None) ⊎ (parent ≡ Some id))
names_decides None id = (λ e. inl refl, λ h. refl)
names_decides (Some parent) id = (
  λ e. inr (ap Some ((Decides-eqb parent id).0 e)),
  λ h. ⊎_elim
      (λ (none : Some parent ≡ None). absurd (cc))
      (λ (same : Some parent ≡ Some id). (Decides-eqb parent id).1 (cc)) h,
)

own_link_decides : (span : Span) (link : Link) → Decides (is_own_link span link) (IsOwnParent span link)
own_link_decides span link = Decides-like (is_own_link span link) (λ h. (h.0, h.1.0, h.1.1)) (λ h. (h.0, (h.1, h.2)))
    (Decides-and (is_child_of (at reference_key link.attributes)) ((link.trace == span.trace) && names_parent span.parent link.span)
    (itself (is_child_of (at reference_key link.attributes)))
    (Decides-and (link.trace == span.trace) (names_parent span.parent link.span) (Decides-eqb link.trace span.trace) (names_decides span.parent link.span)))

-- ---- doubles

pub inside_decides : (value : Value) → Decides (double_inside value) (HasDoubleInside value)
inside_decides (List' shape members) = itself (has_double (List' shape members))
inside_decides (Map' shape members) = itself (has_double (Map' shape members))
inside_decides other = never

at_decides : (value : Option Value) → Decides (double_at value) (HasDoubleAt value)
at_decides None = never
at_decides (Some value) = itself (has_double value)

only_doubles : (resource : Pairs) (fault : Fault) → IsResourceFault resource fault → fault ≡ DoubleInText
only_doubles resource DoubleInText h = refl
only_doubles resource other h = absurd h

-- ---- all rows

rows : (span : Span) → IsSoundSpan span → FindsRows jaeger_faults span (IsSpanFault span)
rows span sound = record {
  end = Decides-ltb span.end span.start;
  own = least_same KeyAtMost (λ key. (key ≡ flags_key) × IsOut span.attributes) (HasOwn span)
      (λ key h. (h.0, h.1.0, h.1.1)) (λ key h. (h.0, (h.1, h.2))) _
      (least_if KeyAtMost not_above_itself flags_key (IsOut span.attributes) _ (out_decides span.attributes));
  event = never;
  link = any_decides (is_own_link span) (IsOwnParent span) (own_link_decides span) span.links;
  double = span_doubles jaeger_faults HasDoubleInside inside_decides span;
}

pub finds_faults : FindsFaults jaeger_faults IsResourceFault IsSpanFault
finds_faults = record {
  resource = λ resource. Decides-or (double_at (at service_key resource)) (doubles_inside resource)
      (at_decides (at service_key resource)) (doubles_decide jaeger_faults HasDoubleInside inside_decides resource);
  only_doubles = only_doubles;
  span = rows;
  no_own = refl;
  no_event = refl;
  no_link = refl;
}
