-- A group in which nothing is a fault has all that its spans are written of.
use Rattle.std.proofs.Common.{◌≡◌, ◌<◌, Bool, true, false, ◌||◌, List, get_or, All, Option, arith, inl, inr}
use Rattle.std.specs.List.{list_any}
use Rattle.std.proofs.lemmas.Bool.{le-ltb}
use Rattle.std.proofs.lemmas.List.Folds.{list_any_none}
use Rattle.span_tags.proofs.FaultLaws.{plain_resource, none_scoped}
use Rattle.span_tags.specs.Runs.{scoped}
use Rattle.span_tags.specs.TagWords.{Pairs}
use Rattle.trace_model.specs.EventTexts.{holds_double}
use Rattle.trace_model.specs.ValueTexts.{has_double}
use Rattle.trace_model.specs.declared.fault.Fault.TheVariants.{DoubleInText}
use Rattle.trace_model.specs.declared.span.Event.{Event}
use Rattle.trace_model.specs.declared.span.Span.{Span}
use Rattle.trace_model.specs.declared.group.Group.{Group}
use Rattle.trace_model.specs.declared.value.Value.{Value}
use Rattle.map_zipkin.specs.Faults.{HasDoubleIn, IsZipkinResourceFault, IsZipkinSpanFault, HasNoZipkinFault}
use Rattle.map_zipkin.specs.OwnColumns.{own_in, is_port_text}
use Rattle.map_zipkin.specs.TagColumns.{port_told}
use Rattle.map_zipkin.specs.private.Unfit.{event_unfit, port_unfit, ports_unfit, span_unfit, scope_unfit, group_unfit}
use Rattle.map_zipkin.specs.declared.own.Own.TheVariants as owns
use Rattle.map_zipkin.proofs.EventsBack.{none_of, none_passes}
use Rattle.map_zipkin.proofs.HeldSpans.{NoSpanFault, spans_plain}
use Rattle.map_zipkin.proofs.OwnForms.{IsFormed, port_fits}
use Rattle.map_zipkin.proofs.SpanBack.{all_formed}

both_false : (a b : Bool) → a ≡ false → b ≡ false → (a || b) ≡ false
both_false a b first second = rw first second

pairs_fit : (pairs : Pairs) → (HasDoubleIn pairs → ⊥) → holds_double pairs ≡ false
pairs_fit pairs none = none_passes (λ pair. has_double pair.1) pairs (none_of (λ pair. has_double pair.1 ≡ true) pairs none)

port_fit : (value : Option Value) → IsFormed is_port_text value → port_unfit value ≡ false
port_fit value formed = let fits : port_told value < 65536 = port_fits value formed in le-ltb 65535 (port_told value) (omega (arith, fits))

events_fit : (events : List Event) → All (λ event. HasDoubleIn event.attributes → ⊥) events → list_any event_unfit events ≡ false
events_fit events none = list_any_none event_unfit events (λ i d lt. pairs_fit _ (none i d lt))

span_fit : (span : Span) → NoSpanFault span → span_unfit span ≡ false
span_fit span none =
    let formed = all_formed span none in
    both_false (holds_double span.attributes) (ports_unfit span.attributes || list_any event_unfit span.events)
    (pairs_fit span.attributes (λ any. none DoubleInText (inl any)))
    (both_false (ports_unfit span.attributes) (list_any event_unfit span.events)
    (both_false (port_unfit (own_in span.attributes owns.LocalPort)) (port_unfit (own_in span.attributes owns.RemotePort))
    (port_fit (own_in span.attributes owns.LocalPort) (formed owns.LocalPort)) (port_fit (own_in span.attributes owns.RemotePort) (formed owns.RemotePort)))
    (events_fit span.events (none_of (λ event. HasDoubleIn event.attributes) span.events (λ any. none DoubleInText (inr any)))))

pub resource_fit : (group : Group) → HasNoZipkinFault group → holds_double group.resource ≡ false
resource_fit group none = pairs_fit group.resource (plain_resource IsZipkinResourceFault IsZipkinSpanFault group none DoubleInText)

pub group_fit : (group : Group) → HasNoZipkinFault group → group_unfit group ≡ false
group_fit group none = both_false (holds_double group.resource) (list_any scope_unfit group.scopes)
    (resource_fit group none)
    (none_scoped span_unfit group.scopes (λ k d lt. span_fit (get_or (scoped group.scopes) k d).span (spans_plain group none k d lt)))
