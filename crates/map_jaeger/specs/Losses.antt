-- What a move to Jaeger loses of a group that it can hold: where the group differs from its normal form, row by row.
use Rattle.std.specs.Prelude.{ℕ, Bool, true, false, not, ◌&&◌, if◌then◌else◌, List, [], ◌∷◌, ◌++◌, Option, Some, None}
use Rattle.std.specs.Str.{bytes_eq}
use Rattle.trace_model.specs.Attributes.{at}
use Rattle.trace_model.specs.ValueTexts.{value_text}
use Rattle.trace_model.specs.declared.loss.Loss.{Loss}
use Rattle.trace_model.specs.declared.loss.LossRow.TheVariants as rows
use Rattle.trace_model.specs.declared.place.Place.TheVariants as places
use Rattle.trace_model.specs.declared.span.Code.{Code}
use Rattle.trace_model.specs.declared.span.Code.TheVariants as statuses
use Rattle.trace_model.specs.declared.span.Event.{Event}
use Rattle.trace_model.specs.declared.span.Link.{Link}
use Rattle.trace_model.specs.declared.span.Span.{Span}
use Rattle.trace_model.specs.declared.group.Group.{Group}
use Rattle.trace_model.specs.declared.value.Value.{Value, List', Map', Nothing}
use Rattle.span_tags.specs.Losses.{is_empty, differ, is_text, is_unspecified, lost, lost_key, lost_keys, losses_of, scopes_losses}
use Rattle.span_tags.specs.TagKeys.{service_key}
use Rattle.span_tags.specs.TagWords.{Pairs}
use Rattle.map_jaeger.specs.Keys.{reference_key}
use Rattle.map_jaeger.specs.Normal.{normal_event, normal_span}
use Rattle.map_jaeger.specs.Writing.{is_child_of}

-- ---- attributes

-- lists, maps and no value become their texts
abbrev pub is_told_as_text : Value → Bool
is_told_as_text (List' shape members) = true
is_told_as_text (Map' shape members) = true
is_told_as_text Nothing = true
is_told_as_text other = false

-- the attribute's value becomes a text
abbrev pub becomes_text : List ℕ × Value → Bool
becomes_text pair = is_told_as_text pair.1

-- ---- events and links

-- what is lost of an event, by the number of its span and its own: values that become texts, its dropped count, and what its
-- time has below the microsecond
abbrev pub event_losses : ℕ → ℕ → Event → List Loss
event_losses span n event =
    lost_keys (places.Event span n) rows.Value becomes_text event.attributes
    ++ (lost (places.Event span n) rows.DroppedCount (differ event.dropped 0)
    ++ lost (places.Event span n) rows.Time (differ event.time (normal_event event).time))

-- the attribute is the mark of CHILD_OF: `opentracing.ref_type` with the text `child_of`
abbrev pub is_mark : List ℕ × Value → Bool
is_mark pair = bytes_eq reference_key pair.0 && is_child_of (Some pair.1)

-- a link keeps no attribute but the mark of CHILD_OF
abbrev pub are_kept : Pairs → Bool
are_kept [] = true
are_kept (pair ∷ []) = is_mark pair
are_kept (pair ∷ next ∷ more) = false

-- what is lost of a link, by the number of its span and its own: its dropped count, attributes but the mark of CHILD_OF, flags
-- and trace state
abbrev pub link_losses : ℕ → ℕ → Link → List Loss
link_losses span n link =
    lost (places.Link span n) rows.DroppedCount (differ link.dropped 0)
    ++ (lost (places.Link span n) rows.Attributes (not (are_kept link.attributes))
    ++ (lost (places.Link span n) rows.Flags (differ link.flags 0)
    ++ lost (places.Link span n) rows.State (not (is_empty link.state))))

-- ---- spans

-- a message without a code
abbrev pub message_goes : Code → List ℕ → Bool
message_goes statuses.Unset message = not (is_empty message)
message_goes code message = false

-- what is lost of a span itself, by its number: values that become texts, what its times have below the microsecond, that its
-- kind isn't given, a message without a code, and flags above the first bit
abbrev pub own_losses : ℕ → Span → List Loss
own_losses n span =
    lost_keys (places.Span n) rows.Value becomes_text span.attributes
    ++ (lost (places.Span n) rows.Start (differ span.start (normal_span span).start)
    ++ (lost (places.Span n) rows.End (differ span.end (normal_span span).end)
    ++ (lost (places.Span n) rows.Kind (is_unspecified span.kind)
    ++ (lost (places.Span n) rows.Message (message_goes span.status.code span.status.message)
    ++ lost (places.Span n) rows.Flags (differ span.flags (normal_span span).flags)))))

-- a span, then its events, then its links
abbrev pub span_losses : ℕ → Span → List Loss
span_losses n span = own_losses n span ++ (losses_of (event_losses n) 1 span.events ++ losses_of (link_losses n) 1 span.links)

-- ---- the resource

-- `service.name` goes where its text is empty
abbrev pub service_goes : Option Value → Bool
service_goes None = false
service_goes (Some value) = is_empty (value_text value)

-- else it becomes a text, and others as elsewhere
abbrev pub changes : Bool → List ℕ × Value → Bool
changes goes pair = if bytes_eq service_key pair.0 then not goes && not (is_text pair.1) else becomes_text pair

-- what is lost of the resource: values that become texts, its dropped count and schema URL, and a `service.name` of empty text
abbrev pub resource_losses : Group → List Loss
resource_losses group =
    let goes = service_goes (at service_key group.resource) in
    lost_keys places.Resource rows.Value (changes goes) group.resource
    ++ (lost places.Resource rows.DroppedCount (differ group.dropped 0)
    ++ (lost places.Resource rows.SchemaUrl (not (is_empty group.schema_url))
    ++ lost_key places.Resource rows.Empty service_key goes))

-- ---- the group

-- what is lost of the group: of its resource, then of each scope and its spans; scopes and spans are counted from 1
abbrev pub group_losses : Group → List Loss
group_losses group = resource_losses group ++ scopes_losses span_losses 1 1 None group.scopes
