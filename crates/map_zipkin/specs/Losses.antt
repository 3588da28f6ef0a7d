-- What a move to Zipkin loses of a group that it can hold: where its places differ from their normal form, row by row, each place
-- by itself. So of a group without spans, which goes, the resource and the scopes are told as those of any other. Groups are told
-- one after the other, each by the run of the span before it, which is the last span of the groups before, in normal form.
use Rattle.std.specs.Prelude.{ℕ, Bool, true, false, not, ◌&&◌, if◌then◌else◌, List, [], ◌∷◌, ◌++◌, Option, Some, None, option_map}
use Rattle.std.specs.Option.{option_or}
use Rattle.std.specs.Str.{bytes_eq}
use Rattle.trace_model.specs.EventTexts.{has_bytes}
use Rattle.trace_model.specs.ValueTexts.{value_text}
use Rattle.trace_model.specs.declared.loss.Loss.{Loss}
use Rattle.trace_model.specs.declared.loss.LossRow.TheVariants as rows
use Rattle.trace_model.specs.declared.place.Place.TheVariants as places
use Rattle.trace_model.specs.declared.span.Event.{Event}
use Rattle.trace_model.specs.declared.span.Link.{Link}
use Rattle.trace_model.specs.declared.span.Span.{Span}
use Rattle.trace_model.specs.declared.span.Status.{Status}
use Rattle.trace_model.specs.declared.group.Group.{Group}
use Rattle.trace_model.specs.declared.value.Value.{Value}
use Rattle.span_tags.specs.Losses.{is_empty, differ, is_text, is_unspecified, lost, lost_keys, losses_of, Names, named, scopes_losses}
use Rattle.span_tags.specs.Runs.{scoped}
use Rattle.span_tags.specs.TagKeys.{service_key}
use Rattle.span_tags.specs.TagWords.{Pairs}
use Rattle.map_zipkin.specs.Keys.{peer_key}
use Rattle.map_zipkin.specs.Normal.{message_kept, normal_pairs, normal_spans, zipkin_normal_event, zipkin_normal_span}
use Rattle.map_zipkin.specs.Regrouped.{same_resource}
use Rattle.map_zipkin.specs.declared.run.Run.{Run}

-- ---- attributes

-- that of the one key goes where its text is empty
abbrev pub goes : List ℕ → List ℕ × Value → Bool
goes key pair = bytes_eq key pair.0 && is_empty (value_text pair.1)

-- one that stays becomes a text
abbrev pub changes : List ℕ → List ℕ × Value → Bool
changes key pair = not (goes key pair) && not (is_text pair.1)

-- ---- events and links

-- a value of an event's attribute has bytes in it, at any depth, which come back as their base64 texts
abbrev pub bytes_change : List ℕ × Value → Bool
bytes_change pair = has_bytes pair.1

-- of an event, by the number of its span and its own: values with bytes, its count of dropped attributes, and the nanoseconds
-- of its time below a microsecond
abbrev pub event_losses : ℕ → ℕ → Event → List Loss
event_losses span n event =
    lost_keys (places.Event span n) rows.Value bytes_change event.attributes
    ++ (lost (places.Event span n) rows.DroppedCount (differ event.dropped 0)
    ++ lost (places.Event span n) rows.Time (differ event.time (zipkin_normal_event event).time))

-- of a link, by the number of its span and its own: it is lost always, since a span of Zipkin v2 has no links
abbrev pub link_losses : ℕ → ℕ → Link → List Loss
link_losses span n link = lost (places.Link span n) rows.Link true

-- ---- spans

-- the status has a message, and its code isn't an error, so that Zipkin has no place for the message
abbrev pub message_goes : Status → Bool
message_goes status = not (is_empty status.message) && is_empty (message_kept status.code status.message)

-- of the span of this number, without its events and links: values that become texts, an empty `peer.service`, nanoseconds
-- below a microsecond, that its kind is unspecified, a message without an error, and its flags
abbrev pub own_losses : ℕ → Span → List Loss
own_losses n span =
    lost_keys (places.Span n) rows.Value (changes peer_key) span.attributes
    ++ (lost_keys (places.Span n) rows.Empty (goes peer_key) span.attributes
    ++ (lost (places.Span n) rows.Start (differ span.start (zipkin_normal_span span).start)
    ++ (lost (places.Span n) rows.End (differ span.end (zipkin_normal_span span).end)
    ++ (lost (places.Span n) rows.Kind (is_unspecified span.kind)
    ++ (lost (places.Span n) rows.Message (message_goes span.status)
    ++ lost (places.Span n) rows.Flags (differ span.flags (zipkin_normal_span span).flags))))))

-- a span, then its events, then its links
abbrev pub span_losses : ℕ → Span → List Loss
span_losses n span = own_losses n span ++ (losses_of (event_losses n) 1 span.events ++ losses_of (link_losses n) 1 span.links)

-- ---- the resource

-- of the resource: values that become texts, its count of dropped attributes, its schema URL, and an empty `service.name`
abbrev pub resource_losses : Group → List Loss
resource_losses group =
    lost_keys places.Resource rows.Value (changes service_key) group.resource
    ++ (lost places.Resource rows.DroppedCount (differ group.dropped 0)
    ++ (lost places.Resource rows.SchemaUrl (not (is_empty group.schema_url))
    ++ lost_keys places.Resource rows.Empty (goes service_key) group.resource))

-- ---- the span before

-- it has the same resource, in normal form
abbrev pub follows : Option Run → Pairs → Bool
follows None resource = false
follows (Some before) resource = same_resource before.resource (normal_pairs service_key resource)

-- the name and version of its scope, if it has the resource
abbrev pub names_before : Option Run → Pairs → Option Names
names_before before resource =
    if follows before resource then option_map (λ run. named run.name run.version) before else None

-- the last member of a list, if it has one
abbrev pub last_of : {A : Type 0} → List A → Option A
last_of [] = None
last_of (x ∷ []) = Some x
last_of (x ∷ next ∷ more) = last_of (next ∷ more)

-- the run of the last span of a group
abbrev pub last_run : Group → Option Run
last_run group = option_map (λ one. one.0) (last_of (normal_spans group))

-- of the last span, behind this group
abbrev pub run_behind : Option Run → Group → Option Run
run_behind before group = option_or (last_run group) before

-- ---- the group

-- there is no span in any scope of the group
abbrev pub has_no_span : Group → Bool
has_no_span group = is_empty (scoped group.scopes)

-- of the group as a whole: it goes where it has no span, or joins the group of the span before, which has the same resource
abbrev pub unit_losses : Option Run → Group → List Loss
unit_losses before group =
    lost places.Whole rows.UnitEmpty (has_no_span group)
    ++ lost places.Whole rows.UnitJoined (not (has_no_span group) && follows before group.resource)

-- of a group behind a span of this run, or behind none: the group as a whole, its resource, then its scopes and spans
abbrev pub group_losses : Option Run → Group → List Loss
group_losses before group =
    unit_losses before group
    ++ (resource_losses group
    ++ scopes_losses span_losses 1 1 (names_before before group.resource) group.scopes)

-- groups one after the other
abbrev pub groups_losses : Option Run → List Group → List Loss
groups_losses before [] = []
groups_losses before (group ∷ groups) = group_losses before group ++ groups_losses (run_behind before group) groups
