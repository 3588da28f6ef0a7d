-- What is remarked on a span of Zipkin: tags that say nothing, or other than what stands in a place of its own, and are left out.
use Rattle.std.specs.Prelude.{ℕ, Bool, true, false, not, is_some, List, [], ◌∷◌, ◌++◌, Option, Some, None}
use Rattle.std.specs.Str.{bytes_eq}
use Rattle.span_tags.specs.Columns.{left_out_by as left_out_of}
use Rattle.span_tags.specs.TagKeys.{service_key}
use Rattle.span_tags.specs.TagWords.{Pairs, text_in, if_left}
use Rattle.trace_model.specs.Attributes.{at}
use Rattle.trace_model.specs.Remarks.{Keys, tags_dropped}
use Rattle.trace_model.specs.declared.place.Place.TheVariants as places
use Rattle.trace_model.specs.declared.remark.Remark.{Remark}
use Rattle.zipkin_json.specs.declared.span.ZSpan.{ZSpan}
use Rattle.map_zipkin.specs.Keys.{resource_prefix, peer_key}
use Rattle.map_zipkin.specs.OwnColumns.{all_own, own_row, own_in}
use Rattle.map_zipkin.specs.Reading.{pairs_of}
use Rattle.map_zipkin.specs.TagColumns.{TagColumns, row_of, columns_in, is_idle_in}
use Rattle.map_zipkin.specs.declared.columns.Column.{Column}
use Rattle.map_zipkin.specs.declared.columns.Column.TheVariants as columns

-- the endpoint names a service, and the tag names another
abbrev pub differs : List ℕ → List ℕ → Bool
differs [] tag = false
differs (x ∷ more) tag = not (bytes_eq (x ∷ more) tag)

-- there is a tag of the remote service, and it is left out: it is empty, or differs from the service that the endpoint names
abbrev pub is_idle_peer : List ℕ → Option (List ℕ) → Bool
is_idle_peer service None = false
is_idle_peer service (Some []) = true
is_idle_peer service (Some (x ∷ more)) = differs service (x ∷ more)

-- the tags of Zipkin's own keys are never read
abbrev pub own_left : Pairs → Keys
own_left tags = left_out_of own_row all_own (own_in tags)

-- the columns in front of the service of the resource, by rising keys
abbrev pub first_columns : List Column
first_columns =
    columns.Error ∷ columns.DroppedAttributes ∷ columns.DroppedEvents ∷ columns.DroppedLinks ∷ columns.LibraryName
    ∷ columns.LibraryVersion ∷ []

-- those under reserved keys, in the order of these
abbrev pub reserved_left : TagColumns → Pairs → Keys
reserved_left c tags = left_out_of row_of first_columns c
    ++ (if_left (resource_prefix ++ service_key) (is_some (at (resource_prefix ++ service_key) tags))
    ++ if_left (row_of columns.Code).key (is_idle_in c columns.Code))

-- all, in the order of their keys, of a span whose remote service is this
abbrev pub left_out_by : List ℕ → TagColumns → Pairs → Keys
left_out_by peer c tags =
    reserved_left c tags ++ (if_left peer_key (is_idle_peer peer (text_in (at peer_key tags))) ++ own_left tags)

-- the keys of all tags of a span of Zipkin that are left out, in their order
abbrev pub zipkin_left_out : ZSpan → Keys
zipkin_left_out span = left_out_by span.remote.service (columns_in (pairs_of span)) (pairs_of span)

-- a remark for each such tag, at the span, which is given the number 1
abbrev pub zipkin_remarks : ZSpan → List Remark
zipkin_remarks span = tags_dropped (places.Span 1) (zipkin_left_out span)
