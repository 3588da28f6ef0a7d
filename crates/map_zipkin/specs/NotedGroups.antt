-- The groups that spans of Zipkin are, each with the remarks on it: those on its spans, in order, which are counted from 1 through its scopes.
use Rattle.std.specs.Prelude.{ℕ, List, [], ◌∷◌, map, length, take, drop}
use Rattle.span_tags.specs.Runs.{scoped}
use Rattle.trace_model.specs.OtlpParts.{NotedGroup}
use Rattle.trace_model.specs.Remarks.{Keys, tags_dropped, numbered}
use Rattle.trace_model.specs.declared.place.Place.TheVariants as places
use Rattle.trace_model.specs.declared.remark.Remark.{Remark}
use Rattle.trace_model.specs.declared.group.Group.{Group}
use Rattle.zipkin_json.specs.declared.span.ZSpan.{ZSpan}
use Rattle.map_zipkin.specs.Reading.{groups_of}
use Rattle.map_zipkin.specs.Remarks.{zipkin_left_out}

-- a group beside the remarks on it, as calls answer it
abbrev pub noted_group : Group × List Remark → NotedGroup
noted_group group = record { means = group.0; notes = group.1 }

-- a group on which there is no remark
abbrev pub plain_noted : Group → NotedGroup
plain_noted group = record { means = group; notes = [] }

-- on the span of this number, of which tags of these keys are left out
abbrev pub left_out_remarks : ℕ → Keys → List Remark
left_out_remarks n keys = tags_dropped (places.Span n) keys

-- how many spans there are in a group
abbrev pub spans_in : Group → ℕ
spans_in group = length (scoped group.scopes)

-- Groups, of whose spans tags of these keys are left out, span after span: each group has the remarks on as many spans as it has.
abbrev pub with_left_out : List Group → List Keys → List NotedGroup
with_left_out [] left_out = []
with_left_out (group ∷ groups) left_out =
    record { means = group; notes = numbered left_out_remarks 1 (take (spans_in group) left_out) } ∷ with_left_out groups (drop (spans_in group) left_out)

-- the groups that these spans of Zipkin are, each with a remark for every tag of its spans that was left out
abbrev pub noted_groups_of : List ZSpan → List NotedGroup
noted_groups_of spans = with_left_out (groups_of spans) (map zipkin_left_out spans)
