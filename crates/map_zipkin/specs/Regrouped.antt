-- Spans under their resources and scopes, one after the other, and the trace that they are: its groups are the maximal runs of equal resource,
-- and in them its scopes those of equal name and version.
use Rattle.std.specs.Prelude.{Bool, true, false, ◌&&◌, if◌then◌else◌, List, [], ◌∷◌, map}
use Rattle.std.specs.Str.{bytes_eq}
use Rattle.span_tags.specs.Runs.{Scoped, scoped, in_front}
use Rattle.span_tags.specs.TagWords.{Pairs}
use Rattle.trace_model.specs.declared.span.Span.{Span}
use Rattle.trace_model.specs.declared.group.Group.{Group}
use Rattle.trace_model.specs.declared.group.Scope.{Scope}
use Rattle.trace_model.specs.declared.value.Value.{Value, Text}
use Rattle.map_zipkin.specs.declared.run.Run.{Run}

-- a span of a run
abbrev pub RunSpan : Type 0
RunSpan = Run × Span

-- a span under the name and version of its scope, without its resource
abbrev pub in_scope : RunSpan → Scoped Span
in_scope one = record { name = one.0.name; version = one.0.version; span = one.1 }

-- ---- the spans of a group, each with its run

-- a span under its scope, with the resource of its group added
abbrev pub run_of : Pairs → Scoped Span → RunSpan
run_of resource one = (record { resource = resource; name = one.name; version = one.version }, one.span)

-- all spans of a group, scope after scope, each with the group's resource and its scope's name and version
abbrev pub runs_of : Group → List RunSpan
runs_of group = map (run_of group.resource) (scoped group.scopes)

-- ---- equal resources, of which all values are texts

-- both values are texts, and equal; any other value equals nothing, not even itself
abbrev pub same_text : Value → Value → Bool
same_text (Text a) (Text b) = bytes_eq a b
same_text value other = false

-- the same keys with the same texts in the same order
abbrev pub same_resource : Pairs → Pairs → Bool
same_resource [] [] = true
same_resource [] (other ∷ others) = false
same_resource (pair ∷ pairs) [] = false
same_resource (pair ∷ pairs) (other ∷ others) =
    (bytes_eq pair.0 other.0 && same_text pair.1 other.1) && same_resource pairs others

-- ---- one more span in front

-- a group that has a resource and scopes alone
abbrev pub plain_group : Pairs → List Scope → Group
plain_group resource scopes = record { resource = resource; dropped = 0; schema_url = []; scopes = scopes }

-- a group of this one span, under its resource and its scope
abbrev pub group_of_one : RunSpan → Group
group_of_one one = plain_group one.0.resource (in_front (in_scope one) [])

-- groups with one more span in front: in the first group where that has the same resource, else in a group of its own
abbrev pub before : RunSpan → List Group → List Group
before one [] = group_of_one one ∷ []
before one (group ∷ groups) =
    if same_resource one.0.resource group.resource then plain_group group.resource (in_front (in_scope one) group.scopes) ∷ groups
    else group_of_one one ∷ group ∷ groups

-- the groups of spans, in order: neighbours of the same resource share a group, and in it those of the same scope a scope
abbrev pub regrouped : List RunSpan → List Group
regrouped [] = []
regrouped (one ∷ more) = before one (regrouped more)
