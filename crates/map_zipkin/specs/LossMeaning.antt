-- What a loss means that is told of a group on its way to Zipkin: the condition of its row holds, at its place, of what the group
-- and the normal form of the whole trace have there. Spans are taken one after the other, so that those of a group stand in it
-- behind those of the groups before, and in them events by their numbers. The resource is told by itself, in normal form, whether
-- it has a span or hasn't.
--     scopes_in groups              the scopes of groups, in order
--     BeginsGroup n groups          a group begins behind this many spans
--     MeansLoss before group normal place row key       of a group behind others, in a trace whose normal form is given
use Rattle.std.specs.Prelude.{◌≡◌, ◌≢◌, ℕ, List, [], ◌∷◌, ◌++◌, length, drop, Option}
use Rattle.std.specs.List.{flat_map}
use Rattle.trace_model.specs.declared.loss.LossRow.{LossRow}
use Rattle.trace_model.specs.declared.loss.LossRow.TheVariants as rows
use Rattle.trace_model.specs.declared.place.Place.{Place}
use Rattle.trace_model.specs.declared.place.Place.TheVariants as places
use Rattle.trace_model.specs.declared.span.Span.{Span}
use Rattle.trace_model.specs.declared.group.Group.{Group}
use Rattle.trace_model.specs.declared.group.Scope.{Scope}
use Rattle.span_tags.specs.LossMeanings.{OfResource, InScope, InSpan, InEvent, InLink, spans_in}
use Rattle.span_tags.specs.TagKeys.{service_key}
use Rattle.map_zipkin.specs.Losses.{run_behind}
use Rattle.map_zipkin.specs.Normal.{normal_pairs}
use Rattle.map_zipkin.specs.declared.run.Run.{Run}

-- the scopes of groups, group after group
abbrev pub scopes_in : List Group → List Scope
scopes_in groups = flat_map (λ group. group.scopes) groups

-- the spans of groups, group after group and scope after scope
abbrev pub all_spans : List Group → List Span
all_spans groups = spans_in (scopes_in groups)

-- one of the groups begins behind this many spans: the groups before it have so many together
pub record BeginsGroup (n : ℕ) (groups : List Group) : Type 0 where
  pub before : List Group
  pub group : Group
  pub others : List Group
  pub split : groups ≡ before ++ group ∷ others
  pub spans : length (all_spans before) ≡ n

-- the run of the last span of groups, one after the other
abbrev pub run_behind_all : Option Run → List Group → Option Run
run_behind_all run [] = run
run_behind_all run (group ∷ groups) = run_behind_all (run_behind run group) groups

-- A unit goes where it has no span. It joins the one of the span before where it has a span and no group of the normal form begins
-- with its first.
abbrev pub OfUnit : ℕ → Group → List Group → LossRow → List ℕ → Type 0
OfUnit spans group normal rows.UnitEmpty key = (key ≡ []) × (spans_in group.scopes ≡ [])
OfUnit spans group normal rows.UnitJoined key = (key ≡ []) × ((spans_in group.scopes ≢ []) × (BeginsGroup spans normal → ⊥))
OfUnit spans group normal other key = ⊥

-- the spans of the normal form from those of the group on
abbrev pub spans_from : List Group → List Group → List Span
spans_from before normal = drop (length (all_spans before)) (all_spans normal)

-- the condition of a row at a place: the group as a whole, its resource, or one of its scopes, spans, events or links, beside
-- what the normal form of the whole trace has in that place
abbrev pub MeansLoss : List Group → Group → List Group → Place → LossRow → List ℕ → Type 0
MeansLoss before group normal places.Whole row key = OfUnit (length (all_spans before)) group normal row key
MeansLoss before group normal places.Resource row key = OfResource group (normal_pairs service_key group.resource) row key
MeansLoss before group normal (places.Scope c) row key =
    InScope c (length (all_spans before)) group.scopes (scopes_in normal) row key
MeansLoss before group normal (places.Span s) row key = InSpan s (spans_in group.scopes) (spans_from before normal) row key
MeansLoss before group normal (places.Event s e) row key = InEvent s e (spans_in group.scopes) (spans_from before normal) row key
MeansLoss before group normal (places.Link s l) row key = InLink s l (spans_in group.scopes) (spans_from before normal) row key
