-- What a loss means that is told of a group on its way to Jaeger: the condition of its row holds, at its place, of what the group
-- and its normal form have there. Spans, and in them events and links, stand in the normal form by the numbers that they have in
-- the group.
use Rattle.std.specs.Prelude.{ℕ, List}
use Rattle.trace_model.specs.declared.loss.LossRow.{LossRow}
use Rattle.trace_model.specs.declared.place.Place.{Place}
use Rattle.trace_model.specs.declared.place.Place.TheVariants as places
use Rattle.trace_model.specs.declared.group.Group.{Group}
use Rattle.span_tags.specs.LossMeanings.{OfResource, InScope, InSpan, InEvent, InLink, spans_in}

-- of a group and its normal form: at the place they differ as the row says, in the attribute of the key where the row is one of
-- attributes, else with the empty key. No loss stands at the place of the whole group.
abbrev pub MeansLoss : Group → Group → Place → LossRow → List ℕ → Type 0
MeansLoss group normal places.Whole row key = ⊥
MeansLoss group normal places.Resource row key = OfResource group normal.resource row key
MeansLoss group normal (places.Scope c) row key = InScope c 0 group.scopes normal.scopes row key
MeansLoss group normal (places.Span s) row key = InSpan s (spans_in group.scopes) (spans_in normal.scopes) row key
MeansLoss group normal (places.Event s e) row key = InEvent s e (spans_in group.scopes) (spans_in normal.scopes) row key
MeansLoss group normal (places.Link s l) row key = InLink s l (spans_in group.scopes) (spans_in normal.scopes) row key
