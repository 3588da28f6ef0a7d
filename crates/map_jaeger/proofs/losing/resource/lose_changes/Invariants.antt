use Rattle.std.proofs.Common.{◌≡◌, ◌++◌, drop}
use Rattle.trace_model.specs.declared.loss.LossRow.TheVariants as rows
use Rattle.trace_model.specs.declared.place.Place.TheVariants as places
use Rattle.span_tags.specs.Losses.{lost_keys}
use Rattle.map_jaeger.specs.Losses.{changes}
use Rattle.map_jaeger.proofs.losing.resource.lose_changes.Given as goal

abbrev pub invariant-attributes : goal.invariant-attributes
invariant-attributes l = l.losses ++ lost_keys places.Resource rows.Value (changes l.goes) (drop l.pair-index l.resource)
    ≡ l.fn.losses ++ lost_keys places.Resource rows.Value (changes l.goes) l.resource
