use Rattle.std.proofs.Common.{◌≡◌, ◌++◌, drop}
use Rattle.trace_model.specs.declared.loss.LossRow.TheVariants as rows
use Rattle.span_tags.specs.Losses.{lost_keys}
use Rattle.map_zipkin.specs.Losses.{goes}
use Rattle.map_zipkin.proofs.losing.attributes.lose_empty.Given as goal

abbrev pub invariant-attributes : goal.invariant-attributes
invariant-attributes l = l.losses ++ lost_keys l.place rows.Empty (goes l.one) (drop l.pair-index l.attributes)
    ≡ l.fn.losses ++ lost_keys l.place rows.Empty (goes l.one) l.attributes
