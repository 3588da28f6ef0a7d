use Rattle.std.proofs.Common.{◌≡◌, ◌++◌, drop}
use Rattle.trace_model.specs.declared.loss.LossRow.TheVariants as rows
use Rattle.span_tags.specs.Losses.{lost_keys}
use Rattle.map_jaeger.specs.Losses.{becomes_text}
use Rattle.map_jaeger.proofs.losing.attributes.lose_values.Given as goal

abbrev pub invariant-attributes : goal.invariant-attributes
invariant-attributes l = l.losses ++ lost_keys l.place rows.Value becomes_text (drop l.pair-index l.attributes)
    ≡ l.fn.losses ++ lost_keys l.place rows.Value becomes_text l.attributes
