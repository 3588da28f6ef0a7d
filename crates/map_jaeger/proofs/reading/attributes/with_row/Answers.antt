use Rattle.std.proofs.Common.{◌∙◌}
use Rattle.map_jaeger.proofs.PlacedRows.{starts}
use Rattle.map_jaeger.proofs.reading.attributes.with_row.Goals as goal

pub returns : goal.returns
returns c = c.from_vec.ensures ∙ c.in_ok-put_row.ensures c.args.attributes (starts c.args.attributes _ c.requires c.into_vec-pairs.ensures.items)
