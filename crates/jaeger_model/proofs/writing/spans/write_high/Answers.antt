use Rattle.std.proofs.Common.{ap}
use Rattle.jaeger_model.specs.Canonical.{id_tree, high_tree}
use Rattle.jaeger_model.proofs.Growth.{field_again}
use Rattle.jaeger_model.proofs.HalfLemmas.{high_half}
use Rattle.jaeger_model.proofs.writing.spans.write_high.Goals as goal

pub returns : goal.returns
returns g c = λ left.
    field_again g.P.Parts.keeps g.P.Parts.writes (high_tree c.args.trace) (id_tree c.halves-halves.result.0) left c.write_bits.result c.args.last c.args.id c.ranges.last c.ranges.id _ _
    (ap (λ n. id_tree n) (high_half c.args.trace c.halves-halves.result.0 c.halves-halves.result.1 c.halves-halves.ensures.value)) (c.write_bits.ensures left)
