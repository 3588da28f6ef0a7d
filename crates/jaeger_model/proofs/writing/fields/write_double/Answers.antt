use Rattle.thrift_core.specs.Trees.{double, leaf}
use Rattle.thrift_core.specs.Written.{value_written}
use Rattle.jaeger_model.proofs.Growth.{field_seq, clauses}
use Rattle.jaeger_model.proofs.writing.fields.write_double.Goals as goal

pub returns : goal.returns
unfolding value_written
returns g c = λ left.
    field_seq g.P.Parts.keeps g.P.Parts.writes (leaf (double c.args.value)) left c.put_eight.result c.args.last c.args.id c.ranges.last c.ranges.id _ _ _ (c.in_ok-put_field.ensures.ok left)
    (clauses c.put_eight.result _ _ _ c.put_eight.ensures.ok c.put_eight.ensures.err)
