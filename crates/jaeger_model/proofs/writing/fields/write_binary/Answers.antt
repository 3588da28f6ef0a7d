use Rattle.thrift_core.specs.Trees.{binary}
use Rattle.thrift_core.specs.Written.{value_written}
use Rattle.jaeger_model.proofs.Growth.{field_seq, clauses}
use Rattle.jaeger_model.proofs.writing.fields.write_binary.Goals as goal

pub returns : goal.returns
unfolding value_written
returns g c = λ left.
    field_seq g.P.Parts.keeps g.P.Parts.writes (binary c.args.value.now) left c.put_bytes.result c.args.last c.args.id c.ranges.last c.ranges.id _ _ _ (c.in_ok-put_field.ensures.ok left)
    (clauses c.put_bytes.result _ _ _ c.put_bytes.ensures.ok c.put_bytes.ensures.err)
