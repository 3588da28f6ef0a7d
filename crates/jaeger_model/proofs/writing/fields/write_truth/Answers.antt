use Rattle.thrift_core.specs.Trees.{truth_value, leaf}
use Rattle.thrift_core.specs.Written.{value_written}
use Rattle.jaeger_model.proofs.Growth.{field_seq, clauses}
use Rattle.jaeger_model.proofs.writing.fields.write_truth.Goals as goal

pub returns : goal.returns
unfolding value_written
returns g c = λ left.
    field_seq g.P.Parts.keeps g.P.Parts.writes (leaf (truth_value c.args.value)) left c.put_truth.result c.args.last c.args.id c.ranges.last c.ranges.id _ _ _ (c.in_ok-put_field.ensures.ok left)
    (clauses c.put_truth.result _ _ _ c.put_truth.ensures.ok c.put_truth.ensures.err)
