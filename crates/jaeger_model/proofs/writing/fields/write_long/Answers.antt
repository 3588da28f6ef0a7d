use Rattle.std.proofs.Common.{subst, w64}
use Rattle.std.proofs.lemmas.Int.{to_z-of_z}
use Rattle.thrift_core.specs.Parts.{long}
use Rattle.jaeger_model.specs.private.Growing.{GrowsBy}
use Rattle.thrift_core.specs.Trees.{i64, leaf}
use Rattle.thrift_core.specs.Written.{value_written}
use Rattle.jaeger_model.proofs.Growth.{field_seq, clauses}
use Rattle.jaeger_model.proofs.writing.fields.write_long.Goals as goal

pub returns : goal.returns
unfolding value_written
returns g c = λ left.
    field_seq g.P.Parts.keeps g.P.Parts.writes (leaf (i64 c.args.value)) left c.put_long.result c.args.last c.args.id c.ranges.last c.ranges.id _ _ _ (c.in_ok-put_field.ensures.ok left)
    (subst (λ n. GrowsBy c.put_long.result c.put_field.new.out c.put_long.new.out (g.P.Parts.writes long n)) (to_z-of_z w64 c.args.value c.ranges.value) (clauses c.put_long.result _ _ _ c.put_long.ensures.ok c.put_long.ensures.err))
