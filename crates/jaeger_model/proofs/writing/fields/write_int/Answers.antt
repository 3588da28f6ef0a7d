use Rattle.std.proofs.Common.{subst, w32}
use Rattle.std.proofs.lemmas.Int.{to_z-of_z}
use Rattle.thrift_core.specs.Parts.{int}
use Rattle.jaeger_model.specs.private.Growing.{GrowsBy}
use Rattle.thrift_core.specs.Trees.{i32, leaf}
use Rattle.thrift_core.specs.Written.{value_written}
use Rattle.jaeger_model.proofs.Growth.{field_seq, clauses}
use Rattle.jaeger_model.proofs.writing.fields.write_int.Goals as goal

pub returns : goal.returns
unfolding value_written
returns g c = λ left.
    field_seq g.P.Parts.keeps g.P.Parts.writes (leaf (i32 c.args.value)) left c.put_int.result c.args.last c.args.id c.ranges.last c.ranges.id _ _ _ (c.in_ok-put_field.ensures.ok left)
    (subst (λ n. GrowsBy c.put_int.result c.put_field.new.out c.put_int.new.out (g.P.Parts.writes int n)) (to_z-of_z w32 c.args.value c.ranges.value) (clauses c.put_int.result _ _ _ c.put_int.ensures.ok c.put_int.ensures.err))
