use Rattle.std.proofs.Common.{pos, pred, rules}
use Rattle.thrift_core.specs.Written.{value_written}
use Rattle.jaeger_model.specs.Canonical.{process_rows}
use Rattle.jaeger_model.proofs.Growth.{exits, clauses, front_behind, seq, struct_front, struct_seq}
use Rattle.jaeger_model.proofs.writing.batches.write_process.Goals as goal

pub returns-in_err-write_process_fields : goal.returns-in_err-write_process_fields
unfolding value_written
returns-in_err-write_process_fields g c = λ left.
    exits c.from_residual-in_err-write_process_fields.result c.in_err-write_process_fields.field-0.0 _ _ _ (search rules)
    (front_behind _ _ _ _ _ (c.in_ok-put_field.ensures.ok left)
    (struct_front g.P.Parts.keeps g.P.Parts.writes (process_rows c.args.batch.now.service c.args.batch.now.tags) (pred left) (pos 0) _ _ (c.in_err-write_process_fields.ensures (pred left))))

pub returns : goal.returns
unfolding value_written
returns g c = λ left.
    seq c.put_stop.result _ _ _ _ _ (c.in_ok-put_field.ensures.ok left)
    (struct_seq g.P.Parts.keeps g.P.Parts.writes (process_rows c.args.batch.now.service c.args.batch.now.tags) (pred left) (pos 0) c.put_stop.result _ _ _ (c.in_ok-write_process_fields.ensures (pred left))
    (clauses c.put_stop.result _ _ _ (c.put_stop.ensures.ok (pred left) _) c.put_stop.ensures.err))
