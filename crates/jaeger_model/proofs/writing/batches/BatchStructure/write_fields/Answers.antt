use Rattle.std.proofs.Common.{rules}
use Rattle.thrift_core.specs.private.WrittenParts.{rows_written}
use Rattle.jaeger_model.proofs.Growth.{exits, seq, stop, ended}
use Rattle.jaeger_model.proofs.writing.batches.BatchStructure.write_fields.Goals as goal

pub returns-in_err-write_process : goal.returns-in_err-write_process
unfolding rows_written
returns-in_err-write_process g c = λ left.
    exits c.from_residual.result c.in_err-write_process.field-0.0 _ _ _ (search rules)
    (stop _ _ _ _ (c.in_err-write_process.ensures left))

pub returns : goal.returns
unfolding rows_written
returns g c = λ left.
    seq c.write_list.result _ _ _ _ _ (c.in_ok-write_process.ensures left)
    (ended c.write_list.result _ _ _ (c.write_list.ensures left))
