use Rattle.std.proofs.Common.{rules}
use Rattle.thrift_core.specs.private.WrittenParts.{rows_written}
use Rattle.jaeger_model.proofs.Growth.{exits, seq, stop, ended}
use Rattle.jaeger_model.proofs.writing.spans.write_times.Goals as goal

pub returns-in_err-write_time : goal.returns-in_err-write_time
unfolding rows_written
returns-in_err-write_time g c = λ left.
    exits c.from_residual.result c.in_err-write_time.field-0.0 _ _ _ (search rules)
    (stop _ _ _ _ (c.in_err-write_time.ensures left))

pub returns : goal.returns
unfolding rows_written
returns g c = λ left.
    seq c.write_duration.result _ _ _ _ _ (c.in_ok-write_time.ensures left)
    (ended c.write_duration.result _ _ _ (c.write_duration.ensures left))
