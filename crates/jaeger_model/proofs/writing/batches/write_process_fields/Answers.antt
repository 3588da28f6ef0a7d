use Rattle.std.proofs.Common.{rules}
use Rattle.thrift_core.specs.private.WrittenParts.{rows_written}
use Rattle.jaeger_model.proofs.Growth.{exits, seq, stop}
use Rattle.jaeger_model.proofs.writing.batches.write_process_fields.Goals as goal

pub returns-in_err-write_text : goal.returns-in_err-write_text
unfolding rows_written
returns-in_err-write_text g c = λ left.
    exits c.from_residual.result c.in_err-write_text.field-0.0 _ _ _ (search rules)
    (stop _ _ _ _ (c.in_err-write_text.ensures left))

pub returns : goal.returns
unfolding rows_written
returns g c = λ left.
    seq c.write_filled_list.result _ _ _ _ _ (c.in_ok-write_text.ensures left)
    (c.write_filled_list.ensures left)
