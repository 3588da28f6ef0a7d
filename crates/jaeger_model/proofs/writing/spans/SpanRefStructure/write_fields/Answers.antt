use Rattle.std.proofs.Common.{rules}
use Rattle.thrift_core.specs.private.WrittenParts.{rows_written}
use Rattle.jaeger_model.proofs.Growth.{exits, front_behind, seq, stop, ended}
use Rattle.jaeger_model.proofs.writing.spans.SpanRefStructure.write_fields.Goals as goal

pub returns-in_err-write_type : goal.returns-in_err-write_type
unfolding rows_written
returns-in_err-write_type g c = λ left.
    exits c.from_residual.result c.in_err-write_type.field-0.0 _ _ _ (search rules)
    (stop _ _ _ _ (c.in_err-write_type.ensures left))

pub returns-in_err-write_low : goal.returns-in_err-write_low
unfolding rows_written
returns-in_err-write_low g c = λ left.
    exits c.from_residual-in_err-write_low.result c.in_err-write_low.field-0.0 _ _ _ (search rules)
    (front_behind _ _ _ _ _ (c.in_ok-write_type.ensures left)
    (stop _ _ _ _ (c.in_err-write_low.ensures left)))

pub returns-in_err-write_high : goal.returns-in_err-write_high
unfolding rows_written
returns-in_err-write_high g c = λ left.
    exits c.from_residual-in_err-write_high.result c.in_err-write_high.field-0.0 _ _ _ (search rules)
    (front_behind _ _ _ _ _ (c.in_ok-write_type.ensures left)
    (front_behind _ _ _ _ _ (c.in_ok-write_low.ensures left)
    (stop _ _ _ _ (c.in_err-write_high.ensures left))))

pub returns : goal.returns
unfolding rows_written
returns g c = λ left.
    seq c.write_span_id.result _ _ _ _ _ (c.in_ok-write_type.ensures left)
    (seq c.write_span_id.result _ _ _ _ _ (c.in_ok-write_low.ensures left)
    (seq c.write_span_id.result _ _ _ _ _ (c.in_ok-write_high.ensures left)
    (ended c.write_span_id.result _ _ _ (c.write_span_id.ensures left))))
