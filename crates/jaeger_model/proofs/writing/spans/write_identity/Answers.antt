use Rattle.std.proofs.Common.{rules}
use Rattle.thrift_core.specs.private.WrittenParts.{rows_written}
use Rattle.jaeger_model.proofs.Growth.{exits, front_behind, seq, stop, ended}
use Rattle.jaeger_model.proofs.writing.spans.write_identity.Goals as goal

pub returns-in_err-write_low : goal.returns-in_err-write_low
unfolding rows_written
returns-in_err-write_low g c = λ left.
    exits c.from_residual.result c.in_err-write_low.field-0.0 _ _ _ (search rules)
    (stop _ _ _ _ (c.in_err-write_low.ensures left))

pub returns-in_err-write_high : goal.returns-in_err-write_high
unfolding rows_written
returns-in_err-write_high g c = λ left.
    exits c.from_residual-in_err-write_high.result c.in_err-write_high.field-0.0 _ _ _ (search rules)
    (front_behind _ _ _ _ _ (c.in_ok-write_low.ensures left)
    (stop _ _ _ _ (c.in_err-write_high.ensures left)))

pub returns-in_err-write_span_id : goal.returns-in_err-write_span_id
unfolding rows_written
returns-in_err-write_span_id g c = λ left.
    exits c.from_residual-in_err-write_span_id.result c.in_err-write_span_id.field-0.0 _ _ _ (search rules)
    (front_behind _ _ _ _ _ (c.in_ok-write_low.ensures left)
    (front_behind _ _ _ _ _ (c.in_ok-write_high.ensures left)
    (stop _ _ _ _ (c.in_err-write_span_id.ensures left))))

pub returns-in_err-write_parent : goal.returns-in_err-write_parent
unfolding rows_written
returns-in_err-write_parent g c = λ left.
    exits c.from_residual-in_err-write_parent.result c.in_err-write_parent.field-0.0 _ _ _ (search rules)
    (front_behind _ _ _ _ _ (c.in_ok-write_low.ensures left)
    (front_behind _ _ _ _ _ (c.in_ok-write_high.ensures left)
    (front_behind _ _ _ _ _ (c.in_ok-write_span_id.ensures left)
    (stop _ _ _ _ (c.in_err-write_parent.ensures left)))))

pub returns : goal.returns
unfolding rows_written
returns g c = λ left.
    seq c.write_text.result _ _ _ _ _ (c.in_ok-write_low.ensures left)
    (seq c.write_text.result _ _ _ _ _ (c.in_ok-write_high.ensures left)
    (seq c.write_text.result _ _ _ _ _ (c.in_ok-write_span_id.ensures left)
    (seq c.write_text.result _ _ _ _ _ (c.in_ok-write_parent.ensures left)
    (ended c.write_text.result _ _ _ (c.write_text.ensures left)))))
