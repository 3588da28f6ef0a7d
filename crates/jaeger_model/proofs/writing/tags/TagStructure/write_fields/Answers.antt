use Rattle.std.proofs.Common.{rules}
use Rattle.thrift_core.specs.private.WrittenParts.{rows_written}
use Rattle.jaeger_model.proofs.Growth.{exits, front_behind, seq, stop, ended}
use Rattle.jaeger_model.proofs.writing.tags.TagStructure.write_fields.Goals as goal

pub returns-in_err-write_text : goal.returns-in_err-write_text
unfolding rows_written
returns-in_err-write_text g c = λ left.
    exits c.from_residual.result c.in_err-write_text.field-0.0 _ _ _ (search rules)
    (stop _ _ _ _ (c.in_err-write_text.ensures left))

pub returns-in_err-write_type : goal.returns-in_err-write_type
unfolding rows_written
returns-in_err-write_type g c = λ left.
    exits c.from_residual-in_err-write_type.result c.in_err-write_type.field-0.0 _ _ _ (search rules)
    (front_behind _ _ _ _ _ (c.in_ok-write_text.ensures left)
    (stop _ _ _ _ (c.in_err-write_type.ensures left)))

pub returns : goal.returns
unfolding rows_written
returns g c = λ left.
    seq c.write_value.result _ _ _ _ _ (c.in_ok-write_text.ensures left)
    (seq c.write_value.result _ _ _ _ _ (c.in_ok-write_type.ensures left)
    (ended c.write_value.result _ _ _ (c.write_value.ensures left)))
