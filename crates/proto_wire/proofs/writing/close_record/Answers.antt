use Rattle.std.proofs.Common.{◌∙◌, arith}
use Rattle.proto_wire.proofs.LengthsSet.{opened_length, closed, cut_back}
use Rattle.proto_wire.proofs.writing.close_record.Goals as goal

pub overflow_add-place : goal.overflow_add-place
overflow_add-place c = omega (arith, opened_length c.args.number)

pub overflow_add-place-2 : goal.overflow_add-place-2
overflow_add-place-2 c = omega (arith, opened_length c.args.number)

pub overflow_sub-end : goal.overflow_sub-end
overflow_sub-end c = omega (arith, opened_length c.args.number)

pub set_varint-requires : goal.set_varint-requires
set_varint-requires c = omega (arith, opened_length c.args.number)

pub returns-in-Ok-clause-ok : goal.returns-in-Ok-clause-ok
returns-in-Ok-clause-ok c before held begins whole =
    closed c.args.number c.args.begins _ _ c.args.out.now c.set_varint.new.out before held begins whole (omega arith) (omega arith) c.in-Ok.ensures.ok

pub returns-in-Err-clause-err : goal.returns-in-Err-clause-err
returns-in-Err-clause-err c =
    c.truncate.ensures ∙ cut_back c.args.begins _ c.args.out.now c.set_varint.new.out (omega arith) (omega (arith, opened_length c.args.number)) c.in-Err.ensures.err
