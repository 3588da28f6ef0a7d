use Rattle.std.proofs.Common.{◌≡◌, ◌+◌, length, Some, None, Ok, Err, ap, arith}
use Rattle.span_io.specs.declared.cause.Cause.TheVariants as causes
use Rattle.proto_wire.specs.Records.{plain_record}
use Rattle.proto_wire.specs.Reading.{record_at}
use Rattle.proto_wire.proofs.FirstFrame.{none_open, short_open, refused_as, unit_is}
use Rattle.proto_wire.proofs.frame.first.Goals as goal

pub open_bytes-requires-clause-may_come : goal.open_bytes-requires-clause-may_come
open_bytes-requires-clause-may_come c =
    let read : record_at c.args.bytes.now ≡ Ok (None, c.next.new.c.rest) = rw c.new-c.ensures at (rw c.in-Ok-None.field-0-is at c.in-Ok-None.ensures).exact in
    none_open c.varint_readings.ensures c.args.bytes.now c.next.new.c.rest read

pub open_bytes-requires-in-Truncated-clause-may_come : goal.open_bytes-requires-in-Truncated-clause-may_come
open_bytes-requires-in-Truncated-clause-may_come c =
    let read : record_at c.args.bytes.now ≡ Err causes.Truncated = rw (c.new-c.ensures, c.in-Truncated.is) at c.in-Err.ensures.exact in
    short_open c.varint_readings.ensures c.args.bytes.now read

pub returns-in-Ok-Some : goal.returns-in-Ok-Some
returns-in-Ok-Some c =
    let read : record_at c.args.bytes.now ≡ Ok (Some (plain_record c.in-Ok-Some._record), c.next.new.c.rest) = rw c.new-c.ensures at (rw c.in-Ok-Some.field-0-is at c.in-Ok-Some.ensures).exact in
    let place : c.place.result + length c.next.new.c.rest ≡ length c.args.bytes.now = omega (arith, c.place.ensures, c.next.ensures.place, ap (λ w. w.place) c.new-c.ensures, ap (λ w. length w.rest) c.new-c.ensures) in
    record { told = unit_is c.varint_readings.ensures c.args.limit c.args.bytes.now c.requires c.place.result (plain_record c.in-Ok-Some._record) c.next.new.c.rest place read }

pub returns-in_default : goal.returns-in_default
returns-in_default c =
    let read : record_at c.args.bytes.now ≡ Err c.in-Err.cause = rw c.new-c.ensures at c.in-Err.ensures.exact in
    record { told = refused_as c.varint_readings.ensures c.args.limit c.args.bytes.now c.requires c.in-Err.cause c.in_default.not-Truncated read }
