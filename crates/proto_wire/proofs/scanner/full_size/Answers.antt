use Rattle.std.proofs.Common.{◌≡◌, ◌+◌, length, Ok, Err, ap, subst, arith}
use Rattle.proto_wire.specs.Reading.{number_at}
use Rattle.proto_wire.specs.private.HeldLengths.{HoldsLength}
use Rattle.proto_wire.proofs.Heads.{no_key, no_size, full_length}
use Rattle.proto_wire.proofs.scanner.full_size.Goals as goal

pub unreachable-requires : goal.unreachable-requires
unreachable-requires c =
    let read : number_at c.args.head.now ≡ Err c.in-Err.field-0 = rw c.new-c.ensures at c.in-Err.ensures.exact in
    no_key c.varint_readings.ensures c.requires.0 c.args.head.now c.in-Err.field-0 c.requires.1 read

pub unreachable-requires-in-Err-number : goal.unreachable-requires-in-Err-number
unreachable-requires-in-Err-number c =
    let read : number_at c.args.head.now ≡ Ok (c.in-Ok.field-0, c.number.new.c.rest) = rw c.new-c.ensures at c.in-Ok.ensures.exact in
    no_size c.varint_readings.ensures c.requires.0 c.args.head.now c.number.new.c.rest c.in-Ok.field-0 c.in-Err-number.field-0 c.requires.1 read c.in-Err-number.ensures.exact

pub returns-clause-holds : goal.returns-clause-holds
returns-clause-holds c =
    let read : number_at c.args.head.now ≡ Ok (c.in-Ok.field-0, c.number.new.c.rest) = rw c.new-c.ensures at c.in-Ok.ensures.exact in
    let place : c.place.result + length c.number-2.new.c.rest ≡ length c.args.head.now = omega (arith, c.place.ensures, c.number-2.ensures.place, c.number.ensures.place, ap (λ w. w.place) c.new-c.ensures, ap (λ w. length w.rest) c.new-c.ensures) in
    let all : c.place.result + c.in-Ok-number.held ≡ c.requires.0 = full_length c.varint_readings.ensures c.requires.0 c.args.head.now c.number.new.c.rest c.number-2.new.c.rest
    c.in-Ok.field-0 c.in-Ok-number.held c.place.result c.requires.1 read c.in-Ok-number.ensures.exact place in
    subst (λ m. HoldsLength m c.args.head.now) (omega (arith, all, c.saturating_add.ensures, c.requires.2, c.ranges.limit.fits)) c.requires.1

pub returns-clause-within : goal.returns-clause-within
returns-clause-within c =
    let read : number_at c.args.head.now ≡ Ok (c.in-Ok.field-0, c.number.new.c.rest) = rw c.new-c.ensures at c.in-Ok.ensures.exact in
    let place : c.place.result + length c.number-2.new.c.rest ≡ length c.args.head.now = omega (arith, c.place.ensures, c.number-2.ensures.place, c.number.ensures.place, ap (λ w. w.place) c.new-c.ensures, ap (λ w. length w.rest) c.new-c.ensures) in
    let all : c.place.result + c.in-Ok-number.held ≡ c.requires.0 = full_length c.varint_readings.ensures c.requires.0 c.args.head.now c.number.new.c.rest c.number-2.new.c.rest
    c.in-Ok.field-0 c.in-Ok-number.held c.place.result c.requires.1 read c.in-Ok-number.ensures.exact place in
    omega (arith, all, c.saturating_add.ensures, c.requires.2, c.ranges.limit.fits)
