use Rattle.std.proofs.Common.{◌≡◌, ◌+◌, length, Ok, Err, ap, sym, arith}
use Rattle.proto_wire.specs.Reading.{number_at}
use Rattle.proto_wire.proofs.LengthsPast.{no_key, no_field, no_wire, no_size, past_exactly}
use Rattle.proto_wire.proofs.frame.ends_past.Goals as goal

pub returns-in-Err : goal.returns-in-Err
returns-in-Err c =
    let read : number_at c.args.bytes.now ≡ Err c.in-Err.field-0 = rw c.new-c.ensures at c.in-Err.ensures.exact in
    record { exact = (λ e. cc, λ h. absurd (no_key c.varint_readings.ensures c.args.limit c.args.bytes.now c.requires c.in-Err.field-0 read h)) }

pub returns-in-Err-field_of : goal.returns-in-Err-field_of
returns-in-Err-field_of c =
    let read : number_at c.args.bytes.now ≡ Ok (c.in-Ok.key, c.number.new.c.rest) = rw c.new-c.ensures at c.in-Ok.ensures.exact in
    record { exact = (λ e. cc, λ h. absurd (no_field c.varint_readings.ensures c.args.limit c.args.bytes.now c.requires c.in-Ok.key c.number.new.c.rest read c.in-Err-field_of.field-0 (sym c.in-Err-field_of.ensures.exact) h)) }

pub returns-then-key-ne2 : goal.returns-then-key-ne2
returns-then-key-ne2 c =
    let read : number_at c.args.bytes.now ≡ Ok (c.in-Ok.key, c.number.new.c.rest) = rw c.new-c.ensures at c.in-Ok.ensures.exact in
    record { exact = (λ e. cc, λ h. absurd (no_wire c.varint_readings.ensures c.args.limit c.args.bytes.now c.requires c.in-Ok.key c.number.new.c.rest read c.if-key-ne2.true h)) }

pub returns-in-Err-number : goal.returns-in-Err-number
returns-in-Err-number c =
    let read : number_at c.args.bytes.now ≡ Ok (c.in-Ok.key, c.number.new.c.rest) = rw c.new-c.ensures at c.in-Ok.ensures.exact in
    record { exact = (λ e. cc, λ h. absurd (no_size c.varint_readings.ensures c.args.limit c.args.bytes.now c.requires c.in-Ok.key c.number.new.c.rest read c.in-Err-number.field-0 c.in-Err-number.ensures.exact h)) }

pub returns-in-Ok-number : goal.returns-in-Ok-number
returns-in-Ok-number c =
    let read : number_at c.args.bytes.now ≡ Ok (c.in-Ok.key, c.number.new.c.rest) = rw c.new-c.ensures at c.in-Ok.ensures.exact in
    let place : c.place.result + length c.number-2.new.c.rest ≡ length c.args.bytes.now = omega (arith, c.place.ensures, c.number-2.ensures.place, c.number.ensures.place, ap (λ w. w.place) c.new-c.ensures, ap (λ w. length w.rest) c.new-c.ensures) in
    record {
      exact = past_exactly c.varint_readings.ensures c.args.limit c.args.bytes.now c.requires c.in-Ok.key c.number.new.c.rest read
          c.in-Ok-field_of.field-0 c.in-Ok-number.held c.place.result c.number-2.new.c.rest (sym c.in-Ok-field_of.ensures.exact) c.if-key-ne2.false c.in-Ok-number.ensures.exact place;
    }
