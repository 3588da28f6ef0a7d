use Rattle.std.proofs.Common.{◌+◌, refl, sym, ◌∙◌, arith}
use Rattle.span_io.specs.declared.step.Step.TheVariants as steps
use Rattle.proto_wire.proofs.Pushes.{exactly, framed_exactly, framed_ends, goes_on, ends_within, ends_exactly}
use Rattle.proto_wire.proofs.scanner.UnitScannerScan.push.Goals as goal

pub returns-in-Need-clause-exact : goal.returns-in-Need-clause-exact
returns-in-Need-clause-exact c = λ bytes seen.
    exactly c.varint_readings.ensures c.args.self.now c.args.piece.now c.as_slice.result.now (c.args.self.now.size + c.min.result) (c.as_slice.ensures.value ∙ c.keep.ensures)
    (omega (arith, c.min.ensures, c.saturating_sub.ensures)) bytes seen steps.Need c.in-Need.ensures

pub returns-in-Need-clause-stands : goal.returns-in-Need-clause-stands
returns-in-Need-clause-stands c = λ bytes seen.
    goes_on c.varint_readings.ensures c.args.self.now c.args.piece.now c.as_slice.result.now (c.args.self.now.size + c.min.result) (c.as_slice.ensures.value ∙ c.keep.ensures)
    (omega (arith, c.min.ensures, c.saturating_sub.ensures)) bytes seen
    (record { limit = c.args.self.now.limit; head = c.keep.new.head; size = c.args.self.now.size + c.min.result; refused = c.args.self.now.refused })
    refl (sym c.as_slice.ensures.value) refl refl c.in-Need.ensures

pub returns-in-Unit-clause-exact : goal.returns-in-Unit-clause-exact
returns-in-Unit-clause-exact c = λ bytes seen.
    ends_exactly c.varint_readings.ensures c.args.self.now c.args.piece.now c.as_slice.result.now (c.args.self.now.size + c.min.result) (c.as_slice.ensures.value ∙ c.keep.ensures)
    (omega (arith, c.min.ensures, c.saturating_sub.ensures)) bytes seen c.in-Unit.n c.in-Unit.ensures c.saturating_sub-ends.result c.saturating_sub-ends.ensures

pub returns-in-Unit-clause-within : goal.returns-in-Unit-clause-within
returns-in-Unit-clause-within c = λ bytes seen.
    ends_within c.varint_readings.ensures c.args.self.now c.args.piece.now c.as_slice.result.now (c.args.self.now.size + c.min.result) (c.as_slice.ensures.value ∙ c.keep.ensures)
    (omega (arith, c.min.ensures, c.saturating_sub.ensures)) bytes seen c.in-Unit.n c.in-Unit.ensures c.saturating_sub-ends.result c.saturating_sub-ends.ensures

pub returns-in-Refused-clause-exact : goal.returns-in-Refused-clause-exact
returns-in-Refused-clause-exact c = λ bytes seen.
    exactly c.varint_readings.ensures c.args.self.now c.args.piece.now c.as_slice.result.now (c.args.self.now.size + c.min.result) (c.as_slice.ensures.value ∙ c.keep.ensures)
    (omega (arith, c.min.ensures, c.saturating_sub.ensures)) bytes seen (steps.Refused c.in-Refused.cause) c.in-Refused.ensures

pub returns-in-Need-clause-frame : goal.returns-in-Need-clause-frame
returns-in-Need-clause-frame c = λ bytes seen.
    framed_exactly c.varint_readings.ensures c.args.self.now c.args.piece.now c.as_slice.result.now (c.args.self.now.size + c.min.result) (c.as_slice.ensures.value ∙ c.keep.ensures)
    (omega (arith, c.min.ensures, c.saturating_sub.ensures)) bytes seen steps.Need c.in-Need.ensures

pub returns-in-Unit-clause-frame : goal.returns-in-Unit-clause-frame
returns-in-Unit-clause-frame c = λ bytes seen.
    framed_ends c.varint_readings.ensures c.args.self.now c.args.piece.now c.as_slice.result.now (c.args.self.now.size + c.min.result) (c.as_slice.ensures.value ∙ c.keep.ensures)
    (omega (arith, c.min.ensures, c.saturating_sub.ensures)) bytes seen c.in-Unit.n c.in-Unit.ensures c.saturating_sub-ends.result c.saturating_sub-ends.ensures

pub returns-in-Refused-clause-frame : goal.returns-in-Refused-clause-frame
returns-in-Refused-clause-frame c = λ bytes seen.
    framed_exactly c.varint_readings.ensures c.args.self.now c.args.piece.now c.as_slice.result.now (c.args.self.now.size + c.min.result) (c.as_slice.ensures.value ∙ c.keep.ensures)
    (omega (arith, c.min.ensures, c.saturating_sub.ensures)) bytes seen (steps.Refused c.in-Refused.cause) c.in-Refused.ensures
