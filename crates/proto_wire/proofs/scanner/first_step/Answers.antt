use Rattle.span_io.specs.declared.step.Step.TheVariants as steps
use Rattle.proto_wire.proofs.Heads.{head_decides}
use Rattle.proto_wire.proofs.scanner.first_step.Goals as goal

pub returns-in-Unit : goal.returns-in-Unit
returns-in-Unit c = λ bytes is_head counts.
    head_decides c.varint_readings.ensures c.args.limit c.args.head.now bytes is_head (steps.Unit c.in-Unit.n) (λ e. cc) c.in-Unit.ensures.told

pub returns-in-Refused : goal.returns-in-Refused
returns-in-Refused c = λ bytes is_head counts.
    head_decides c.varint_readings.ensures c.args.limit c.args.head.now bytes is_head (steps.Refused c.in-Refused.cause) (λ e. cc) c.in-Refused.ensures.told
