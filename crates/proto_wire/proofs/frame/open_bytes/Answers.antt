use Rattle.std.proofs.Common.{◌≡◌, ◌∙◌, sym, true, false}
use Rattle.proto_wire.proofs.FirstFrame.{open_full, open_past, open_needs}
use Rattle.proto_wire.proofs.frame.open_bytes.Goals as goal

pub returns-then-bytes-limit : goal.returns-then-bytes-limit
returns-then-bytes-limit c = record { told = open_full c.varint_readings.ensures c.args.limit c.args.bytes.now c.requires.within c.requires.may_come c.if-bytes-limit.true }

pub returns-then-ends_past : goal.returns-then-ends_past
returns-then-ends_past c = record { told = open_past c.varint_readings.ensures c.args.limit c.args.bytes.now c.requires.within c.requires.may_come (c.ends_past.ensures.exact.0 c.if-ends_past.true) }

pub returns : goal.returns
returns c = record {
  told =
      open_needs c.varint_readings.ensures c.args.limit c.args.bytes.now c.requires.within c.requires.may_come c.if-bytes-limit.false
      (λ past. (let held : true ≡ false = sym (c.ends_past.ensures.exact.1 past) ∙ c.if-ends_past.false in cc));
}
