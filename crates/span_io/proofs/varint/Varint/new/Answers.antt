use Rattle.std.proofs.Common.{refl, arith}
use Rattle.span_io.proofs.VarintText.{filled_first, filled_more, filled_end, filled_last, last_below}
use Rattle.span_io.proofs.varint.Varint.new.Goals as goal

pub groups-init : goal.groups-init
groups-init c = filled_first _ c.args.n refl c.ranges.n.fits

pub returns-then-rest-lt128 : goal.returns-then-rest-lt128
returns-then-rest-lt128 c = filled_end c.groups.bytes c.args.n c.groups.passed c.groups.rest c.groups.invariant c.groups-test.true c.if-rest-lt128.true

pub groups-preserved : goal.groups-preserved
groups-preserved c = filled_more c.groups.bytes c.args.n c.groups.passed c.groups.rest c.groups.invariant c.groups-test.true c.if-rest-lt128.false

pub overflow_cast-bytes-2 : goal.overflow_cast-bytes-2
overflow_cast-bytes-2 c = record { fits = omega (arith, last_below c.groups.bytes c.args.n c.groups.passed c.groups.rest c.groups.invariant c.groups-test.false) }

pub returns : goal.returns
returns c = filled_last c.groups.bytes c.args.n c.groups.passed c.groups.rest c.groups.invariant (omega arith)
