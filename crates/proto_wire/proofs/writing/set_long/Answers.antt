use Rattle.std.proofs.Common.{arith}
use Rattle.proto_wire.proofs.LengthsSet.{inserted_first, inserted_more, longer, set_end, set_last}
use Rattle.proto_wire.proofs.writing.set_long.Goals as goal

pub groups-init : goal.groups-init
groups-init c = inserted_first c.args.out.now c.args.place c.args.n c.requires c.ranges.n.fits

pub returns-then-rest-lt128-clause-ok : goal.returns-then-rest-lt128-clause-ok
returns-then-rest-lt128-clause-ok c =
    set_end c.args.out.now c.groups.out c.args.place c.args.n c.groups._passed c.groups.rest c.groups.invariant _ (omega (arith, longer c.args.out.now c.groups.out c.args.place c.args.n c.groups._passed c.groups.rest c.groups.invariant)) c.set.new.self c.if-rest-lt128.true c.set.ensures

pub groups-preserved : goal.groups-preserved
groups-preserved c =
    inserted_more c.args.out.now c.groups.out c.args.place c.args.n c.groups._passed c.groups.rest c.groups.invariant _ (omega (arith, longer c.args.out.now c.groups.out c.args.place c.args.n c.groups._passed c.groups.rest c.groups.invariant)) c.insert.new.self c.groups-test.true c.if-rest-lt128.false c.in_ok-insert.ensures.ok

pub returns-clause-ok : goal.returns-clause-ok
returns-clause-ok c =
    set_last c.args.out.now c.groups.out c.args.place c.args.n c.groups._passed c.groups.rest c.groups.invariant _ (omega (arith, longer c.args.out.now c.groups.out c.args.place c.args.n c.groups._passed c.groups.rest c.groups.invariant)) c.set-2.new.self c.groups-test.false c.set-2.ensures
