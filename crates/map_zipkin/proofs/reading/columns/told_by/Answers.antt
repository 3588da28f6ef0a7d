use Rattle.map_zipkin.proofs.NoReserved.{nothing_told}
use Rattle.map_zipkin.proofs.reading.columns.told_by.Goals as goal

pub returns-then-not-may_hold_reserved : goal.returns-then-not-may_hold_reserved
returns-then-not-may_hold_reserved c =
    nothing_told c.args.tags.now c.nothing.result (c.may_hold_reserved.ensures c.if-not-may_hold_reserved.true) c.nothing.ensures
