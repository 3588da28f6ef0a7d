use Rattle.std.proofs.Common.{arith}
use Rattle.span_io.proofs.VarintWalk.{walked_none, walked_more, walked_low, walked_tenth, walked_short, walked_above, group_bounds}
use Rattle.span_io.proofs.cursor.long_varint.Goals as goal

pub groups-init : goal.groups-init
groups-init c = walked_none c.args.bytes.now

pub returns-in_default-clause-exact : goal.returns-in_default-clause-exact
returns-in_default-clause-exact c = walked_short _ _ _ _ _ c.in_default.ensures.cases (omega arith) c.groups.invariant

pub overflow_mul-result : goal.overflow_mul-result
overflow_mul-result c =
    let w = c.groups.invariant in
    omega (arith, group_bounds c.groups._passed c.groups.number c.groups.weight c.from.result (omega arith) w.weighs w.below (omega arith))

pub overflow_add-result : goal.overflow_add-result
overflow_add-result c =
    let w = c.groups.invariant in
    omega (arith, group_bounds c.groups._passed c.groups.number c.groups.weight c.from.result (omega arith) w.weighs w.below (omega arith))

pub returns-then-byte-lt128-clause-exact : goal.returns-then-byte-lt128-clause-exact
returns-then-byte-lt128-clause-exact c =
    rw c.from.ensures (walked_low _ _ _ _ _ _ _ c.in-Some.ensures.cases.0 (omega arith) c.if-byte-lt128.true c.groups.invariant)

pub overflow_mul-number : goal.overflow_mul-number
overflow_mul-number c =
    let w = c.groups.invariant in
    omega (arith, group_bounds c.groups._passed c.groups.number c.groups.weight c.from-in-groups.result (omega arith) w.weighs w.below (omega arith))

pub overflow_add-number : goal.overflow_add-number
overflow_add-number c =
    let w = c.groups.invariant in
    omega (arith, group_bounds c.groups._passed c.groups.number c.groups.weight c.from-in-groups.result (omega arith) w.weighs w.below (omega arith))

pub overflow_mul-weight : goal.overflow_mul-weight
overflow_mul-weight c =
    let w = c.groups.invariant in
    omega (arith, group_bounds c.groups._passed c.groups.number c.groups.weight 0 (omega arith) w.weighs w.below (omega arith))

pub groups-preserved : goal.groups-preserved
groups-preserved c =
    rw c.from-in-groups.ensures (walked_more _ _ _ _ _ _ _ c.in-Some.ensures.cases.0 (omega arith) (omega arith) c.if-byte-lt128.false c.groups.invariant)

pub returns-in_default-split_first-clause-exact : goal.returns-in_default-split_first-clause-exact
returns-in_default-split_first-clause-exact c = walked_short _ _ _ _ _ c.in_default-split_first.ensures.cases (omega arith) c.groups.invariant

pub returns-then-tenth-gt1-clause-exact : goal.returns-then-tenth-gt1-clause-exact
returns-then-tenth-gt1-clause-exact c = walked_above _ _ _ _ _ _ _ c.in-Some-split_first.ensures.cases.0 (omega arith) c.if-tenth-gt1.true c.groups.invariant

pub returns-clause-exact : goal.returns-clause-exact
returns-clause-exact c =
    rw c.from-2.ensures (walked_tenth _ _ _ _ _ _ _ c.in-Some-split_first.ensures.cases.0 (omega arith) (omega arith) c.groups.invariant)
