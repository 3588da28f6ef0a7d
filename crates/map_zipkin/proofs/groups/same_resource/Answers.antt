use Rattle.std.proofs.Common.{◌≤◌, length}
use Rattle.map_zipkin.proofs.GroupsAtBack.{resource_end}
use Rattle.map_zipkin.proofs.groups.same_resource.Goals as goal

pub returns : goal.returns
returns c =
    let resource = c.args.resource.now in
    let ended : length resource ≤ c.pairs.i = rw c.as_slice-pair-items.ensures at c.pairs-test.false in
    let within : c.pairs.i ≤ length resource = rw c.as_slice-pair-items.ensures at c.pairs.auto.i-end in
    rw (c.as_slice-others.ensures, c.len.ensures.count) (resource_end resource c.args.other.now c.pairs.i ended within c.pairs.invariant)
