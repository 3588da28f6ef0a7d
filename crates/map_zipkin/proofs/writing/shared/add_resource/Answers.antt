use Rattle.std.proofs.Common.{◌<◌, length}
use Rattle.map_zipkin.proofs.PlainTags.{resource_step}
use Rattle.map_zipkin.proofs.writing.shared.add_resource.Goals as goal

pub attributes-preserved : goal.attributes-preserved
attributes-preserved c =
    let within : c.attributes.pair-index < length c.args.resource.now = rw c.as_slice-pair-items.ensures at c.attributes-test.true in
    let here = rw c.as_slice-pair-items.ensures at c.pair-item.is in
    resource_step c.args.resource.now c.attributes.pair-index c.pair-item.result c.args.pairs.now c.attributes.pairs c.add_prefixed.new.pairs
    within here c.in_ok-add_prefixed.ensures c.attributes.invariant
