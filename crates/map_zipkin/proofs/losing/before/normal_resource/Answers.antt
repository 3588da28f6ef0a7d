use Rattle.std.proofs.Common.{◌<◌, ◌≤◌, length, ◌∙◌, sym}
use Rattle.span_tags.specs.TagKeys.{service_key}
use Rattle.map_zipkin.specs.private.LossWalks.{kept_texts}
use Rattle.map_zipkin.proofs.KeptTexts.{normal_kept}
use Rattle.map_zipkin.proofs.LossLoops.{kept_step, kept_end}
use Rattle.map_zipkin.proofs.losing.before.normal_resource.Goals as goal

pub attributes-preserved : goal.attributes-preserved
attributes-preserved c =
    let resource = c.args.resource.now in
    let within : c.attributes.pair-index < length resource = rw c.as_slice-pair-items.ensures at c.attributes-test.true in
    let here = rw c.as_slice-pair-items.ensures at c.pair-item.is in
    kept_step c.attributes.pair-index c.pair-item.result (kept_texts service_key resource) resource c.attributes.normal c.add_kept.new.pairs
    within here c.in_ok-add_kept.ensures c.attributes.invariant

pub returns : goal.returns
returns c =
    let resource = c.args.resource.now in
    let ended : length resource ≤ c.attributes.pair-index = rw c.as_slice-pair-items.ensures at c.attributes-test.false in
    kept_end c.attributes.pair-index (kept_texts service_key resource) resource c.attributes.normal ended c.attributes.invariant
    ∙ sym (normal_kept service_key resource c.requires.rising)
