use Rattle.std.proofs.Common.{◌+◌, ◌<◌, ◌++◌, length, arith}
use Rattle.span_tags.specs.Losses.{losses_of}
use Rattle.span_tags.proofs.LossSteps.{member_more}
use Rattle.map_zipkin.specs.Losses.{link_losses}
use Rattle.map_zipkin.proofs.LossLoops.{some_member}
use Rattle.map_zipkin.proofs.losing.links.lose_links.Goals as goal

pub links-preserved : goal.links-preserved
links-preserved c =
    let links = c.args.links.now in
    let losses = link_losses c.args.span in
    let low : c.links.i < length links = omega (arith, c.links-test.true, c.len-i-end.ensures.count) in
    let link = some_member links c.links.i low in
    member_more losses (c.args.losses.now ++ losses_of losses 1 links) c.links.losses c.lose.new.losses (c.links.i + 1) c.links.i link.0 links low
    link.1 c.in_ok-lose.ensures c.links.invariant
