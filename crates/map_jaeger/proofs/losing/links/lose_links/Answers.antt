use Rattle.std.proofs.Common.{◌+◌, ◌<◌, ◌++◌, length, get_or, ap, ◌∙◌, arith}
use Rattle.span_tags.specs.Losses.{losses_of}
use Rattle.span_tags.proofs.LossSteps.{member_more}
use Rattle.map_jaeger.specs.Losses.{link_losses}
use Rattle.map_jaeger.proofs.losing.links.lose_links.Goals as goal

pub links-preserved : goal.links-preserved
links-preserved c =
    let links = c.args.links.now in
    let losses = link_losses c.args.span in
    let link = c.index-as_slice-i.result in
    let low : c.links.i < length links = omega (arith, c.links-test.true, c.len-i-end.ensures.count) in
    member_more losses (c.args.losses.now ++ losses_of losses 1 links) c.links.losses c.lose_link.new.losses (c.links.i + 1) c.links.i link links low
    (c.index-as_slice-i.is ∙ ap (λ l. get_or l c.links.i link) c.as_slice.ensures) c.in_ok-lose_link.ensures c.links.invariant
