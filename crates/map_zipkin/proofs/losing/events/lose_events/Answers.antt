use Rattle.std.proofs.Common.{◌+◌, ◌<◌, ◌++◌, length, get_or, ap, ◌∙◌, arith}
use Rattle.span_tags.specs.Losses.{losses_of}
use Rattle.span_tags.proofs.LossSteps.{member_more}
use Rattle.map_zipkin.specs.Losses.{event_losses}
use Rattle.map_zipkin.proofs.losing.events.lose_events.Goals as goal

pub events-preserved : goal.events-preserved
events-preserved c =
    let events = c.args.events.now in
    let losses = event_losses c.args.span in
    let event = c.index-as_slice-i.result in
    let low : c.events.i < length events = omega (arith, c.events-test.true, c.len-i-end.ensures.count) in
    member_more losses (c.args.losses.now ++ losses_of losses 1 events) c.events.losses c.lose_event.new.losses (c.events.i + 1) c.events.i event events low
    (c.index-as_slice-i.is ∙ ap (λ l. get_or l c.events.i event) c.as_slice.ensures) c.in_ok-lose_event.ensures c.events.invariant
