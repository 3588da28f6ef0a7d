use Rattle.std.proofs.Common.{◌≡◌, ◌+◌, ◌++◌, drop}
use Rattle.span_tags.specs.Losses.{losses_of}
use Rattle.map_jaeger.specs.Losses.{event_losses}
use Rattle.map_jaeger.proofs.losing.events.lose_events.Given as goal

abbrev pub invariant-events : goal.invariant-events
invariant-events l = l.losses ++ losses_of (event_losses l.span) (l.i + 1) (drop l.i l.events)
    ≡ l.fn.losses ++ losses_of (event_losses l.span) 1 l.events
