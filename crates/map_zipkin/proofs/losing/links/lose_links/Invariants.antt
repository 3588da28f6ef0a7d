use Rattle.std.proofs.Common.{◌≡◌, ◌+◌, ◌++◌, drop}
use Rattle.span_tags.specs.Losses.{losses_of}
use Rattle.map_zipkin.specs.Losses.{link_losses}
use Rattle.map_zipkin.proofs.losing.links.lose_links.Given as goal

abbrev pub invariant-links : goal.invariant-links
invariant-links l = l.losses ++ losses_of (link_losses l.span) (l.i + 1) (drop l.i l.links)
    ≡ l.fn.losses ++ losses_of (link_losses l.span) 1 l.links
