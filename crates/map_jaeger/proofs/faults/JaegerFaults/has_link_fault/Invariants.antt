use Rattle.std.proofs.Common.{◌≡◌, false, take}
use Rattle.std.specs.List.{list_any}
use Rattle.map_jaeger.specs.LeastFault.{is_own_link}
use Rattle.map_jaeger.proofs.faults.JaegerFaults.has_link_fault.Given as goal

abbrev pub invariant-links : goal.invariant-links
invariant-links l = list_any (is_own_link l.span) (take l.link-index l.span.links) ≡ false
