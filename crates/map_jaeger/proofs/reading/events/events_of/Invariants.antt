use Rattle.map_jaeger.proofs.ReadLists.{EventsSoFar}
use Rattle.map_jaeger.proofs.reading.events.events_of.Given as goal

abbrev pub invariant-logs : goal.invariant-logs
invariant-logs l = EventsSoFar l.span l.fn.logs l.number l.log-iterator.rest.items l.read
