use Rattle.std.proofs.Common.{◌≡◌, ◌++◌, map}
use Rattle.map_zipkin.specs.Reading.{zipkin_event_of}
use Rattle.map_zipkin.proofs.reading.events.events_of.Given as goal

abbrev pub invariant-annotations : goal.invariant-annotations
invariant-annotations l = l.events ++ map zipkin_event_of l.annotation-iterator.rest.items ≡ map zipkin_event_of l.fn.annotations
