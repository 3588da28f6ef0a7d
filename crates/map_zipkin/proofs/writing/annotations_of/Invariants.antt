use Rattle.std.proofs.Common.{◌≡◌, ◌++◌, map, drop}
use Rattle.map_zipkin.specs.Writing.{annotation_of}
use Rattle.map_zipkin.proofs.writing.annotations_of.Given as goal

abbrev pub invariant-events : goal.invariant-events
invariant-events l = l.annotations ++ map annotation_of (drop l.event-index l.events) ≡ map annotation_of l.events
