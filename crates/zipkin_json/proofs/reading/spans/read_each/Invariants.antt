use Rattle.std.proofs.Common.{All, length}
use Rattle.json_members.proofs.ElementLaws.{ElementsSoFar}
use Rattle.json_nodes.specs.Lents.{elements_left}
use Rattle.zipkin_json.specs.Proper.{IsWritableZSpan}
use Rattle.zipkin_json.specs.Span.{IsZSpan, HasRisingTags, span_offends}
use Rattle.zipkin_json.proofs.reading.spans.read_each.Given as goal

abbrev pub invariant-elements : goal.invariant-elements
invariant-elements l = record {
  so_far : ElementsSoFar IsZSpan span_offends (elements_left l.fn.elements) (elements_left l.left) (length l.spans) l.spans;
  rising : All HasRisingTags l.spans;
  writable : All IsWritableZSpan l.spans;
}

abbrev pub decreases-elements : goal.decreases-elements
decreases-elements l = length (elements_left l.left)
