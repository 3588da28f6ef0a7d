use Rattle.std.proofs.Common.{ℕ, length}
use Rattle.json_members.proofs.ElementLaws.{ElementsSoFar}
use Rattle.json_nodes.specs.Lents.{elements_left}
use Rattle.zipkin_json.specs.Span.{IsAnnotation, annotation_offends}
use Rattle.zipkin_json.proofs.reading.annotation.read_annotations.Given as goal

abbrev pub invariant-elements : goal.invariant-elements
invariant-elements l = record {
  unit : ℕ;
  so_far : ElementsSoFar IsAnnotation annotation_offends (elements_left l.fn.elements) (elements_left l.left) unit l.list;
}

abbrev pub decreases-elements : goal.decreases-elements
decreases-elements l = length (elements_left l.left)
