use Rattle.std.proofs.Common.{All, take}
use Rattle.zipkin_json.specs.Proper.{IsProperAnnotation}
use Rattle.zipkin_json.proofs.proper.proper_annotations.Given as goal

abbrev pub invariant-annotations : goal.invariant-annotations
invariant-annotations l = All IsProperAnnotation (take l.annotation-index l.annotations)
