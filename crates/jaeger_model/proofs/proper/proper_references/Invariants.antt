use Rattle.std.proofs.Common.{All, take}
use Rattle.jaeger_model.specs.Proper.{IsProperReference}
use Rattle.jaeger_model.proofs.proper.proper_references.Given as goal

abbrev pub invariant-references : goal.invariant-references
invariant-references l = All IsProperReference (take l.reference-index l.references)
