use Rattle.std.proofs.Common.{All, take}
use Rattle.jaeger_model.specs.Proper.{IsProperJSpan}
use Rattle.jaeger_model.proofs.proper.proper_spans.Given as goal

abbrev pub invariant-spans : goal.invariant-spans
invariant-spans l = All IsProperJSpan (take l.span-index l.spans)
