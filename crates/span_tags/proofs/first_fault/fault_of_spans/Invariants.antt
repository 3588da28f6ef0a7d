use Rattle.std.proofs.Common.{drop}
use Rattle.span_tags.proofs.TimelySpans.{SpansPassed}
use Rattle.span_tags.proofs.first_fault.fault_of_spans.Given as goal

abbrev pub invariant-spans : goal.invariant-spans
invariant-spans g l = SpansPassed g.F.Faults.table l.spans (drop l.span-index l.spans)
