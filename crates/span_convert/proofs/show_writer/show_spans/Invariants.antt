use Rattle.std.proofs.Common.{◌≡◌, ◌++◌, take}
use Rattle.span_convert.specs.Reports.{spans_shown}
use Rattle.span_convert.proofs.show_writer.show_spans.Given as goal

abbrev pub invariant-spans : goal.invariant-spans
invariant-spans l = l.out ≡ l.initial.out ++ spans_shown (take l.span-index l.spans)
