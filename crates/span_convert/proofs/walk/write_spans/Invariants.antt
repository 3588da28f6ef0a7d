use Rattle.std.proofs.Common.{◌≡◌, ℕ, List, drop, map}
use Rattle.span_io.specs.Outside.{Outlet, OutputHolds}
use Rattle.trace_model.specs.OtlpParts.{NotedGroup}
use Rattle.zipkin_json.specs.Canonical.{zspan_text}
use Rattle.span_convert.specs.Documents.{pieces_added}
use Rattle.span_convert.specs.SpanFiles.{left_text}
use Rattle.span_convert.specs.private.WalkSteps.{Converted, with_text}
use Rattle.span_convert.specs.declared.written.Written.{Written}
use Rattle.span_convert.proofs.walk.write_spans.Given as goal

abbrev pub invariant-spans : goal.invariant-spans
invariant-spans g l = record {
  walked : (what : Written) (units : List NotedGroup) (said : List ℕ) (before : Outlet)
      → Converted what units said before (g.K.Sink.outlet l.initial.out) (with_text l.initial.progress (left_text l.fn.left))
      → Converted what units said before (g.K.Sink.outlet l.out) (with_text l.progress (pieces_added l.behind (map zspan_text (drop l.span-index l.fn.left.spans))));
  pen : l.progress.pen ≡ l.initial.progress.pen;
  units : l.progress.tally.units ≡ l.initial.progress.tally.units;
  holds : OutputHolds (g.K.Sink.outlet l.initial.out) (g.K.Sink.outlet l.out);
}
