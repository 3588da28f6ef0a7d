use Rattle.trace_model.specs.Soundness.{IsSoundSpan}
use Rattle.map_jaeger.specs.LeastFault.{span_has_double}
use Rattle.map_jaeger.specs.Writing.{jaeger_span}
use Rattle.span_tags.specs.Runs.{under}
use Rattle.span_tags.proofs.Moved.{one_more_of, still_none, still_all}
use Rattle.map_jaeger.proofs.writing.push_spans.Goals as goal

pub spans-preserved : goal.spans-preserved
spans-preserved c =
    let left = c.spans.span-iterator.rest.items in
    let rest = c.next.new.self.rest.items in
    let split = c.in-Some.ensures.steps.0 in record {
      written = one_more_of (under c.args.name.now c.args.version.now) jaeger_span _ _ _ c.in-Some.span _ left rest split
          c.in_ok-span_of.ensures c.in_ok-push.ensures.ok c.spans.invariant.written;
      plain = still_none span_has_double c.in-Some.span left rest split c.spans.invariant.plain;
      sound = still_all IsSoundSpan c.in-Some.span left rest split c.spans.invariant.sound;
    }
