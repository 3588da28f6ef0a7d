use Rattle.map_zipkin.specs.private.Unfit.{span_unfit}
use Rattle.map_zipkin.specs.Writing.{zipkin_span}
use Rattle.span_tags.proofs.Moved.{one_more_of, still_none}
use Rattle.span_tags.specs.Runs.{under}
use Rattle.map_zipkin.proofs.writing.push_spans.Goals as goal

pub spans-preserved : goal.spans-preserved
spans-preserved c =
    let left = c.spans.span-iterator.rest.items in
    let rest = c.next.new.self.rest.items in
    let split = c.in-Some.ensures.steps.0 in record {
      written = λ name version is. one_more_of (under name version) (zipkin_span c.args.resource.now) _ _ _ c.in-Some.span _ left rest split
          (c.in_ok-span_of.ensures name version is) c.in_ok-push.ensures.ok (c.spans.invariant.written name version is);
      plain = still_none span_unfit c.in-Some.span left rest split c.spans.invariant.plain;
    }
