use Rattle.std.proofs.Common.{◌≡◌, ◌++◌, false, map, All}
use Rattle.std.specs.List.{list_any}
use Rattle.trace_model.specs.Soundness.{IsSoundSpan}
use Rattle.map_jaeger.specs.LeastFault.{span_has_double}
use Rattle.map_jaeger.specs.Writing.{jaeger_span}
use Rattle.span_tags.specs.Runs.{under}
use Rattle.map_jaeger.proofs.writing.push_spans.Given as goal

abbrev pub invariant-spans : goal.invariant-spans
invariant-spans l = record {
  written : l.spans ++ map jaeger_span (map (under l.name l.version) l.span-iterator.rest.items)
      ≡ l.initial.spans ++ map jaeger_span (map (under l.name l.version) l.fn.own);
  plain : list_any span_has_double l.span-iterator.rest.items ≡ false;
  sound : All IsSoundSpan l.span-iterator.rest.items;
}
