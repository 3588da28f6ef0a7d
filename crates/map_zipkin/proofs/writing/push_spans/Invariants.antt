use Rattle.std.proofs.Common.{◌≡◌, ℕ, List, ◌++◌, false, map}
use Rattle.std.specs.List.{list_any}
use Rattle.span_tags.specs.Runs.{under}
use Rattle.map_zipkin.specs.private.Unfit.{span_unfit}
use Rattle.map_zipkin.specs.Writing.{zipkin_span}
use Rattle.map_zipkin.specs.private.WritingSoFar.{shared_rows}
use Rattle.map_zipkin.proofs.writing.push_spans.Given as goal

abbrev pub invariant-spans : goal.invariant-spans
invariant-spans l = record {
  written : (name version : List ℕ) → l.shared ≡ shared_rows l.resource name version
      → l.spans ++ map (zipkin_span l.resource) (map (under name version) l.span-iterator.rest.items)
      ≡ l.initial.spans ++ map (zipkin_span l.resource) (map (under name version) l.fn.own);
  plain : list_any span_unfit l.span-iterator.rest.items ≡ false;
}
