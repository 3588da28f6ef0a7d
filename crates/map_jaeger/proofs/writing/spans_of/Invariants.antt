use Rattle.std.proofs.Common.{◌≡◌, ◌++◌, false, map, All}
use Rattle.std.specs.List.{list_any}
use Rattle.trace_model.specs.Soundness.{IsSoundScope}
use Rattle.span_tags.specs.Runs.{scoped}
use Rattle.map_jaeger.specs.private.Doubles.{scope_has_double}
use Rattle.map_jaeger.specs.Writing.{jaeger_span}
use Rattle.map_jaeger.proofs.writing.spans_of.Given as goal

abbrev pub invariant-scopes : goal.invariant-scopes
invariant-scopes l = record {
  written : l.spans ++ map jaeger_span (scoped l.scope-iterator.rest.items) ≡ map jaeger_span (scoped l.fn.scopes);
  plain : list_any scope_has_double l.scope-iterator.rest.items ≡ false;
  sound : All IsSoundScope l.scope-iterator.rest.items;
}
