use Rattle.std.proofs.Common.{◌≡◌, ◌++◌, false, map}
use Rattle.std.specs.List.{list_any}
use Rattle.span_tags.specs.Runs.{scoped}
use Rattle.map_zipkin.specs.private.Unfit.{scope_unfit}
use Rattle.map_zipkin.specs.Writing.{zipkin_span}
use Rattle.map_zipkin.proofs.writing.spans_of.Given as goal

abbrev pub invariant-scopes : goal.invariant-scopes
invariant-scopes l = record {
  written : l.spans ++ map (zipkin_span l.resource) (scoped l.scope-iterator.rest.items) ≡ map (zipkin_span l.resource) (scoped l.fn.scopes);
  plain : list_any scope_unfit l.scope-iterator.rest.items ≡ false;
}
