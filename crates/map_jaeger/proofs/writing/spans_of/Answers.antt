use Rattle.std.proofs.Common.{ap, map, ◌∙◌}
use Rattle.std.proofs.lemmas.List.{map-append}
use Rattle.trace_model.specs.Soundness.{IsSoundScope}
use Rattle.span_tags.specs.Runs.{scoped, spans_of}
use Rattle.map_jaeger.specs.private.Doubles.{scope_has_double}
use Rattle.map_jaeger.specs.Writing.{jaeger_span}
use Rattle.span_tags.proofs.Moved.{several_more, still_none, still_all}
use Rattle.map_jaeger.proofs.writing.spans_of.Goals as goal

pub scopes-preserved : goal.scopes-preserved
scopes-preserved c =
    let left = c.scopes.scope-iterator.rest.items in
    let rest = c.next.new.self.rest.items in
    let split = c.in-Some.ensures.steps.0 in record {
      written = several_more _ _ _ (map jaeger_span (spans_of c.in-Some.scope)) (map jaeger_span (scoped rest)) (map jaeger_span (scoped left))
          (ap (λ l. map jaeger_span (scoped l)) split ∙ map-append jaeger_span (spans_of c.in-Some.scope) (scoped rest))
          c.in_ok-push_scope.ensures c.scopes.invariant.written;
      plain = still_none scope_has_double c.in-Some.scope left rest split c.scopes.invariant.plain;
      sound = still_all IsSoundScope c.in-Some.scope left rest split c.scopes.invariant.sound;
    }
