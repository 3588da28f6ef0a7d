use Rattle.std.proofs.Common.{ap, map, ◌∙◌}
use Rattle.std.proofs.lemmas.List.{map-append}
use Rattle.span_tags.proofs.Moved.{several_more, still_none}
use Rattle.span_tags.specs.Runs.{scoped, spans_of}
use Rattle.map_zipkin.specs.private.Unfit.{scope_unfit}
use Rattle.map_zipkin.specs.Writing.{zipkin_span}
use Rattle.map_zipkin.proofs.writing.spans_of.Goals as goal

pub scopes-preserved : goal.scopes-preserved
scopes-preserved c =
    let written = zipkin_span c.args.resource.now in
    let left = c.scopes.scope-iterator.rest.items in
    let rest = c.next.new.self.rest.items in
    let split = c.in-Some.ensures.steps.0 in record {
      written = several_more _ _ _ (map written (spans_of c.in-Some.scope)) (map written (scoped rest)) (map written (scoped left))
          (ap (λ l. map written (scoped l)) split ∙ map-append written (spans_of c.in-Some.scope) (scoped rest))
          c.in_ok-push_scope.ensures c.scopes.invariant.written;
      plain = still_none scope_unfit c.in-Some.scope left rest split c.scopes.invariant.plain;
    }
