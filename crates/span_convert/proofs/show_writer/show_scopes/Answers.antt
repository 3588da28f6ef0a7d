use Rattle.std.proofs.Common.{◌++◌, List, ap, ◌∙◌}
use Rattle.trace_model.specs.declared.span.Span.{Span}
use Rattle.trace_model.specs.declared.group.Scope.{Scope}
use Rattle.span_convert.specs.Reports.{spans_shown}
use Rattle.span_convert.proofs.ReportTargets.{flat_start, flat_next}
use Rattle.span_convert.proofs.show_writer.show_scopes.Goals as goal

pub scopes-init : goal.scopes-init
scopes-init c = flat_start (λ (scope : Scope). spans_shown scope.spans) c.args.out.now c.args.scopes.now

pub scopes-preserved : goal.scopes-preserved
scopes-preserved c =
    flat_next (λ (scope : Scope). spans_shown scope.spans) c.args.out.now c.scopes.out c.show_spans.new.out c.args.scopes.now c.scopes.scope-index c.scope-item.result c.scopes-test.true c.scope-item.is c.scopes.invariant
    (c.in_ok-show_spans.ensures ∙ ap (λ (l : List Span). c.scopes.out ++ spans_shown l) c.as_slice.ensures)
