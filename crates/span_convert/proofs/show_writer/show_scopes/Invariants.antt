use Rattle.std.proofs.Common.{◌≡◌, ◌++◌, take}
use Rattle.std.specs.List.{flat_map}
use Rattle.trace_model.specs.declared.group.Scope.{Scope}
use Rattle.span_convert.specs.Reports.{spans_shown}
use Rattle.span_convert.proofs.show_writer.show_scopes.Given as goal

abbrev pub invariant-scopes : goal.invariant-scopes
invariant-scopes l = l.out ≡ l.initial.out ++ flat_map (λ (scope : Scope). spans_shown scope.spans) (take l.scope-index l.scopes)
