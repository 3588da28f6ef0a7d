use Rattle.std.proofs.Common.{◌≡◌, min, length, take}
use Rattle.std.specs.List.{flat_map}
use Rattle.span_io.specs.Outside.{last_count}
use Rattle.trace_model.specs.declared.group.Scope.{Scope}
use Rattle.span_convert.proofs.progress.spans_in.Given as goal

abbrev pub invariant-loop-scope : goal.invariant-loop-scope
invariant-loop-scope l = l.count ≡ min (length (flat_map (λ (s : Scope). s.spans) (take l.scope-index l.group.scopes))) last_count
