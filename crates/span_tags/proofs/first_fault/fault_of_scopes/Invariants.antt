use Rattle.std.proofs.Common.{drop}
use Rattle.span_tags.proofs.TimelySpans.{ScopesPassed}
use Rattle.span_tags.proofs.first_fault.fault_of_scopes.Given as goal

abbrev pub invariant-scopes : goal.invariant-scopes
invariant-scopes g l = ScopesPassed g.F.Faults.table l.scopes (drop l.scope-index l.scopes)
