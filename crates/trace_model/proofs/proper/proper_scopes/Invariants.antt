use Rattle.std.proofs.Common.{All, take}
use Rattle.trace_model.specs.Proper.{IsProperScope}
use Rattle.trace_model.proofs.proper.proper_scopes.Given as goal

abbrev pub invariant-scopes : goal.invariant-scopes
invariant-scopes l = All IsProperScope (take l.scope-index l.scopes)
