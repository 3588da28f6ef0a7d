use Rattle.std.proofs.Common.{◌≡◌, false, take}
use Rattle.std.specs.List.{list_any}
use Rattle.otlp_json.specs.Doubles.{double_in_scope}
use Rattle.otlp_json.proofs.writing.doubles.in_scopes.Given as goal

abbrev pub invariant-scopes : goal.invariant-scopes
invariant-scopes l = list_any double_in_scope (take l.scope-index l.scopes) ≡ false
