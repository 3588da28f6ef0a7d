use Rattle.std.proofs.Common.{◌≡◌, drop}
use Rattle.span_tags.specs.Runs.{scoped}
use Rattle.map_zipkin.proofs.losing.units.have_no_span.Given as goal

abbrev pub invariant-scopes : goal.invariant-scopes
invariant-scopes l = scoped (drop l.scope-index l.scopes) ≡ scoped l.scopes
