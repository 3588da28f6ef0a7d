use Rattle.std.proofs.Common.{◌≡◌, ℕ, ◌+◌, ◌++◌, List, drop, None, option_map, Bor}
use Rattle.span_tags.specs.Losses.{named, scopes_losses}
use Rattle.map_jaeger.specs.Losses.{span_losses}
use Rattle.map_jaeger.proofs.losing.scopes.lose_scopes.Given as goal

abbrev pub invariant-scopes : goal.invariant-scopes
invariant-scopes l = l.losses ++ scopes_losses span_losses (l.i + 1) (l.spans + 1) (option_map (λ (last : Bor (List ℕ) × Bor (List ℕ)). named last.0.now last.1.now) l.before) (drop l.i l.scopes)
    ≡ l.fn.losses ++ scopes_losses span_losses 1 1 None l.scopes
