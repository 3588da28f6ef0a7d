use Rattle.std.proofs.Common.{◌≡◌, ℕ, List, drop, None, option_map, Bor}
use Rattle.span_tags.specs.Losses.{named}
use Rattle.map_zipkin.specs.private.LossWalks.{names_at_end}
use Rattle.map_zipkin.proofs.losing.scopes.last_names.Given as goal

abbrev pub invariant-scopes : goal.invariant-scopes
invariant-scopes l = names_at_end (option_map (λ (last : Bor (List ℕ) × Bor (List ℕ)). named last.0.now last.1.now) l.last) (drop l.scope-index l.scopes)
    ≡ names_at_end None l.scopes
