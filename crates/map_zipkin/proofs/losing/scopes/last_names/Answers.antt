use Rattle.std.proofs.Common.{ℕ, ◌<◌, List, length, option_map, Bor}
use Rattle.span_tags.specs.Losses.{named}
use Rattle.map_zipkin.proofs.LossLoops.{names_more}
use Rattle.map_zipkin.proofs.losing.scopes.last_names.Goals as goal

pub scopes-preserved : goal.scopes-preserved
scopes-preserved c =
    let scopes = c.args.scopes.now in
    let within : c.scopes.scope-index < length scopes = rw c.as_slice-scope-items.ensures at c.scopes-test.true in
    let here = rw c.as_slice-scope-items.ensures at c.scope-item.is in
    names_more c.scopes.scope-index c.scope-item.result scopes
    (option_map (λ (last : Bor (List ℕ) × Bor (List ℕ)). named last.0.now last.1.now) c.scopes.last)
    (option_map (λ (last : Bor (List ℕ) × Bor (List ℕ)). named last.0.now last.1.now) c.names_behind-last.result)
    within here c.names_behind-last.ensures c.scopes.invariant
