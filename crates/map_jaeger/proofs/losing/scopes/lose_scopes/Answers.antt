use Rattle.std.proofs.Common.{◌≡◌, ℕ, ◌+◌, ◌<◌, ◌++◌, List, length, get_or, drop, None, option_map, Bor, ap, ◌∙◌, arith}
use Rattle.span_tags.specs.Losses.{named, scopes_losses}
use Rattle.span_tags.proofs.LossSteps.{scope_more}
use Rattle.map_jaeger.specs.Losses.{span_losses}
use Rattle.map_jaeger.proofs.losing.scopes.lose_scopes.Goals as goal

pub scopes-preserved : goal.scopes-preserved
scopes-preserved c =
    let scopes = c.args.scopes.now in
    let scope = c.index-as_slice-i.result in
    let before = option_map (λ (last : Bor (List ℕ) × Bor (List ℕ)). named last.0.now last.1.now) c.scopes.before in
    let behind = option_map (λ (last : Bor (List ℕ) × Bor (List ℕ)). named last.0.now last.1.now) c.names_behind-before.result in
    let low : c.scopes.i < length scopes = omega (arith, c.scopes-test.true, c.len-i-end.ensures.count) in
    let is : scope ≡ get_or scopes c.scopes.i scope = c.index-as_slice-i.is ∙ ap (λ l. get_or l c.scopes.i scope) c.as_slice.ensures in
    ap (λ (n : ℕ). c.lose_spans.new.losses ++ scopes_losses span_losses ((c.scopes.i + 1) + 1) (n + 1) behind (drop (c.scopes.i + 1) scopes)) c.in_ok-behind.ensures
    ∙ scope_more span_losses (c.args.losses.now ++ scopes_losses span_losses 1 1 None scopes) c.scopes.losses c.lose_scope.new.losses c.lose_spans.new.losses
    c.scopes.i c.scopes.spans before behind c.joins.result scope scopes low is c.joins.ensures c.names_behind-before.ensures
    c.in_ok-lose_scope.ensures c.in_ok-lose_spans.ensures c.scopes.invariant
