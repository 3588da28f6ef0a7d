use Rattle.std.proofs.Common.{◌<◌, ◌≤◌, length, sym, ◌∙◌}
use Rattle.map_zipkin.proofs.LossLoops.{skipped, some_found, none_found}
use Rattle.map_zipkin.proofs.losing.units.have_no_span.Goals as goal

pub scopes-preserved : goal.scopes-preserved
scopes-preserved c =
    let scopes = c.args.scopes.now in
    let within : c.scopes.scope-index < length scopes = rw c.as_slice-scope-items.ensures at c.scopes-test.true in
    let here = rw c.as_slice-scope-items.ensures at c.scope-item.is in
    skipped c.scopes.scope-index c.scope-item.result scopes within here (sym c.has_items.ensures ∙ c.if-has_items.false) c.scopes.invariant

pub returns-then-has_items : goal.returns-then-has_items
returns-then-has_items c =
    let scopes = c.args.scopes.now in
    let within : c.scopes.scope-index < length scopes = rw c.as_slice-scope-items.ensures at c.scopes-test.true in
    let here = rw c.as_slice-scope-items.ensures at c.scope-item.is in
    sym (some_found c.scopes.scope-index c.scope-item.result scopes within here (sym c.has_items.ensures ∙ c.if-has_items.true) c.scopes.invariant)

pub returns : goal.returns
returns c =
    let scopes = c.args.scopes.now in
    let ended : length scopes ≤ c.scopes.scope-index = rw c.as_slice-scope-items.ensures at c.scopes-test.false in
    sym (none_found c.scopes.scope-index scopes ended c.scopes.invariant)
