use Rattle.std.proofs.Common.{◌≡◌, ◌<◌, ◌≤◌, List, length, get_or, subst}
use Rattle.trace_model.specs.Proper.{IsProperScope}
use Rattle.trace_model.specs.declared.group.Scope.{Scope}
use Rattle.trace_model.proofs.AllLemmas.{all_start, all_more, all_end}
use Rattle.trace_model.proofs.proper.proper_scopes.Goals as goal

pub scopes-init : goal.scopes-init
scopes-init c = all_start IsProperScope c.args.scopes.now

pub scopes-preserved : goal.scopes-preserved
scopes-preserved c = all_more IsProperScope c.args.scopes.now c.scopes.scope-index c.scope-item.result
    (subst (λ (l : List Scope). c.scopes.scope-index < length l) c.as_slice-scope-items.ensures c.scopes-test.true)
    (subst (λ (l : List Scope). c.scope-item.result ≡ get_or l c.scopes.scope-index c.scope-item.result) c.as_slice-scope-items.ensures c.scope-item.is)
    c.scopes.invariant
    c.proper_scope.ensures

pub returns : goal.returns
returns c = all_end IsProperScope c.args.scopes.now c.scopes.scope-index
    (subst (λ (l : List Scope). length l ≤ c.scopes.scope-index) c.as_slice-scope-items.ensures c.scopes-test.false) c.scopes.invariant
