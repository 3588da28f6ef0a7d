use Rattle.std.proofs.Common.{refl, sym, ap, subst, ◌≡◌, ◌∙◌, ◌+◌, List, length, get_or, min, arith}
use Rattle.std.proofs.lemmas.List.{take_all}
use Rattle.std.specs.List.{flat_map}
use Rattle.span_io.specs.Outside.{last_count}
use Rattle.trace_model.specs.declared.group.Scope.{Scope}
use Rattle.span_convert.proofs.WalkLemmas.{scopes_push, one_group}
use Rattle.span_convert.proofs.progress.spans_in.Goals as goal

pub loop-scope-init : goal.loop-scope-init
loop-scope-init c = refl

pub loop-scope-preserved : goal.loop-scope-preserved
loop-scope-preserved c =
    let same = c.as_slice-scope-items.ensures in
    scopes_push c.loop-scope.count c.saturating_add-count.result c.args.group.now.scopes c.loop-scope.scope-index c.scope-item.result
    (omega (arith, ap length same)) (subst (λ (l : List Scope). c.scope-item.result ≡ get_or l c.loop-scope.scope-index c.scope-item.result) same c.scope-item.is) c.loop-scope.invariant
    (c.saturating_add-count.ensures ∙ ap (λ n. min (c.loop-scope.count + n) last_count) c.len.ensures.count)

pub returns : goal.returns
returns c =
    c.loop-scope.invariant ∙ ap (λ l. min (length (flat_map (λ (s : Scope). s.spans) l)) last_count) (take_all c.loop-scope.scope-index c.args.group.now.scopes (omega (arith, ap length c.as_slice-scope-items.ensures)))
    ∙ ap (λ n. min n last_count) (sym (one_group c.args.group.now))
