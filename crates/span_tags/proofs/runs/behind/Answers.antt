use Rattle.std.proofs.Common.{[], ◌∷◌, ◌++◌, sym, ap, ◌∙◌}
use Rattle.span_tags.specs.ReadRuns.{one_of}
use Rattle.span_tags.proofs.RunsAtBack.{added_to, added_behind}
use Rattle.span_tags.proofs.runs.behind.Goals as goal

pub returns-then-is_of : goal.returns-then-is_of
returns-then-is_of c scopes =
    let run = c.args.run in
    let more = c.in_ok-more.more in
    ap (λ l. c.args.done ++ l) (added_to run.name run.version more.name more.version run.spans more.spans (one_of c.args.one) scopes
    c.in_ok-more.ensures.name c.in_ok-more.ensures.version c.in_ok-more.ensures.spans (sym c.is_of.ensures ∙ c.if-is_of.true))

pub returns : goal.returns
returns c scopes =
    let run = c.args.run in
    let next = c.in_ok-next.next in
    added_behind run.name run.version next.name next.version run.spans next.spans c.args.done c.push.new.self (one_of c.args.one) scopes
    c.in_ok-next.ensures.name c.in_ok-next.ensures.version c.in_ok-next.ensures.spans
    (c.in_ok-push.ensures.ok ∙ ap (λ s. c.args.done ++ s ∷ []) c.scope.ensures) (sym c.is_of.ensures ∙ c.if-is_of.false)
