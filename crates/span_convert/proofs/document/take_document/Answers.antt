use Rattle.std.proofs.Common.{Bool, subst, ◌++◌, length, ap, arith, length-append}
use Rattle.std.proofs.lemmas.Result.{on_ok_weaker}
use Rattle.span_convert.specs.private.WalkSteps.{Exceeds}
use Rattle.span_convert.proofs.DocumentWalks.{all_looked_at, document_goes_on, stays_taken, stops_too_long}
use Rattle.span_convert.proofs.WalkLemmas.{only_memory}
use Rattle.span_convert.proofs.document.take_document.Goals as goal

pub returns-then-too_long-clause-stop : goal.returns-then-too_long-clause-stop
returns-then-too_long-clause-stop c = λ what limits bytes more said progress now taken looked.
    stops_too_long what limits bytes said _ progress taken more now (subst (λ (b : Bool). Exceeds b limits.json (bytes ++ more)) c.if-too_long.true looked.exceeds)

pub returns-clause-ok : goal.returns-clause-ok
returns-clause-ok c =
    on_ok_weaker c.hold.result (λ held. λ what limits bytes more said progress now taken looked.
    (let all = all_looked_at limits.json bytes more _ _ c.if-too_long.false looked in document_goes_on what limits bytes said _ progress taken more _ _ now all.0 all.1 held)) c.hold.ensures.ok

pub returns-clause-stop : goal.returns-clause-stop
returns-clause-stop c = only_memory c.hold.result _ c.hold.ensures.err (λ what limits bytes more said progress now taken looked. stays_taken what limits bytes said _ progress taken more now)

pub returns-clause-short : goal.returns-clause-short
returns-clause-short c = on_ok_weaker c.hold.result (λ held. omega (arith, ap length held, length-append c.args.held.now c.args.piece.now)) c.hold.ensures.ok
