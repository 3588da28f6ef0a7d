use Rattle.std.proofs.Common.{Err, ap, subst, ◌∙◌, arith}
use Rattle.std.proofs.lemmas.Result.{on_ok_weaker}
use Rattle.span_convert.specs.Verdicts.{Answers}
use Rattle.span_gateway.proofs.AnswerLemmas.{appends_fault, appends_long, appends_refusal, appends_text}
use Rattle.span_gateway.proofs.answering.answer_body.Goals as goal

pub returns-in-Ok : goal.returns-in-Ok
returns-in-Ok c =
    let v = c.in-Ok.ensures.exists in
    on_ok_weaker c.answer.result
    (appends_long c.args.from c.args.to c.args.limits.now c.args.body.now c.args.close c.args.out.now c.answer.new.out v.0 v.1 c.in-Ok.text
    (c.in-Ok.ensures.verdict v.0 v.1) (omega (arith, c.len.ensures, c.if-len-limits.true)))
    c.answer.ensures.ok

pub returns-in-Ok-2 : goal.returns-in-Ok-2
returns-in-Ok-2 c =
    let v = c.in-Ok.ensures.exists in
    on_ok_weaker c.answer-in-Ok-2.result
    (appends_text c.args.from c.args.to c.args.limits.now c.args.body.now c.args.close c.args.out.now c.answer-in-Ok-2.new.out v.0 v.1 c.in-Ok.text
    (c.in-Ok.ensures.verdict v.0 v.1) (omega (arith, c.len.ensures, c.if-len-limits.false)))
    (rw (c.type_of.ensures, c.as_slice.ensures) at c.answer-in-Ok-2.ensures.ok)

pub returns-in-Err-Refused : goal.returns-in-Err-Refused
returns-in-Err-Refused c =
    let v = c.convert_all.ensures.exists in
    on_ok_weaker c.answer_refusal.result
    (appends_refusal c.args.from c.args.to c.args.limits.now c.args.body.now c.args.close c.args.out.now c.answer_refusal.new.out v.0 v.1 c.in-Err-Refused.refusal
    (subst (λ r. Answers v.0 r) (c.in-Err-Refused.is ∙ ap Err c.in-Err-Refused.field-0-is) (c.convert_all.ensures.verdict v.0 v.1)))
    (rw c.in-Err-Refused.field-0-is at c.answer_refusal.ensures)

pub returns-in-Err-Faulted : goal.returns-in-Err-Faulted
returns-in-Err-Faulted c =
    let v = c.convert_all.ensures.exists in
    on_ok_weaker c.answer_fault.result
    (appends_fault c.args.from c.args.to c.args.limits.now c.args.body.now c.args.close c.args.out.now c.answer_fault.new.out v.0 v.1 c.in-Err-Faulted.found
    (subst (λ r. Answers v.0 r) (c.in-Err-Faulted.is ∙ ap Err c.in-Err-Faulted.field-0-is) (c.convert_all.ensures.verdict v.0 v.1)))
    (rw c.in-Err-Faulted.field-0-is at c.answer_fault.ensures)
