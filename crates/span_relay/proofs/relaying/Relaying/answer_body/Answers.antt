use Rattle.std.proofs.Common.{◌≡◌, ◌<◌, ◌≤◌, ◌++◌, ℕ, List, length, refl, sym, ap, ◌∙◌, arith}
use Rattle.span_answers.specs.Answers.{bare_answer}
use Rattle.span_convert.specs.Verdicts.{good}
use Rattle.span_relay.proofs.AnswerLemmas.{appends_form, appends_long, halts_form, on_err_then, on_ok_then}
use Rattle.span_relay.specs.private.RelaySteps.{AppendsForm, AppendsOffer, HaltsForm, HaltsOffer, state_of}
use Rattle.span_relay.proofs.relaying.Relaying.answer_body.Goals as goal

pub returns-in-Ok-clause-ok : goal.returns-in-Ok-clause-ok
returns-in-Ok-clause-ok g c =
    let limits = c.args.limits.now in
    let first = state_of (g.K.Keeper.spool c.args.self.now.keeper.now) c.args.self.now.outcomes.now.items in
    let v = c.in-Ok.ensures.exists in
    let a = c.in-Ok.ensures.verdict v.0 v.1 in
    let long : limits.reply < length c.in-Ok.text = omega (arith, c.len.ensures, c.if-len-limits.true) in
    on_ok_then c.answer.result (c.answer.new.out ≡ c.args.out.now ++ bare_answer 413 c.args.close)
    (AppendsForm c.args.self.now.to limits c.args.from c.args.body.now c.args.close first first c.args.out.now c.answer.new.out)
    (appends_long c.args.self.now.to c.args.from limits c.args.body.now c.args.close first first v.0 v.1 c.in-Ok.text a.0 a.1 long refl c.args.out.now c.answer.new.out) c.answer.ensures.ok

pub returns-in-Ok-2-clause-ok : goal.returns-in-Ok-2-clause-ok
returns-in-Ok-2-clause-ok g c =
    let limits = c.args.limits.now in
    let first = state_of (g.K.Keeper.spool c.args.self.now.keeper.now) c.args.self.now.outcomes.now.items in
    let last = state_of (g.K.Keeper.spool c.answer_offer.new.self.keeper.now) c.answer_offer.new.self.outcomes.now.items in
    let text = c.as_slice.result.now in
    let v = c.in-Ok.ensures.exists in
    let a = c.in-Ok.ensures.verdict v.0 v.1 in
    let same : v.0 ≡ good text a.0 = a.1 ∙ ap (λ (l : List ℕ). good l a.0) (sym c.as_slice.ensures) in
    let fits : length text ≤ limits.reply = omega (arith, ap length c.as_slice.ensures, c.len.ensures, c.if-len-limits.false) in
    on_ok_then c.answer_offer.result (AppendsOffer c.args.self.now.to c.args.from c.args.close first last text c.args.out.now c.answer_offer.new.out)
    (AppendsForm c.args.self.now.to limits c.args.from c.args.body.now c.args.close first last c.args.out.now c.answer_offer.new.out)
    (appends_form c.args.self.now.to c.args.from limits c.args.body.now c.args.close first last v.0 v.1 text a.0 same fits c.args.out.now c.answer_offer.new.out) c.answer_offer.ensures.ok

pub returns-in-Ok-2-clause-err : goal.returns-in-Ok-2-clause-err
returns-in-Ok-2-clause-err g c =
    let limits = c.args.limits.now in
    let first = state_of (g.K.Keeper.spool c.args.self.now.keeper.now) c.args.self.now.outcomes.now.items in
    let last = state_of (g.K.Keeper.spool c.answer_offer.new.self.keeper.now) c.answer_offer.new.self.outcomes.now.items in
    let text = c.as_slice.result.now in
    let v = c.in-Ok.ensures.exists in
    let a = c.in-Ok.ensures.verdict v.0 v.1 in
    let same : v.0 ≡ good text a.0 = a.1 ∙ ap (λ (l : List ℕ). good l a.0) (sym c.as_slice.ensures) in
    let fits : length text ≤ limits.reply = omega (arith, ap length c.as_slice.ensures, c.len.ensures, c.if-len-limits.false) in
    on_err_then c.answer_offer.result (HaltsOffer c.args.self.now.to c.args.from c.args.close first last text) (HaltsForm c.args.self.now.to limits c.args.from c.args.body.now c.args.close first last)
    (halts_form c.args.self.now.to c.args.from limits c.args.body.now c.args.close first last v.0 v.1 text a.0 same fits) c.answer_offer.ensures.err
