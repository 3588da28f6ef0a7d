use Rattle.std.proofs.Common.{◌≡◌, Some, Err, [], refl, sym, ap, subst}
use Rattle.span_convert.specs.Reports.{written_target}
use Rattle.span_convert.specs.Verdicts.{Answers}
use Rattle.span_convert.specs.declared.bad.Bad.{Bad}
use Rattle.span_convert.specs.declared.written.Written.{Written}
use Rattle.span_convert.specs.declared.written.Written.TheVariants as written
use Rattle.span_convert.proofs.OneBatchLemmas.{stop_answers, text_answers}
use Rattle.span_convert.proofs.WalkLemmas.{converted_none}
use Rattle.span_convert.proofs.one_batch.convert_batch.Goals as goal

pub returns-in-Ok-whole_text-clause-verdict : goal.returns-in-Ok-whole_text-clause-verdict
returns-in-Ok-whole_text-clause-verdict c = λ verdict is.
    let what = written.Form c.args.to in
    let limits = c.args.limits.now in
    let fresh = c.new-progress.ensures.fresh what c.pen.ensures in
    let none = subst (λ (w : Written). (written_target w).partial_text [] ≡ []) fresh.0.pen c.target_laws.ensures.none in
    let all = c.in-Ok.ensures.ok what limits c.requires.unit c.requires.binary (converted_none what [] _ c.new-progress.result [] fresh.0 fresh.1 (sym none)) in
    text_answers c.args.from what limits c.args.batch.now (λ v w h k. c.one_verdict.ensures.once c.args.from what limits c.args.batch.now v w c.requires.limits h k) verdict is
    _ _ c.convert_one.new.progress c.in-Ok-whole_text.text all (c.in-Ok-whole_text.ensures what all.noted _ _ (ap Some c.new-out.ensures) refl all.converted)

pub returns-in-Err-clause-verdict : goal.returns-in-Err-clause-verdict
returns-in-Err-clause-verdict c = λ verdict is.
    let what = written.Form c.args.to in
    let limits = c.args.limits.now in
    let fresh = c.new-progress.ensures.fresh what c.pen.ensures in
    let none = subst (λ (w : Written). (written_target w).partial_text [] ≡ []) fresh.0.pen c.target_laws.ensures.none in
    subst (λ (b : Bad). Answers verdict (Err b)) (sym c.bad_of.ensures)
    (stop_answers c.args.from what limits c.args.batch.now (λ v w h k. c.one_verdict.ensures.once c.args.from what limits c.args.batch.now v w c.requires.limits h k) verdict is
    (λ outlook lasting foreseen. c.outlook_lasts.ensures.at_end c.args.from what limits c.args.batch.now outlook lasting foreseen) [] _ _ c.in-Err.why
    (c.in-Err.ensures.stop what limits c.requires.unit c.requires.binary (converted_none what [] _ c.new-progress.result [] fresh.0 fresh.1 (sym none))))

pub returns-in-Ok-whole_text-clause-exists : goal.returns-in-Ok-whole_text-clause-exists
returns-in-Ok-whole_text-clause-exists c = c.some_verdict.ensures c.args.from (written.Form c.args.to) c.args.limits.now c.args.batch.now c.proper_bytes.ensures

pub returns-in-Err-whole_text-clause-exists : goal.returns-in-Err-whole_text-clause-exists
returns-in-Err-whole_text-clause-exists c = c.some_verdict.ensures c.args.from (written.Form c.args.to) c.args.limits.now c.args.batch.now c.proper_bytes.ensures

pub returns-in-Err-clause-exists : goal.returns-in-Err-clause-exists
returns-in-Err-clause-exists c = c.some_verdict.ensures c.args.from (written.Form c.args.to) c.args.limits.now c.args.batch.now c.proper_bytes.ensures
