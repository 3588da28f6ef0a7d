use Rattle.std.proofs.Common.{ℕ, List, [], All, Err, refl, sym, subst}
use Rattle.span_convert.specs.Converters.{Work}
use Rattle.span_convert.specs.Reports.{written_target}
use Rattle.span_convert.specs.Units.{input_form}
use Rattle.span_convert.specs.Verdicts.{Answers, IsGood}
use Rattle.span_convert.specs.declared.bad.Bad.{Bad}
use Rattle.span_convert.specs.declared.written.Written.TheVariants as written
use Rattle.span_convert.proofs.AnswerLemmas.{kept_answers, piece_answers, text_held}
use Rattle.span_convert.proofs.FeedLemmas.{not_ended}
use Rattle.span_convert.proofs.growing_sink.convert_into.Goals as goal

pub finish-requires : goal.finish-requires
finish-requires c =
    let work : Work = record { from = c.args.from; what = written.Form c.args.to; limits = c.args.limits.now } in
    record { going = not_ended c.feed.new.self.state (c.in-Ok.ensures.feeds work [] [] c.new-walker.ensures).fed.is.going }

pub returns-in-Ok-finish-clause-whole : goal.returns-in-Ok-finish-clause-whole
returns-in-Ok-finish-clause-whole c =
    let what = written.Form c.args.to in
    let work : Work = record { from = c.args.from; what = what; limits = c.args.limits.now } in
    let first = (c.in-Ok.ensures.feeds work [] [] c.new-walker.ensures).fed in
    let last = (c.in-Ok-finish.ensures.finishes work c.args.bytes.now first.text first.is).whole in
    let said = text_held [] c.args.out.now.text c.feed.new.out.text first.text _ _ refl refl c.requires.fresh first.gains in
    let text = text_held first.text c.feed.new.out.text c.finish.new.out.text last.text _ _ refl refl said last.gains in
    subst (λ (l : List ℕ). (is : IsGood (input_form c.args.from) (written_target what) c.args.limits.now c.args.bytes.now l c.in-Ok-finish.tally) × All (written_target what).IsSized is.noted) (sym text)
    (last.is_good, last.sized)

pub returns-in-Err-finish-clause-bad : goal.returns-in-Err-finish-clause-bad
returns-in-Err-finish-clause-bad c = λ verdict is.
    let work : Work = record { from = c.args.from; what = written.Form c.args.to; limits = c.args.limits.now } in
    let first = (c.in-Ok.ensures.feeds work [] [] c.new-walker.ensures).fed in
    let last = c.in-Err-finish.ensures.finishes work c.args.bytes.now first.text first.is in
    subst (λ (b : Bad). Answers verdict (Err b)) (sym c.into_bad.ensures) (kept_answers verdict c.finish.new.self.state (last.verdict verdict is).1)

pub returns-in-Err-clause-bad : goal.returns-in-Err-clause-bad
returns-in-Err-clause-bad c = λ verdict is.
    let what = written.Form c.args.to in
    let limits = c.args.limits.now in
    let feeds = c.in-Err.ensures.feeds (record { from = c.args.from; what = what; limits = limits }) [] [] c.new-walker.ensures in
    subst (λ (b : Bad). Answers verdict (Err b)) (sym c.into_bad-in-Err.ensures)
    (piece_answers c.args.from what limits c.args.bytes.now
    (λ v w h k. c.one_verdict.ensures.once c.args.from what limits c.args.bytes.now v w c.requires.limits h k)
    (λ outlook lasting foreseen. c.outlook_lasts.ensures.at_end c.args.from what limits c.args.bytes.now outlook lasting foreseen)
    [] _ _ c.feed.new.self.state verdict is c.in-Err.field-0 c.in-Err.ensures.stays feeds.exists feeds.outlook)
