use Rattle.std.proofs.Common.{◌≡◌, [], Err, sym, ap, subst, ◌∙◌, arith}
use Rattle.span_io.specs.declared.limits.Limits.{Limits}
use Rattle.span_convert.specs.Converters.{Fed, Work, stop_in, work_of}
use Rattle.span_convert.specs.declared.walker.Walker.{Walker}
use Rattle.span_convert.specs.declared.stop.Stop.{Stop}
use Rattle.span_convert.specs.declared.stop.Stop.TheVariants as stops
use Rattle.span_cli.specs.private.ReadBlocks.{IsFed, shipped}
use Rattle.span_cli.specs.Jobs.{Spans}
use Rattle.span_cli.specs.private.RunSteps.{EndsRun}
use Rattle.span_cli.proofs.ConversionEndings.{ends_at_finish, ends_whole, stop_of}
use Rattle.span_cli.proofs.top.spans.Goals as goal

-- what a converter does it does of what it was made for
as_made : (c : Walker) (work : Work) → work_of c ≡ work → shipped (work_of c).from (work_of c).what ≡ shipped work.from work.what
as_made c work works = ap (λ (w : Work). shipped w.from w.what) works

pub feed_input-requires : goal.feed_input-requires
feed_input-requires g c =
    let limits = ap (λ (l : Limits). record { from = c.args.from; what = c.args.what; limits = l }) c.shipped.ensures.values in
    record { fresh = subst (λ (w : Work). Fed c.new-walker.result w [] []) (limits ∙ sym (as_made c.new-walker.result _ c.new-walker.ensures.works)) c.new-walker.ensures }

pub returns-in-Err : goal.returns-in-Err
returns-in-Err g c =
    subst (λ (w : Work). EndsRun g.K.Sink.outlet (Spans w.from w.what) c.in-Err.ending (g.S.Source.inlet c.args.input.now) (g.S.Source.inlet c.feed_input.new.input) c.args.output.now c.feed_input.new.output)
    c.new-walker.ensures.works c.in-Err.ensures.ended

pub returns : goal.returns
returns g c =
    let before = g.S.Source.inlet c.args.input.now in
    let now = g.S.Source.inlet c.feed_input.new.input in
    let from = c.args.from in
    let what = c.args.what in
    let fed = subst (λ (w : Work). IsFed w before now (g.K.Sink.outlet c.args.output.now) (g.K.Sink.outlet c.feed_input.new.output) c.feed_input.new.walker) (as_made c.new-walker.result _ c.new-walker.ensures.works) c.in_default.ensures.fed in
    let end = c.in-Err-finish.ensures in
    ends_at_finish g.K.Sink.outlet from what before now c.args.output.now c.feed_input.new.output c.finish.new.out c.gains_then.ensures fed.said fed.gains fed.holds fed.given c.finish.new.self
    c.at_stop.result c.in-Err-finish.stop fed.gave fed.all_read.told c.at_stop.ensures
    (record { given = fed.given; gave = fed.gave; within = omega (arith, fed.fed.within) }) fed.in_vain fed.quiet (end.finishes (shipped from what) fed.given fed.said fed.fed) (record {
      fails = λ e. end.sink.fails (ap stop_in fed.fed.going, ap (λ (s : Stop). Err s) e);
      holds = λ other. end.sink.holds (λ (was, e). other (stop_of c.in-Err-finish.stop stops.Write e));
    })

pub returns-in-Ok : goal.returns-in-Ok
returns-in-Ok g c =
    let before = g.S.Source.inlet c.args.input.now in
    let now = g.S.Source.inlet c.feed_input.new.input in
    let from = c.args.from in
    let what = c.args.what in
    let fed = subst (λ (w : Work). IsFed w before now (g.K.Sink.outlet c.args.output.now) (g.K.Sink.outlet c.feed_input.new.output) c.feed_input.new.walker) (as_made c.new-walker.result _ c.new-walker.ensures.works) c.in_default.ensures.fed in
    let end = c.in-Ok.ensures in
    ends_whole g.K.Sink.outlet from what before now c.args.output.now c.feed_input.new.output c.finish.new.out c.gains_then.ensures fed.said fed.gains fed.holds fed.given c.finish.new.self
    c.in-Ok.field-0 fed.gave fed.all_read
    (record { given = fed.given; gave = fed.gave; within = omega (arith, fed.fed.within) }) fed.in_vain fed.quiet (end.finishes (shipped from what) fed.given fed.said fed.fed)
    (end.sink.holds (λ (was, e). absurd (cc)))
