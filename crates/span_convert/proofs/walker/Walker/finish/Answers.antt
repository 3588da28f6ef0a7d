use Rattle.std.proofs.Common.{Err, refl, sym, subst}
use Rattle.span_convert.specs.Converters.{KeepsWhy, work_of}
use Rattle.span_convert.specs.Outlooks.{StopsFrom}
use Rattle.span_convert.specs.Reports.{written_target}
use Rattle.span_convert.specs.Units.{input_form}
use Rattle.span_convert.specs.Verdicts.{good, IsJudgedOn}
use Rattle.span_convert.specs.declared.walker.State.{State}
use Rattle.span_convert.specs.declared.stop.Stop.{Stop}
use Rattle.span_convert.specs.declared.tally.Tally.{Tally}
use Rattle.span_convert.proofs.CarryLemmas.{ends_carried, stops_carried, stops_front, stops_judged, whole_front}
use Rattle.span_convert.proofs.FeedLemmas.{never_stopped, of_own, same_work}
use Rattle.span_convert.proofs.walker.Walker.finish.Goals as goal

pub returns-in-Ok-clause-same : goal.returns-in-Ok-clause-same
returns-in-Ok-clause-same g c = same_work _ (work_of c.args.self.now) refl c.in-Ok.ensures.same refl

pub returns-in-Err-clause-same : goal.returns-in-Err-clause-same
returns-in-Err-clause-same g c = same_work _ (work_of c.args.self.now) refl c.in-Err.ensures.same refl

pub returns-in-Some-clause-finishes : goal.returns-in-Some-clause-finishes
returns-in-Some-clause-finishes g c = λ work bytes said fed. never_stopped c.args.self.now.state c.in-Some.earlier c.stop.result fed.going c.stop.ensures c.in-Some.is

pub returns-in-Ok-clause-finishes : goal.returns-in-Ok-clause-finishes
returns-in-Ok-clause-finishes g c = of_own _ c.args.self.now (λ bytes said fed.
    let self = c.args.self.now in
    let own = work_of self in
    let before = g.K.Sink.outlet c.args.out.now in
    let now = g.K.Sink.outlet c.end_input.new.out in
    let w = c.in-Ok.ensures.walk own.what own.limits bytes said fed.taken in
    record {
      judged = (good w.text c.in-Ok.tally, w.is_good);
      verdict = λ verdict is_verdict.
          ends_carried (input_form own.from) (written_target own.what) (c.one_verdict.ensures.once own.from own.what) own.limits bytes fed.limits
          (c.one_verdict.ensures.so_far own.from own.what) verdict is_verdict said before now c.in-Ok.tally w;
      front = whole_front (input_form own.from) (written_target own.what) own.limits bytes said before now c.in-Ok.tally w;
      whole = w;
    })

pub returns-in-Err-clause-finishes : goal.returns-in-Err-clause-finishes
returns-in-Err-clause-finishes g c = of_own _ c.args.self.now (λ bytes said fed.
    let self = c.args.self.now in
    let own = work_of self in
    let before = g.K.Sink.outlet c.args.out.now in
    let now = g.K.Sink.outlet c.end_input.new.out in
    let walked = c.in-Err.ensures.walk own.what own.limits bytes said fed.taken in
    record {
      judged = subst (λ (s : Stop). IsJudgedOn {T = Tally} (input_form own.from) (written_target own.what) own.limits bytes (Err s)) (sym c.stop-stop.ensures)
          (stops_judged Tally (input_form own.from) (written_target own.what) own.limits bytes said before now c.in-Err.why walked);
      verdict = λ verdict is_verdict.
          (let both = stops_carried (input_form own.from) (written_target own.what) (c.one_verdict.ensures.once own.from own.what) own.limits bytes fed.limits
          (c.one_verdict.ensures.so_far own.from own.what) verdict is_verdict said before now c.in-Err.why walked in (
            subst (λ (s : Stop). StopsFrom said verdict s before now) (sym c.stop-stop.ensures) both.0,
            subst (λ (s : State). KeepsWhy verdict s) (sym c.behind.ensures) both.1,
          ));
      front = stops_front (input_form own.from) (written_target own.what) own.limits bytes said before now c.in-Err.why walked;
      whole = tt;
    })
