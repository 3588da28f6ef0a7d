use Rattle.std.proofs.Common.{◌≡◌, ◌≤◌, ◌++◌, length, Err, refl, sym, ap, subst, ◌∙◌, arith}
use Rattle.std.proofs.Math.Logic.{∥∥₁_map}
use Rattle.span_io.specs.declared.form.Form.{Form}
use Rattle.span_convert.specs.Converters.{KeepsWhy, work_of}
use Rattle.span_convert.specs.Intakes.{form_in}
use Rattle.span_convert.specs.Outlooks.{StopsFrom}
use Rattle.span_convert.specs.Reports.{written_target}
use Rattle.span_convert.specs.Targets.{open_target}
use Rattle.span_convert.specs.Units.{input_limit, open_form}
use Rattle.span_convert.specs.Verdicts.{good, IsJudgedOn}
use Rattle.span_convert.specs.declared.walker.State.{State}
use Rattle.span_convert.specs.declared.walker.State.TheVariants as states
use Rattle.span_convert.specs.declared.stop.Stop.{Stop}
use Rattle.span_convert.proofs.CarryLemmas.{good_front, reaches_carried, stops_carried, stops_front, stops_judged}
use Rattle.span_convert.proofs.FeedLemmas.{looked_of, never_stopped, of_own, outlook_then, same_work, size_then}
use Rattle.span_convert.proofs.IntakeLemmas.{front_closed, is_open, of_documents, taken_within}
use Rattle.span_convert.proofs.walker.Walker.feed.Goals as goal

pub take_piece-requires-clause-seen : goal.take_piece-requires-clause-seen
take_piece-requires-clause-seen g c =
    let going : c.args.self.now.state ≡ states.Open = is_open c.args.self.now.state (sym c.stop.ensures ∙ c.in_default.is) c.requires.going in
    ∥∥₁_map c.args.self.now.seen (λ seen. seen going)

pub invariant_of-self : goal.invariant_of-self
invariant_of-self g c =
    let limits = c.args.self.now.limits in
    let here : input_limit (form_in c.args.self.now.intake) limits ≡ c.input_limit.result = ap (λ (f : Form). input_limit f limits) (sym c.form.ensures) ∙ sym c.input_limit.ensures in
    let then_ : input_limit (form_in c.take_piece.new.intake) limits ≡ c.input_limit.result = ap (λ (f : Form). input_limit f limits) c.in-Ok.ensures.form ∙ here in
    record {
      valid = c.args.self.now.valid;
      within = omega (arith, here, then_, c.looked_at-too_long.ensures.within, c.args.self.now.within);
      scanned = omega (arith, c.in-Ok.ensures.limit, c.args.self.now.scanned);
      counted = λ going. omega (arith, c.in-Ok.ensures.units, c.args.self.now.counted going);
      short = λ going. omega (arith, c.in-Ok.ensures.short, c.args.self.now.short going);
      seen = ∥∥₁_map c.in-Ok.ensures.seen (λ seen. λ going. seen);
    }

pub returns-in-Ok-clause-same : goal.returns-in-Ok-clause-same
returns-in-Ok-clause-same g c = same_work _ (work_of c.args.self.now) c.in-Ok.ensures.form c.in-Ok.ensures.same refl

pub returns-in-Err-clause-same : goal.returns-in-Err-clause-same
returns-in-Err-clause-same g c = same_work _ (work_of c.args.self.now) c.in-Err.ensures.form c.in-Err.ensures.same refl

pub returns-in-Some-clause-feeds : goal.returns-in-Some-clause-feeds
returns-in-Some-clause-feeds g c = λ work bytes said fed. never_stopped c.args.self.now.state c.in-Some.stop c.stop.result fed.going c.stop.ensures c.in-Some.is

pub returns-in-Ok-clause-feeds : goal.returns-in-Ok-clause-feeds
returns-in-Ok-clause-feeds g c = of_own _ c.args.self.now (λ bytes said fed.
    let self = c.args.self.now in
    let own = work_of self in
    let whole = bytes ++ c.args.piece.now in
    let progress = c.take_piece.new.progress in
    let before = g.K.Sink.outlet c.args.out.now in
    let now = g.K.Sink.outlet c.take_piece.new.out in
    let looked = looked_of self bytes said fed c.args.piece.now _ _ c.input_limit.result c.form.result c.form.ensures c.input_limit.ensures c.looked_at-too_long.ensures.looked c.looked_at-too_long.ensures.long in
    let r = c.in-Ok.ensures.ok own.what own.limits bytes c.args.piece.now said fed.taken looked in
    let is = outlook_then own c.take_piece.new.intake progress whole r.text c.take_piece.new.held c.in-Ok.ensures.form r.is in
    let within = subst (λ (f : Form). length whole ≤ input_limit f own.limits) c.in-Ok.ensures.form (taken_within own.what own.limits whole r.text c.take_piece.new.held progress c.take_piece.new.intake r.is) in
    record {
      fed = record {
        text = r.text;
        is = record {
          going = fed.going;
          works = same_work _ own c.in-Ok.ensures.form c.in-Ok.ensures.same refl;
          limits = fed.limits;
          size = size_then self bytes said fed c.args.piece.now _ c.input_limit.result c.form.result c.form.ensures c.input_limit.ensures c.looked_at-too_long.ensures.looked within;
          within = within;
          taken = r.is;
          tally = progress.tally;
          outlook = is;
        };
        gains = r.gains;
      };
      exists = (good r.text progress.tally, is);
      outlook = λ outlook foreseen.
          (let both = reaches_carried (open_form own.from) (open_target (written_target own.what)) (c.one_outlook.ensures.once own.from own.what) own.limits whole fed.limits
          (c.one_outlook.ensures.so_far own.from own.what) outlook foreseen said before now r.text progress.tally is r.gains in
          (both.0, subst (λ (s : State). KeepsWhy outlook s) (sym fed.going) both.1));
      front = front_closed (written_target own.what) own.limits whole said before now own.from c.target_laws.ensures.none
          (good_front (open_form own.from) (open_target (written_target own.what)) own.limits whole said before now r.text progress.tally is r.gains);
    })

pub returns-in-Err-clause-feeds : goal.returns-in-Err-clause-feeds
returns-in-Err-clause-feeds g c = of_own _ c.args.self.now (λ bytes said fed.
    let self = c.args.self.now in
    let own = work_of self in
    let whole = bytes ++ c.args.piece.now in
    let before = g.K.Sink.outlet c.args.out.now in
    let now = g.K.Sink.outlet c.take_piece.new.out in
    let looked = looked_of self bytes said fed c.args.piece.now _ _ c.input_limit.result c.form.result c.form.ensures c.input_limit.ensures c.looked_at-too_long.ensures.looked c.looked_at-too_long.ensures.long in
    let walked = c.in-Err.ensures.stop own.what own.limits bytes c.args.piece.now said fed.taken looked in
    record {
      fed = tt;
      exists = subst (λ (s : Stop). IsJudgedOn {T = Unit {0}} (open_form own.from) (open_target (written_target own.what)) own.limits whole (Err s)) (sym c.stop-stop.ensures)
          (stops_judged (Unit {0}) (open_form own.from) (open_target (written_target own.what)) own.limits whole said before now c.in-Err.why walked);
      outlook = λ outlook foreseen.
          (let both = stops_carried (open_form own.from) (open_target (written_target own.what)) (c.one_outlook.ensures.once own.from own.what) own.limits whole fed.limits
          (c.one_outlook.ensures.so_far own.from own.what) outlook foreseen said before now c.in-Err.why walked in (
            subst (λ (s : Stop). StopsFrom said outlook s before now) (sym c.stop-stop.ensures) both.0,
            subst (λ (s : State). KeepsWhy outlook s) (sym c.behind.ensures) both.1,
          ));
      front = front_closed (written_target own.what) own.limits whole said before now own.from c.target_laws.ensures.none
          (stops_front (open_form own.from) (open_target (written_target own.what)) own.limits whole said before now c.in-Err.why walked);
    })

pub returns-in-Some-clause-unwritten : goal.returns-in-Some-clause-unwritten
returns-in-Some-clause-unwritten g c = of_documents (form_in c.args.self.now.intake) _ refl
