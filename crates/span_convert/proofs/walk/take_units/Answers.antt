use Rattle.std.proofs.Common.{rules, ◌≡◌, ◌++◌, List, ℕ, length, Err, ap, sym, subst, ◌∙◌, arith, length-drop}
use Rattle.std.proofs.lemmas.Result.{on_ok_weaker}
use Rattle.span_convert.proofs.PieceWalks.{begins_anew, frame_size, frame_within, holds_more, refuses_there, some_bytes, split_parts, waits, walk_halts, walk_stays, walks_at, walks_on, whole_there, within_piece}
use Rattle.span_convert.proofs.WalkLemmas.{if_err, only_memory}
use Rattle.span_convert.proofs.walk.take_units.Goals as goal

pub returns-in-Need-clause-seen : goal.returns-in-Need-clause-seen
returns-in-Need-clause-seen g c =
    let there = holds_more g.R.UnitReader.form _ (g.R.Scanner.Scan.scanning c.push.new.scanner) c.frames.rest.now c.frames.held c.in-Need.ensures c.frames.invariant.seen in
    on_ok_weaker c.hold.result (λ kept. subst (λ (l : List ℕ). ∥ (g.R.Scanner.Scan.scanning c.push.new.scanner).seen l ∥₁) (sym kept) there) c.hold.ensures.ok

pub returns-in-Need-clause-ok : goal.returns-in-Need-clause-ok
returns-in-Need-clause-ok g c =
    on_ok_weaker c.hold.result (λ kept. λ what limits whole said before w.
    waits g.R.UnitReader.form what limits whole said before _ _ _ c.frames.held c.frames.rest.now c.frames.progress c.in-Need.ensures (c.frames.invariant.walks what limits whole said before w) c.hold.new.held kept) c.hold.ensures.ok

pub returns-in-Need-clause-stop : goal.returns-in-Need-clause-stop
returns-in-Need-clause-stop g c =
    only_memory c.hold.result _ c.hold.ensures.err (λ what limits whole said before w.
    walk_stays g.R.UnitReader.form what limits whole said before _ _ c.frames.progress (c.frames.invariant.walks what limits whole said before w).walked)

pub split_at-requires : goal.split_at-requires
split_at-requires g c = within_piece g.R.UnitReader.form _ _ c.frames.rest.now c.frames.held c.in-Unit.size c.in-Unit.ensures c.frames.invariant.seen

pub take_frame-requires-clause-whole : goal.take_frame-requires-clause-whole
take_frame-requires-clause-whole g c =
    c.held_by_frames.ensures.found _ (subst (λ (l : List ℕ). ∥ g.R.UnitReader.form.frames.Whole (c.frames.held ++ l) ∥₁) (sym c.split_at.ensures.front)
    (whole_there g.R.UnitReader.form _ _ c.frames.rest.now c.frames.held c.in-Unit.size c.in-Unit.ensures c.frames.invariant.seen))

pub take_frame-requires-clause-counted : goal.take_frame-requires-clause-counted
take_frame-requires-clause-counted g c =
    let within = frame_size c.frames.held _ _ _ c.split_at.ensures.front (frame_within g.R.UnitReader.form _ _ c.frames.rest.now c.frames.held c.in-Unit.size c.in-Unit.ensures c.frames.invariant.seen) in
    omega (arith, within, c.frames.invariant.limit, c.requires.limit)

pub frames-smaller : goal.frames-smaller
frames-smaller g c =
    let some = some_bytes g.R.UnitReader.form _ _ c.frames.rest.now c.frames.held c.in-Unit.size c.in-Unit.ensures c.frames.invariant.seen in
    let within = within_piece g.R.UnitReader.form _ _ c.frames.rest.now c.frames.held c.in-Unit.size c.in-Unit.ensures c.frames.invariant.seen in
    omega (arith, some, within, ap length c.split_at.ensures.back, length-drop c.in-Unit.size c.frames.rest.now)

pub returns-in-Refused-clause-stop : goal.returns-in-Refused-clause-stop
returns-in-Refused-clause-stop g c = λ what limits whole said before w.
    let here = c.frames.invariant.walks what limits whole said before w in
    walk_halts g.R.UnitReader.form what limits whole said before c.gains_then.ensures.both c.gains_then.ensures.fails _ _ _ c.frames.progress here.walked c.refuse.result c.in-Refused.cause
    (refuses_there g.R.UnitReader.form what limits whole said before _ _ _ c.frames.held c.frames.rest.now c.in-Refused.cause c.frames.progress c.in-Refused.ensures here) c.refuse.ensures.written

pub returns-in_err-take_frame-in-Unit-clause-stop : goal.returns-in_err-take_frame-in-Unit-clause-stop
returns-in_err-take_frame-in-Unit-clause-stop g c =
    let stopped : c.from_residual.result ≡ Err c.in_err-take_frame-in-Unit.field-0.0 = search rules in
    let split = split_parts c.in-Unit.size c.frames.rest.now c.split_at.result.0.now c.split_at.result.1.now c.split_at.ensures.front c.split_at.ensures.back in
    let within = frame_size c.frames.held _ _ _ c.split_at.ensures.front (frame_within g.R.UnitReader.form _ _ c.frames.rest.now c.frames.held c.in-Unit.size c.in-Unit.ensures c.frames.invariant.seen) in
    if_err _ c.from_residual.result c.in_err-take_frame-in-Unit.field-0.0 stopped (λ what limits whole said before w.
    (let here = c.frames.invariant.walks what limits whole said before w in
    c.in_err-take_frame-in-Unit.ensures.stop what limits whole c.split_at.result.1.now said before (omega (arith, within, here.limit))
    (walks_at g.R.UnitReader.form what limits whole said before _ _ c.frames.held c.frames.rest.now c.split_at.result.0.now c.split_at.result.1.now c.frames.progress split here)))

pub frames-preserved : goal.frames-preserved
frames-preserved g c =
    let split = split_parts c.in-Unit.size c.frames.rest.now c.split_at.result.0.now c.split_at.result.1.now c.split_at.ensures.front c.split_at.ensures.back in
    let some = some_bytes g.R.UnitReader.form _ _ c.frames.rest.now c.frames.held c.in-Unit.size c.in-Unit.ensures c.frames.invariant.seen in
    let size = within_piece g.R.UnitReader.form _ _ c.frames.rest.now c.frames.held c.in-Unit.size c.in-Unit.ensures c.frames.invariant.seen in
    let within = frame_size c.frames.held _ _ _ c.split_at.ensures.front (frame_within g.R.UnitReader.form _ _ c.frames.rest.now c.frames.held c.in-Unit.size c.in-Unit.ensures c.frames.invariant.seen) in
    let done = c.in_ok-take_frame-in-Unit.ensures in
    let shorter = ap length c.split_at.ensures.back in
    record {
      walks = λ what limits whole said before w.
          (let here = c.frames.invariant.walks what limits whole said before w in
          walks_on g.R.UnitReader.form what limits whole said before _ _ _ _ c.frames.held c.frames.rest.now c.split_at.result.1.now c.in-Unit.size c.frames.progress c.take_frame.new.progress c.in-Unit.ensures here c.take_frame.new.held done.cleared
          (done.ok what limits whole c.split_at.result.1.now said before (omega (arith, within, here.limit))
          (walks_at g.R.UnitReader.form what limits whole said before _ _ c.frames.held c.frames.rest.now c.split_at.result.0.now c.split_at.result.1.now c.frames.progress split here)));
      seen = subst (λ (l : List ℕ). ∥ (g.R.Scanner.Scan.scanning c.push.new.scanner).seen l ∥₁) (sym done.cleared) (begins_anew g.R.UnitReader.form _ _ c.frames.rest.now c.frames.held c.in-Unit.size c.in-Unit.ensures c.frames.invariant.seen);
      limit = c.in-Unit.ensures.limit ∙ c.frames.invariant.limit;
      same = done.same ∙ c.frames.invariant.same;
      room = omega (arith, c.frames.invariant.room, done.units, some, size, shorter, length-drop c.in-Unit.size c.frames.rest.now);
      short = omega (arith, c.frames.invariant.short, ap length done.cleared, size, shorter, length-drop c.in-Unit.size c.frames.rest.now);
      holds = c.gains_then.ensures.holding _ _ _ c.frames.invariant.holds (done.sink.holds (λ e. absurd (cc)));
    }
