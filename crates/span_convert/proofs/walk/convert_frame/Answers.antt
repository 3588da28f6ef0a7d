use Rattle.std.proofs.Common.{◌≡◌, ℕ, List, [], ◌∷◌, Option, Some, arith, subst}
use Rattle.std.specs.Borrow.{Bor}
use Rattle.std.proofs.lemmas.Result.{on_ok_weaker, IfErr-weaker}
use Rattle.map_zipkin.specs.NotedGroups.{noted_group}
use Rattle.span_convert.specs.FramedForms.{FramedForm}
use Rattle.span_convert.specs.private.WalkSteps.{lent_bytes}
use Rattle.span_convert.proofs.PieceWalks.{held_within, walked_free, walked_unit, walk_stops_writing, walk_stops_unit, walk_stays}
use Rattle.span_convert.proofs.walk.convert_frame.Goals as goal

-- the unit that was found is held by the frame
holds_unit : (from : FramedForm) (frame : List ℕ) (found : Option (Bor (List ℕ))) (unit : Bor (List ℕ)) → found ≡ Some unit → from.FrameHolds frame (lent_bytes found) → from.FrameHolds frame (unit.now ∷ [])
holds_unit from frame found unit is holds = subst (λ (o : Option (Bor (List ℕ))). from.FrameHolds frame (lent_bytes o)) is holds

pub read-requires-clause-counted : goal.read-requires-clause-counted
read-requires-clause-counted g c =
    let within = held_within g.R.UnitReader.form c.held_by_frames.ensures c.args.frame.now c.in-Some.unit.now c.requires.whole (holds_unit g.R.UnitReader.form _ _ _ c.in-Some.is c.unit_in.ensures.holds) in
    omega (arith, within, c.requires.counted)

pub returns-in_default-clause-ok : goal.returns-in_default-clause-ok
returns-in_default-clause-ok g c = λ what limits whole behind said before within w.
    walked_free g.R.UnitReader.form what limits whole said before c.held_by_frames.ensures c.args.frame.now behind c.requires.whole within _ _
    (subst (λ (o : Option (Bor (List ℕ))). g.R.UnitReader.form.FrameHolds c.args.frame.now (lent_bytes o)) c.in_default.is c.unit_in.ensures.holds) w

pub returns-in-Ok-clause-ok : goal.returns-in-Ok-clause-ok
returns-in-Ok-clause-ok g c =
    on_ok_weaker c.convert_unit.result (λ done. λ what limits whole behind said before within w.
    walked_unit g.R.UnitReader.form what limits whole said before c.held_by_frames.ensures c.args.frame.now behind c.requires.whole within c.in-Some.unit.now
    (holds_unit g.R.UnitReader.form _ _ _ c.in-Some.is c.unit_in.ensures.holds) _ _ _ (noted_group c.in-Ok.read) _ c.in-Ok.ensures.value done w) c.convert_unit.ensures.ok

pub returns-in-Ok-clause-stop : goal.returns-in-Ok-clause-stop
returns-in-Ok-clause-stop g c =
    IfErr-weaker c.convert_unit.result _ _ (λ stop done. λ what limits whole behind said before within w.
    walk_stops_writing g.R.UnitReader.form what limits whole said before c.held_by_frames.ensures c.args.frame.now behind c.requires.whole within c.in-Some.unit.now
    (holds_unit g.R.UnitReader.form _ _ _ c.in-Some.is c.unit_in.ensures.holds) _ _ _ (noted_group c.in-Ok.read) stop c.in-Ok.ensures.value done w) c.convert_unit.ensures.stop

pub returns-in-Err-Why-clause-stop : goal.returns-in-Err-Why-clause-stop
returns-in-Err-Why-clause-stop g c = λ what limits whole behind said before within w.
    let why = (rw c.in-Err-Why.field-0-is at c.in-Err-Why.ensures).why in
    walk_stops_unit g.R.UnitReader.form what limits whole said before c.held_by_frames.ensures c.args.frame.now behind c.requires.whole within c.in-Some.unit.now
    (holds_unit g.R.UnitReader.form _ _ _ c.in-Some.is c.unit_in.ensures.holds) _ _ c.args.progress.now c.refuse.result c.in-Err-Why.cause why c.gains_then.ensures.both c.gains_then.ensures.fails
    (rw c.in-Err-Why.field-0-is at c.refuse.ensures.written) w

pub returns-in-Err-OutOfMemory-clause-stop : goal.returns-in-Err-OutOfMemory-clause-stop
returns-in-Err-OutOfMemory-clause-stop g c = λ what limits whole behind said before within w.
    walk_stays g.R.UnitReader.form what limits whole said before _ _ _ w
