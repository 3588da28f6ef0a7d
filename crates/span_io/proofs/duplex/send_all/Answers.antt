use Rattle.std.proofs.Common.{refl, drop, arith, ◌∙◌}
use Rattle.std.proofs.lemmas.List.{take_rest, length-drop}
use Rattle.std.proofs.lemmas.Result.{err_from_is_err_and}
use Rattle.span_io.proofs.Gains.{gains_none, holds_none, gains_next, holds_next, fails_here, fails_within_here, fails_at_here}
use Rattle.span_io.proofs.duplex.send_all.Goals as goal

pub writes-init : goal.writes-init
writes-init g c = record {
  within = omega arith;
  gained = gains_none (g.C.Duplex.link c.args.conn.now).outlet;
  holds = holds_none (g.C.Duplex.link c.args.conn.now).outlet;
  inlet = refl;
  mark = refl;
  empty = λ none. refl;
}

pub returns-in_err-done-clause-failed : goal.returns-in_err-done-clause-failed
returns-in_err-done-clause-failed g c =
    let p = err_from_is_err_and c.from_residual.result c.from_residual.ensures.1 in
    rw p.1 (fails_here _ _ _ _ c.args.piece.now c.writes.done c.in_err-done.field-0.0 c.writes-test.true c.writes.invariant.gained c.writes.invariant.holds
    c.in_err-done.ensures.err c.in_err-done.ensures.failed (rw take_rest at c.in_err-done.ensures.answers) (rw take_rest at c.in_err-done.ensures.course))

pub returns-in_err-done-clause-within : goal.returns-in_err-done-clause-within
returns-in_err-done-clause-within g c =
    let p = err_from_is_err_and c.from_residual.result c.from_residual.ensures.1 in
    rw p.1 (fails_within_here _ _ _ _ c.args.piece.now c.writes.done c.in_err-done.field-0.0 c.writes-test.true c.writes.invariant.gained c.writes.invariant.holds
    c.in_err-done.ensures.err c.in_err-done.ensures.failed (rw take_rest at c.in_err-done.ensures.answers) (rw take_rest at c.in_err-done.ensures.course))

pub returns-in_err-done-clause-at : goal.returns-in_err-done-clause-at
returns-in_err-done-clause-at g c =
    let p = err_from_is_err_and c.from_residual.result c.from_residual.ensures.1 in
    rw p.1 (fails_at_here _ _ _ _ c.args.piece.now c.writes.done c.in_err-done.field-0.0 c.writes-test.true c.writes.invariant.gained c.writes.invariant.holds
    c.in_err-done.ensures.err c.in_err-done.ensures.failed (rw take_rest at c.in_err-done.ensures.answers) (rw take_rest at c.in_err-done.ensures.course))

pub returns-in_err-done-clause-inlet : goal.returns-in_err-done-clause-inlet
returns-in_err-done-clause-inlet g c = c.in_err-done.ensures.inlet ∙ c.writes.invariant.inlet

pub returns-in_err-done-clause-mark : goal.returns-in_err-done-clause-mark
returns-in_err-done-clause-mark g c = c.in_err-done.ensures.mark ∙ c.writes.invariant.mark

pub writes-preserved : goal.writes-preserved
writes-preserved g c = record {
  within = let bound = rw take_rest at c.in_ok-done.ensures.bound in omega (arith, simp length-drop at bound);
  gained = gains_next _ _ _ c.args.piece.now c.writes.done c.in_ok-done.field-0 c.writes.invariant.gained
      (rw take_rest at c.in_ok-done.ensures.ok);
  holds = holds_next _ _ _ _ (drop c.writes.done c.args.piece.now) c.in_ok-done.field-0 (omega (arith, length-drop c.writes.done c.args.piece.now)) c.writes.invariant.holds
      (rw take_rest at c.in_ok-done.ensures.ok) c.in_ok-done.ensures.quiet (rw take_rest at c.in_ok-done.ensures.course);
  inlet = c.in_ok-done.ensures.inlet ∙ c.writes.invariant.inlet;
  mark = c.in_ok-done.ensures.mark ∙ c.writes.invariant.mark;
  empty = λ none. absurd (omega (arith, none));
}
