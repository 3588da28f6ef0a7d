use Rattle.std.proofs.Common.{length, ap, arith}
use Rattle.std.proofs.lemmas.List.{nil_from_length}
use Rattle.span_convert.proofs.PieceWalks.{frames_end, frames_cut}
use Rattle.span_convert.proofs.walk.end_frames.Goals as goal

pub returns-then-len-eq0-clause-walk : goal.returns-then-len-eq0-clause-walk
returns-then-len-eq0-clause-walk g c = λ what limits bytes said s taken.
    frames_end g.R.UnitReader.form what limits bytes said c.args.held.now _ c.args.progress.now taken _ _ c.finish.result (nil_from_length c.args.held.now (omega arith)) c.finish.ensures.ok c.finish.ensures.stop

pub returns-clause-walk : goal.returns-clause-walk
returns-clause-walk g c = λ what limits bytes said s taken.
    frames_cut g.R.UnitReader.form what limits bytes said c.args.held.now _ c.args.progress.now taken c.gains_then.ensures.both c.gains_then.ensures.fails _ _ c.refuse.result (λ none. omega (arith, ap length none, c.if-len-eq0.false, c.len.ensures)) c.refuse.ensures.written
