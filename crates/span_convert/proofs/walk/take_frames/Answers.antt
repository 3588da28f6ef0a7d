use Rattle.std.proofs.Common.{rules, ◌≡◌, ◌++◌, Err}
use Rattle.span_io.specs.declared.cause.Cause.TheVariants as causes
use Rattle.span_convert.proofs.PieceWalks.{not_too_long, piece_begins, piece_ends, too_long_there, waits_written, walk_fails, walk_halts}
use Rattle.span_convert.proofs.WalkLemmas.{if_err}
use Rattle.span_convert.proofs.walk.take_frames.Goals as goal

pub returns-in_err-take_units-clause-stop : goal.returns-in_err-take_units-clause-stop
returns-in_err-take_units-clause-stop g c =
    let stopped : c.from_residual.result ≡ Err c.in_err-take_units.field-0.0 = search rules in
    if_err _ c.from_residual.result c.in_err-take_units.field-0.0 stopped (λ what limits bytes more said taken looked.
    c.in_err-take_units.ensures.stop what limits (bytes ++ more) said _
    (piece_begins g.R.UnitReader.form what limits said c.held_by_frames.ensures bytes more c.args.piece.now c.args.held.now c.args.too_long _ c.args.progress.now _ taken looked))

pub returns-then-too_long-clause-stop : goal.returns-then-too_long-clause-stop
returns-then-too_long-clause-stop g c = λ what limits bytes more said taken looked.
    let w = c.in_ok-take_units.ensures.ok what limits (bytes ++ more) said _
    (piece_begins g.R.UnitReader.form what limits said c.held_by_frames.ensures bytes more c.args.piece.now c.args.held.now c.args.too_long _ c.args.progress.now _ taken looked) in
    walk_halts g.R.UnitReader.form what limits (bytes ++ more) said _ c.gains_then.ensures.both c.gains_then.ensures.fails c.take_units.new.held _ _ c.take_units.new.progress w.walked c.refuse.result causes.InputTooLong
    (too_long_there g.R.UnitReader.form what limits said (bytes ++ more) c.take_units.new.held c.args.too_long _ _ _ c.take_units.new.progress c.if-too_long.true looked.exceeds w) c.refuse.ensures.written

pub returns-in-Ok-clause-ok : goal.returns-in-Ok-clause-ok
returns-in-Ok-clause-ok g c = λ what limits bytes more said taken looked.
    let w = c.in_ok-take_units.ensures.ok what limits (bytes ++ more) said _
    (piece_begins g.R.UnitReader.form what limits said c.held_by_frames.ensures bytes more c.args.piece.now c.args.held.now c.args.too_long _ c.args.progress.now _ taken looked) in
    piece_ends g.R.UnitReader.form what limits said (bytes ++ more) c.take_units.new.held _ _ _ c.flush.new.self (not_too_long g.R.UnitReader.form what limits said (bytes ++ more) c.args.too_long c.if-too_long.false looked.exceeds) c.in-Ok.ensures.ok.0
    (waits_written g.R.UnitReader.form what limits said c.gains_then.ensures.both (bytes ++ more) c.take_units.new.held _ _ _ _ c.take_units.new.progress c.flush.new.self w c.in-Ok.ensures.tally c.in-Ok.ensures.pen c.in-Ok.ensures.ok.0 c.in-Ok.ensures.ok.1)

pub returns-in-Err-clause-stop : goal.returns-in-Err-clause-stop
returns-in-Err-clause-stop g c = λ what limits bytes more said taken looked.
    let w = c.in_ok-take_units.ensures.ok what limits (bytes ++ more) said _
    (piece_begins g.R.UnitReader.form what limits said c.held_by_frames.ensures bytes more c.args.piece.now c.args.held.now c.args.too_long _ c.args.progress.now _ taken looked) in
    walk_fails g.R.UnitReader.form what limits (bytes ++ more) said _ c.gains_then.ensures.both c.gains_then.ensures.fails c.take_units.new.held _ _ c.take_units.new.progress w.walked c.in-Err.ensures.within
