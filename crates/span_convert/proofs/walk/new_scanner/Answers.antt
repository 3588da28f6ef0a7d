use Rattle.span_convert.proofs.PieceWalks.{taken_none}
use Rattle.span_convert.proofs.walk.new_scanner.Goals as goal

pub returns-clause-taken : goal.returns-clause-taken
returns-clause-taken g c = λ what said progress done flushed is_said.
    taken_none g.R.UnitReader.form what c.args.limits.now said c.held_by_frames.ensures c.requires.limits _ progress c.new.ensures.nothing c.new.ensures.most done flushed is_said
