use Rattle.std.proofs.Common.{rules}
use Rattle.span_convert.specs.Pens.{pen_stands}
use Rattle.span_convert.specs.private.PenTargets.{pen_target}
use Rattle.span_convert.specs.private.WalkSteps.{ClosesText}
use Rattle.span_convert.proofs.WalkLemmas.{ends_text, fails_text, front_of_whole}
use Rattle.span_convert.proofs.progress.Progress.finish.Goals as goal

pub returns-in-Ok-clause-ok : goal.returns-in-Ok-clause-ok
returns-in-Ok-clause-ok g c = λ what units said before w.
    let closes : ClosesText (pen_target c.args.self.now.pen) pen_stands c.args.self.now.pen c.args.self.now.tally c.args.self.now.unwritten c.close.new.out = search rules in
    ends_text what units said before _ c.args.self.now w c.target_laws.ensures c.close.new.out closes c.gains_then.ensures.both _ _ c.in-Ok.ensures.tally c.in-Ok.ensures.ok.1

pub returns-in-Err-clause-stop : goal.returns-in-Err-clause-stop
returns-in-Err-clause-stop g c = λ what units said before w.
    let closes : ClosesText (pen_target c.args.self.now.pen) pen_stands c.args.self.now.pen c.args.self.now.tally c.args.self.now.unwritten c.close.new.out = search rules in
    fails_text what units said before _ c.args.self.now w c.target_laws.ensures c.close.new.out closes c.gains_then.ensures.fails _ c.in-Err.ensures.within

pub returns-then-is_err-clause-stop : goal.returns-then-is_err-clause-stop
returns-then-is_err-clause-stop g c = λ what units said before w. front_of_whole what units said before _ c.args.self.now w c.target_laws.ensures
