use Rattle.std.proofs.Common.{inr}
use Rattle.span_convert.proofs.LeftTexts.{failed_before, written_before}
use Rattle.span_convert.proofs.walk.write_full.Goals as goal

pub returns-in-Ok-clause-ok : goal.returns-in-Ok-clause-ok
returns-in-Ok-clause-ok g c = λ what units left said before w.
    written_before what units said before _ c.args.progress.now left w _ c.in-Ok.ensures.tally c.in-Ok.ensures.pen c.gains_then.ensures.both _ c.in-Ok.ensures.ok.0 c.in-Ok.ensures.ok.1

pub returns-in-Err-clause-stop : goal.returns-in-Err-clause-stop
returns-in-Err-clause-stop g c = λ what units unit left said before w.
    inr (failed_before what _ said before _ c.args.progress.now left w c.gains_then.ensures.both _ c.gains_then.ensures.fails c.in-Err.ensures.within)
