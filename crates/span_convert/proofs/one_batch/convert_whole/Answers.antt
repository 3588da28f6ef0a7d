use Rattle.std.proofs.Common.{[]}
use Rattle.std.proofs.lemmas.Result.{on_ok_weaker, IfErr-weaker}
use Rattle.span_convert.proofs.OneBatchLemmas.{converts_all, stands_first}
use Rattle.span_convert.proofs.one_batch.convert_whole.Goals as goal

pub returns-clause-ok : goal.returns-clause-ok
returns-clause-ok g c =
    on_ok_weaker c.convert_frame.result (λ done. λ what limits unit binary w.
    converts_all g.R.UnitReader.form what limits c.args.frame.now binary _ _ _
    (done what limits c.args.frame.now [] [] _ unit (stands_first g.R.UnitReader.form what limits c.args.frame.now binary _ c.held_by_frames.ensures c.args.progress.now w))) c.convert_frame.ensures.ok

pub returns-clause-stop : goal.returns-clause-stop
returns-clause-stop g c =
    IfErr-weaker c.convert_frame.result _ _ (λ stop done. λ what limits unit binary w.
    done what limits c.args.frame.now [] [] _ unit (stands_first g.R.UnitReader.form what limits c.args.frame.now binary _ c.held_by_frames.ensures c.args.progress.now w)) c.convert_frame.ensures.stop
