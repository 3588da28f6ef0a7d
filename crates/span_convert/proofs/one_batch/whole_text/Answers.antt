use Rattle.std.proofs.Common.{[]}
use Rattle.std.proofs.lemmas.Result.{IfOk-weaker}
use Rattle.span_convert.proofs.OneBatchLemmas.{held_then}
use Rattle.span_convert.proofs.one_batch.whole_text.Goals as goal

pub returns : goal.returns
returns c =
    IfOk-weaker c.with.result _ _ (λ text with_rest. λ what units before now was is w.
    held_then what units before now c.args.progress c.args.out.text c.in_ok-rest.rest text was is w (c.in_ok-rest.ensures what units [] before now w) with_rest) c.with.ensures
