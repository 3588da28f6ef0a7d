use Rattle.std.proofs.Common.{◌≡◌, ◌<◌, ◌≤◌, List, length, get_or, subst}
use Rattle.jaeger_model.specs.Proper.{IsProperLog}
use Rattle.jaeger_model.specs.declared.span.Log.{Log}
use Rattle.jaeger_model.proofs.AllLemmas.{all_start, all_more, all_end}
use Rattle.jaeger_model.proofs.proper.proper_logs.Goals as goal

pub logs-init : goal.logs-init
logs-init c = all_start IsProperLog c.args.logs.now

pub logs-preserved : goal.logs-preserved
logs-preserved c = all_more IsProperLog c.args.logs.now c.logs.log-index c.log-item.result
    (subst (λ (l : List Log). c.logs.log-index < length l) c.as_slice-log-items.ensures c.logs-test.true)
    (subst (λ (l : List Log). c.log-item.result ≡ get_or l c.logs.log-index c.log-item.result) c.as_slice-log-items.ensures c.log-item.is)
    c.logs.invariant
    c.proper_log.ensures

pub returns : goal.returns
returns c = all_end IsProperLog c.args.logs.now c.logs.log-index
    (subst (λ (l : List Log). length l ≤ c.logs.log-index) c.as_slice-log-items.ensures c.logs-test.false) c.logs.invariant
