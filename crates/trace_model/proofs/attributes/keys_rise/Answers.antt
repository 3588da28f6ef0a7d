use Rattle.std.proofs.Common.{sym, subst}
use Rattle.trace_model.specs.Attributes.{Rise, keys}
use Rattle.trace_model.proofs.KeysRise.{rise_nothing, rise_step, rise_end}
use Rattle.trace_model.proofs.attributes.keys_rise.Goals as goal

pub returns-in_default : goal.returns-in_default
returns-in_default c so = rise_nothing c.args.pairs.now c.in_default.ensures.cases

pub others-init : goal.others-init
others-init c up = subst (λ l. Rise (keys l)) (sym c.in-Some.ensures.cases.0) up

pub others-preserved : goal.others-preserved
others-preserved c = rise_step c.args.pairs.now c.in-Some.others.now c.others.pair-index c.others.last.now c.pair-item.result
    c.as_str.result.now c.as_str-in-others.result.now c.others-test.true c.pair-item.is
    c.as_str.ensures.value c.as_str-in-others.ensures.value c.in-Less.ensures c.others.invariant

pub returns : goal.returns
returns c so = rise_end c.args.pairs.now c.in-Some.others.now c.others.pair-index c.others.last.now c.others-test.false c.others.invariant
