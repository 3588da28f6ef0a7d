use Rattle.std.proofs.Common.{◌++◌, ap, sym, ◌∙◌}
use Rattle.std.specs.Prelude.{Some}
use Rattle.span_ids.specs.declared.hex_text.IdRule.TheVariants as rules
use Rattle.propagation.proofs.FrontLemmas.{leads_to}
use Rattle.propagation.proofs.ReadLemmas.{empty_true, empty_false, spelled_digits, spelled_same, some_pair, pair_is, ids_are}
use Rattle.propagation.proofs.B3Lemmas.{only_state, has_ids, end_ends, end_same}
use Rattle.propagation.proofs.b3.read_b3.Goals as goal

pub returns-in_err-sampling-clause-only : goal.returns-in_err-sampling-clause-only
returns-in_err-sampling-clause-only c = λ ids sampling h.
    let one = only_state c.args.value.now c.digits.result.0.now c.digits.result.1.now c.digits.ensures (empty_true c.digits.result.1.now c.is_empty.result c.is_empty.ensures c.if-is_empty.true) ids sampling h in
    let bad = c.in_err-sampling.ensures.only sampling one.1 in
    cc

pub returns-in_err-rest-clause-only : goal.returns-in_err-rest-clause-only
returns-in_err-rest-clause-only c = λ ids sampling h.
    let p = has_ids c.args.value.now c.digits.result.0.now c.digits.result.1.now c.digits.ensures (empty_false c.digits.result.1.now c.is_empty.result c.is_empty.ensures c.if-is_empty.false) ids sampling h in
    absurd (c.in_err-rest.ensures.only (p.span ++ p.end) p.whole)

pub returns-in_err-trace-clause-only : goal.returns-in_err-trace-clause-only
returns-in_err-trace-clause-only c = λ ids sampling h.
    let p = has_ids c.args.value.now c.digits.result.0.now c.digits.result.1.now c.digits.ensures (empty_false c.digits.result.1.now c.is_empty.result c.is_empty.ensures c.if-is_empty.false) ids sampling h in
    let one = c.in_ok-rest.ensures.only (p.span ++ p.end) p.whole in
    let two = leads_to p.span p.end c.digits-2.ensures (spelled_digits rules.Exact 16 p.span p.told.span p.in_span) (end_ends p.end sampling p.told.parent p.in_end) one in
    let bad = c.in_err-trace.ensures.only p.told.trace p.told.span p.in_trace (spelled_same rules.Exact 16 c.digits-2.result.0.now p.span p.told.span two.0 p.in_span) in
    cc

pub returns-in_err-sampling-2-clause-only : goal.returns-in_err-sampling-2-clause-only
returns-in_err-sampling-2-clause-only c = λ ids sampling h.
    let p = has_ids c.args.value.now c.digits.result.0.now c.digits.result.1.now c.digits.ensures (empty_false c.digits.result.1.now c.is_empty.result c.is_empty.ensures c.if-is_empty.false) ids sampling h in
    let one = c.in_ok-rest.ensures.only (p.span ++ p.end) p.whole in
    let two = leads_to p.span p.end c.digits-2.ensures (spelled_digits rules.Exact 16 p.span p.told.span p.in_span) (end_ends p.end sampling p.told.parent p.in_end) one in
    let bad = c.in_err-sampling-2.ensures.only sampling p.told.parent (end_same c.digits-2.result.1.now p.end sampling p.told.parent two.1 p.in_end) in
    cc

pub returns-clause-only : goal.returns-clause-only
returns-clause-only c = λ ids sampling h.
    let p = has_ids c.args.value.now c.digits.result.0.now c.digits.result.1.now c.digits.ensures (empty_false c.digits.result.1.now c.is_empty.result c.is_empty.ensures c.if-is_empty.false) ids sampling h in
    let one = c.in_ok-rest.ensures.only (p.span ++ p.end) p.whole in
    let two = leads_to p.span p.end c.digits-2.ensures (spelled_digits rules.Exact 16 p.span p.told.span p.in_span) (end_ends p.end sampling p.told.parent p.in_end) one in
    let pair = pair_is c.in_ok-trace.trace p.told.trace c.in_ok-trace.span p.told.span
    (c.in_ok-trace.ensures.only p.told.trace p.told.span p.in_trace (spelled_same rules.Exact 16 c.digits-2.result.0.now p.span p.told.span two.0 p.in_span)) in
    let end = pair_is c.in_ok-sampling-2.sampling sampling c.in_ok-sampling-2.parent p.told.parent
    (c.in_ok-sampling-2.ensures.only sampling p.told.parent (end_same c.digits-2.result.1.now p.end sampling p.told.parent two.1 p.in_end)) in
    some_pair (ap Some (ids_are p.told c.in_ok-trace.trace c.in_ok-trace.span c.in_ok-sampling-2.parent pair.0 pair.1 end.1) ∙ sym p.ids_is) end.0
