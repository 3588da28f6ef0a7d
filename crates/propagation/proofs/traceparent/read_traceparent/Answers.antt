use Rattle.std.proofs.Common.{refl, ap, sym, ◌∙◌}
use Rattle.std.specs.Prelude.{None}
use Rattle.std.specs.Str.Parse.{digits_value}
use Rattle.span_ids.specs.declared.hex_text.IdRule.TheVariants as rules
use Rattle.propagation.specs.Traceparent.{flagged_sampling}
use Rattle.propagation.proofs.ReadLemmas.{spelled_same, some_pair, pair_is, ids_are}
use Rattle.propagation.proofs.TraceparentLemmas.{same_traceparent_parts, traceparent_told_by, formed_same}
use Rattle.propagation.proofs.traceparent.read_traceparent.Goals as goal

pub returns-then-not-is_formed-clause-only : goal.returns-then-not-is_formed-clause-only
returns-then-not-is_formed-clause-only c = λ ids sampling h.
    let same = same_traceparent_parts c.args.value.now c.in_ok-version.version.now c.in_ok-version.rest.now c.in_ok-trace.trace.now c.in_ok-trace.rest.now c.in_ok-span.span.now c.in_ok-span.rest.now
    c.digits.result.0.now c.digits.result.1.now c.in_ok-version.ensures.only c.in_ok-trace.ensures.only c.in_ok-span.ensures.only c.digits.ensures h.0 ids sampling h.1 h.2 in
    let yes = c.is_formed.ensures.1 (formed_same h.0 ids sampling c.in_ok-version.version.now c.in_ok-trace.trace.now c.in_ok-span.span.now c.digits.result.0.now c.digits.result.1.now h.1 same) in
    cc

pub returns-in_err-trace-2-clause-only : goal.returns-in_err-trace-2-clause-only
returns-in_err-trace-2-clause-only c = λ ids sampling h.
    let same = same_traceparent_parts c.args.value.now c.in_ok-version.version.now c.in_ok-version.rest.now c.in_ok-trace.trace.now c.in_ok-trace.rest.now c.in_ok-span.span.now c.in_ok-span.rest.now
    c.digits.result.0.now c.digits.result.1.now c.in_ok-version.ensures.only c.in_ok-trace.ensures.only c.in_ok-span.ensures.only c.digits.ensures h.0 ids sampling h.1 h.2 in
    let bad = c.in_err-trace-2.ensures.only ids.trace ids.span (spelled_same rules.ExactLower 32 c.in_ok-trace.trace.now h.0.trace ids.trace same.trace_is h.1.trace)
    (spelled_same rules.ExactLower 16 c.in_ok-span.span.now h.0.span ids.span same.span_is h.1.span) in
    cc

pub returns-clause-value : goal.returns-clause-value
returns-clause-value c =
    let formed = c.is_formed.ensures.0 c.if-not-is_formed.false in
    traceparent_told_by c.args.value.now c.in_ok-version.version.now c.in_ok-version.rest.now c.in_ok-trace.trace.now c.in_ok-trace.rest.now c.in_ok-span.span.now c.in_ok-span.rest.now
    c.digits.result.0.now c.digits.result.1.now c.in_ok-version.ensures.text c.in_ok-trace.ensures.text c.in_ok-span.ensures.text c.digits.ensures.whole
    formed.0 formed.2 formed.1 (record { trace = c.in_ok-trace-2.trace; span = c.in_ok-trace-2.span; parent = None }) c.read_flags.result
    c.in_ok-trace-2.ensures.trace c.in_ok-trace-2.ensures.span refl c.read_flags.ensures

pub returns-clause-only : goal.returns-clause-only
returns-clause-only c = λ ids sampling h.
    let same = same_traceparent_parts c.args.value.now c.in_ok-version.version.now c.in_ok-version.rest.now c.in_ok-trace.trace.now c.in_ok-trace.rest.now c.in_ok-span.span.now c.in_ok-span.rest.now
    c.digits.result.0.now c.digits.result.1.now c.in_ok-version.ensures.only c.in_ok-trace.ensures.only c.in_ok-span.ensures.only c.digits.ensures h.0 ids sampling h.1 h.2 in
    let pair = pair_is c.in_ok-trace-2.trace ids.trace c.in_ok-trace-2.span ids.span
    (c.in_ok-trace-2.ensures.only ids.trace ids.span (spelled_same rules.ExactLower 32 c.in_ok-trace.trace.now h.0.trace ids.trace same.trace_is h.1.trace)
    (spelled_same rules.ExactLower 16 c.in_ok-span.span.now h.0.span ids.span same.span_is h.1.span)) in
    some_pair (ids_are ids c.in_ok-trace-2.trace c.in_ok-trace-2.span None pair.0 pair.1 (sym h.1.parent))
    (c.read_flags.ensures ∙ ap (λ f. flagged_sampling (digits_value 16 f)) same.flags_is ∙ sym h.1.sampled)
