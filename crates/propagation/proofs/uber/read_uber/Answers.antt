use Rattle.std.proofs.Common.{ap, sym, subst, ◌∙◌}
use Rattle.std.specs.Str.Parse.{digits_value}
use Rattle.span_ids.specs.declared.hex_text.IdRule.TheVariants as rules
use Rattle.propagation.specs.Uber.{IsUberParent, IsUberFlags, uber_sampling}
use Rattle.propagation.proofs.ReadLemmas.{spelled_digits, spelled_same, some_pair, pair_is, ids_are, same_in_some}
use Rattle.propagation.proofs.UberLemmas.{same_uber_parts, uber_told_by, parent_digits, after_first, after_second, uber_first_cut, uber_second_cut, uber_third_cut}
use Rattle.propagation.proofs.uber.read_uber.Goals as goal

pub returns-in_err-parent-clause-only : goal.returns-in_err-parent-clause-only
returns-in_err-parent-clause-only c = λ ids sampling h.
    let first = c.in_ok-trace.ensures.only h.0.trace h.0.first (after_first h.0) (spelled_digits rules.Padded 32 h.0.trace ids.trace h.1.trace) h.1.first (uber_first_cut c.args.value.now h.0 h.2) in
    let second = c.in_ok-span.ensures.only h.0.span h.0.second (after_second h.0) (spelled_digits rules.Padded 16 h.0.span ids.span h.1.span) h.1.second (first.1 ∙ uber_second_cut h.0) in
    absurd (c.in_err-parent.ensures.only h.0.parent h.0.third h.0.flags (parent_digits h.0.parent ids.parent h.1.parent) h.1.third (second.1 ∙ uber_third_cut h.0))

pub returns-in_err-parent-2-clause-only : goal.returns-in_err-parent-2-clause-only
returns-in_err-parent-2-clause-only c = λ ids sampling h.
    let same = same_uber_parts c.args.value.now c.in_ok-trace.trace.now c.in_ok-trace.rest.now c.in_ok-span.span.now c.in_ok-span.rest.now c.in_ok-parent.parent.now c.in_ok-parent.flags.now
    c.in_ok-trace.ensures.only c.in_ok-span.ensures.only c.in_ok-parent.ensures.only h.0 ids sampling h.1 h.2 in
    let bad = c.in_err-parent-2.ensures.only ids.parent (subst (λ x. IsUberParent x ids.parent) (sym same.parent_is) h.1.parent) in
    cc

pub returns-in_err-sampling-clause-only : goal.returns-in_err-sampling-clause-only
returns-in_err-sampling-clause-only c = λ ids sampling h.
    let same = same_uber_parts c.args.value.now c.in_ok-trace.trace.now c.in_ok-trace.rest.now c.in_ok-span.span.now c.in_ok-span.rest.now c.in_ok-parent.parent.now c.in_ok-parent.flags.now
    c.in_ok-trace.ensures.only c.in_ok-span.ensures.only c.in_ok-parent.ensures.only h.0 ids sampling h.1 h.2 in
    let bad = c.in_err-sampling.ensures.only (subst (λ x. IsUberFlags x) (sym same.flags_is) h.1.flags) in
    cc

pub returns-clause-value : goal.returns-clause-value
returns-clause-value c =
    let first = c.in_ok-trace.ensures.text in
    let second = c.in_ok-span.ensures.text in
    let third = c.in_ok-parent.ensures.text in
    uber_told_by c.args.value.now c.in_ok-trace.trace.now first.0 c.in_ok-trace.rest.now c.in_ok-span.span.now second.0 c.in_ok-span.rest.now c.in_ok-parent.parent.now third.0 c.in_ok-parent.flags.now
    first.1 second.1 third.1 first.2 second.2 third.2
    (record { trace = c.in_ok-trace-2.trace; span = c.in_ok-trace-2.span; parent = c.in_ok-parent-2.parent }) c.in_ok-sampling.sampling
    c.in_ok-trace-2.ensures.trace c.in_ok-trace-2.ensures.span c.in_ok-parent-2.ensures.value c.in_ok-sampling.ensures.value.0 c.in_ok-sampling.ensures.value.1

pub returns-clause-only : goal.returns-clause-only
returns-clause-only c = λ ids sampling h.
    let same = same_uber_parts c.args.value.now c.in_ok-trace.trace.now c.in_ok-trace.rest.now c.in_ok-span.span.now c.in_ok-span.rest.now c.in_ok-parent.parent.now c.in_ok-parent.flags.now
    c.in_ok-trace.ensures.only c.in_ok-span.ensures.only c.in_ok-parent.ensures.only h.0 ids sampling h.1 h.2 in
    let pair = pair_is c.in_ok-trace-2.trace ids.trace c.in_ok-trace-2.span ids.span
    (c.in_ok-trace-2.ensures.only ids.trace ids.span (spelled_same rules.Padded 32 c.in_ok-trace.trace.now h.0.trace ids.trace same.trace_is h.1.trace)
    (spelled_same rules.Padded 16 c.in_ok-span.span.now h.0.span ids.span same.span_is h.1.span)) in
    let parent = same_in_some (c.in_ok-parent-2.ensures.only ids.parent (subst (λ x. IsUberParent x ids.parent) (sym same.parent_is) h.1.parent)) in
    let is = c.in_ok-sampling.ensures.value.1 in
    some_pair (ids_are ids c.in_ok-trace-2.trace c.in_ok-trace-2.span c.in_ok-parent-2.parent pair.0 pair.1 parent)
    (is ∙ ap (λ f. uber_sampling (digits_value 16 f)) same.flags_is ∙ sym h.1.sampled)
