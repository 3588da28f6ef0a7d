use Rattle.propagation.specs.Heads.{header_values, b3_trace_name, b3_span_name, b3_parent_name, b3_sampled_name, b3_flags_name}
use Rattle.std.specs.Option.{option_copied}
use Rattle.propagation.proofs.MultiLemmas.{no_multi, same_multi_sampling}
use Rattle.propagation.proofs.multi.read_multi.Goals as goal

pub returns-in_err-trace : goal.returns-in_err-trace
returns-in_err-trace c = λ headers found.
    no_multi headers c.from_residual.result c.from_residual.ensures (λ ids sampling h.
    c.in_err-trace.ensures.only (header_values b3_trace_name headers) h.trace found.trace h.trace_once)

pub returns-in_err-span : goal.returns-in_err-span
returns-in_err-span c = λ headers found.
    no_multi headers c.from_residual-in_err-span.result c.from_residual-in_err-span.ensures (λ ids sampling h.
    c.in_err-span.ensures.only (header_values b3_span_name headers) h.span found.span h.span_once)

pub returns-in_err-parent : goal.returns-in_err-parent
returns-in_err-parent c = λ headers found.
    no_multi headers c.from_residual-in_err-parent.result c.from_residual-in_err-parent.ensures (λ ids sampling h.
    c.in_err-parent.ensures.only (header_values b3_parent_name headers) h.parent found.parent h.parent_once)

pub returns-in_err-sampled : goal.returns-in_err-sampled
returns-in_err-sampled c = λ headers found.
    no_multi headers c.from_residual-in_err-sampled.result c.from_residual-in_err-sampled.ensures (λ ids sampling h.
    c.in_err-sampled.ensures.only (header_values b3_sampled_name headers) h.sampled found.sampled h.sampled_once)

pub returns-in_err-flags : goal.returns-in_err-flags
returns-in_err-flags c = λ headers found.
    no_multi headers c.from_residual-in_err-flags.result c.from_residual-in_err-flags.ensures (λ ids sampling h.
    c.in_err-flags.ensures.only (header_values b3_flags_name headers) h.flags found.flags h.flags_once)

pub returns-in_err-sampling : goal.returns-in_err-sampling
returns-in_err-sampling c = λ headers found.
    no_multi headers c.from_residual-in_err-sampling.result c.from_residual-in_err-sampling.ensures (λ ids sampling h.
    let s = c.in_ok-sampled.ensures.only (header_values b3_sampled_name headers) h.sampled found.sampled h.sampled_once in
    let f = c.in_ok-flags.ensures.only (header_values b3_flags_name headers) h.flags found.flags h.flags_once in
    let bad = c.in_err-sampling.ensures.only sampling (same_multi_sampling (option_copied c.in_ok-sampled.sampled) (option_copied c.in_ok-flags.flags) h.sampled h.flags sampling s f h.sampling_told) in
    cc)
