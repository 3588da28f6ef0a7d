use Rattle.span_agent.specs.Headers.{CompactHeader}
use Rattle.span_agent.specs.private.Finding.{NumberedName}
use Rattle.span_agent.proofs.HeaderLemmas.{carried, compact_back, compact_begins, compact_calls, compact_there, none_found, true_and_false}
use Rattle.span_agent.proofs.header.compact_header.Goals as goal

pub returns-then-not-passes : goal.returns-then-not-passes
returns-then-not-passes c = none_found CompactHeader _ _ (λ name rest h.
    let begins = compact_begins name _ rest h in
    true_and_false _ (c.passes.ensures.only begins.0 begins.1) c.if-not-passes.true)

pub returns-then-not-passes_either : goal.returns-then-not-passes_either
returns-then-not-passes_either c = none_found CompactHeader _ _ (λ name rest h.
    let calls = compact_calls name _ _ rest (c.passes.ensures.found c.if-not-passes.false) h in
    true_and_false _ (c.passes_either.ensures.only calls.0 calls.1) c.if-not-passes_either.true)

pub returns : goal.returns
returns c =
    let first = c.passes.ensures.found c.if-not-passes.false in
    let second = c.passes_either.ensures.found c.if-not-passes_either.false in
    carried NumberedName CompactHeader _ _ _ _ (compact_there _ _ _ first second) (compact_back _ _ _ first second) c.numbered_name.ensures
