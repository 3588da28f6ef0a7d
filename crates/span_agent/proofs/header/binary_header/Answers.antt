use Rattle.span_agent.specs.Headers.{BinaryHeader}
use Rattle.span_agent.specs.private.Finding.{NameThenNumber}
use Rattle.span_agent.proofs.HeaderLemmas.{binary_back, binary_begins, binary_calls, binary_there, carried, none_found, true_and_false}
use Rattle.span_agent.proofs.header.binary_header.Goals as goal

pub returns-then-not-passes : goal.returns-then-not-passes
returns-then-not-passes c = none_found BinaryHeader _ _ (λ name rest h.
    let begins = binary_begins name _ rest h in
    true_and_false _ (c.passes.ensures.only _ begins.1) c.if-not-passes.true)

pub returns-then-not-passes_either : goal.returns-then-not-passes_either
returns-then-not-passes_either c = none_found BinaryHeader _ _ (λ name rest h.
    let calls = binary_calls name _ _ _ _ rest (c.passes.ensures.found c.if-not-passes.false) (c.passes-2.ensures.found c.if-not-passes-2.false)
    (c.passes-3.ensures.found c.if-not-passes-3.false) h in
    true_and_false _ (c.passes_either.ensures.only calls.0 calls.1) c.if-not-passes_either.true)

pub returns : goal.returns
returns c =
    let first = c.passes.ensures.found c.if-not-passes.false in
    let second = c.passes-2.ensures.found c.if-not-passes-2.false in
    let third = c.passes-3.ensures.found c.if-not-passes-3.false in
    let fourth = c.passes_either.ensures.found c.if-not-passes_either.false in
    carried NameThenNumber BinaryHeader _ _ _ _ (binary_there _ _ _ _ _ first second third fourth) (binary_back _ _ _ _ _ first second third fourth) c.name_then_number.ensures
