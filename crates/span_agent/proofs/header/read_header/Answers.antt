use Rattle.std.proofs.Common.{ap, ◌∙◌}
use Rattle.span_io.specs.Walks.{Walk}
use Rattle.span_agent.proofs.HeaderLemmas.{compact_only}
use Rattle.span_agent.proofs.header.read_header.Goals as goal

pub returns-in-Some-clause-only : goal.returns-in-Some-clause-only
returns-in-Some-clause-only c = λ compact name rest h.
    let only = compact_only _ c.args.datagram.now c.compact_header.new.c.rest c.in-Some.name.now (ap (λ (w : Walk). w.rest) c.new-c.ensures) c.in-Some.ensures.found
    (λ n r k. c.in-Some.ensures.only n r k) compact name rest h in
    (only.0, only.1, c.rest.ensures ∙ only.2)
