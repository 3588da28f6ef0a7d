use Rattle.std.proofs.Common.{◌≡◌, sym, subst}
use Rattle.span_agent.specs.Headers.{FourThen}
use Rattle.span_agent.specs.private.Finding.{NameThenNumber}
use Rattle.span_agent.proofs.HeaderLemmas.{carried, lent_then, none_found}
use Rattle.span_agent.proofs.header.name_then_number.Goals as goal

pub returns-in-Ok : goal.returns-in-Ok
returns-in-Ok c = carried (λ lent whole rest. (lent ≡ c.in-Ok.name.now) × FourThen whole rest) NameThenNumber _ _ _ _
    (λ name rest h. record { numbered = c.bytes.new.c.rest; name_then = lent_then _ _ _ _ (sym h.0) c.in-Ok.ensures.found; sequence_then = h.1 })
    (λ name rest h.
    let only = c.in-Ok.ensures.only name h.numbered h.name_then in
    (sym only.0, subst (λ l. FourThen l rest) (sym only.1) h.sequence_then))
    c.before_number.ensures

pub returns-in-Err : goal.returns-in-Err
returns-in-Err c = none_found NameThenNumber _ _ (λ name rest h. absurd (c.in-Err.ensures.only name h.numbered h.name_then).0)
