use Rattle.std.proofs.Common.{◌≡◌, ℕ, Result, Ok, Err, sym, subst}
use Rattle.span_io.specs.declared.cursor.Lack.{Lack}
use Rattle.span_agent.specs.Headers.{SizedName}
use Rattle.span_agent.specs.private.Finding.{NumberedName}
use Rattle.span_agent.proofs.HeaderLemmas.{carried, none_found}
use Rattle.span_agent.proofs.header.numbered_name.Goals as goal

pub returns-in-Ok : goal.returns-in-Ok
returns-in-Ok c = carried SizedName NumberedName _ _ _ _
    (λ name rest h. record { sequence = c.in-Ok.field-0; sized = c.varint.new.self.rest; sequence_then = c.in-Ok.ensures.found; name_then = h })
    (λ name rest h. let only = c.in-Ok.ensures.only h.sequence h.sized h.sequence_then in subst (λ l. SizedName name l rest) (sym only.1) h.name_then)
    c.sized_name.ensures

pub returns-in-Err : goal.returns-in-Err
returns-in-Err c = none_found NumberedName _ _ (λ name rest h.
    let only = c.in-Err.ensures.only h.sequence h.sized h.sequence_then in
    let never : ◌≡◌ {A = Result ℕ Lack} (Err c.in-Err.field-0) (Ok h.sequence) = only.0 in cc)
