use Rattle.std.proofs.Common.{◌≡◌, ℕ, Result, Ok, Err, sym, subst}
use Rattle.span_io.specs.declared.cursor.Lack.{Lack}
use Rattle.span_agent.specs.Headers.{NameThen, SizedName}
use Rattle.span_agent.proofs.HeaderLemmas.{carried, none_found}
use Rattle.span_agent.proofs.header.sized_name.Goals as goal

pub returns-in-Ok : goal.returns-in-Ok
returns-in-Ok c = carried (λ name whole rest. NameThen c.in-Ok.size name whole rest) SizedName _ _ _ _
    (λ name rest h. record { size = c.in-Ok.size; named = c.varint.new.self.rest; size_then = c.in-Ok.ensures.found; name_then = h })
    (λ name rest h.
    let only = c.in-Ok.ensures.only h.size h.named h.size_then in
    let same : c.in-Ok.size ≡ h.size = (let both : ◌≡◌ {A = Result ℕ Lack} (Ok c.in-Ok.size) (Ok h.size) = only.0 in cc) in
    subst (λ n. NameThen n name c.varint.new.self.rest rest) (sym same) (subst (λ l. NameThen h.size name l rest) (sym only.1) h.name_then))
    c.name_of.ensures

pub returns-in-Err : goal.returns-in-Err
returns-in-Err c = none_found SizedName _ _ (λ name rest h.
    let only = c.in-Err.ensures.only h.size h.named h.size_then in
    let never : ◌≡◌ {A = Result ℕ Lack} (Err c.in-Err.field-0) (Ok h.size) = only.0 in cc)
