use Rattle.std.proofs.Common.{◌≡◌, Err, Result, sym, ap, ◌∙◌}
use Rattle.conn_service.specs.declared.ended.Ended.{Ended}
use Rattle.conn_service.specs.declared.ended.ServeFault.{ServeFault}
use Rattle.conn_service.specs.declared.ended.ServeFault.TheVariants as faults
use Rattle.span_cli.specs.Servings.{visit_line}
use Rattle.span_notes.proofs.NoteLaws.{notes_as}
use Rattle.span_cli.proofs.serve.note_visit.Goals as goal

pub returns-in-Err-Read : goal.returns-in-Err-Read
returns-in-Err-Read g c =
    let is : c.args.ended ≡ Err faults.Read = c.in-Err-Read.is ∙ ap (λ (f : ServeFault). Err f) (rw c.in-Err-Read.is at c.in-Err-Read.field-0-is) in
    notes_as c.args.holds c.note_numbered.result _ _ _ _ (ap (λ (e : Result Ended ServeFault). visit_line c.args.number e) (sym is)) c.note_numbered.ensures

pub returns-in-Err-Write : goal.returns-in-Err-Write
returns-in-Err-Write g c =
    let is : c.args.ended ≡ Err faults.Write = c.in-Err-Write.is ∙ ap (λ (f : ServeFault). Err f) (rw c.in-Err-Write.is at c.in-Err-Write.field-0-is) in
    notes_as c.args.holds c.note_numbered-in-Err-Write.result _ _ _ _ (ap (λ (e : Result Ended ServeFault). visit_line c.args.number e) (sym is)) c.note_numbered-in-Err-Write.ensures
