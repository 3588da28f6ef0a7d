use Rattle.std.proofs.Common.{◌≡◌, Some, sym, ap, ◌∙◌}
use Rattle.conn_service.specs.declared.ended.ServeFault.{ServeFault}
use Rattle.conn_service.specs.declared.ended.ServeFault.TheVariants as whys
use Rattle.span_notes.proofs.NoteLaws.{notes_as}
use Rattle.span_relay.specs.RelayRuns.{link_line}
use Rattle.span_relay.proofs.run.note_link.Goals as goal

pub returns-in-Some-Read : goal.returns-in-Some-Read
returns-in-Some-Read g c =
    let is : c.args.why ≡ Some whys.Read = c.in-Some-Read.is ∙ ap (λ (f : ServeFault). Some f) (rw c.in-Some-Read.is at c.in-Some-Read.field-0-is) in
    notes_as c.args.holds c.note_numbered.result _ _ _ _ (ap (link_line c.args.number) (sym is)) c.note_numbered.ensures

pub returns-in-Some-Write : goal.returns-in-Some-Write
returns-in-Some-Write g c =
    let is : c.args.why ≡ Some whys.Write = c.in-Some-Write.is ∙ ap (λ (f : ServeFault). Some f) (rw c.in-Some-Write.is at c.in-Some-Write.field-0-is) in
    notes_as c.args.holds c.note_numbered-in-Some-Write.result _ _ _ _ (ap (link_line c.args.number) (sym is)) c.note_numbered-in-Some-Write.ensures
