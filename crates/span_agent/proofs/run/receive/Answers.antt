use Rattle.span_notes.proofs.NoteLaws.{notes_line}
use Rattle.span_agent.proofs.RunLemmas.{receives_all}
use Rattle.span_agent.proofs.run.receive.Goals as goal

pub returns : goal.returns
returns g c =
    receives_all c.gains_then.ensures c.args.to c.args.address.now c.args.count c.status.result c.receive_at-end.result c.receive_at-end.new.holds c.note_more.result _ _ _ _ _ _ _
    c.status.ensures c.receive_at-end.ensures
    (notes_line c.receive_at-end.new.holds c.note_more.result _ _ c.line.result.now _ c.line.ensures c.note_more.ensures)
