use Rattle.span_notes.proofs.NoteLaws.{notes_line}
use Rattle.span_cli.proofs.ServeLemmas.{serves_all}
use Rattle.span_cli.proofs.serve.serve.Goals as goal

pub returns : goal.returns
returns g c =
    serves_all c.args.to c.gains_then.ensures c.args.address.now c.args.count c.status.result c.serve_at-end.result c.serve_at-end.new.holds c.note_more.result _ _ _ _ _ c.status.ensures c.serve_at-end.ensures
    (notes_line c.serve_at-end.new.holds c.note_more.result _ _ c.line.result.now _ c.line.ensures c.note_more.ensures)
