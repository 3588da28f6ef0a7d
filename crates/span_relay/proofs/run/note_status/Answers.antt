use Rattle.std.proofs.Common.{◌∙◌}
use Rattle.span_notes.proofs.NoteLaws.{notes_as}
use Rattle.span_relay.proofs.RunLemmas.{status_line}
use Rattle.span_relay.proofs.run.note_status.Goals as goal

pub returns : goal.returns
returns g c =
    notes_as c.args.holds c.note_more.result _ _ _ _
    (status_line _ _ _ _ _ c.args.number c.args.status c.as_slice.ensures (c.as_bytes.ensures.value ∙ c.format.ensures.text) c.as_slice-2.ensures
    (c.as_bytes-2.ensures.value ∙ c.format-2.ensures.text) c.as_slice-3.ensures) c.note_more.ensures
