use Rattle.std.proofs.Common.{◌∙◌, refl}
use Rattle.span_notes.proofs.NoteLaws.{notes_as}
use Rattle.span_notes.proofs.PieceLemmas.{three_pieces}
use Rattle.span_notes.proofs.notes.note_numbered.Goals as goal

pub returns : goal.returns
returns g c =
    notes_as c.args.holds c.note_more.result _ _ _ _
    (three_pieces c.args.what.now _ c.args.said.now _ _ refl (c.as_bytes.ensures.value ∙ c.format.ensures.text)) c.note_more.ensures
