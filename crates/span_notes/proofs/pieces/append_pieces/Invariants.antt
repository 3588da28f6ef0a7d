use Rattle.std.proofs.Common.{◌≡◌, ◌++◌, take}
use Rattle.span_notes.specs.Pieces.{pieces_text}
use Rattle.span_notes.proofs.pieces.append_pieces.Given as goal

abbrev pub invariant-pieces : goal.invariant-pieces
invariant-pieces l = l.out ≡ l.initial.out ++ pieces_text (take l.piece-index l.pieces)
