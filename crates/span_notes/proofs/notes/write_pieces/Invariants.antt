use Rattle.std.proofs.Common.{take}
use Rattle.span_io.specs.Outside.{Gains, OutputHolds}
use Rattle.span_notes.specs.Pieces.{pieces_text}
use Rattle.span_notes.proofs.notes.write_pieces.Given as goal

abbrev pub invariant-pieces : goal.invariant-pieces
invariant-pieces g l = record {
  gained : Gains (g.N.Sink.outlet l.initial.notes) (g.N.Sink.outlet l.notes) (pieces_text (take l.piece-index l.pieces));
  holds : OutputHolds (g.N.Sink.outlet l.initial.notes) (g.N.Sink.outlet l.notes);
}
