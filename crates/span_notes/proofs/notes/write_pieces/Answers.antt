use Rattle.std.proofs.Common.{List, ℕ, sym, subst, arith}
use Rattle.std.specs.Borrow.{Bor}
use Rattle.std.proofs.lemmas.List.{take_all}
use Rattle.span_io.specs.Outside.{Gains}
use Rattle.span_notes.specs.Pieces.{pieces_text}
use Rattle.span_notes.proofs.PieceLemmas.{joined_more, fails_within_pieces}
use Rattle.span_notes.proofs.notes.write_pieces.Goals as goal

pub pieces-init : goal.pieces-init
pieces-init g c = record { gained = c.gains_then.ensures.none (g.N.Sink.outlet c.args.notes.now); holds = c.gains_then.ensures.still (g.N.Sink.outlet c.args.notes.now) }

pub pieces-preserved : goal.pieces-preserved
pieces-preserved g c = record {
  gained = subst (λ (l : List ℕ). Gains (g.N.Sink.outlet c.args.notes.now) (g.N.Sink.outlet c.write_all.new.sink) l) (sym (joined_more c.args.pieces.now c.pieces.piece-index _ c.pieces-test.true))
      (c.gains_then.ensures.both _ _ _ _ _ c.pieces.invariant.gained c.in_default.ensures.ok);
  holds = c.gains_then.ensures.holding _ _ _ c.pieces.invariant.holds c.in_default.ensures.holds;
}

pub returns-in-Err-clause-at : goal.returns-in-Err-clause-at
returns-in-Err-clause-at g c =
    fails_within_pieces _ _ c.args.pieces.now c.pieces.piece-index _ c.pieces-test.true (c.gains_then.ensures.stops _ _ _ _ _ c.pieces.invariant.gained c.pieces.invariant.holds c.in-Err.ensures.at)

pub returns-clause-ok : goal.returns-clause-ok
returns-clause-ok g c =
    subst (λ (l : List (Bor (List ℕ))). Gains (g.N.Sink.outlet c.args.notes.now) (g.N.Sink.outlet c.pieces.notes) (pieces_text l)) (take_all c.pieces.piece-index c.args.pieces.now (omega arith)) c.pieces.invariant.gained
