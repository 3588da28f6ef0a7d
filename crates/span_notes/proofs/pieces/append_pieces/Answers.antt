use Rattle.std.proofs.Common.{sym, arith}
use Rattle.std.proofs.lemmas.List.{append-nil}
use Rattle.span_notes.proofs.PieceLemmas.{append_all, append_more}
use Rattle.span_notes.proofs.pieces.append_pieces.Goals as goal

pub pieces-init : goal.pieces-init
pieces-init c = sym (append-nil c.args.out.now)

pub pieces-preserved : goal.pieces-preserved
pieces-preserved c =
    append_more c.args.out.now c.pieces.out c.append.new.self c.args.pieces.now c.pieces.piece-index _ c.pieces-test.true c.pieces.invariant c.in_ok-append.ensures.ok

pub returns : goal.returns
returns c = append_all c.args.out.now c.pieces.out c.args.pieces.now c.pieces.piece-index (omega arith) c.pieces.invariant
