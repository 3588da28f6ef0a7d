use Rattle.std.proofs.Common.{ℕ, List, Ok, Err, refl, subst}
use Rattle.span_io.specs.Outside.{FailsAt, FailsWithin, Gains}
use Rattle.span_io.specs.declared.halt.Halt.TheVariants as halts
use Rattle.span_agent.proofs.RunLemmas.{hands_bad, hands_front, hands_nothing, hands_piece}
use Rattle.span_agent.proofs.run.hand_on.Goals as goal

pub returns-in-Ok-write_all : goal.returns-in-Ok-write_all
returns-in-Ok-write_all g c =
    hands_piece c.gains_then.ensures c.args.to c.args.number c.args.datagram.now c.shipped.result c.shipped.ensures.values (Ok c.in-Ok.piece) c.in-Ok.ensures.exists c.in-Ok.ensures.piece
    c.in-Ok.piece refl c.args.holds.now _ _ _
    (subst (λ (l : List ℕ). Gains (g.K.Sink.outlet c.args.output.now) (g.K.Sink.outlet c.write_all.new.sink) l) c.as_slice.ensures c.in-Ok-write_all.ensures.ok)
    c.in-Ok-write_all.ensures.holds

pub returns-in-Ok : goal.returns-in-Ok
returns-in-Ok g c =
    hands_front c.gains_then.ensures c.args.to c.args.number c.args.datagram.now c.shipped.result c.shipped.ensures.values (Ok c.in-Ok.piece) c.in-Ok.ensures.exists c.in-Ok.ensures.piece
    c.in-Ok.piece refl _ c.args.holds.now _ _ _
    (subst (λ (l : List ℕ). FailsWithin (g.K.Sink.outlet c.args.output.now) (g.K.Sink.outlet c.write_all.new.sink) l) c.as_slice.ensures c.in-Err.ensures.within)
    (subst (λ (l : List ℕ). FailsAt (g.K.Sink.outlet c.args.output.now) (g.K.Sink.outlet c.write_all.new.sink) l) c.as_slice.ensures c.in-Err.ensures.at)

pub returns-in-Err-Why : goal.returns-in-Err-Why
returns-in-Err-Why g c =
    let told = rw c.in-Err-Why.field-0-is at c.in-Err-Why.ensures in
    hands_bad c.gains_then.ensures c.args.to c.args.number c.args.datagram.now c.shipped.result c.shipped.ensures.values (Err (halts.Why c.in-Err-Why.bad)) told.exists told.piece
    c.in-Err-Why.bad refl c.note_bad.result c.args.holds.now c.note_bad.new.holds _ g.N.Sink.outlet c.args.notes.now c.note_bad.new.notes
    c.note_bad.ensures.ok c.note_bad.ensures.err

pub returns : goal.returns
returns g c =
    let told = rw c.in-Err-OutOfMemory.field-0-is at c.in-Err-OutOfMemory.ensures in
    hands_nothing c.gains_then.ensures c.args.to c.args.number c.args.datagram.now c.shipped.result c.shipped.ensures.values (Err halts.OutOfMemory) told.exists told.piece
    c.args.holds.now _ _
