use Rattle.std.proofs.Common.{refl}
use Rattle.std.proofs.lemmas.Result.{on_ok_weaker}
use Rattle.span_convert.proofs.intake.take_piece.Goals as goal

pub take_frames-requires-clause-seen : goal.take_frames-requires-clause-seen
take_frames-requires-clause-seen g c = rw c.in-Request.is at c.requires.seen

pub take_frames-requires-in-BinaryBatches-clause-seen : goal.take_frames-requires-in-BinaryBatches-clause-seen
take_frames-requires-in-BinaryBatches-clause-seen g c = rw c.in-BinaryBatches.is at c.requires.seen

pub take_frames-requires-in-CompactBatches-clause-seen : goal.take_frames-requires-in-CompactBatches-clause-seen
take_frames-requires-in-CompactBatches-clause-seen g c = rw c.in-CompactBatches.is at c.requires.seen

pub returns-in-Request-clause-ok : goal.returns-in-Request-clause-ok
returns-in-Request-clause-ok g c = rw c.in-Request.is c.take_frames.ensures.ok

pub returns-in-BinaryBatches-clause-ok : goal.returns-in-BinaryBatches-clause-ok
returns-in-BinaryBatches-clause-ok g c = rw c.in-BinaryBatches.is c.take_frames-in-BinaryBatches.ensures.ok

pub returns-in-CompactBatches-clause-ok : goal.returns-in-CompactBatches-clause-ok
returns-in-CompactBatches-clause-ok g c = rw c.in-CompactBatches.is c.take_frames-in-CompactBatches.ensures.ok

pub returns-in-GroupFile-clause-ok : goal.returns-in-GroupFile-clause-ok
returns-in-GroupFile-clause-ok g c =
    rw c.in-GroupFile.is (on_ok_weaker c.take_document.result (λ done. λ what limits bytes more said taken looked. done what limits bytes more said c.args.progress.now _ taken looked) c.take_document.ensures.ok)

pub returns-in-SpanFile-clause-ok : goal.returns-in-SpanFile-clause-ok
returns-in-SpanFile-clause-ok g c =
    rw c.in-SpanFile.is (on_ok_weaker c.take_document-in-SpanFile.result (λ done. λ what limits bytes more said taken looked. done what limits bytes more said c.args.progress.now _ taken looked) c.take_document-in-SpanFile.ensures.ok)

pub returns-in-Request-clause-unwritten : goal.returns-in-Request-clause-unwritten
returns-in-Request-clause-unwritten g c = rw c.in-Request.is tt

pub returns-in-BinaryBatches-clause-unwritten : goal.returns-in-BinaryBatches-clause-unwritten
returns-in-BinaryBatches-clause-unwritten g c = rw c.in-BinaryBatches.is tt

pub returns-in-CompactBatches-clause-unwritten : goal.returns-in-CompactBatches-clause-unwritten
returns-in-CompactBatches-clause-unwritten g c = rw c.in-CompactBatches.is tt

pub returns-in-GroupFile-clause-unwritten : goal.returns-in-GroupFile-clause-unwritten
returns-in-GroupFile-clause-unwritten g c = rw c.in-GroupFile.is refl

pub returns-in-SpanFile-clause-unwritten : goal.returns-in-SpanFile-clause-unwritten
returns-in-SpanFile-clause-unwritten g c = rw c.in-SpanFile.is refl
