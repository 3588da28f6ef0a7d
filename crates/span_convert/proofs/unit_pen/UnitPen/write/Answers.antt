use Rattle.std.proofs.lemmas.Result.{on_ok_weaker}
use Rattle.span_convert.proofs.PenLemmas.{by_pen}
use Rattle.span_convert.proofs.unit_pen.UnitPen.write.Goals as goal

pub returns-in-BinaryLosses-clause-ok : goal.returns-in-BinaryLosses-clause-ok
returns-in-BinaryLosses-clause-ok c = rw c.in-BinaryLosses.is (on_ok_weaker c.write-in-BinaryLosses.result (λ done. by_pen (λ units h. h) (λ units h. h) done) c.write-in-BinaryLosses.ensures.ok)

pub returns-in-CompactLosses-clause-ok : goal.returns-in-CompactLosses-clause-ok
returns-in-CompactLosses-clause-ok c = rw c.in-CompactLosses.is (on_ok_weaker c.write-in-CompactLosses.result (λ done. by_pen (λ units h. h) (λ units h. h) done) c.write-in-CompactLosses.ensures.ok)

pub returns-in-SpanFileLosses-clause-ok : goal.returns-in-SpanFileLosses-clause-ok
returns-in-SpanFileLosses-clause-ok c = rw c.in-SpanFileLosses.is (on_ok_weaker c.write-in-SpanFileLosses.result (λ done. by_pen (λ units h. h) (λ units h. h) done) c.write-in-SpanFileLosses.ensures.ok)
