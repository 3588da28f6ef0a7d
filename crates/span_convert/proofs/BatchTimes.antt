-- Times of whole microseconds, as the table of Jaeger has them and as they are written.
use Rattle.std.proofs.Common.{◌≡◌, List, All, sym}
use Rattle.std.proofs.lemmas.List.Elements.{All-weaker}
use Rattle.span_ids.specs.Times.{floor, IsWhole}
use Rattle.jaeger_model.specs.Writable.{IsTimed}
use Rattle.jaeger_model.specs.declared.span.JSpan.{JSpan}
use Rattle.jaeger_model.specs.declared.span.Log.{Log}
use Rattle.map_jaeger.specs.StatedLaws.{IsTimely}

abbrev IsFloor : Log → Type 0
IsFloor log = log.time ≡ floor log.time

abbrev IsWholeLog : Log → Type 0
IsWholeLog log = IsWhole log.time

timed : (span : JSpan) → IsTimely span → IsTimed span
timed span h = record { start = sym h.start; end = sym h.end; ordered = h.ordered; logs = All-weaker IsFloor IsWholeLog (λ log is. sym is) span.logs h.logs }

timely : (span : JSpan) → IsTimed span → IsTimely span
timely span h = record { start = sym h.start; end = sym h.end; ordered = h.ordered; logs = All-weaker IsWholeLog IsFloor (λ log is. sym is) span.logs h.logs }

pub all_timed : (spans : List JSpan) → All IsTimely spans → All IsTimed spans
all_timed spans all = All-weaker IsTimely IsTimed timed spans all

pub all_timely : (spans : List JSpan) → All IsTimed spans → All IsTimely spans
all_timely spans all = All-weaker IsTimed IsTimely timely spans all
