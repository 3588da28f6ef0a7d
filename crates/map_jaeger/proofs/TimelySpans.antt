-- What is written has whole microseconds, and no span ends before it starts.
use Rattle.std.proofs.Common.{◌≡◌, ℕ, ◌<◌, ◌≤◌, List, map, get_or, All, arith}
use Rattle.std.proofs.lemmas.List.Elements.{All-map}
use Rattle.jaeger_model.specs.declared.span.Log.{Log}
use Rattle.span_ids.specs.Times.{floor}
use Rattle.trace_model.specs.declared.fault.Fault.TheVariants.{EndBeforeStart}
use Rattle.trace_model.specs.declared.span.Event.{Event}
use Rattle.trace_model.specs.declared.span.Span.{Span}
use Rattle.trace_model.specs.declared.group.Group.{Group}
use Rattle.span_tags.proofs.FaultLaws.{plain_spans}
use Rattle.span_tags.specs.Runs.{Scoped, scoped}
use Rattle.map_jaeger.specs.Faults.{IsResourceFault, IsSpanFault, HasNoFault}
use Rattle.map_jaeger.specs.StatedLaws.{IsTimely}
use Rattle.map_jaeger.specs.Writing.{log_of, jaeger_span, batch_of}

floor_again : (n : ℕ) → floor n ≡ floor (floor n)
floor_again n = omega arith

floor_order : (a b : ℕ) → (b < a → ⊥) → floor a ≤ floor b
floor_order a b never = omega (arith, never)

logs_timely : (events : List Event) → All (λ (log : Log). log.time ≡ floor log.time) (map log_of events)
logs_timely events = All-map (λ (log : Log). log.time ≡ floor log.time) log_of events (λ k d lt. floor_again (get_or events k d).time)

pub spans_timely : (group : Group) → HasNoFault group → All IsTimely (batch_of group).spans
spans_timely group none = All-map IsTimely jaeger_span (scoped group.scopes) (λ k d lt.
    let one : Scoped Span = get_or (scoped group.scopes) k d in
    record {
      start = floor_again one.span.start;
      end = floor_again one.span.end;
      ordered = floor_order one.span.start one.span.end (plain_spans IsResourceFault IsSpanFault group none k d lt EndBeforeStart);
      logs = logs_timely one.span.events;
    })
