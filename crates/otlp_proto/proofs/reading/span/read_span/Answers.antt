use Rattle.std.proofs.Common.{ℕ, List, subst}
use Rattle.std.specs.Prelude.{IfOk}
use Rattle.span_io.specs.Tables.{givens}
use Rattle.proto_wire.specs.Messages.{messages}
use Rattle.proto_wire.specs.Records.{Record}
use Rattle.proto_wire.specs.Wire.{Wire}
use Rattle.trace_model.specs.declared.noted.Noted.{Noted}
use Rattle.trace_model.specs.declared.remark.Remark.{Remark}
use Rattle.trace_model.specs.declared.span.Span.{Span}
use Rattle.otlp_proto.specs.private.ReadParts.{IsReadSpan}
use Rattle.otlp_proto.specs.Span.{span_rules, span_table}
use Rattle.otlp_proto.specs.private.SpanSoFar.{GatheredSpan}
use Rattle.span_io.proofs.GatheringLaws.{judged_end}
use Rattle.otlp_proto.proofs.reading.span.read_span.Goals as goal

pub returns-clause-value : goal.returns-clause-value
returns-clause-value c =
    let all = c.in_ok-rows.ensures.all in
    subst (λ (n : ℕ). IfOk c.span_of.result (λ read. IsReadSpan n read c.args.bytes.now)) c.none.ensures.nothing.number
    (c.span_of.ensures.value c.none.result.number all.items c.args.bytes.now all.are all.gathered)

pub returns-clause-judged : goal.returns-clause-judged
returns-clause-judged c =
    let all = c.in_ok-rows.ensures.all in
    judged_end messages span_rules Wire (λ (l : List Record). GatheredSpan c.none.result.number c.in_ok-rows.rows (givens span_table l)) c.args.bytes.now all (Noted Span (List Remark)) c.span_of.result
    (c.span_of.ensures.ended c.none.result.number all.items all.gathered)
