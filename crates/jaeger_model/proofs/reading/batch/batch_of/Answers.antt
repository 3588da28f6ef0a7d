use Rattle.std.proofs.Common.{List, All, refl, inl, inr, arith}
use Rattle.thrift_core.specs.FieldValues.{values_of, i64_in, struct_in, list_in}
use Rattle.thrift_core.specs.Messages.{fields_of}
use Rattle.jaeger_model.specs.Batch.{MeansNothing, MeansSpans}
use Rattle.jaeger_model.specs.Counted.{IsCounted, IsCountedSpan}
use Rattle.jaeger_model.specs.private.ListsSoFar.{MeansEach, MeansOne}
use Rattle.jaeger_model.specs.Meanings.{Means}
use Rattle.jaeger_model.specs.declared.span.JSpan.{JSpan}
use Rattle.jaeger_model.specs.Process.{IsProcess, MeansProcess}
use Rattle.jaeger_model.specs.private.SpanSoFar.{IsReadJSpan}
use Rattle.jaeger_model.proofs.BatchLemmas.{struct_required, no_struct, at_most_one}
use Rattle.jaeger_model.proofs.LogLemmas.{list_required, no_list, both_held}
use Rattle.jaeger_model.proofs.CountedSpans.{spans_required, each_counted, some_given}
use Rattle.jaeger_model.proofs.reading.batch.batch_of.Goals as goal

pub returns-in_default-clause-ended : goal.returns-in_default-clause-ended
returns-in_default-clause-ended g c = λ left items gathered. ((refl, inl (no_struct (MeansOne IsProcess) 1 items c.args.rows.process c.in_default.is gathered.process)), λ n e. omega (arith, e.0))

pub returns-in_default-spans-clause-ended : goal.returns-in_default-spans-clause-ended
returns-in_default-spans-clause-ended g c = λ left items gathered. ((refl, inr (no_list (MeansEach IsReadJSpan) 2 items c.args.rows.spans c.in_default-spans.is gathered.spans)), λ n e. omega (arith, e.0))

pub returns-clause-value : goal.returns-clause-value
returns-clause-value g c = λ left items gathered. record {
  process = struct_required IsProcess 1 items c.args.rows.process c.in-Some.process c.in-Some.is gathered.process;
  spans = spans_required _ _ (list_required IsReadJSpan 2 items c.args.rows.spans c.in-Some-spans.spans c.in-Some-spans.is gathered.spans);
  sequence = at_most_one i64_in 3 Means items c.args.rows.sequence gathered.sequence;
  stats = at_most_one struct_in 4 MeansNothing items c.args.rows.stats gathered.stats;
}

pub returns-clause-ended : goal.returns-clause-ended
returns-clause-ended g c = λ left items gathered.
    both_held MeansProcess MeansSpans (values_of struct_in 1 (fields_of items)) (values_of list_in 2 (fields_of items)) c.in-Some.process c.in-Some-spans.spans
    (struct_required IsProcess 1 items c.args.rows.process c.in-Some.process c.in-Some.is gathered.process) (spans_required _ _ (list_required IsReadJSpan 2 items c.args.rows.spans c.in-Some-spans.spans c.in-Some-spans.is gathered.spans))

pub returns-clause-counted : goal.returns-clause-counted
returns-clause-counted g c = λ left items gathered. record {
  spans = some_given (MeansEach IsReadJSpan) (λ (l : List JSpan). IsCounted l) (λ held spans means. means.1) _ c.args.rows.spans c.in-Some-spans.spans c.in-Some-spans.is gathered.spans;
  each = some_given (MeansEach IsReadJSpan) (All IsCountedSpan) (λ held spans means. each_counted held.0 spans means.0) _ c.args.rows.spans c.in-Some-spans.spans c.in-Some-spans.is gathered.spans;
}
