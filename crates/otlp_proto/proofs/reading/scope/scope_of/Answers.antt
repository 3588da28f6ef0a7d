use Rattle.std.proofs.Common.{map, rules}
use Rattle.otlp_proto.proofs.reading.scope.scope_of.Goals as goal

pub returns-clause-value : goal.returns-clause-value
returns-clause-value c = λ first records text wire gathered. record {
  notes = record { keys = c.unwrap_or-instrumentation.result.notes; spans = map (λ s. s.notes) gathered.spans.read };
  is_scope = record { items = records; are = wire; is = search rules };
  remarks = search rules;
}
