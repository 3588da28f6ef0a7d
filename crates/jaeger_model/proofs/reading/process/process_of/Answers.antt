use Rattle.thrift_core.specs.FieldValues.{binary_in}
use Rattle.span_io.specs.Tables.{MeansText}
use Rattle.jaeger_model.specs.Tag.{IsTag}
use Rattle.jaeger_model.proofs.FieldLemmas.{required_held}
use Rattle.jaeger_model.proofs.SpanLemmas.{list_held}
use Rattle.jaeger_model.proofs.reading.process.process_of.Goals as goal

pub returns-clause-value : goal.returns-clause-value
returns-clause-value g c = λ left items gathered. record {
  service = required_held binary_in 1 MeansText items c.args.rows.service c.in-Some.service c.in-Some.is gathered.service;
  tags = list_held IsTag 2 items c.args.rows.tags c.new.result c.unwrap_or.result c.unwrap_or.ensures c.new.ensures gathered.tags;
}
