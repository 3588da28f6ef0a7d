use Rattle.std.proofs.Common.{rules}
use Rattle.span_io.proofs.PathLaws.{exits}
use Rattle.otlp_json.proofs.AttributeLemmas.{attributes_clean, attributes_halt, made_attributes}
use Rattle.otlp_json.proofs.reading.attributes.attributes_of.Goals as goal

pub returns-in_err-rows-clause-judged : goal.returns-in_err-rows-clause-judged
returns-in_err-rows-clause-judged c = exits c.in_err-rows.field-0.0 _ _ (search rules) (attributes_halt _ _ c.in_err-rows.ensures.judged)

pub returns-clause-judged : goal.returns-clause-judged
returns-clause-judged c = attributes_clean _ c.in_ok-rows.ensures.judged

pub returns-clause-value : goal.returns-clause-value
returns-clause-value c = made_attributes _ c.in_ok-rows.rows _ _ c.in_ok-rows.ensures.value c.in_ok-read.ensures
