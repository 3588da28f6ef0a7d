use Rattle.jaeger_model.proofs.BatchProofs.{only_batch}
use Rattle.jaeger_model.proofs.reading.batch.read_batch.Goals as goal

pub returns-clause-only : goal.returns-clause-only
returns-clause-only g c = only_batch g.P.Parts.spells c.args.unit.now c.one_batch.ensures c.read_rows_of.result c.read_rows_of.ensures.value c.read_rows_of.ensures.judged
