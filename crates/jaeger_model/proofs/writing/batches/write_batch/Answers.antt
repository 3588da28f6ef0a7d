use Rattle.thrift_core.specs.Trees.{outer_levels}
use Rattle.jaeger_model.proofs.Growth.{on_ok, on_err}
use Rattle.jaeger_model.proofs.writing.batches.write_batch.Goals as goal

pub returns-clause-ok : goal.returns-clause-ok
returns-clause-ok g c = on_ok c.write_structure.result _ _ _ (c.write_structure.ensures outer_levels)

pub returns-clause-front : goal.returns-clause-front
returns-clause-front g c = on_err c.write_structure.result _ _ _ (c.write_structure.ensures outer_levels)
