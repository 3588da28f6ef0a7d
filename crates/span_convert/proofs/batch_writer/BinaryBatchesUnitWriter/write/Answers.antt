use Rattle.std.proofs.lemmas.Result.{on_ok_weaker}
use Rattle.map_jaeger.specs.Normal.{normal_group}
use Rattle.map_zipkin.specs.NotedGroups.{noted_group}
use Rattle.span_io.specs.declared.form.Form.TheVariants as forms
use Rattle.span_convert.specs.BatchFiles.{binary, group_batch}
use Rattle.span_convert.proofs.BatchTargets.{batches_more}
use Rattle.span_convert.proofs.FormTargets.{writes_unit}
use Rattle.span_convert.proofs.batch_writer.BinaryBatchesUnitWriter.write.Goals as goal

pub returns-clause-ok : goal.returns-clause-ok
returns-clause-ok c =
    on_ok_weaker c.write_unit.result (λ (held, sized, text). writes_unit forms.JaegerBinary (noted_group c.args.unit) _ _ _ _ _ (group_batch binary (normal_group c.args.unit.0)) held.sound held.proper held.no_fault sized text
    (λ groups so_far same. batches_more binary groups c.args.unit.0)) c.write_unit.ensures.ok
