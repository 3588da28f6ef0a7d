use Rattle.std.proofs.Common.{◌+◌, ◌++◌, List, length, min, refl, ap, ◌∙◌}
use Rattle.span_io.specs.Outside.{last_count}
use Rattle.trace_model.specs.declared.remark.Remark.{Remark}
use Rattle.map_zipkin.specs.NotedGroups.{noted_group}
use Rattle.span_convert.specs.Reports.{unit_checked}
use Rattle.span_convert.specs.declared.check_writer.CheckWriter.{CheckWriter}
use Rattle.span_convert.proofs.ReportTargets.{checks_unit}
use Rattle.span_convert.proofs.check_writer.CheckWriterUnitWriter.write.Goals as goal

pub returns-clause-ok : goal.returns-clause-ok
returns-clause-ok c =
    checks_unit (λ (w : CheckWriter). w.remarks) (noted_group c.args.unit) c.args.before c.args.self.now _ (c.args.before.units + 1) c.args.out.now c.write_remarks.new.out c.requires.sound c.proper_group.ensures refl
    (c.in_ok-write_remarks.ensures ∙ ap (λ (l : List Remark). c.args.out.now ++ unit_checked (c.args.before.units + 1) l) c.as_slice-remarks.ensures)
    (c.saturating_add-self.ensures ∙ ap (λ (l : List Remark). min (c.args.self.now.remarks + length l) last_count) c.as_slice-remarks.ensures)
