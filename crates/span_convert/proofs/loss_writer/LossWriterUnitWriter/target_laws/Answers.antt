use Rattle.span_convert.specs.declared.report.Report.TheVariants as reports
use Rattle.span_convert.proofs.loss_writer.LossWriterUnitWriter.target_laws.Goals as goal

pub returns : goal.returns
returns g c = c.report_targets.ensures (reports.Losses g.L.Losing.form)
