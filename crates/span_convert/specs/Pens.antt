-- What writes the units of an input, by what it writes them as, and for which units it stands.
use Rattle.std.specs.Prelude.{◌≡◌, min, List}
use Rattle.span_io.specs.Outside.{last_count}
use Rattle.span_io.specs.declared.form.Form.{Form}
use Rattle.span_io.specs.declared.form.Form.TheVariants as forms
use Rattle.trace_model.specs.OtlpParts.{NotedGroup}
use Rattle.trace_model.specs.declared.group.Group.{Group}
use Rattle.span_convert.specs.Reports.{last_run_in, loss_count, remark_count}
use Rattle.span_convert.specs.Units.{groups_in}
use Rattle.span_convert.specs.declared.check_writer.CheckWriter.{CheckWriter}
use Rattle.span_convert.specs.declared.losing.LastRun.{LastRun}
use Rattle.span_convert.specs.declared.loss_writer.LossWriter.{LossWriter}
use Rattle.span_convert.specs.declared.pen.Pen.{Pen}
use Rattle.span_convert.specs.declared.pen.Pen.TheVariants as pens
use Rattle.span_convert.specs.declared.report.Report.TheVariants as reports
use Rattle.span_convert.specs.declared.unit_pen.UnitPen.{UnitPen}
use Rattle.span_convert.specs.declared.unit_pen.UnitPen.TheVariants as unit_pens
use Rattle.span_convert.specs.declared.written.Written.{Written}
use Rattle.span_convert.specs.declared.written.Written.TheVariants as written

-- ---- the units for which a writer stands

-- A writer stands for units behind which it writes the next one. One that keeps nothing of them stands for any.
abbrev pub StandsForAny : {W A : Type 0} → W → List A → Type 0
StandsForAny writer units = Unit {0}

-- It counted the remarks on them.
abbrev pub CountsRemarks : CheckWriter → List NotedGroup → Type 0
CountsRemarks writer units = writer.remarks ≡ min (remark_count units) last_count

-- It has the run of their last span.
abbrev pub HasLastRun : LastRun → List Group → Type 0
HasLastRun last groups = last.run ≡ last_run_in groups

-- It counted what a move to the form loses of them, and what looks for losses stands behind their groups.
abbrev pub CountsLosses : {L : Type 0} → Form → (L → List Group → Type 0) → LossWriter L → List NotedGroup → Type 0
CountsLosses form Behind writer units =
    (writer.count ≡ min (loss_count form units) last_count) × Behind writer.losing (groups_in units)

-- ---- pens

-- what a pen that writes a unit at once writes it as
abbrev pub units_written_by : UnitPen → Written
units_written_by (unit_pens.Request writer) = written.Form forms.OtlpProto
units_written_by (unit_pens.GroupFile writer) = written.Form forms.OtlpJson
units_written_by (unit_pens.BinaryBatches writer) = written.Form forms.JaegerBinary
units_written_by (unit_pens.CompactBatches writer) = written.Form forms.JaegerCompact
units_written_by (unit_pens.RequestLosses writer) = written.Report (reports.Losses forms.OtlpProto)
units_written_by (unit_pens.GroupFileLosses writer) = written.Report (reports.Losses forms.OtlpJson)
units_written_by (unit_pens.BinaryLosses writer) = written.Report (reports.Losses forms.JaegerBinary)
units_written_by (unit_pens.CompactLosses writer) = written.Report (reports.Losses forms.JaegerCompact)
units_written_by (unit_pens.SpanFileLosses writer) = written.Report (reports.Losses forms.ZipkinJson)
units_written_by (unit_pens.Show writer) = written.Report reports.Show
units_written_by (unit_pens.Check writer) = written.Report reports.Check

-- the units for which it stands
abbrev pub unit_pen_stands : UnitPen → List NotedGroup → Type 0
unit_pen_stands (unit_pens.Request writer) = StandsForAny writer
unit_pen_stands (unit_pens.GroupFile writer) = StandsForAny writer
unit_pen_stands (unit_pens.BinaryBatches writer) = StandsForAny writer
unit_pen_stands (unit_pens.CompactBatches writer) = StandsForAny writer
unit_pen_stands (unit_pens.RequestLosses writer) = CountsLosses forms.OtlpProto StandsForAny writer
unit_pen_stands (unit_pens.GroupFileLosses writer) = CountsLosses forms.OtlpJson StandsForAny writer
unit_pen_stands (unit_pens.BinaryLosses writer) = CountsLosses forms.JaegerBinary StandsForAny writer
unit_pen_stands (unit_pens.CompactLosses writer) = CountsLosses forms.JaegerCompact StandsForAny writer
unit_pen_stands (unit_pens.SpanFileLosses writer) = CountsLosses forms.ZipkinJson HasLastRun writer
unit_pen_stands (unit_pens.Show writer) = StandsForAny writer
unit_pen_stands (unit_pens.Check writer) = CountsRemarks writer

-- what a pen writes units as
abbrev pub written_by : Pen → Written
written_by (pens.Spans writer) = written.Form forms.ZipkinJson
written_by (pens.Units pen) = units_written_by pen

-- the units for which it stands
abbrev pub pen_stands : Pen → List NotedGroup → Type 0
pen_stands (pens.Spans writer) = StandsForAny writer
pen_stands (pens.Units pen) = unit_pen_stands pen
