-- What is reported of an input: what a move to a form loses of it, its spans, or the remarks on what was read; and all that one may be
-- written as.
use Rattle.std.specs.Prelude.{ℕ, suc, min, List, [], ◌∷◌, ◌++◌, length, Option, None, Result}
use Rattle.std.specs.List.{flat_map}
use Rattle.span_io.specs.Outside.{Outlet, last_count}
use Rattle.span_io.specs.declared.form.Form.{Form}
use Rattle.span_io.specs.declared.form.Form.TheVariants as forms
use Rattle.span_io.specs.declared.limits.Limits.{Limits}
use Rattle.trace_model.specs.OtlpParts.{NotedGroup}
use Rattle.trace_model.specs.declared.loss.Loss.{Loss}
use Rattle.trace_model.specs.declared.remark.Remark.{Remark}
use Rattle.trace_model.specs.declared.span.Span.{Span}
use Rattle.trace_model.specs.declared.group.Group.{Group}
use Rattle.loss_report.specs.Lines.{counts_text, loss_count_text, loss_text, remark_text, shown_text}
use Rattle.map_jaeger.specs.Losses as jaeger
use Rattle.map_zipkin.specs.Losses as zipkin
use Rattle.map_zipkin.specs.declared.run.Run.{Run}
use Rattle.span_convert.specs.Targets.{Target, form_target}
use Rattle.span_convert.specs.Units.{groups_in, input_form}
use Rattle.span_convert.specs.Verdicts.{Verdict, IsVerdictOn, IsJudgedOn, WritesFrontOn, units_tally}
use Rattle.span_convert.specs.declared.report.Report.{Report}
use Rattle.span_convert.specs.declared.report.Report.TheVariants as reports
use Rattle.span_convert.specs.declared.stop.Stop.{Stop}
use Rattle.span_convert.specs.declared.written.Written.{Written}
use Rattle.span_convert.specs.declared.written.Written.TheVariants as written

-- ---- losses

-- What a move to a form loses of a group. The run is that of the last span of the groups before it, which Zipkin alone asks for. OTLP loses
-- nothing.
abbrev pub form_losses : Form → Option Run → Group → List Loss
form_losses forms.OtlpProto before group = []
form_losses forms.OtlpJson before group = []
form_losses forms.JaegerBinary before group = jaeger.group_losses group
form_losses forms.JaegerCompact before group = jaeger.group_losses group
form_losses forms.ZipkinJson before group = zipkin.group_losses before group

-- the run of the last span behind these groups, one after the other
abbrev pub runs_behind : Option Run → List Group → Option Run
runs_behind before [] = before
runs_behind before (group ∷ groups) = runs_behind (zipkin.run_behind before group) groups

-- of the groups alone, before which there is no span
abbrev pub last_run_in : List Group → Option Run
last_run_in groups = runs_behind None groups

-- what it loses of all groups
abbrev pub all_losses : Form → Option Run → List Group → List Loss
all_losses to before [] = []
all_losses to before (group ∷ groups) = form_losses to before group ++ all_losses to (zipkin.run_behind before group) groups

-- a line for each loss in the unit of this number
abbrev pub unit_lost : ℕ → List Loss → List ℕ
unit_lost number losses = flat_map (loss_text number) losses

-- those in units of which the first has this number
abbrev pub units_lost : Form → ℕ → Option Run → List NotedGroup → List ℕ
units_lost to number before [] = []
units_lost to number before (unit ∷ units) =
    unit_lost number (form_losses to before unit.means) ++ units_lost to (suc number) (zipkin.run_behind before unit.means) units

-- how many there are
abbrev pub loss_count : Form → List NotedGroup → ℕ
loss_count to units = length (all_losses to None (groups_in units))

-- the last line: the count stands still at the end of its type
abbrev pub losses_end : Form → List NotedGroup → List ℕ
losses_end to units = loss_count_text (min (loss_count to units) last_count)

-- ---- spans

-- a line for each span, in order
abbrev pub spans_shown : List Span → List ℕ
spans_shown spans = flat_map shown_text spans

-- a line for each span of the group, scope by scope
abbrev pub group_shown : Group → List ℕ
group_shown group = flat_map (λ scope. spans_shown scope.spans) group.scopes

-- a line for each span of the units, in order
abbrev pub units_shown : List NotedGroup → List ℕ
units_shown units = flat_map (λ unit. group_shown unit.means) units

-- ---- remarks

-- a line for each remark on the unit of this number
abbrev pub unit_checked : ℕ → List Remark → List ℕ
unit_checked number notes = flat_map (remark_text number) notes

-- those on units of which the first has this number
abbrev pub units_checked : ℕ → List NotedGroup → List ℕ
units_checked number [] = []
units_checked number (unit ∷ units) = unit_checked number unit.notes ++ units_checked (suc number) units

-- how many there are
abbrev pub remark_count : List NotedGroup → ℕ
remark_count units = length (flat_map (λ unit. unit.notes) units)

-- the last line: counts of spans and remarks stand still at the end of their type
abbrev pub check_end : List NotedGroup → List ℕ
check_end units = counts_text (units_tally units).units (units_tally units).spans (min (remark_count units) last_count)

-- ---- targets

-- What is lost is told of units that the form can hold, however long they are. Every unit can be shown and checked.
abbrev pub report_target : Report → Target
report_target (reports.Losses to) = record {
  FaultOf = (form_target to).FaultOf;
  CanHold = (form_target to).CanHold;
  IsSized = λ unit. Unit {0};
  whole_text = λ units. units_lost to 1 None units ++ losses_end to units;
  partial_text = units_lost to 1 None;
  closing_text = losses_end to;
}
report_target reports.Show = record {
  FaultOf = λ unit fault. ⊥;
  CanHold = λ unit. Unit {0};
  IsSized = λ unit. Unit {0};
  whole_text = units_shown;
  partial_text = units_shown;
  closing_text = λ units. [];
}
report_target reports.Check = record {
  FaultOf = λ unit fault. ⊥;
  CanHold = λ unit. Unit {0};
  IsSized = λ unit. Unit {0};
  whole_text = λ units. units_checked 1 units ++ check_end units;
  partial_text = units_checked 1;
  closing_text = check_end;
}

-- all that an input may be written as
abbrev pub written_target : Written → Target
written_target (written.Form to) = form_target to
written_target (written.Report what) = report_target what

-- the verdict on these bytes, where they are written so
abbrev pub IsVerdictAs : Form → Written → Limits → List ℕ → Verdict → Type 0
IsVerdictAs from what limits bytes verdict = IsVerdictOn (input_form from) (written_target what) limits bytes verdict

-- there is one, where one was carried out
abbrev pub IsJudgedAs : {T : Type 0} → Form → Written → Limits → List ℕ → Result T Stop → Type 0
IsJudgedAs from what limits bytes result = IsJudgedOn (input_form from) (written_target what) limits bytes result

-- a front of their text so far was written
abbrev pub WritesFrontAs : Form → Written → Limits → List ℕ → Outlet → Outlet → Type 0
WritesFrontAs from what limits bytes before now = WritesFrontOn (input_form from) (written_target what) limits bytes before now
