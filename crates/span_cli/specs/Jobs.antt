-- What a command asks for: to make the output of a job, or to serve connections.
use Rattle.span_io.specs.declared.form.Form.{Form}
use Rattle.span_convert.specs.declared.report.Report.TheVariants as reports
use Rattle.span_convert.specs.declared.written.Written.{Written}
use Rattle.span_convert.specs.declared.written.Written.TheVariants as written
use Rattle.span_cli.specs.declared.command.Command.{Command}
use Rattle.span_cli.specs.declared.command.Command.TheVariants as commands
use Rattle.span_cli.specs.declared.job.Task.{Task}
use Rattle.span_cli.specs.declared.job.Task.TheVariants as tasks
pub use Rattle.span_cli.specs.declared.job.Job.{Job}
pub use Rattle.span_cli.specs.declared.job.Job.TheVariants.{Spans, HeaderLines, Gauge}

-- what each command asks for: `serve` to serve connections, and every other one to make the output of a job
abbrev pub task_of : Command → Task
task_of (commands.Convert from to) = tasks.Make (Spans from (written.Form to))
task_of (commands.Losses from to) = tasks.Make (Spans from (written.Report (reports.Losses to)))
task_of (commands.Show from) = tasks.Make (Spans from (written.Report reports.Show))
task_of (commands.Check from) = tasks.Make (Spans from (written.Report reports.Check))
task_of (commands.Headers form) = tasks.Make (HeaderLines form)
task_of (commands.Gauge spans) = tasks.Make (Gauge spans)
task_of (commands.Serve address to count) = tasks.Serve address to count

-- the fact holds of the job, where there is one
abbrev pub IfMakes : Task → (Job → Type 0) → Type 0
IfMakes (tasks.Make job) P = P job
IfMakes (tasks.Serve address to count) P = Unit {0}

-- a target that has faults: every span can be shown, and every remark told
abbrev pub HasFaults : Written → Type 0
HasFaults (written.Form to) = Unit {0}
HasFaults (written.Report (reports.Losses to)) = Unit {0}
HasFaults (written.Report reports.Show) = ⊥
HasFaults (written.Report reports.Check) = ⊥

-- the jobs that may come upon a fault
abbrev pub MayFault : Job → Type 0
MayFault (Spans from what) = HasFaults what
MayFault (HeaderLines form) = Unit {0}
MayFault (Gauge spans) = ⊥

-- the fact holds of the form that is read and of what is written, where spans are
abbrev pub IfSpans : Job → (Form → Written → Type 0) → Type 0
IfSpans (Spans from what) P = P from what
IfSpans (HeaderLines form) P = Unit {0}
IfSpans (Gauge spans) P = Unit {0}
