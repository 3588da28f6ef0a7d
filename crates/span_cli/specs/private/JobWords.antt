-- What is known of a job's numbers.
use Rattle.std.specs.Prelude.{ℕ}
use Rattle.span_cli.specs.GaugeLines.{IsGaugeCount}
use Rattle.span_cli.specs.declared.job.Job.{Job}
use Rattle.span_cli.specs.declared.job.Job.TheVariants.{Spans, HeaderLines, Gauge}

-- the sizes that a job writes are those of as many spans as may be asked for
abbrev pub IsInRange : Job → Type 0
IsInRange (Gauge spans) = IsGaugeCount spans
IsInRange other = Unit {0}

-- the fact holds of the number of spans of the gauge, where its sizes are written
abbrev pub IfGauge : Job → (ℕ → Type 0) → Type 0
IfGauge (Spans from what) P = Unit {0}
IfGauge (HeaderLines form) P = Unit {0}
IfGauge (Gauge spans) P = P spans
