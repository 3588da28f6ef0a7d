-- What a job makes of its input: the status, what is written, and the line that is noted.
use Rattle.std.specs.Prelude.{◌↔◌, false, ◌≡◌, ◌≤◌, ◌<◌, ℕ, Bool, List, [], length, Option, IfSome, codes}
use Rattle.propagation.specs.Heads.{Head, IsHeaderCause}
use Rattle.propagation.specs.StatedLaws.{AreProperIds}
use Rattle.propagation.specs.NormalContexts.{IsSoundContext, CannotTell, context_lines, normal_context}
use Rattle.propagation.specs.declared.context.Context.{Context}
use Rattle.propagation.specs.declared.header_cause.HeaderCause.{HeaderCause}
use Rattle.propagation.specs.declared.header_form.HeaderForm.{HeaderForm}
use Rattle.span_io.specs.Limits.{shipped_limits}
use Rattle.span_io.specs.Outside.{Outlet, Gains, GainsFront, FailsWithin}
use Rattle.span_io.specs.declared.form.Form.{Form}
use Rattle.span_convert.specs.Canonical.{ReadsBack}
use Rattle.span_convert.specs.Reports.{IsVerdictAs, report_target}
use Rattle.span_convert.specs.SameBatches.{SameBatches}
use Rattle.span_convert.specs.SameDocuments.{AgreeingDocuments}
use Rattle.span_convert.specs.Units.{groups_in, input_form, normal_form}
use Rattle.span_convert.specs.Verdicts.{Verdict, IsGood, good, refused, faulted}
use Rattle.span_convert.specs.declared.report.Report.TheVariants as reports
use Rattle.span_convert.specs.declared.tally.Tally.{Tally}
use Rattle.span_convert.specs.declared.written.Written.{Written}
use Rattle.span_cli.specs.GaugeLines.{gauge_lines}
use Rattle.span_cli.specs.Inputs.{header_limit}
use Rattle.span_cli.specs.Jobs.{Job, Spans, HeaderLines, Gauge}
use Rattle.span_cli.specs.Lines.{Stage, usage, said, input_failed, output_failed, no_memory, stage_of, stage_line, refusal_line, fault_line, header_cause_line, too_long_line, no_ids_line}

-- what a run is to answer, write and note
pub record Outcome : Type 0 where
  pub status : ℕ
  pub text : List ℕ
  pub line : List ℕ

-- the whole text, or a refusal or a fault of the target and the text of the units before
abbrev pub verdict_outcome : Verdict → Outcome
verdict_outcome (good text tally) = record { status = 0; text = text; line = [] }
verdict_outcome (refused refusal text) = record { status = 3; text = text; line = refusal_line refusal }
verdict_outcome (faulted found text) = record { status = 4; text = text; line = fault_line found }

-- nothing is written but the whole lines of a context that the form can tell
pub data IsHeadersOutcome (form : HeaderForm) (bytes : List ℕ) (outcome : Outcome) : Type 0 where
  too_long : header_limit < length bytes → outcome ≡ record { status = 3; text = []; line = too_long_line }
      → IsHeadersOutcome form bytes outcome
  bad : (cause : HeaderCause) → length bytes ≤ header_limit → IsHeaderCause cause bytes
      → outcome ≡ record { status = 3; text = []; line = header_cause_line cause } → IsHeadersOutcome form bytes outcome
  no_ids : (c : Context) (dropped : Bool) → length bytes ≤ header_limit → Head c dropped bytes → CannotTell form c
      → outcome ≡ record { status = 4; text = []; line = no_ids_line } → IsHeadersOutcome form bytes outcome
  written : (c : Context) (dropped : Bool) → length bytes ≤ header_limit → Head c dropped bytes → ¬ (CannotTell form c)
      → outcome ≡ record { status = 0; text = context_lines form c; line = [] } → IsHeadersOutcome form bytes outcome

-- the lines of the gauge, whatever the input is
abbrev pub gauge_outcome : ℕ → Outcome
gauge_outcome spans = record { status = 0; text = gauge_lines spans; line = [] }

-- the outcome of a job on these bytes: by the verdict on them, by the context that they tell, or the gauge
abbrev pub IsOutcome : Job → List ℕ → Outcome → Type 0
IsOutcome (Spans from what) bytes outcome =
    (verdict : Verdict) × IsVerdictAs from what shipped_limits bytes verdict × (outcome ≡ verdict_outcome verdict)
IsOutcome (HeaderLines form) bytes outcome = IsHeadersOutcome form bytes outcome
IsOutcome (Gauge spans) bytes outcome = outcome ≡ gauge_outcome spans

-- Where the bytes of the input are told, the fact holds of each outcome of the job on them.
abbrev pub OnOutcome : Job → Option (List ℕ) → (Outcome → Type 0) → Type 0
OnOutcome job left P = IfSome left (λ bytes. (outcome : Outcome) → IsOutcome job bytes outcome → P outcome)

-- The same of each outcome on other bytes that hold the same batches of Jaeger, in a protocol of their own.
abbrev pub OnSameBatches : Form → Written → Option (List ℕ) → (Outcome → Type 0) → Type 0
OnSameBatches from what left P =
    IfSome left (λ bytes. (other : Form) (others : List ℕ) → SameBatches shipped_limits from bytes other others
    → (outcome : Outcome) → IsOutcome (Spans other what) others outcome → P outcome)

-- The same of each outcome on other bytes that differ in members alone that the form doesn't know, if it is one in JSON.
abbrev pub OnAgreeingDocuments : Form → Written → Option (List ℕ) → (Outcome → Type 0) → Type 0
OnAgreeingDocuments from what left P =
    IfSome left (λ bytes. (others : List ℕ) → AgreeingDocuments shipped_limits from bytes others
    → (outcome : Outcome) → IsOutcome (Spans from what) others outcome → P outcome)

-- ---- what a run did of it

-- where the outcome was carried out there is one
abbrev pub IsJudgedAt : Job → Stage → List ℕ → Type 0
IsJudgedAt job usage bytes = Unit {0}
IsJudgedAt job said bytes = (outcome : Outcome) × IsOutcome job bytes outcome
IsJudgedAt job input_failed bytes = Unit {0}
IsJudgedAt job output_failed bytes = Unit {0}
IsJudgedAt job no_memory bytes = Unit {0}

-- an outcome that was carried out is told by the status
abbrev pub AgreesWith : Stage → ℕ → Outcome → Type 0
AgreesWith usage status outcome = Unit {0}
AgreesWith said status outcome = status ≡ outcome.status
AgreesWith input_failed status outcome = Unit {0}
AgreesWith output_failed status outcome = Unit {0}
AgreesWith no_memory status outcome = Unit {0}

-- What the output gains: the text where the outcome was carried out, a front of it where a device failed or memory was wanted, and
-- nothing where the words are no command.
abbrev pub Writes : Stage → List ℕ → Outlet → Outlet → Type 0
Writes usage text before now = Gains before now []
Writes said text before now = Gains before now text
Writes input_failed text before now = GainsFront before now text
Writes output_failed text before now = FailsWithin before now text
Writes no_memory text before now = GainsFront before now text

-- the line of an outcome that was carried out, or of another stage
abbrev pub line_of : Stage → Outcome → List ℕ
line_of usage outcome = stage_line usage
line_of said outcome = outcome.line
line_of input_failed outcome = stage_line input_failed
line_of output_failed outcome = stage_line output_failed
line_of no_memory outcome = stage_line no_memory

-- The run that ended with this status did what the outcome asks for, as far as its stage says: its status tells it, the output
-- gained its text, and this holds of its line.
pub record CarriesOut (status : ℕ) (before now : Outlet) (Noted : List ℕ → Type 0) (outcome : Outcome) : Type 0 where
  pub agrees : AgreesWith (stage_of status) status outcome
  pub writes : Writes (stage_of status) outcome.text before now
  pub notes : Noted (line_of (stage_of status) outcome)

-- ---- conversions, there and back

-- The output gained the text of all units of the bytes. It is read back as the normal form of the trace of these units, which keeps the
-- trace's spans and which the other form leaves as it is, and where it fits it converts back.
pub record WritesTextOf (from to : Form) (before now : Outlet) (bytes : List ℕ) : Type 0 where
  pub out : List ℕ
  pub gains : Gains before now out
  pub back : ReadsBack from to shipped_limits bytes out

-- ---- losses

-- The output gained the lines of all units of the bytes, and they are `losses 0` alone exactly where the trace of these units is its own
-- normal form.
pub record WritesLossesOf (from to : Form) (before now : Outlet) (bytes : List ℕ) : Type 0 where
  pub lines : List ℕ
  pub tally : Tally
  pub all : IsGood (input_form from) (report_target (reports.Losses to)) shipped_limits bytes lines tally
  pub gains : Gains before now lines
  pub tied : (lines ≡ codes "losses 0\n") ↔ (normal_form to (groups_in all.noted) ≡ groups_in all.noted)

-- ---- header lines, read again

-- Lines tell the normal form of a context, which is its own, and they are the lines of each context that has the same normal form,
-- and of no other.
pub record AreLinesOf (form : HeaderForm) (c : Context) (lines : List ℕ) : Type 0 where
  pub told : Head (normal_context form c) false lines
  pub itself : normal_context form (normal_context form c) ≡ normal_context form c
  pub equal : (other : Context) → IsSoundContext other → AreProperIds other.ids → ¬ (CannotTell form other)
      → (context_lines form other ≡ lines) ↔ (normal_context form other ≡ normal_context form c)

-- the output gained such lines of the context that the block tells
pub record WritesLinesOf (form : HeaderForm) (before now : Outlet) (block : List ℕ) : Type 0 where
  pub context : Context
  pub dropped : Bool
  pub read : Head context dropped block
  pub lines : List ℕ
  pub gains : Gains before now lines
  pub are_lines : AreLinesOf form context lines
