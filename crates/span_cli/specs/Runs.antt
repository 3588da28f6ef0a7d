-- How a run ends, and what it does to its input and output.
use Rattle.std.specs.Prelude.{◌≡◌, ◌⊎◌, ℕ, Bool, List, []}
use Rattle.propagation.specs.Heads.{Head}
use Rattle.propagation.specs.NormalContexts.{context_lines}
use Rattle.propagation.specs.declared.context.Context.{Context}
use Rattle.propagation.specs.declared.header_form.HeaderForm.{HeaderForm}
use Rattle.span_io.specs.Limits.{shipped_limits}
use Rattle.span_io.specs.Outside.{Inlet, Outlet, Gains, GainsFront}
use Rattle.span_io.specs.declared.form.Form.{Form}
use Rattle.span_convert.specs.Outlooks.{IfDocument}
use Rattle.span_convert.specs.Reports.{WritesFrontAs}
use Rattle.span_convert.specs.declared.written.Written.{Written}
use Rattle.span_cli.specs.GaugeLines.{gauge_lines}
use Rattle.span_cli.specs.Inputs.{GaveInput, GaveWithin, WritesUnits, header_limit}
use Rattle.span_cli.specs.Jobs.{Job, Spans, HeaderLines, Gauge}
use Rattle.span_cli.specs.Lines.{Notes}
use Rattle.span_cli.specs.Outcomes.{CarriesOut, gauge_outcome}

-- Nothing stops the bytes that the source gave, and the output gained the text of their whole units.
pub record WritesWholeUnits (from : Form) (what : Written) (input_before input_now : Inlet) (output_before output_now : Outlet)
    : Type 0 where
  pub given : List ℕ
  pub gave : GaveInput input_before input_now given
  pub writes : WritesUnits from what given output_before output_now

-- What was written before the input failed: of binary input the text of the whole units that were read, and of all other input nothing,
-- so that the output is as it was. Of header lines no more bytes were read by then than their limit.
abbrev pub WritesSoFar : {K : Type 0} → (K → Outlet) → Job → Inlet → Inlet → K → K → Type 0
WritesSoFar outlet (Spans from what) input_before input_now before now =
    WritesWholeUnits from what input_before input_now (outlet before) (outlet now) × IfDocument from (now ≡ before)
WritesSoFar outlet (HeaderLines form) input_before input_now before now =
    GaveWithin header_limit input_before input_now × (now ≡ before)
WritesSoFar outlet (Gauge spans) input_before input_now before now = now ≡ before

-- what was written is nothing, or a front of the lines of a context that these bytes tell
pub data IsContextFront (form : HeaderForm) (given : List ℕ) (before now : Outlet) : Type 0 where
  none : Gains before now [] → IsContextFront form given before now
  some : (c : Context) (dropped : Bool) → Head c dropped given → GainsFront before now (context_lines form c)
      → IsContextFront form given before now

-- what was written is a front of the text of the first units of these bytes, or of the lines of their context, or of the gauge
abbrev pub IsFrontOf : Job → List ℕ → Outlet → Outlet → Type 0
IsFrontOf (Spans from what) given before now = WritesFrontAs from what shipped_limits given before now
IsFrontOf (HeaderLines form) given before now = IsContextFront form given before now
IsFrontOf (Gauge spans) given before now = GainsFront before now (gauge_lines spans)

-- what was written is such a front of what was read
pub record WritesRead (job : Job) (input_before input_now : Inlet) (output_before output_now : Outlet) : Type 0 where
  pub given : List ℕ
  pub gave : GaveInput input_before input_now given
  pub front : IsFrontOf job given output_before output_now

-- the statuses of `gauge`: the whole was written (0), the output failed (6), or memory was wanted (7)
abbrev pub IsGaugeStatus : ℕ → Type 0
IsGaugeStatus status = (status ≡ 0) ⊎ ((status ≡ 6) ⊎ (status ≡ 7))

-- A run of `gauge` reads nothing. It wrote the lines of the gauge, the output failed within them, or memory was wanted.
pub record EndsGaugeRun {S : Type 0} (spans code : ℕ) (input_before input_now : S)
    (output_before output_now notes_before notes_now : Outlet) : Type 0 where
  pub unread : input_now ≡ input_before
  pub status : IsGaugeStatus code
  pub carried : CarriesOut code output_before output_now (Notes notes_before notes_now) (gauge_outcome spans)
