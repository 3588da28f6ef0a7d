-- How the steps of a run end.
use Rattle.std.specs.Prelude.{◌≡◌, ◌≢◌, ◌⊎◌, ℕ, Bool, List, All, IfSome, IsTrue, Result, Ok, Err}
use Rattle.propagation.specs.Heads.{Head, IsHeaderCause}
use Rattle.propagation.specs.NormalContexts.{CannotTell, context_lines}
use Rattle.propagation.specs.declared.context.Context.{Context}
use Rattle.propagation.specs.declared.header_form.HeaderForm.{HeaderForm}
use Rattle.span_io.specs.Limits.{shipped_limits}
use Rattle.span_io.specs.Outside.{Inlet, Outlet, Gains, InputFails, NoReadInVain}
use Rattle.span_io.specs.declared.form.Form.{Form}
use Rattle.span_convert.specs.Converters.{end_of}
use Rattle.span_convert.specs.Outlooks.{SinkTold}
use Rattle.span_convert.specs.Reports.{written_target}
use Rattle.span_convert.specs.Units.{input_form}
use Rattle.span_convert.specs.Verdicts.{IsGood}
use Rattle.span_convert.specs.declared.walker.State.{State}
use Rattle.span_convert.specs.declared.walker.State.TheVariants as states
use Rattle.span_convert.specs.declared.walker.Walker.{Walker}
use Rattle.span_convert.specs.declared.stop.Stop.{Stop}
use Rattle.span_convert.specs.declared.stop.Stop.TheVariants as stops
use Rattle.span_convert.specs.declared.tally.Tally.{Tally}
use Rattle.span_convert.specs.declared.target_fault.TargetFault.{TargetFault}
use Rattle.span_convert.specs.declared.written.Written.{Written}
use Rattle.span_cli.specs.GaugeLines.{gauge_lines}
use Rattle.span_cli.specs.Inputs.{ReadsInput, IsReadThrough}
use Rattle.span_cli.specs.Jobs.{Job, Spans, HeaderLines, Gauge, MayFault}
use Rattle.span_answers.specs.NoteLines.{HasKey}
use Rattle.span_cli.specs.private.LineWords.{status_of, noted_line, ending_line}
use Rattle.span_cli.specs.Lines.{stage_of, fault_line}
use Rattle.span_cli.specs.Outcomes.{OnOutcome, IsJudgedAt, Writes, CarriesOut}
use Rattle.span_cli.specs.declared.ending.Ending.{Ending}
use Rattle.span_cli.specs.declared.ending.Ending.TheVariants as endings
use Rattle.span_cli.specs.declared.noted_fault.NotedFault.{NotedFault}
use Rattle.span_cli.specs.Runs.{WritesRead, WritesSoFar}

-- what is noted says the fault that the converter keeps
pub record IsFaultAt (noted : NotedFault) (stop : Stop) (state : State) : Type 0 where
  pub found : TargetFault
  pub stopped : stop ≡ stops.Faulted
  pub kept : state ≡ states.Faulted found
  pub says : noted_line noted ≡ fault_line found

-- the fault that the converter keeps has a key
pub record IsKeyAt (stop : Stop) (state : State) : Type 0 where
  pub found : TargetFault
  pub stopped : stop ≡ stops.Faulted
  pub kept : state ≡ states.Faulted found
  pub key : HasKey found.fault

-- The ending says the stop, and the refusal or fault that the converter keeps. A key takes memory.
abbrev pub IsEndingAt : Ending → Stop → State → Type 0
IsEndingAt endings.Whole stop state = ⊥
IsEndingAt (endings.Refused refusal) stop state = (stop ≡ stops.Refused) × (state ≡ states.Refused refusal)
IsEndingAt (endings.Faulted noted) stop state = IsFaultAt noted stop state
IsEndingAt (endings.BadHeaders cause) stop state = ⊥
IsEndingAt endings.TooLong stop state = ⊥
IsEndingAt endings.NoIds stop state = ⊥
IsEndingAt endings.InputFailed stop state = ⊥
IsEndingAt endings.OutputFailed stop state = stop ≡ stops.Write
IsEndingAt endings.NoMemory stop state = (stop ≡ stops.OutOfMemory) ⊎ IsKeyAt stop state

-- the same of the state that a converter or a reporter is in
abbrev pub IsEndingOf : Ending → Stop → Walker → Type 0
IsEndingOf ending stop c = IsEndingAt ending stop (end_of c)

-- What a run that ends with this status did to its input. The input failed where its count rose, and only there, and no read
-- was in vain.
pub record EndsInput (job : Job) (status : ℕ) (before now : Inlet) : Type 0 where
  pub fails : status ≡ 5 → InputFails before now
  pub quiet : status ≢ 5 → now.faults ≡ before.faults
  pub answers : IsTrue before.steady → status ≢ 5
  pub in_vain : NoReadInVain before now
  pub reads : ReadsInput job before now
  pub all_read : status ≡ 0 → IsReadThrough job before now

-- The output gained the whole text of all units of the bytes, and no part of a unit is longer than the target can tell.
pub record WritesAllUnits (from : Form) (what : Written) (before now : Outlet) (bytes : List ℕ) : Type 0 where
  pub text : List ℕ
  pub tally : Tally
  pub all : IsGood (input_form from) (written_target what) shipped_limits bytes text tally
  pub sized : All (written_target what).IsSized all.noted
  pub gains : Gains before now text

-- the same of a job that writes spans
abbrev pub WritesAllOf : Job → Outlet → Outlet → List ℕ → Type 0
WritesAllOf (Spans from what) before now bytes = WritesAllUnits from what before now bytes
WritesAllOf (HeaderLines form) before now bytes = Unit {0}
WritesAllOf (Gauge spans) before now bytes = Unit {0}

-- The ending is true of an input and an output as they were before and are now. Where the input told its bytes, the outcome on
-- them was carried out as the ending says.
pub record EndsRun {K : Type 0} (outlet : K → Outlet) (job : Job) (ending : Ending)
    (input_before input_now : Inlet) (output_before output_now : K) : Type 0 where
  pub input : EndsInput job (status_of ending) input_before input_now
  pub output : SinkTold (status_of ending ≡ 6) (outlet output_before) (outlet output_now)
  pub faults : status_of ending ≡ 4 → MayFault job
  pub so_far : status_of ending ≡ 5 → WritesSoFar outlet job input_before input_now output_before output_now
  pub front : WritesRead job input_before input_now (outlet output_before) (outlet output_now)
  pub judged : IfSome input_before.left (IsJudgedAt job (stage_of (status_of ending)))
  pub carried : OnOutcome job input_before.left
      (CarriesOut (status_of ending) (outlet output_before) (outlet output_now) (λ line. ending_line ending ≡ line))
  pub whole : status_of ending ≡ 0 → IfSome input_before.left (WritesAllOf job (outlet output_before) (outlet output_now))

-- ---- the sizes of the gauge

-- nothing is read, so nothing is refused
abbrev pub IsGaugeEnding : Ending → Type 0
IsGaugeEnding endings.Whole = Unit {0}
IsGaugeEnding endings.OutputFailed = Unit {0}
IsGaugeEnding endings.NoMemory = Unit {0}
IsGaugeEnding other = ⊥

-- The ending is true of an output as it was before and is now, whatever the input is.
pub record EndsGauge {K : Type 0} (outlet : K → Outlet) (spans : ℕ) (ending : Ending) (before now : K) : Type 0 where
  pub ending_is : IsGaugeEnding ending
  pub output : SinkTold (status_of ending ≡ 6) (outlet before) (outlet now)
  pub written : Writes (stage_of (status_of ending)) (gauge_lines spans) (outlet before) (outlet now)

-- ---- early ends

-- a call that didn't come to the end says how the run ended
abbrev pub EndsEarly : {K T : Type 0} → (K → Outlet) → Job → Result T Ending → Inlet → Inlet → K → K → Type 0
EndsEarly outlet job (Ok x) input_before input_now output_before output_now = Unit {0}
EndsEarly outlet job (Err ending) input_before input_now output_before output_now =
    EndsRun outlet job ending input_before input_now output_before output_now

-- ---- the lines of a context

-- the block tells a context, these are its lines in the form, and the form can tell it
pub record TellsLines (form : HeaderForm) (block lines : List ℕ) : Type 0 where
  pub context : Context
  pub dropped : Bool
  pub told : Head context dropped block
  pub can_tell : ¬ (CannotTell form context)
  pub are_lines : lines ≡ context_lines form context

-- the block tells a context that the form can't tell
pub record TellsNoIds (form : HeaderForm) (block : List ℕ) : Type 0 where
  pub context : Context
  pub dropped : Bool
  pub told : Head context dropped block
  pub cannot : CannotTell form context

-- why there are no lines
abbrev pub HaltsLines : Ending → HeaderForm → List ℕ → Type 0
HaltsLines (endings.BadHeaders cause) form block = IsHeaderCause cause block
HaltsLines endings.NoIds form block = TellsNoIds form block
HaltsLines endings.NoMemory form block = Unit {0}
HaltsLines ending form block = ⊥
