-- What is to be said of the first bytes of an input, behind which others may come. It is a verdict on them as they are. Good says that
-- nothing stops them so far: its text is that of the whole units among them, without what closes it, and its numbers are those of these
-- units. A refusal is one that no more bytes take away, and a fault stands in a whole unit: these are the verdict on every input that
-- begins so. Of a document nothing is known before its end, but that it is too long.
use Rattle.std.specs.Prelude.{◌≡◌, ℕ, ◌+◌, List, ◌++◌, Result, Ok, Err}
use Rattle.span_io.specs.Outside.{Outlet, Gains, GainsFront, FailsWithin, OutputFails, OutputHolds}
use Rattle.span_io.specs.declared.cause.Cause.TheVariants as causes
use Rattle.span_io.specs.declared.form.Form.{Form}
use Rattle.span_io.specs.declared.form.Form.TheVariants as forms
use Rattle.span_io.specs.declared.limits.Limits.{Limits}
use Rattle.span_io.specs.declared.refusal.Refusal.{Refusal}
use Rattle.span_convert.specs.Reports.{written_target}
use Rattle.span_convert.specs.Targets.{Target, open_target}
use Rattle.span_convert.specs.Units.{InputForm, open_form}
use Rattle.span_convert.specs.Verdicts.{Verdict, good, refused, faulted, IsGood, IsRefusal, IsTextSoFar, IsVerdictOn, verdict_text}
use Rattle.span_convert.specs.declared.stop.Stop.{Stop}
use Rattle.span_convert.specs.declared.stop.Stop.TheVariants as stops
use Rattle.span_convert.specs.declared.tally.Tally.{Tally}
use Rattle.span_convert.specs.declared.target_fault.TargetFault.{TargetFault}
use Rattle.span_convert.specs.declared.written.Written.{Written}

-- the outlook on these bytes, of an input in this form whose units are written to the target
abbrev pub IsOutlookOn : Form → Target → Limits → List ℕ → Verdict → Type 0
IsOutlookOn from to limits bytes outlook = IsVerdictOn (open_form from) (open_target to) limits bytes outlook

-- the same, where they are written so
abbrev pub IsOutlookAs : Form → Written → Limits → List ℕ → Verdict → Type 0
IsOutlookAs from what limits bytes outlook = IsOutlookOn from (written_target what) limits bytes outlook

-- It is a refusal or a fault, which stay whatever follows.
abbrev pub IsLasting : Verdict → Type 0
IsLasting (good text tally) = ⊥
IsLasting (refused refusal text) = Unit {0}
IsLasting (faulted found text) = Unit {0}

-- ---- what the end of an input makes of a good outlook

-- of a form whose inputs are frames this holds
abbrev pub IfFrames : Form → Type 0 → Type 0
IfFrames forms.OtlpProto P = P
IfFrames forms.OtlpJson P = Unit {0}
IfFrames forms.JaegerBinary P = P
IfFrames forms.JaegerCompact P = P
IfFrames forms.ZipkinJson P = Unit {0}

-- of a form whose inputs are documents this holds
abbrev pub IfDocument : Form → Type 0 → Type 0
IfDocument forms.OtlpProto P = Unit {0}
IfDocument forms.OtlpJson P = P
IfDocument forms.JaegerBinary P = Unit {0}
IfDocument forms.JaegerCompact P = Unit {0}
IfDocument forms.ZipkinJson P = P

-- The units so far, of which this was said, are all of the input; or it ends too early behind them.
pub data EndsSo (from : InputForm) (to : Target) (limits : Limits) (bytes said : List ℕ) (tally : Tally) : Type 0 where
  whole : (text : List ℕ) → IsGood from to limits bytes text tally → EndsSo from to limits bytes said tally
  cut : IsRefusal from to limits bytes said (record { unit = tally.units + 1; cause = causes.Truncated })
      → EndsSo from to limits bytes said tally

-- ---- what a call tells of a sink

-- It failed where the call says so, and nowhere else.
pub record SinkTold (Failed : Type 0) (before now : Outlet) : Type 0 where
  pub fails : Failed → OutputFails before now
  pub holds : ¬ Failed → OutputHolds before now

-- ---- what a call writes that goes on with a text

-- Of the text this is written already, and the sink gained what goes on from there.
pub record GainsFrom (said : List ℕ) (before now : Outlet) (text : List ℕ) : Type 0 where
  pub added : List ℕ
  pub parts : text ≡ said ++ added
  pub gains : Gains before now added

-- the sink gained a front of that
pub record GainsFrontFrom (said : List ℕ) (before now : Outlet) (text : List ℕ) : Type 0 where
  pub added : List ℕ
  pub parts : text ≡ said ++ added
  pub gains : GainsFront before now added

-- the sink failed within it
pub record FailsFrom (said : List ℕ) (before now : Outlet) (text : List ℕ) : Type 0 where
  pub added : List ℕ
  pub parts : text ≡ said ++ added
  pub fails : FailsWithin before now added

-- it gained a front of what goes on so, up to the text of the first units of these bytes
pub record WritesFrontFrom (from : InputForm) (to : Target) (limits : Limits) (bytes said : List ℕ) (before now : Outlet)
    : Type 0 where
  pub text : List ℕ
  pub so_far : IsTextSoFar from to limits bytes text
  pub gains : GainsFrontFrom said before now text

-- How the verdict was carried out where a call stopped, behind what is written already: it is a refusal or a fault, and its text was
-- written; or the sink failed within its text, or memory was wanted and a front of it was written.
abbrev pub StopsFrom : List ℕ → Verdict → Stop → Outlet → Outlet → Type 0
StopsFrom said verdict stops.Refused before now =
    ((why : Refusal) × (verdict ≡ refused why (verdict_text verdict))) × GainsFrom said before now (verdict_text verdict)
StopsFrom said verdict stops.Faulted before now =
    ((why : TargetFault) × (verdict ≡ faulted why (verdict_text verdict))) × GainsFrom said before now (verdict_text verdict)
StopsFrom said verdict stops.Write before now = FailsFrom said before now (verdict_text verdict)
StopsFrom said verdict stops.OutOfMemory before now = GainsFrontFrom said before now (verdict_text verdict)

-- how it was where a call went on, or came to the end: it is good, of so many units and spans
abbrev pub EndsFrom : List ℕ → Verdict → Tally → Outlet → Outlet → Type 0
EndsFrom said verdict counts before now =
    (verdict ≡ good (verdict_text verdict) counts) × GainsFrom said before now (verdict_text verdict)

-- the end of an input carries out the verdict on it
abbrev pub CarriesFrom : List ℕ → Verdict → Result Tally Stop → Outlet → Outlet → Type 0
CarriesFrom said verdict (Ok counts) before now = EndsFrom said verdict counts before now
CarriesFrom said verdict (Err stop) before now = StopsFrom said verdict stop before now

-- a piece of it carries out the outlook
abbrev pub ReachesFrom : List ℕ → Verdict → Result (Unit {0}) Stop → Outlet → Outlet → Type 0
ReachesFrom said outlook (Ok done) before now = (tally : Tally) × EndsFrom said outlook tally before now
ReachesFrom said outlook (Err stop) before now = StopsFrom said outlook stop before now
