-- The walk over the units of an input, of which no more bytes are looked at than its limit. It is one walk for all forms and targets.
use Rattle.std.specs.Prelude.{◌≡◌, ℕ, ◌≤◌, List, [], length, All}
use Rattle.span_io.specs.Frames.{NeedsMore}
use Rattle.span_io.specs.Outside.{Outlet}
use Rattle.span_io.specs.Scans.{Scanning}
use Rattle.span_io.specs.declared.limits.Limits.{Limits}
use Rattle.trace_model.specs.OtlpParts.{NotedGroup}
use Rattle.span_convert.specs.FramedForms.{FramedForm, UnitsThen}
use Rattle.span_convert.specs.Outlooks.{GainsFrom}
use Rattle.span_convert.specs.Pens.{pen_stands, written_by}
use Rattle.span_convert.specs.Reports.{written_target}
use Rattle.span_convert.specs.Targets.{Target, AreHeldBy}
use Rattle.span_convert.specs.Units.{InputForm}
use Rattle.span_convert.specs.Verdicts.{units_tally, IsGood}
use Rattle.span_convert.specs.declared.progress.Progress.{Progress}
use Rattle.span_convert.specs.declared.tally.Tally.{Tally}
use Rattle.span_convert.specs.declared.written.Written.{Written}

-- ---- what was converted so far

-- The units were converted so far and are counted, and the pen stands for them.
pub record StandsFor (what : Written) (units : List NotedGroup) (progress : Progress) : Type 0 where
  pub held : AreHeldBy (written_target what) units
  pub pen : written_by progress.pen ≡ what
  pub counts : progress.tally ≡ units_tally units
  pub stands : pen_stands progress.pen units

-- Of an input in frames these bytes were taken: their units, of which this is the text, were converted and written, and behind them come the
-- bytes that are held, of a frame that isn't whole yet.
pub record FramesTaken (from : FramedForm) (what : Written) (limits : Limits) (bytes said : List ℕ) (s : Scanning) (held : List ℕ)
    (progress : Progress) : Type 0 where
  pub noted : List NotedGroup
  pub units_then : UnitsThen from limits bytes noted held
  pub needs : NeedsMore from.frames limits.unit held
  pub within : length bytes ≤ limits.binary
  pub done : StandsFor what noted progress
  pub flushed : progress.unwritten ≡ []
  pub is_said : said ≡ (written_target what).partial_text noted
  pub seen : s.seen held
  pub limit : s.limit ≡ limits.unit

-- The bytes of a document are held until it ends, and nothing was written.
pub record DocumentTaken (what : Written) (limits : Limits) (bytes said held : List ℕ) (progress : Progress) : Type 0 where
  pub held_is : held ≡ bytes
  pub within : length bytes ≤ limits.json
  pub done : StandsFor what [] progress
  pub flushed : progress.unwritten ≡ []
  pub is_said : said ≡ (written_target what).partial_text []
  pub none : said ≡ []

-- The sink gained what goes on from there to a text of which this holds.
pub record Reaches (Is : List ℕ → Type 0) (said : List ℕ) (before now : Outlet) : Type 0 where
  pub text : List ℕ
  pub is : Is text
  pub gains : GainsFrom said before now text

-- the whole text was written
pub record WritesWhole (from : InputForm) (to : Target) (limits : Limits) (whole : List ℕ) (tally : Tally) (said : List ℕ)
    (before now : Outlet) : Type 0 where
  pub text : List ℕ
  pub is_good : IsGood from to limits whole text tally
  pub sized : All to.IsSized is_good.noted
  pub gains : GainsFrom said before now text
