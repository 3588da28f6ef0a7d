-- What a converter or a reporter holds, and what it was fed.
use Rattle.std.specs.Prelude.{◌≡◌, ℕ, ◌≤◌, Bool, true, false, List, length, Option, Some, None, Result, Ok, Err, IfOk, OnOk}
use Rattle.span_io.specs.Limits.{AreLimits}
use Rattle.span_io.specs.Outside.{Outlet}
use Rattle.span_io.specs.declared.form.Form.{Form}
use Rattle.span_io.specs.declared.limits.Limits.{Limits}
use Rattle.span_io.specs.declared.refusal.Refusal.{Refusal}
use Rattle.span_convert.specs.Intakes.{Taken, form_in}
use Rattle.span_convert.specs.Outlooks.{CarriesFrom, IsOutlookAs, ReachesFrom, WritesFrontFrom}
use Rattle.span_convert.specs.Pens.{written_by}
use Rattle.span_convert.specs.Reports.{IsJudgedAs, IsVerdictAs, written_target}
use Rattle.span_convert.specs.Targets.{open_target}
use Rattle.span_convert.specs.Units.{input_form, input_limit, open_form}
use Rattle.span_convert.specs.Verdicts.{Verdict, good, refused, faulted, IsJudgedOn, verdict_text}
use Rattle.span_convert.specs.Walks.{Reaches, WritesWhole}
use Rattle.span_convert.specs.declared.walker.Walker.{Walker}
use Rattle.span_convert.specs.declared.walker.State.{State}
use Rattle.span_convert.specs.declared.walker.State.TheVariants as states
use Rattle.span_convert.specs.declared.why.Why.{Why}
use Rattle.span_convert.specs.declared.why.Why.TheVariants as whys
use Rattle.span_convert.specs.declared.stop.Stop.{Stop}
use Rattle.span_convert.specs.declared.stop.Stop.TheVariants as stops
use Rattle.span_convert.specs.declared.tally.Tally.{Tally}
use Rattle.span_convert.specs.declared.target_fault.TargetFault.{TargetFault}
use Rattle.span_convert.specs.declared.written.Written.{Written}

-- the stop that was answered, if one was
abbrev pub stop_in : State → Option Stop
stop_in states.Open = None
stop_in states.Ended = None
stop_in (states.Refused refusal) = Some stops.Refused
stop_in (states.Faulted found) = Some stops.Faulted
stop_in states.Write = Some stops.Write
stop_in states.OutOfMemory = Some stops.OutOfMemory

-- the refusal that is kept, if the input was refused
abbrev pub refusal_in : State → Option Refusal
refusal_in states.Open = None
refusal_in states.Ended = None
refusal_in (states.Refused refusal) = Some refusal
refusal_in (states.Faulted found) = None
refusal_in states.Write = None
refusal_in states.OutOfMemory = None

-- the fault of the target that is kept, with the number of its unit, if there was one
abbrev pub fault_in : State → Option TargetFault
fault_in states.Open = None
fault_in states.Ended = None
fault_in (states.Refused refusal) = None
fault_in (states.Faulted found) = Some found
fault_in states.Write = None
fault_in states.OutOfMemory = None

-- whether the whole text was written
abbrev pub is_ended : State → Bool
is_ended states.Open = false
is_ended states.Ended = true
is_ended (states.Refused refusal) = false
is_ended (states.Faulted found) = false
is_ended states.Write = false
is_ended states.OutOfMemory = false

-- how far it has come
abbrev pub end_of : Walker → State
end_of c = c.state

-- the stop that it answered, if one was, and whether the whole text was written
abbrev pub stop_of : Walker → Option Stop
stop_of c = stop_in (end_of c)

-- whether it wrote the whole text
abbrev pub has_ended : Walker → Bool
has_ended c = is_ended (end_of c)

-- ---- what it was made for

-- the form that it reads, what its input is written as, and its limits
pub record Work : Type 0 where
  pub from : Form
  pub what : Written
  pub limits : Limits

-- the work of a converter or a reporter, by what it holds: the form of its intake, what its pen writes, and its limits
abbrev pub work_of : Walker → Work
work_of c = record { from = form_in c.intake; what = written_by c.progress.pen; limits = c.limits }

-- ---- what it was fed

-- It answered no stop, isn't ended, and was fed these bytes. Nothing in them stops it, and this text of the units that ended in them was
-- written.
pub record Fed (c : Walker) (work : Work) (bytes said : List ℕ) : Type 0 where
  pub going : end_of c ≡ states.Open
  pub works : work_of c ≡ work
  pub limits : AreLimits work.limits
  pub size : c.fed ≡ length bytes
  pub within : length bytes ≤ input_limit work.from work.limits
  pub taken : Taken c.intake work.what work.limits bytes said c.held c.progress
  pub tally : Tally
  pub outlook : IsOutlookAs work.from work.what work.limits bytes (good said tally)

-- the refusal or fault that is kept is that of the verdict
abbrev pub KeepsWhy : Verdict → State → Type 0
KeepsWhy verdict (states.Refused refusal) = verdict ≡ refused refusal (verdict_text verdict)
KeepsWhy verdict (states.Faulted found) = verdict ≡ faulted found (verdict_text verdict)
KeepsWhy verdict states.Open = Unit {0}
KeepsWhy verdict states.Ended = Unit {0}
KeepsWhy verdict states.Write = Unit {0}
KeepsWhy verdict states.OutOfMemory = Unit {0}

-- What a call did that fed it these bytes, behind what was written of those before. There is an outlook on them, and it was carried out.
-- Whatever is answered, a front of what goes on from there was written, up to the text of the first units.
pub record Feeds (work : Work) (new : Walker) (said bytes : List ℕ) (result : Result (Unit {0}) Stop) (before now : Outlet)
    : Type 0 where
  pub fed : OnOk result (Reaches (Fed new work bytes) said before now)
  pub exists : IsJudgedOn (open_form work.from) (open_target (written_target work.what)) work.limits bytes result
  pub outlook : (outlook : Verdict) → IsOutlookAs work.from work.what work.limits bytes outlook
      → ReachesFrom said outlook result before now × KeepsWhy outlook (end_of new)
  pub front : WritesFrontFrom (input_form work.from) (written_target work.what) work.limits bytes said before now

-- The same of the end of these bytes, and the verdict on them. What is whole is the text of units of which no part is longer than the target
-- can tell.
pub record Finishes (work : Work) (new : Walker) (said bytes : List ℕ) (result : Result Tally Stop) (before now : Outlet)
    : Type 0 where
  pub judged : IsJudgedAs work.from work.what work.limits bytes result
  pub verdict : (verdict : Verdict) → IsVerdictAs work.from work.what work.limits bytes verdict
      → CarriesFrom said verdict result before now × KeepsWhy verdict (end_of new)
  pub front : WritesFrontFrom (input_form work.from) (written_target work.what) work.limits bytes said before now
  pub whole : IfOk result (λ counts. WritesWhole (input_form work.from) (written_target work.what) work.limits bytes counts said before now)

-- ---- stops

-- a call on one that had stopped answers the same, and changes nothing
abbrev pub SameStop : {T : Type 0} → Option Stop → Result T Stop → Type 0 → Type 0
SameStop None result Unchanged = Unit {0}
SameStop (Some stop) result Unchanged = (result ≡ Err stop) × Unchanged

-- the stop that a call answers is kept
abbrev pub KeepsStop : {T : Type 0} → Result T Stop → Walker → Type 0
KeepsStop (Ok x) c = Unit {0}
KeepsStop (Err stop) c = stop_of c ≡ Some stop

-- what is told is the refusal or fault that is kept
abbrev pub IsWhy : Why → Walker → Type 0
IsWhy whys.Nothing c = (refusal_in (end_of c) ≡ None) × (fault_in (end_of c) ≡ None)
IsWhy (whys.Refusal kept) c = refusal_in (end_of c) ≡ Some kept.now
IsWhy (whys.Fault kept) c = fault_in (end_of c) ≡ Some kept.now
