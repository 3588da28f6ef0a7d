-- What reading an input leaves of it, and what a converter was fed or a block of header lines holds then.
use Rattle.std.specs.Prelude.{◌≡◌, ℕ, ◌+◌, ◌≤◌, List, [], length, Some, IfSome}
use Rattle.std.specs.Io.KnownBytes.{Consumes, IsAtEnd}
use Rattle.span_io.specs.Limits.{shipped_limits}
use Rattle.span_io.specs.Outside.{Inlet, Outlet, Gains}
use Rattle.span_io.specs.declared.form.Form.{Form}
use Rattle.span_convert.specs.Outlooks.{IsOutlookAs}
use Rattle.span_convert.specs.Units.{input_limit}
use Rattle.span_convert.specs.Verdicts.{good}
use Rattle.span_convert.specs.declared.tally.Tally.{Tally}
use Rattle.span_convert.specs.declared.written.Written.{Written}
use Rattle.span_cli.specs.Jobs.{Job, Spans, HeaderLines, Gauge}

-- the source gave these bytes
abbrev pub GaveInput : Inlet → Inlet → List ℕ → Type 0
GaveInput before now bytes = Consumes before.left now.left bytes

-- the most bytes that one read asks for
abbrev pub piece : ℕ
piece = 65536

-- the most bytes of header lines
abbrev pub header_limit : ℕ
header_limit = 16384

-- the most bytes that a job takes as its input
abbrev pub job_limit : Job → ℕ
job_limit (Spans from what) = input_limit from shipped_limits
job_limit (HeaderLines form) = header_limit
job_limit (Gauge spans) = 0

-- At most as many bytes were read as the limit allows, and one piece.
pub record ReadsInput (job : Job) (before now : Inlet) : Type 0 where
  pub given : List ℕ
  pub gave : GaveInput before now given
  pub within : length given ≤ job_limit job + piece

-- the source gave no more than so many bytes
pub record GaveWithin (limit : ℕ) (before now : Inlet) : Type 0 where
  pub given : List ℕ
  pub gave : GaveInput before now given
  pub within : length given ≤ limit

-- nothing is left, where the source tells it: it does if it told its bytes before
pub record IsAllRead (before now : Inlet) : Type 0 where
  pub ended : IsAtEnd now.left
  pub told : IfSome before.left (λ bytes. now.left ≡ Some [])

-- the same of the input of a job that reads one, and that of another is as it was
abbrev pub IsReadThrough : Job → Inlet → Inlet → Type 0
IsReadThrough (Spans from what) before now = IsAllRead before now
IsReadThrough (HeaderLines form) before now = IsAllRead before now
IsReadThrough (Gauge spans) before now = now ≡ before

-- Nothing in these bytes stops what writes this form so, and the output gained the text of their whole units.
pub record WritesUnits (from : Form) (what : Written) (given : List ℕ) (before now : Outlet) : Type 0 where
  pub said : List ℕ
  pub tally : Tally
  pub outlook : IsOutlookAs from what shipped_limits given (good said tally)
  pub gains : Gains before now said
