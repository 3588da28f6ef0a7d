-- What the readers of blocks give.
use Rattle.std.specs.Prelude.{◌≡◌, ℕ, ◌+◌, ◌≤◌, ◌<◌, List, length, IsTrue}
use Rattle.span_io.specs.Limits.{shipped_limits}
use Rattle.span_io.specs.Outside.{Inlet, Outlet, Gains, InputFails, NoReadInVain, OutputHolds}
use Rattle.span_io.specs.declared.form.Form.{Form}
use Rattle.span_convert.specs.Converters.{Fed, Work}
use Rattle.span_convert.specs.declared.walker.Walker.{Walker}
use Rattle.span_convert.specs.declared.written.Written.{Written}
use Rattle.span_cli.specs.declared.ending.Ending.{Ending}
use Rattle.span_cli.specs.declared.ending.Ending.TheVariants as endings
use Rattle.span_cli.specs.Inputs.{GaveInput, IsAllRead, header_limit, piece}

-- the form that is read and what is written of it, within the limits shipped
abbrev pub shipped : Form → Written → Work
shipped from what = record { from = from; what = what; limits = shipped_limits }

-- The source gave all its bytes without a fault and without a read in vain, and what writes this form so was fed them. The text of
-- their whole units was written without a fault.
pub record IsFed (work : Work) (input_before input_now : Inlet) (output_before output_now : Outlet) (c : Walker) : Type 0 where
  pub given : List ℕ
  pub said : List ℕ
  pub gave : GaveInput input_before input_now given
  pub all_read : IsAllRead input_before input_now
  pub quiet : input_now.faults ≡ input_before.faults
  pub in_vain : NoReadInVain input_before input_now
  pub fed : Fed c work given said
  pub gains : Gains output_before output_now said
  pub holds : OutputHolds output_before output_now

-- the source gave all its bytes without a fault and without a read in vain, and these are they
pub record IsReadWhole (before now : Inlet) (given : List ℕ) : Type 0 where
  pub gave : GaveInput before now given
  pub all_read : IsAllRead before now
  pub quiet : now.faults ≡ before.faults
  pub in_vain : NoReadInVain before now

-- Why a block of header lines wasn't read to the end of the input. A read that failed came within the limit.
abbrev pub HaltsBlock : Ending → Inlet → Inlet → List ℕ → Type 0
HaltsBlock endings.InputFailed before now given =
    InputFails before now × (IsTrue before.steady → ⊥) × (length given ≤ header_limit)
HaltsBlock endings.TooLong before now given = (now.faults ≡ before.faults) × (header_limit < length given)
HaltsBlock endings.NoMemory before now given = now.faults ≡ before.faults
HaltsBlock ending before now given = ⊥

-- the source gave these bytes of it before
pub record BlockHalts (ending : Ending) (before now : Inlet) : Type 0 where
  pub given : List ℕ
  pub gave : GaveInput before now given
  pub within : length given ≤ header_limit + piece
  pub in_vain : NoReadInVain before now
  pub why : HaltsBlock ending before now given
