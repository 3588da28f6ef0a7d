-- What is asked of a target, over the units that are written to it: groups, each with the remarks on it.
use Rattle.std.specs.Prelude.{ℕ, List, [], All}
use Rattle.span_io.specs.declared.form.Form.{Form}
use Rattle.trace_model.specs.OtlpParts.{NotedGroup}
use Rattle.trace_model.specs.Proper.{IsProperGroup}
use Rattle.trace_model.specs.Soundness.{IsSoundTrace}
use Rattle.trace_model.specs.declared.fault.Fault.{Fault}
use Rattle.span_convert.specs.Units.{groups_in, FaultOf, CanHold, IsSizedGroup, canonical_text, partial_text, closing_text}

-- what is asked of each unit, and the texts of units that are written
pub record Target : Type 1 where
  -- the fault of the unit that counts
  pub FaultOf : NotedGroup → Fault → Type 0
  -- it can hold the unit
  pub CanHold : NotedGroup → Type 0
  -- no part of the unit is longer than it can tell
  pub IsSized : NotedGroup → Type 0
  -- the text of units: all of it, that without the bytes that close it, and these
  pub whole_text : List NotedGroup → List ℕ
  pub partial_text : List NotedGroup → List ℕ
  pub closing_text : List NotedGroup → List ℕ

-- A form is a target of groups, whatever the remarks on them.
abbrev pub form_target : Form → Target
form_target to = record {
  FaultOf = λ unit fault. FaultOf to unit.means fault;
  CanHold = λ unit. CanHold to unit.means;
  IsSized = λ unit. IsSizedGroup to unit.means;
  whole_text = λ units. canonical_text to (groups_in units);
  partial_text = λ units. partial_text to (groups_in units);
  closing_text = λ units. closing_text to (groups_in units);
}

-- The same target of units behind which others may come: nothing closes their text.
abbrev pub open_target : Target → Target
open_target to = record {
  FaultOf = to.FaultOf;
  CanHold = to.CanHold;
  IsSized = to.IsSized;
  whole_text = to.partial_text;
  partial_text = to.partial_text;
  closing_text = λ units. [];
}

-- ---- units that a target can hold

-- their groups are a sound trace, in which nothing is out of range, and no unit has a fault
pub record CanHoldUnits (to : Target) (units : List NotedGroup) : Type 0 where
  pub sound : IsSoundTrace (groups_in units)
  pub proper : All IsProperGroup (groups_in units)
  pub no_fault : All to.CanHold units

-- and no part of them is too long
pub record AreHeldBy (to : Target) (units : List NotedGroup) : Type 0 where
  pub can_hold : CanHoldUnits to units
  pub sized : All to.IsSized units
