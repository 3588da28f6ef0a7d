-- The groups that OTLP/JSON can hold as it is written here, and the fault of those that it can't.
use Rattle.std.specs.Prelude.{◌≡◌, false, Option, Some, None}
use Rattle.trace_model.specs.Proper.{IsProperGroup}
use Rattle.trace_model.specs.Soundness.{IsSoundGroup}
use Rattle.trace_model.specs.declared.fault.Fault.{Fault}
use Rattle.trace_model.specs.declared.group.Group.{Group}
use Rattle.otlp_json.specs.Doubles.{double_in_group, IsJsonFault}

-- the fault that counts, if there is any
abbrev pub IsJsonFaultOf : Group → Option Fault → Type 0
IsJsonFaultOf group None = double_in_group group ≡ false
IsJsonFaultOf group (Some fault) = IsJsonFault fault group

-- a group that can be written, and be read again as it was: it is sound, it is proper, and no double stands in it
pub record IsHeldByJson (group : Group) : Type 0 where
  pub sound : IsSoundGroup group
  pub proper : IsProperGroup group
  pub no_fault : IsJsonFaultOf group None
