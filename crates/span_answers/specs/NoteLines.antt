-- The line that says why a body has no text in the target form.
use Rattle.std.specs.Prelude.{ℕ, List, [], ◌∷◌, ◌++◌, codes, decimal}
use Rattle.json.specs.Print.{print}
use Rattle.json.specs.Token.{string}
use Rattle.span_io.specs.Causes.{cause_number, cause_name}
use Rattle.span_io.specs.declared.refusal.Refusal.{Refusal}
use Rattle.trace_model.specs.Faults.{fault_number, fault_name}
use Rattle.trace_model.specs.declared.fault.Fault.{Fault}
use Rattle.trace_model.specs.declared.fault.Fault.TheVariants as faults
use Rattle.span_convert.specs.declared.target_fault.TargetFault.{TargetFault}

-- why a body can't be read: its unit, counted from 1, or 0 for the whole body, and the number and name of the cause
abbrev pub refusal_line : Refusal → List ℕ
refusal_line refusal =
    codes "unit " ++ decimal refusal.unit ++ codes ": cause " ++ decimal (cause_number refusal.cause)
    ++ codes " " ++ cause_name refusal.cause ++ codes "\n"

-- a key is told as a JSON string (RFC 8259, section 7)
abbrev pub key_part : Fault → List ℕ
key_part (faults.OwnKey key) = codes " " ++ print (string key ∷ [])
key_part faults.EndBeforeStart = []
key_part faults.EventText = []
key_part faults.ChildOfLink = []
key_part faults.DoubleInText = []

-- the faults that tell a key
abbrev pub HasKey : Fault → Type 0
HasKey (faults.OwnKey key) = Unit {0}
HasKey faults.EndBeforeStart = ⊥
HasKey faults.EventText = ⊥
HasKey faults.ChildOfLink = ⊥
HasKey faults.DoubleInText = ⊥

-- why the target form can't hold what was read: the unit, counted from 1, the number and name of the fault, and its key, if any
abbrev pub fault_line : TargetFault → List ℕ
fault_line found =
    codes "unit " ++ decimal found.unit ++ codes ": fault " ++ decimal (fault_number found.fault)
    ++ codes " " ++ fault_name found.fault ++ key_part found.fault ++ codes "\n"
