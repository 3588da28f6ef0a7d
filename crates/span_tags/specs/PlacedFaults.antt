-- The faults of a group for which a target can't hold it, each at a place: the resource has place 0, the spans are counted from 1 through all
-- scopes. The least by place, number and key counts. Which faults a resource and a span have is the target's table.
use Rattle.std.specs.Prelude.{◌≡◌, ◌≢◌, ℕ, ◌+◌, ◌<◌, ◌⊎◌, List, [], HoldsAt, Option, Some, None, Result, Ok, Err, ⊤}
use Rattle.std.specs.Cmp.Lexicographic.{slice_cmp}
use Rattle.std.specs.Ordering.{nat_cmp}
use Rattle.std.specs.declared.cmp.Ordering.TheVariants.{Greater}
use Rattle.span_io.specs.declared.halt.Halt.{Halt}
use Rattle.span_io.specs.declared.halt.Halt.TheVariants as halts
use Rattle.trace_model.specs.Faults.{fault_number}
use Rattle.trace_model.specs.LeastOf.{IsLeastOf}
use Rattle.trace_model.specs.declared.fault.Fault.{Fault}
use Rattle.trace_model.specs.declared.fault.Fault.TheVariants.{OwnKey}
use Rattle.trace_model.specs.declared.span.Span.{Span}
use Rattle.trace_model.specs.declared.group.Group.{Group}
use Rattle.trace_model.specs.declared.value.Value.{Value}
use Rattle.span_tags.specs.FaultTables.{IsTimely, BeginsWith}
use Rattle.span_tags.specs.Runs.{scoped}

-- a fault and where it is: 0 is the resource, and other places are spans, counted from 1 through all scopes of the group
pub record Placed : Type 0 where
  pub place : ℕ
  pub fault : Fault

-- the key of a fault, where it has one
abbrev pub key_in : Fault → List ℕ
key_in (OwnKey key) = key
key_in other = []

-- the first key is the second or comes before it, byte by byte
abbrev pub KeyAtMost : List ℕ → List ℕ → Type 0
KeyAtMost a b = slice_cmp nat_cmp a b ≢ Greater

-- by number, by key
abbrev pub FaultAtMost : Fault → Fault → Type 0
FaultAtMost a b = (fault_number a < fault_number b) ⊎ ((fault_number a ≡ fault_number b) × KeyAtMost (key_in a) (key_in b))

-- by place, and then so
abbrev pub AtMost : Placed → Placed → Type 0
AtMost a b = (a.place < b.place) ⊎ ((a.place ≡ b.place) × FaultAtMost a.fault b.fault)

-- of faults at their places the one that counts, if there is any
abbrev pub Counts : (Placed → Type 0) → Option Fault → Type 0
Counts Told None = (found : Placed) → Told found → ⊥
Counts Told (Some fault) = (place : ℕ) × IsLeastOf AtMost Told (Some (record { place = place; fault = fault }))

module _ (IsResourceFault : List (List ℕ × Value) → Fault → Type 0) (IsSpanFault : Span → Fault → Type 0) where
  -- the group has this fault at this place: the resource has it, at 0, or the span of that number
  pub data IsFaultBy (group : Group) (found : Placed) : Type 0 where
    in_resource : found.place ≡ 0 → IsResourceFault group.resource found.fault → IsFaultBy group found
    in_span : (n : ℕ) → found.place ≡ n + 1 → HoldsAt (λ one. IsSpanFault one.span found.fault) (scoped group.scopes) n
        → IsFaultBy group found

  -- memory may be wanted to find the fault: nothing of the resource is one, and there are spans, the first of which doesn't end
  -- before its start
  pub record MayWantMemory (group : Group) : Type 0 where
    pub resource : (fault : Fault) → ¬ IsResourceFault group.resource fault
    pub timely : BeginsWith (λ one. IsTimely one.span) (scoped group.scopes)

  -- the fault of the group that counts, the least by place, number and key, or none where the group has none
  abbrev pub CountsBy : Group → Option Fault → Type 0
  CountsBy group fault = Counts (IsFaultBy group) fault

  -- a value where there is no fault, else the fault; want of memory says nothing
  abbrev pub JudgesFault : {A : Type 0} → Result A (Halt Fault) → Group → Type 0
  JudgesFault (Ok value) group = CountsBy group None
  JudgesFault (Err (halts.Why fault)) group = CountsBy group (Some fault)
  JudgesFault (Err halts.OutOfMemory) group = ⊤
