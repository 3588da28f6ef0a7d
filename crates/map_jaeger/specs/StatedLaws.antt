-- What the laws of the table say.
use Rattle.std.specs.Prelude.{◌≡◌, ◌≤◌, ◌↔◌, [], All, Contains, Option}
use Rattle.jaeger_model.specs.Proper.{IsProperBatch}
use Rattle.jaeger_model.specs.declared.batch.Batch.{Batch}
use Rattle.jaeger_model.specs.declared.span.JSpan.{JSpan}
use Rattle.span_ids.specs.Times.{floor}
use Rattle.trace_model.specs.Proper.{IsProperGroup}
use Rattle.trace_model.specs.Soundness.{IsSoundGroup}
use Rattle.trace_model.specs.declared.fault.Fault.{Fault}
use Rattle.trace_model.specs.declared.loss.Loss.{Loss}
use Rattle.trace_model.specs.declared.group.Group.{Group}
use Rattle.map_jaeger.specs.Faults.{HasNoFault, IsFaultOf}
use Rattle.map_jaeger.specs.LossMeaning.{MeansLoss}
use Rattle.map_jaeger.specs.Losses.{group_losses}
use Rattle.map_jaeger.specs.Normal.{normal_group}
use Rattle.map_jaeger.specs.Reading.{group_of}
use Rattle.map_jaeger.specs.Remarks.{AreRemarks}
use Rattle.map_jaeger.specs.Writing.{batch_of}

-- a group that Jaeger can hold
pub record IsHeld (group : Group) : Type 0 where
  pub sound : IsSoundGroup group
  pub proper : IsProperGroup group
  pub no_fault : HasNoFault group

-- reading the batch of a group gives its normal form, and there is no remark
pub record BatchesReadBack : Type 0 where
  pub means : (group : Group) → IsHeld group → group_of (batch_of group) ≡ normal_group group
  pub plainly : (group : Group) → IsHeld group → AreRemarks (batch_of group) []

-- the normal form is its own, Jaeger can hold it, and it has the same batch; groups have equal batches where they have equal normal forms,
-- and only there
pub record NormalForms : Type 0 where
  pub held : (group : Group) → IsHeld group → IsHeld (normal_group group)
  pub itself : (group : Group) → IsHeld group → normal_group (normal_group group) ≡ normal_group group
  pub same_batch : (group : Group) → IsHeld group → batch_of (normal_group group) ≡ batch_of group
  pub equal : (a b : Group) → IsHeld a → IsHeld b → (batch_of a ≡ batch_of b) ↔ (normal_group a ≡ normal_group b)

-- times are whole microseconds, and no span ends before it starts
pub record IsTimely (span : JSpan) : Type 0 where
  pub start : span.start ≡ floor span.start
  pub end : span.end ≡ floor span.end
  pub ordered : span.start ≤ span.end
  pub logs : All (λ log. log.time ≡ floor log.time) span.logs

-- what is read of a batch is its own normal form, and nothing in it is a fault
pub record ReadIsNormal : Type 0 where
  pub no_fault : (batch : Batch) → All IsTimely batch.spans → HasNoFault (group_of batch)
  pub itself : (batch : Batch) → All IsTimely batch.spans → normal_group (group_of batch) ≡ group_of batch

-- what is read of a batch is sound
abbrev pub ReadIsSound : Type 0
ReadIsSound = (batch : Batch) → IsSoundGroup (group_of batch)

-- a sound group has a fault that counts, or none
abbrev pub FaultsFound : Type 0
FaultsFound = (group : Group) → IsSoundGroup group → (found : Option Fault) × IsFaultOf group found

-- the batch of a proper group is proper
abbrev pub WrittenIsProper : Type 0
WrittenIsProper = (group : Group) → IsProperGroup group → IsProperBatch (batch_of group)

-- the group that is read of a proper batch is proper
abbrev pub ReadIsProper : Type 0
ReadIsProper = (batch : Batch) → IsProperBatch batch → IsProperGroup (group_of batch)

-- nothing is lost of a sound group exactly where it is its own normal form
abbrev pub NoneLost : Type 0
NoneLost = (group : Group) → IsSoundGroup group → (group_losses group ≡ []) ↔ (normal_group group ≡ group)

-- a loss is told of a sound group exactly where the condition of its row holds, at its place, of the group and its normal form
abbrev pub LossesMean : Type 0
LossesMean = (group : Group) → IsSoundGroup group → (loss : Loss)
    → Contains (group_losses group) loss ↔ MeansLoss group (normal_group group) loss.place loss.row loss.key
