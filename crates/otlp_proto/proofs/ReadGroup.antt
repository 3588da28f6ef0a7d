-- What reading a group answers, by the laws of groups.
use Rattle.std.proofs.Common.{◌≡◌, ℕ, List, Result, Ok, Err}
use Rattle.std.specs.Prelude.{IfOk}
use Rattle.span_io.specs.declared.cause.Cause.{Cause}
use Rattle.span_io.specs.declared.halt.Halt.{Halt}
use Rattle.span_io.specs.declared.halt.Halt.TheVariants as halts
use Rattle.span_io.specs.Offences.{Offence, Judges, OnlyReads}
use Rattle.proto_wire.specs.Messages.{messages}
use Rattle.trace_model.specs.Soundness.{IsSoundGroup}
use Rattle.trace_model.specs.declared.remark.Remark.{Remark}
use Rattle.trace_model.specs.declared.group.Group.{Group}
use Rattle.otlp_proto.specs.Group.{IsGroupText, group_rules}

module _ (text : List ℕ) where
  pub only_group : ((g h : Group) (r s : List Remark) → IsGroupText g r text → IsGroupText h s text → (g ≡ h) × (r ≡ s))
      → ((g : Group) (r : List Remark) → IsGroupText g r text → (place n : ℕ) → Offence messages group_rules text place n → ⊥)
      → (answer : Result (Group × List Remark) (Halt Cause)) → IfOk answer (λ parts. IsGroupText parts.0 parts.1 text) → Judges answer (Offence messages group_rules text)
      → (g : Group) (r : List Remark) → IsGroupText g r text → OnlyReads answer (g, r)
  only_group once fine (Ok parts) value judged g r h =
      let e : (parts.0 ≡ g) × (parts.1 ≡ r) = once parts.0 g parts.1 r value h in
      λ i. (e.0 i, e.1 i)
  only_group once fine (Err (halts.Why cause)) value judged g r h = fine g r h judged.place _ judged.offence
  only_group once fine (Err halts.OutOfMemory) value judged g r h = tt

  pub sound_group : ((g : Group) (r : List Remark) → IsGroupText g r text → IsSoundGroup g) → (answer : Result (Group × List Remark) (Halt Cause)) → IfOk answer (λ parts. IsGroupText parts.0 parts.1 text) → IfOk answer (λ parts. IsSoundGroup parts.0)
  sound_group sound (Ok parts) value = sound parts.0 parts.1 value
  sound_group sound (Err halt) value = tt
