-- What stands at the front of what is left of a message.
use Rattle.std.proofs.Common.{◌≡◌, ℕ, ◌⊎◌, inl, inr, List, [], refl}
use Rattle.span_io.specs.declared.cause.Cause.TheVariants as causes
use Rattle.span_io.specs.Frames.{BeginsWhole}
use Rattle.span_io.specs.Tables.{Next, ended, stopped, begun}
use Rattle.proto_wire.specs.StatedLaws.{OpenWireFronts}
use Rattle.proto_wire.specs.Messages.{messages}
use Rattle.proto_wire.specs.Wire.{IsOpenRecord, HasOverlong, HasBadKey, records}
use Rattle.otlp_proto.proofs.RowDecisions.{empty_or}

next_of : (rest : List ℕ) → (rest ≡ []) ⊎ (rest ≡ [] → ⊥) → IsOpenRecord rest ⊎ (BeginsWhole records rest ⊎ (HasOverlong rest ⊎ HasBadKey rest)) → Next messages rest
next_of rest (inl none) is = ended none
next_of rest (inr some) (inl open_still) = stopped causes.Truncated (inl (refl, some, open_still))
next_of rest (inr some) (inr (inl whole)) = begun whole.whole.0 whole.rest (record { text = whole.text; spelled = whole.whole.1; parts = whole.parts })
next_of rest (inr some) (inr (inr (inl overlong))) = stopped causes.BadVarint (inr (inl (refl, overlong)))
next_of rest (inr some) (inr (inr (inr bad))) = stopped causes.BadWire (inr (inr (refl, bad)))

pub next_record : OpenWireFronts → (rest : List ℕ) → Next messages rest
next_record fronts rest = next_of rest (empty_or rest) (fronts.all rest)
