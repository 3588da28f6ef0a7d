-- The units of an input are bytes where the input is, and the groups that they are texts of are sound and proper.
use Rattle.std.proofs.Common.{◌⊎◌, inl, inr, ℕ, ◌<◌, ◌++◌, ◌∷◌, List, [], take, Bool, true, false, sym, subst}
use Rattle.std.specs.Prelude.{◌==◌, if◌then◌else◌}
use Rattle.std.proofs.lemmas.List.Elements.{All-nil, All-cons, All-head, All-tail, All-take}
use Rattle.span_io.specs.Causes.{cause_number}
use Rattle.span_io.specs.Frames.{Framing, ItemsThen}
use Rattle.span_io.specs.Offences.{Offence, Least}
use Rattle.span_io.specs.declared.cause.Cause.{Cause}
use Rattle.span_io.specs.declared.limits.Limits.{Limits}
use Rattle.proto_wire.specs.Messages.{messages}
use Rattle.proto_wire.specs.Records.{Held, varint, fixed64, bytes, fixed32, Record}
use Rattle.proto_wire.specs.Wire.{SpellsHeld, SpellsRecord, records}
use Rattle.trace_model.specs.Proper.{IsProperGroup}
use Rattle.trace_model.specs.Soundness.{IsSoundGroup}
use Rattle.trace_model.specs.declared.remark.Remark.{Remark}
use Rattle.trace_model.specs.OtlpParts.{NotedGroup}
use Rattle.trace_model.specs.declared.group.Group.{Group}
use Rattle.otlp_proto.specs.Group.{IsGroupText, group_rules}
use Rattle.otlp_proto.specs.StatedLaws.{SomeGroup}
use Rattle.otlp_proto.specs.Rows.{bytes_in}
use Rattle.map_jaeger.specs.StatedLaws.{ReadIsSound, ReadIsProper}
use Rattle.span_convert.specs.BatchFiles.{ProtocolWords, batches, HoldsBatches, IsBatchUnit}
use Rattle.span_convert.specs.private.InputLaws.{RequestLaws, BatchLaws}
use Rattle.span_convert.specs.Requests.{AreRequestUnits, HoldsRequestUnits}
use Rattle.span_convert.specs.Units.{request_form, batch_form}
use Rattle.span_convert.proofs.BatchLaws.{batch_units, decided_batch}
use Rattle.span_convert.proofs.BatchProper.{batch_unit_proper}
use Rattle.span_convert.proofs.RequestUnits.{request_units}
use Rattle.span_convert.proofs.SourceLaws.{AreBytes, AllBytes, IsDecidedUnit, UnitLaws}

-- ---- the bytes of units are bytes of the input

first_bytes : (front behind : List ℕ) → AreBytes (front ++ behind) → AreBytes front
first_bytes [] behind all = All-nil (λ b. b < 256)
first_bytes (x ∷ front) behind all = All-cons (λ b. b < 256) x front (All-head (λ b. b < 256) x (front ++ behind) all) (first_bytes front behind (All-tail (λ b. b < 256) x (front ++ behind) all))

last_bytes : (front behind : List ℕ) → AreBytes (front ++ behind) → AreBytes behind
last_bytes [] behind all = all
last_bytes (x ∷ front) behind all = last_bytes front behind (All-tail (λ b. b < 256) x (front ++ behind) all)

frames_bytes : (F : Framing) (limit : ℕ) (frames : List (List ℕ)) (rest text : List ℕ) → AreBytes text → ItemsThen F limit frames rest text → AllBytes frames
unfolding ItemsThen
frames_bytes F limit [] rest text all h = tt
frames_bytes F limit (f ∷ frames) rest text all h =
    let parts : AreBytes (f ++ h.2) = subst AreBytes h.3 all in
    (first_bytes f h.2 parts, frames_bytes F limit frames rest h.2 (last_bytes f h.2 parts) h.4)

held_bytes : (own : ℕ) (held : Held) (payload : List ℕ) → AreBytes payload → SpellsHeld payload held → AllBytes (bytes_in 1 (record { number = own; held = held }))
held_bytes own (varint n) payload all h = tt
held_bytes own (fixed64 n) payload all h = tt
held_bytes own (fixed32 n) payload all h = tt
held_bytes own (bytes inner) payload all h = of (own == 1) (last_bytes h.0 inner (subst AreBytes h.2 all))
  where
    of : (b : Bool) → AreBytes inner → AllBytes (if b then inner ∷ [] else [])
    of true so = (so, tt)
    of false so = tt

record_bytes : (frame : List ℕ) (r : Record) → AreBytes frame → SpellsRecord frame r → AllBytes (bytes_in 1 r)
record_bytes frame r all h = held_bytes r.number r.held h.payload (last_bytes h.key h.payload (subst AreBytes h.parts all)) h.payload_spelled

both_bytes : (a b : List (List ℕ)) → AllBytes a → AllBytes b → AllBytes (a ++ b)
both_bytes [] b h g = g
both_bytes (x ∷ a) b h g = (h.0, both_bytes a b h.1 g)

units_bytes : (frames units : List (List ℕ)) → AllBytes frames → AreRequestUnits frames units → AllBytes units
unfolding AreRequestUnits
units_bytes [] units all h = subst AllBytes (sym h) tt
units_bytes (f ∷ frames) units all h = subst AllBytes (sym h.3) (both_bytes (bytes_in 1 h.0) h.2 (record_bytes f h.0 all.0 h.1) (units_bytes frames h.2 all.1 h.4))

request_bytes : (limits : Limits) (text : List ℕ) (units : List (List ℕ)) (rest : List ℕ) → AreBytes text → HoldsRequestUnits limits text units rest → AllBytes units
request_bytes limits text units rest all h = units_bytes h.frames units (frames_bytes records limits.unit h.frames rest (take limits.binary text) (All-take (λ b. b < 256) limits.binary text all) h.framed) h.are_units

batch_bytes : (protocol : ProtocolWords) (limits : Limits) (text : List ℕ) (units : List (List ℕ)) (rest : List ℕ) → AreBytes text → HoldsBatches protocol limits text units rest → AllBytes units
batch_bytes protocol limits text units rest all h = frames_bytes (batches protocol) limits.unit units rest (take limits.binary text) (All-take (λ b. b < 256) limits.binary text all) h

-- ---- what is known of units

decided_request : SomeGroup → (unit : List ℕ) → IsDecidedUnit request_form unit
decided_request some unit = of (some unit)
  where
    of : ((g : Group) × (r : List Remark) × IsGroupText g r unit) ⊎ ((cause : Cause) × Least (Offence messages group_rules unit) (cause_number cause)) → IsDecidedUnit request_form unit
    of (inl (g, r, is)) = inl (record { means = g; notes = r }, is)
    of (inr least) = inr least

-- each number, text and identifier in what is read of bytes lies in its range
abbrev pub GroupIsProper : Type 0
GroupIsProper = (text : List ℕ) (g : Group) (r : List Remark) → AreBytes text → IsGroupText g r text → IsProperGroup g

pub request_unit_laws : RequestLaws → SomeGroup → GroupIsProper → UnitLaws request_form
request_unit_laws L some proper = record {
  all_units = request_units L;
  are_bytes = request_bytes;
  decides = λ unit all framed. decided_request some unit;
  sound = λ unit g is. L.group.sound unit g.means g.notes is;
  proper = λ unit g all is. proper unit g.means g.notes all is;
}

sound_batch : (protocol : ProtocolWords) → ReadIsSound → (unit : List ℕ) (g : NotedGroup) → IsBatchUnit protocol.spells unit g → IsSoundGroup g.means
sound_batch protocol read unit g is = subst IsSoundGroup (sym is.means) (read is.batch)

pub batch_unit_laws : (protocol : ProtocolWords) → BatchLaws protocol → ReadIsSound → ReadIsProper → UnitLaws (batch_form protocol)
batch_unit_laws protocol L sound proper = record {
  all_units = batch_units protocol L;
  are_bytes = batch_bytes protocol;
  decides = λ unit all framed. decided_batch protocol L unit framed;
  sound = sound_batch protocol sound;
  proper = batch_unit_proper protocol.spells L.proper proper;
}
