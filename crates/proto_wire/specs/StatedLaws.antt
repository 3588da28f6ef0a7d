-- What is known of records and messages.
use Rattle.std.specs.Prelude.{◌≡◌, ◌≤◌, ◌<◌, ◌++◌, ◌⊎◌, ℕ, List, [], length, All, Err}
use Rattle.span_io.specs.Frames.{BeginsWhole, CanBeCompleted}
use Rattle.span_io.specs.Offences.{Cut}
use Rattle.span_io.specs.Offences.{FormatLaws}
use Rattle.span_io.specs.declared.cause.Cause.TheVariants as causes
use Rattle.proto_wire.specs.Messages.{messages}
use Rattle.proto_wire.specs.Records.{Record, IsProper, bytes}
use Rattle.proto_wire.specs.Wire.{SpellsRecord, Wire, IsOpenRecord, HasOverlong, HasBadKey, records, record_text, opening_text}
use Rattle.proto_wire.specs.Reading.{record_at}

-- No record's text is a proper front of another's, and a text has one reading.
pub record OneWireReading : Type 0 where
  pub one_record : (text other more : List ℕ) (r s : Record) → SpellsRecord text r → SpellsRecord other s → other ≡ text ++ more
      → (more ≡ []) × (r ≡ s)
  pub message : (text : List ℕ) (first second : List Record) → Wire first text → Wire second text → first ≡ second

-- What is written is a spelling, and none is shorter.
pub record ShortestRecord : Type 0 where
  pub spelled : (r : Record) → IsProper r → SpellsRecord (record_text r) r
  pub shortest : (r : Record) (text : List ℕ) → All (λ b. b < 256) text → SpellsRecord text r
      → length (record_text r) ≤ length text
  pub opened : (number : ℕ) (held : List ℕ)
      → record_text (record { number = number; held = bytes held }) ≡ opening_text number (length held) ++ held

-- Open bytes can be completed to a record once a varint that isn't ended is dropped at their end, and their fronts are open.
pub record OpenWireFronts : Type 0 where
  pub walked : (text : List ℕ) → (text ≡ []) ⊎ (record_at text ≡ Err causes.Truncated) → CanBeCompleted records text
  pub completed : (text : List ℕ) → IsOpenRecord text → CanBeCompleted records text
  pub all : (text : List ℕ) → IsOpenRecord text ⊎ (BeginsWhole records text ⊎ (HasOverlong text ⊎ HasBadKey text))
  pub fronts : (front more : List ℕ) → IsOpenRecord (front ++ more) → IsOpenRecord front

-- Messages keep what the search for the offence that counts asks, and their records are those that a walk to the end passes.
pub record MessageCuts : Type 0 where
  pub laws : FormatLaws messages
  pub whole : (text : List ℕ) (seen : List Record) → Cut messages text seen [] → Wire seen text
  pub cut : (text : List ℕ) (seen : List Record) → Wire seen text → Cut messages text seen []
