-- A file of Jaeger: batches of jaeger.thrift in a protocol of Thrift, one after the other. Each is a unit.
use Rattle.std.specs.Prelude.{◌≡◌, ℕ, take, Bool, Option, List, [], ◌∷◌, length}
use Rattle.std.specs.List.{AllZip, flat_map}
use Rattle.span_io.specs.Frames.{Framing, ItemsThen}
use Rattle.span_io.specs.declared.cause.Cause.{Cause}
use Rattle.span_io.specs.declared.limits.Limits.{Limits}
use Rattle.thrift_core.specs.Parts.{Part, Spelling}
use Rattle.thrift_core.specs.Protocols.{WritingOf}
use Rattle.thrift_core.specs.Reading.{ReadingOf}
use Rattle.thrift_core.specs.Values.{struct_frames, RefusedStruct}
use Rattle.thrift_spellings.specs.BinaryReading.{binary_reads}
use Rattle.thrift_spellings.specs.BinarySpelling as binary_protocol
use Rattle.thrift_spellings.specs.CompactReading.{compact_reads}
use Rattle.thrift_spellings.specs.CompactSpelling as compact_protocol
use Rattle.trace_model.specs.OtlpParts.{NotedGroup}
use Rattle.trace_model.specs.declared.group.Group.{Group}
use Rattle.jaeger_model.specs.Batch.{IsBatchText}
use Rattle.jaeger_model.specs.Canonical.{batch_text}
use Rattle.jaeger_model.specs.declared.batch.Batch.{Batch}
use Rattle.map_jaeger.specs.Reading.{group_of}
use Rattle.map_jaeger.specs.Remarks.{AreRemarks}
use Rattle.map_jaeger.specs.Writing.{batch_of}

-- ---- the words of a protocol

-- how it spells the parts of a text and reads them, behind which fronts a varint stands, what it refuses, and how it writes them
pub record ProtocolWords : Type 1 where
  pub spells : Spelling
  pub reads : ReadingOf
  pub then_varint : Part → List ℕ → Type 0
  pub refuses : Part → Cause → List ℕ → Type 0
  pub keeps : Option Bool → Option Bool
  pub writes : WritingOf

-- the words of a protocol, of these six parts
abbrev pub words : Spelling → ReadingOf → (Part → List ℕ → Type 0) → (Part → Cause → List ℕ → Type 0)
    → (Option Bool → Option Bool) → WritingOf → ProtocolWords
words spells reads then_varint refuses keeps writes =
    record { spells = spells; reads = reads; then_varint = then_varint; refuses = refuses; keeps = keeps; writes = writes }

-- the words of Thrift's binary protocol, where the head of a field keeps no truth value
abbrev pub binary : ProtocolWords
binary = words binary_protocol.binary_spells binary_reads binary_protocol.binary_then_varint binary_protocol.binary_refuses binary_protocol.binary_keeps binary_protocol.binary_writes

-- the words of Thrift's compact protocol, where the head of a field keeps its truth value
abbrev pub compact : ProtocolWords
compact = words compact_protocol.compact_spells compact_reads compact_protocol.compact_then_varint compact_protocol.compact_refuses compact_protocol.compact_keeps compact_protocol.compact_writes

-- ---- the units of a file

-- the texts of structs
abbrev pub batches : ProtocolWords → Framing
batches protocol = struct_frames protocol.spells protocol.then_varint

-- what refuses such a text, by the cause that this names
abbrev pub RefusedBatch : ProtocolWords → Cause → List ℕ → Type 0
RefusedBatch protocol = RefusedStruct protocol.spells protocol.refuses

-- a batch is its own unit
abbrev pub IsOwnUnit : List ℕ → List (List ℕ) → Type 0
IsOwnUnit batch units = units ≡ batch ∷ []

-- Of an input no more bytes are looked at than its limit. They begin with these batches, and then come the others.
abbrev pub HoldsBatches : ProtocolWords → Limits → List ℕ → List (List ℕ) → List ℕ → Type 0
HoldsBatches protocol limits bytes units rest = ItemsThen (batches protocol) limits.unit units rest (take limits.binary bytes)

-- the unit, spelled so, is a text of a batch that means the group, and these are the remarks on the batch
pub record IsBatchUnit (Spells : Spelling) (unit : List ℕ) (noted : NotedGroup) : Type 0 where
  pub batch : Batch
  pub text : IsBatchText Spells batch unit
  pub means : noted.means ≡ group_of batch
  pub remarks : AreRemarks batch noted.notes

-- ---- texts

-- the text of the batch of a group
abbrev pub group_batch : ProtocolWords → Group → List ℕ
group_batch protocol group = batch_text protocol.keeps protocol.writes (batch_of group)

-- the texts of the batches of groups, in order
abbrev pub batches_text : ProtocolWords → List Group → List ℕ
batches_text protocol groups = flat_map (group_batch protocol) groups

-- ---- which bytes are a text of a trace, however long its units are

-- The bytes are a text of these groups, each with the remarks on it: they are batches that mean the groups, in order.
pub record ReadsBatches (protocol : ProtocolWords) (bytes : List ℕ) (noted : List NotedGroup) : Type 0 where
  pub units : List (List ℕ)
  pub framed : ItemsThen (batches protocol) (length bytes) units [] bytes
  pub are_groups : AllZip (IsBatchUnit protocol.spells) units noted
