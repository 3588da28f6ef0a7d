-- What the crates below say of the frames and units of an input, and of the texts that are written.
use Rattle.std.specs.Prelude.{◌<◌, ◌^◌, [], length}
use Rattle.span_io.specs.Framings.{OneFraming, OneStep}
use Rattle.span_io.specs.Pieces.{PieceLaws}
use Rattle.proto_wire.specs.StatedLaws.{OneWireReading, ShortestRecord}
use Rattle.proto_wire.specs.Wire.{records, RefusedBy}
use Rattle.thrift_core.specs.StatedLaws.{OneReading, OpenFronts, PartsReadBack, WrittenStructs}
use Rattle.trace_model.specs.StatedLaws.{AttributesOnce, AttributesExist}
use Rattle.trace_model.specs.Proper.{IsProperGroup}
use Rattle.trace_model.specs.Soundness.{IsSoundGroup}
use Rattle.trace_model.specs.declared.group.Group.{Group}
use Rattle.otlp_json.specs.StatedLaws.{OneJsonGroups, SomeJsonGroups, GroupsWrittenAgain, ReadsHeldGroups}
use Rattle.otlp_proto.specs.Group.{IsGroupText}
use Rattle.otlp_proto.specs.StatedLaws.{OneGroup}
use Rattle.otlp_proto.specs.Canonical.{group_text, group_record}
use Rattle.jaeger_model.specs.FreeAtAnyDepth.{FreeAtAnyDepth}
use Rattle.jaeger_model.specs.StatedLaws.{OneBatch, OneTree, SomeBatch, FreeFields, ReadsTimes, ReadsProper}
use Rattle.jaeger_model.specs.WrittenAgain.{EqualBatchTexts, WrittenAgain}
use Rattle.map_jaeger.specs.StatedLaws.{BatchesReadBack, NormalForms, WrittenIsProper}
use Rattle.map_zipkin.specs.StatedLaws.{GroupsNoted, ReadIsHeld, ReadIsZipkinNormal, Regroupings, SpansReadBack, WrittenIsWritable, ZipkinNormalForms}
use Rattle.zipkin_json.specs.StatedLaws.{OneList, SomeList, SpansWrittenAgain, ReadsWritable}
use Rattle.span_convert.specs.BatchFiles.{ProtocolWords, binary, compact, batches, RefusedBatch}

-- of OTLP requests in protobuf: reading records, the frames of an input, whole or in pieces, and the groups in them
pub record RequestLaws : Type 0 where
  pub reading : OneWireReading
  pub framing : OneFraming records RefusedBy
  pub step : OneStep records RefusedBy
  pub pieces : PieceLaws records RefusedBy
  pub group : OneGroup

-- the same of batches in a protocol, and what is read and written of them, whole and part by part
pub record BatchLaws (protocol : ProtocolWords) : Type 0 where
  pub framing : OneFraming (batches protocol) (RefusedBatch protocol)
  pub step : OneStep (batches protocol) (RefusedBatch protocol)
  pub pieces : PieceLaws (batches protocol) (RefusedBatch protocol)
  pub reading : OneReading protocol.spells
  pub parts : PartsReadBack protocol.reads protocol.keeps protocol.writes
  pub structs : WrittenStructs protocol.spells protocol.keeps protocol.writes
  pub fronts : OpenFronts protocol.spells protocol.reads (batches protocol) (RefusedBatch protocol)
  pub batch : OneBatch protocol.spells
  pub some : SomeBatch protocol.spells
  pub free : FreeFields protocol.spells
  pub anywhere : FreeAtAnyDepth protocol.spells
  pub times : ReadsTimes protocol.spells
  pub proper : ReadsProper protocol.spells
  pub again : WrittenAgain protocol.spells protocol.keeps protocol.writes
  pub equal : EqualBatchTexts protocol.keeps protocol.writes
  pub once : AttributesOnce
  pub exist : AttributesExist

-- what they say of one tree in two protocols, from the one to the other
pub record TreeLaws : Type 0 where
  pub in_binary : OneTree binary.spells binary.spells
  pub to_compact : OneTree binary.spells compact.spells
  pub to_binary : OneTree compact.spells binary.spells
  pub in_compact : OneTree compact.spells compact.spells

-- the same of spans in JSON, and what is read and written of them
pub record SpanFileLaws : Type 0 where
  pub one : OneList
  pub some : SomeList
  pub writable : ReadsWritable
  pub again : SpansWrittenAgain
  pub held : ReadIsHeld
  pub itself : ReadIsZipkinNormal
  pub back : SpansReadBack
  pub written : WrittenIsWritable
  pub normal : ZipkinNormalForms
  pub regrouped : Regroupings
  pub noted : GroupsNoted

-- the same of groups in JSON
pub record GroupFileLaws : Type 0 where
  pub one : OneJsonGroups
  pub some : SomeJsonGroups
  pub held : ReadsHeldGroups
  pub again : GroupsWrittenAgain

-- what they say of each form of an input, one by one
pub record InputLaws : Type 0 where
  pub requests : RequestLaws
  pub groups : GroupFileLaws
  pub binary : BatchLaws binary
  pub compact : BatchLaws compact
  pub spans : SpanFileLaws

-- all of that, and what they say of groups and batches that are written
pub record TextLaws : Type 0 where
  pub input : InputLaws
  pub shortest : ShortestRecord
  pub again : (g : Group) → IsSoundGroup g → IsProperGroup g → length (group_record g) < 2 ^ 63 → IsGroupText g [] (group_text g)
  pub back : BatchesReadBack
  pub normal : NormalForms
  pub proper : WrittenIsProper
