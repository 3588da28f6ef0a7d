-- An OTLP request in protobuf, `ExportTraceServiceRequest` (OTLP trace_service.proto). Its units are what its records `resource_spans`
-- hold, of number 1 and wire type 2. Other records are frames as well, and no units.
use Rattle.std.specs.Prelude.{◌≡◌, ℕ, take, List, [], ◌∷◌, ◌++◌, length}
use Rattle.std.specs.List.{AllZip, flat_map}
use Rattle.span_io.specs.Frames.{ItemsThen}
use Rattle.span_io.specs.declared.limits.Limits.{Limits}
use Rattle.proto_wire.specs.Records.{Record}
use Rattle.proto_wire.specs.Wire.{SpellsRecord, records}
use Rattle.trace_model.specs.OtlpParts.{NotedGroup}
use Rattle.trace_model.specs.declared.group.Group.{Group}
use Rattle.otlp_proto.specs.Group.{IsGroupText}
use Rattle.otlp_proto.specs.Rows.{bytes_in}
use Rattle.otlp_proto.specs.Canonical.{group_record}

-- the record holds these units: one or none
pub record HoldsUnit (frame : List ℕ) (units : List (List ℕ)) : Type 0 where
  pub this : Record
  pub spelled : SpellsRecord frame this
  pub holds : units ≡ bytes_in 1 this

-- among these frames, in order, those are the units
unfoldable pub AreRequestUnits : List (List ℕ) → List (List ℕ) → Type 0
AreRequestUnits [] units = units ≡ []
AreRequestUnits (frame ∷ more) units =
    (r : Record) × SpellsRecord frame r
    × (behind : List (List ℕ)) × (units ≡ bytes_in 1 r ++ behind) × AreRequestUnits more behind

-- Of an input no more bytes are looked at than its limit. They begin with frames that hold these units, and then come the others.
pub record HoldsRequestUnits (limits : Limits) (bytes : List ℕ) (units : List (List ℕ)) (rest : List ℕ) : Type 0 where
  pub frames : List (List ℕ)
  pub framed : ItemsThen records limits.unit frames rest (take limits.binary bytes)
  pub are_units : AreRequestUnits frames units

-- the unit is a text of the group, and these are the remarks on it
abbrev pub IsRequestUnit : List ℕ → NotedGroup → Type 0
IsRequestUnit unit noted = IsGroupText noted.means noted.notes unit

-- the canonical text of a trace: a record of each group, in order
abbrev pub request_text : List Group → List ℕ
request_text groups = flat_map group_record groups

-- ---- which bytes are a text of a trace, however long its units are

-- The bytes are a text of these groups, each with the remarks on it: they are frames, and the units among these are texts of the groups, in
-- order.
pub record ReadsRequest (bytes : List ℕ) (noted : List NotedGroup) : Type 0 where
  pub frames : List (List ℕ)
  pub framed : ItemsThen records (length bytes) frames [] bytes
  pub units : List (List ℕ)
  pub are_units : AreRequestUnits frames units
  pub are_groups : AllZip IsRequestUnit units noted
