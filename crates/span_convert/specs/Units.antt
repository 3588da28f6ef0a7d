-- What an input is read as, what the target can't hold of a group, and the texts of a trace, each by its form.
use Rattle.std.specs.Prelude.{◌≡◌, ◌<◌, ◌^◌, ℕ, List, [], length, map, Some, None}
use Rattle.span_io.specs.Offences.{Offence}
use Rattle.span_io.specs.declared.form.Form.{Form}
use Rattle.span_io.specs.declared.form.Form.TheVariants as forms
use Rattle.span_io.specs.declared.limits.Limits.{Limits}
use Rattle.span_io.specs.declared.refusal.Refusal.{Refusal}
use Rattle.proto_wire.specs.Messages.{messages}
use Rattle.proto_wire.specs.Wire.{records, RefusedBy}
use Rattle.trace_model.specs.Flat.{flat}
use Rattle.trace_model.specs.OtlpParts.{NotedGroup}
use Rattle.trace_model.specs.declared.fault.Fault.{Fault}
use Rattle.trace_model.specs.declared.group.Group.{Group}
use Rattle.otlp_json.specs.Canonical.{json_groups_text}
use Rattle.otlp_json.specs.Held.{IsJsonFaultOf}
use Rattle.otlp_proto.specs.Group.{group_rules}
use Rattle.otlp_proto.specs.Canonical.{group_record}
use Rattle.jaeger_model.specs.StatedLaws.{BatchOffends}
use Rattle.jaeger_model.specs.Writable.{IsWritable}
use Rattle.map_jaeger.specs.Faults.{IsFaultOf}
use Rattle.map_jaeger.specs.Normal.{normal}
use Rattle.map_jaeger.specs.Writing.{batch_of}
use Rattle.map_zipkin.specs.Faults.{IsZipkinFaultOf}
use Rattle.map_zipkin.specs.Normal.{zipkin_normal}
use Rattle.span_convert.specs.BatchFiles.{ProtocolWords, binary, compact, batches, RefusedBatch, IsOwnUnit, HoldsBatches, IsBatchUnit, batches_text}
use Rattle.span_convert.specs.Documents.{DocumentForm, IsDocument, DocumentBegins, DocumentRefused, DocumentGoesOn, DocumentHalted, partial_document, closing_document}
use Rattle.span_convert.specs.FramedForms.{FramedForm, UnitsBegin, AreAllUnits, UnitsRefused, UnitsGoOn, UnitsHalted}
use Rattle.span_convert.specs.GroupFiles.{group_document, group_file}
use Rattle.span_convert.specs.Requests.{HoldsUnit, HoldsRequestUnits, IsRequestUnit, request_text}
use Rattle.span_convert.specs.SpanFiles.{span_document, span_file, span_file_text}

-- ---- sources

-- The frame of a unit tells nothing of it in OTLP, and of Jaeger that it is the text of a struct.
abbrev pub request_form : FramedForm
request_form = record {
  frames = records;
  Refused = RefusedBy;
  FrameHolds = HoldsUnit;
  HoldsUnits = HoldsRequestUnits;
  Tells = λ unit. Unit {0};
  IsUnit = IsRequestUnit;
  Offends = λ unit. Offence messages group_rules unit;
}

-- Each frame of a file of Jaeger is its own unit: a struct in this protocol, to be read as a Batch (jaeger.thrift).
abbrev pub batch_form : ProtocolWords → FramedForm
batch_form protocol = record {
  frames = batches protocol;
  Refused = RefusedBatch protocol;
  FrameHolds = IsOwnUnit;
  HoldsUnits = HoldsBatches protocol;
  Tells = (batches protocol).Whole;
  IsUnit = IsBatchUnit protocol.spells;
  Offends = BatchOffends protocol.spells;
}

-- the groups alone of what was read
abbrev pub groups_in : List NotedGroup → List Group
groups_in noted = map (λ unit. unit.means) noted

-- what a form says of an input
pub record InputForm : Type 1 where
  -- it begins with these groups, each with the remarks on it
  pub Begins : Limits → List ℕ → List NotedGroup → Type 0
  -- these are all of it
  pub IsWhole : Limits → List ℕ → List NotedGroup → Type 0
  -- behind these it isn't read, and is refused so
  pub Refuses : Limits → List ℕ → List NotedGroup → Refusal → Type 0

-- what a form of frames says of an input that ends with these bytes
abbrev pub framed_input : FramedForm → InputForm
framed_input form = record { Begins = UnitsBegin form; IsWhole = AreAllUnits form; Refuses = UnitsRefused form }

-- the same of a form of documents
abbrev pub document_input : DocumentForm → InputForm
document_input form = record { Begins = DocumentBegins form; IsWhole = IsDocument form; Refuses = DocumentRefused form }

-- The same of each form: an OTLP request in protobuf and batches of Jaeger are frames, and a text in JSON is a document.
abbrev pub input_form : Form → InputForm
input_form forms.OtlpProto = framed_input request_form
input_form forms.OtlpJson = document_input group_document
input_form forms.JaegerBinary = framed_input (batch_form binary)
input_form forms.JaegerCompact = framed_input (batch_form compact)
input_form forms.ZipkinJson = document_input span_document

-- What a form says of the first bytes of an input, behind which others may come: all of them are units so far, or they are refused
-- whatever follows.
abbrev pub open_frames : FramedForm → InputForm
open_frames form = record { Begins = UnitsBegin form; IsWhole = UnitsGoOn form; Refuses = UnitsHalted form }

-- The same of a document: no group is known before its end, and it is refused only for more bytes than the limit.
abbrev pub open_document : InputForm
open_document = record { Begins = λ limits bytes noted. noted ≡ []; IsWhole = DocumentGoesOn; Refuses = DocumentHalted }

-- what each form says of the first bytes of an input, behind which others may come
abbrev pub open_form : Form → InputForm
open_form forms.OtlpProto = open_frames request_form
open_form forms.OtlpJson = open_document
open_form forms.JaegerBinary = open_frames (batch_form binary)
open_form forms.JaegerCompact = open_frames (batch_form compact)
open_form forms.ZipkinJson = open_document

-- the most bytes that an input may have
abbrev pub input_limit : Form → Limits → ℕ
input_limit forms.OtlpProto limits = limits.binary
input_limit forms.OtlpJson limits = limits.json
input_limit forms.JaegerBinary limits = limits.binary
input_limit forms.JaegerCompact limits = limits.binary
input_limit forms.ZipkinJson limits = limits.json

-- ---- targets

-- The fault of the group that counts, where the form is the target. In OTLP's protobuf nothing is a fault.
abbrev pub FaultOf : Form → Group → Fault → Type 0
FaultOf forms.OtlpProto group fault = ⊥
FaultOf forms.OtlpJson group fault = IsJsonFaultOf group (Some fault)
FaultOf forms.JaegerBinary group fault = IsFaultOf group (Some fault)
FaultOf forms.JaegerCompact group fault = IsFaultOf group (Some fault)
FaultOf forms.ZipkinJson group fault = IsZipkinFaultOf group (Some fault)

-- the form can hold the group
abbrev pub CanHold : Form → Group → Type 0
CanHold forms.OtlpProto group = Unit {0}
CanHold forms.OtlpJson group = IsJsonFaultOf group None
CanHold forms.JaegerBinary group = IsFaultOf group None
CanHold forms.JaegerCompact group = IsFaultOf group None
CanHold forms.ZipkinJson group = IsZipkinFaultOf group None

-- No part of the group is longer than the form can tell: in OTLP the record of a group has fewer than 2 ^ 63 bytes. JSON can tell each length.
abbrev pub IsSizedGroup : Form → Group → Type 0
IsSizedGroup forms.OtlpProto group = length (group_record group) < 2 ^ 63
IsSizedGroup forms.OtlpJson group = Unit {0}
IsSizedGroup forms.JaegerBinary group = IsWritable (batch_of group)
IsSizedGroup forms.JaegerCompact group = IsWritable (batch_of group)
IsSizedGroup forms.ZipkinJson group = Unit {0}

-- What the form holds of a trace in which nothing is a fault. OTLP can hold all of it, so that its normal form is the trace.
abbrev pub normal_form : Form → List Group → List Group
normal_form forms.OtlpProto groups = groups
normal_form forms.OtlpJson groups = groups
normal_form forms.JaegerBinary groups = normal groups
normal_form forms.JaegerCompact groups = normal groups
normal_form forms.ZipkinJson groups = zipkin_normal groups

-- the text of a trace in normal form
abbrev pub trace_text : Form → List Group → List ℕ
trace_text forms.OtlpProto groups = request_text groups
trace_text forms.OtlpJson groups = json_groups_text groups
trace_text forms.JaegerBinary groups = batches_text binary groups
trace_text forms.JaegerCompact groups = batches_text compact groups
trace_text forms.ZipkinJson groups = span_file_text groups

-- the canonical text of a trace: that of its normal form
abbrev pub canonical_text : Form → List Group → List ℕ
canonical_text to groups = trace_text to (normal_form to groups)

-- The same without the bytes that close it, which JSON texts have alone. It is empty for no group.
abbrev pub partial_text : Form → List Group → List ℕ
partial_text forms.OtlpProto groups = request_text groups
partial_text forms.OtlpJson groups = partial_document group_file groups
partial_text forms.JaegerBinary groups = batches_text binary (normal groups)
partial_text forms.JaegerCompact groups = batches_text compact (normal groups)
partial_text forms.ZipkinJson groups = partial_document span_file groups

-- the bytes that close it: none but in JSON, where they are the whole text if there is no group
abbrev pub closing_text : Form → List Group → List ℕ
closing_text forms.OtlpProto groups = []
closing_text forms.OtlpJson groups = closing_document group_file groups
closing_text forms.JaegerBinary groups = []
closing_text forms.JaegerCompact groups = []
closing_text forms.ZipkinJson groups = closing_document span_file groups

-- how many spans there are
abbrev pub span_count : List Group → ℕ
span_count groups = length (flat groups)
