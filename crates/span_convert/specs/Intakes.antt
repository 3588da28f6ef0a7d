-- What takes in an input, by its form, and what it was given of it.
use Rattle.std.specs.Prelude.{ℕ, List, None}
use Rattle.span_io.specs.Scans.{Scanning}
use Rattle.span_io.specs.declared.form.Form.{Form}
use Rattle.span_io.specs.declared.form.Form.TheVariants as forms
use Rattle.span_io.specs.declared.limits.Limits.{Limits}
use Rattle.proto_wire.specs.Scanners.{scanning_of}
use Rattle.thrift_core.specs.Positions as structs
use Rattle.thrift_core.specs.declared.scanner.StructScanner.{StructScanner}
use Rattle.span_convert.specs.BatchFiles.{ProtocolWords, binary, compact}
use Rattle.span_convert.specs.Units.{request_form, batch_form}
use Rattle.span_convert.specs.Walks.{DocumentTaken, FramesTaken}
use Rattle.span_convert.specs.declared.intake.Intake.{Intake}
use Rattle.span_convert.specs.declared.intake.Intake.TheVariants as intakes
use Rattle.span_convert.specs.declared.progress.Progress.{Progress}
use Rattle.span_convert.specs.declared.written.Written.{Written}

-- the form of the input
abbrev pub form_in : Intake → Form
form_in (intakes.Request scanner) = forms.OtlpProto
form_in intakes.GroupFile = forms.OtlpJson
form_in (intakes.BinaryBatches scanner) = forms.JaegerBinary
form_in (intakes.CompactBatches scanner) = forms.JaegerCompact
form_in intakes.SpanFile = forms.ZipkinJson

-- the state of a scanner of batches in a protocol
abbrev pub struct_scanning : {P : Type 0} → ProtocolWords → StructScanner P → Scanning
struct_scanning protocol scanner =
    structs.scanning_of protocol.spells protocol.then_varint scanner.limit scanner.size scanner.refused scanner.at

-- nothing is scanned in a document
abbrev pub no_scanning : Scanning
no_scanning = record { limit = 0; seen = λ bytes. Unit {0}; refused = None }

-- the state of the scanner of its frames
abbrev pub scanning_in : Intake → Scanning
scanning_in (intakes.Request scanner) = scanning_of scanner
scanning_in intakes.GroupFile = no_scanning
scanning_in (intakes.BinaryBatches scanner) = struct_scanning binary scanner
scanning_in (intakes.CompactBatches scanner) = struct_scanning compact scanner
scanning_in intakes.SpanFile = no_scanning

-- these bytes of it were taken, and this text was written
abbrev pub Taken : Intake → Written → Limits → List ℕ → List ℕ → List ℕ → Progress → Type 0
Taken (intakes.Request scanner) what limits bytes said held progress =
    FramesTaken request_form what limits bytes said (scanning_of scanner) held progress
Taken intakes.GroupFile what limits bytes said held progress = DocumentTaken what limits bytes said held progress
Taken (intakes.BinaryBatches scanner) what limits bytes said held progress =
    FramesTaken (batch_form binary) what limits bytes said (struct_scanning binary scanner) held progress
Taken (intakes.CompactBatches scanner) what limits bytes said held progress =
    FramesTaken (batch_form compact) what limits bytes said (struct_scanning compact scanner) held progress
Taken intakes.SpanFile what limits bytes said held progress = DocumentTaken what limits bytes said held progress
