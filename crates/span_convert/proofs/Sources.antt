-- What is known of an input, by its form.
use Rattle.std.proofs.Common.{◌≡◌, ℕ, List, [], refl, ap, sym, ◌∙◌, arith}
use Rattle.span_io.specs.Limits.{AreLimits}
use Rattle.span_io.specs.declared.form.Form.{Form}
use Rattle.span_io.specs.declared.form.Form.TheVariants as forms
use Rattle.span_io.specs.declared.limits.Limits.{Limits}
use Rattle.trace_model.specs.OtlpParts.{NotedGroup}
use Rattle.trace_model.specs.declared.group.Group.{Group}
use Rattle.otlp_proto.specs.StatedLaws.{SomeGroup}
use Rattle.map_jaeger.specs.StatedLaws.{ReadIsSound, ReadIsProper}
use Rattle.span_convert.specs.BatchFiles.{binary, compact}
use Rattle.span_convert.specs.Canonical.{Reads, ReadsNoted}
use Rattle.span_convert.specs.GroupFiles.{group_document}
use Rattle.span_convert.specs.private.InputLaws.{InputLaws}
use Rattle.span_convert.specs.SpanFiles.{span_document}
use Rattle.span_convert.specs.Units.{groups_in, request_form, batch_form, input_form, open_form}
use Rattle.span_convert.proofs.BatchLaws.{batch_laws, one_file}
use Rattle.span_convert.proofs.FramedInputs.{request_input, request_some, batch_input, batch_some}
use Rattle.span_convert.proofs.DocumentInputs.{document_laws, document_some}
use Rattle.span_convert.proofs.GroupFileInputs.{group_file_laws}
use Rattle.span_convert.proofs.InputForms.{InputFormLaws, SomeInput}
use Rattle.span_convert.proofs.OpenInputs.{LastingLaws, open_laws, open_some, open_document_laws, open_document_some, frames_begin, frames_last, documents_last}
use Rattle.span_convert.proofs.RequestLaws.{request_laws}
use Rattle.span_convert.proofs.SpanFileInputs.{span_file_laws}
use Rattle.span_convert.proofs.TextLaws.{one_request}
use Rattle.span_convert.proofs.UnitGroups.{GroupIsProper, request_unit_laws, batch_unit_laws}

-- an input has one list of groups, or is refused in one way
pub inputs : InputLaws → (from : Form) → InputFormLaws (input_form from)
inputs L forms.OtlpProto = request_input L.requests
inputs L forms.OtlpJson = document_laws group_document (group_file_laws L.groups)
inputs L forms.JaegerBinary = batch_input binary L.binary
inputs L forms.JaegerCompact = batch_input compact L.compact
inputs L forms.ZipkinJson = document_laws span_document (span_file_laws L.spans)

-- each input has groups, or is refused
pub some_inputs : InputLaws → SomeGroup → GroupIsProper → ReadIsSound → ReadIsProper → (from : Form) → SomeInput (input_form from)
some_inputs L some own sound proper forms.OtlpProto = request_some L.requests some own
some_inputs L some own sound proper forms.OtlpJson = document_some group_document (group_file_laws L.groups)
some_inputs L some own sound proper forms.JaegerBinary = batch_some binary L.binary sound proper
some_inputs L some own sound proper forms.JaegerCompact = batch_some compact L.compact sound proper
some_inputs L some own sound proper forms.ZipkinJson = document_some span_document (span_file_laws L.spans)

-- the same of its first bytes, behind which others may come
pub open_inputs : InputLaws → (from : Form) → InputFormLaws (open_form from)
open_inputs L forms.OtlpProto = open_laws request_form (request_laws L.requests)
open_inputs L forms.OtlpJson = open_document_laws
open_inputs L forms.JaegerBinary = open_laws (batch_form binary) (batch_laws binary L.binary)
open_inputs L forms.JaegerCompact = open_laws (batch_form compact) (batch_laws compact L.compact)
open_inputs L forms.ZipkinJson = open_document_laws

pub some_open_inputs : InputLaws → SomeGroup → GroupIsProper → ReadIsSound → ReadIsProper → (from : Form) → SomeInput (open_form from)
some_open_inputs L some own sound proper forms.OtlpProto = open_some request_form (request_laws L.requests) (request_unit_laws L.requests some own)
some_open_inputs L some own sound proper forms.OtlpJson = open_document_some
some_open_inputs L some own sound proper forms.JaegerBinary = open_some (batch_form binary) (batch_laws binary L.binary) (batch_unit_laws binary L.binary sound proper)
some_open_inputs L some own sound proper forms.JaegerCompact = open_some (batch_form compact) (batch_laws compact L.compact) (batch_unit_laws compact L.compact sound proper)
some_open_inputs L some own sound proper forms.ZipkinJson = open_document_some

-- nothing stops an input before its first byte
pub nothing_stops : InputLaws → (from : Form) (limits : Limits) → AreLimits limits → (open_form from).IsWhole limits [] []
nothing_stops L forms.OtlpProto limits valid = frames_begin request_form (request_laws L.requests) limits valid
nothing_stops L forms.OtlpJson limits valid = record { none = refl; within = omega arith }
nothing_stops L forms.JaegerBinary limits valid = frames_begin (batch_form binary) (batch_laws binary L.binary) limits valid
nothing_stops L forms.JaegerCompact limits valid = frames_begin (batch_form compact) (batch_laws compact L.compact) limits valid
nothing_stops L forms.ZipkinJson limits valid = record { none = refl; within = omega arith }

-- what its first bytes tell stays, whatever follows
pub lasting_inputs : InputLaws → (from : Form) → LastingLaws (open_form from) (input_form from)
lasting_inputs L forms.OtlpProto = frames_last request_form (request_laws L.requests)
lasting_inputs L forms.OtlpJson = documents_last group_document
lasting_inputs L forms.JaegerBinary = frames_last (batch_form binary) (batch_laws binary L.binary)
lasting_inputs L forms.JaegerCompact = frames_last (batch_form compact) (batch_laws compact L.compact)
lasting_inputs L forms.ZipkinJson = documents_last span_document

-- bytes are read as one list of groups at most, with one list of remarks on each
pub one_noted : InputLaws → (from : Form) (text : List ℕ) (a b : List NotedGroup) → ReadsNoted from text a → ReadsNoted from text b → a ≡ b
one_noted L forms.OtlpProto text a b h g = one_request L.requests text a b h g
one_noted L forms.OtlpJson text a b h g = (group_file_laws L.groups).once text a b h g
one_noted L forms.JaegerBinary text a b h g = one_file binary L.binary text a b h g
one_noted L forms.JaegerCompact text a b h g = one_file compact L.compact text a b h g
one_noted L forms.ZipkinJson text a b h g = (span_file_laws L.spans).once text a b h g

-- and so as one trace at most
pub one_trace : InputLaws → (from : Form) (text : List ℕ) (a b : List Group) → Reads from text a → Reads from text b → a ≡ b
one_trace L from text a b h g = h.means ∙ ap groups_in (one_noted L from text h.noted g.noted h.text g.text) ∙ sym g.means
